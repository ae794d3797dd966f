-- What a table shows of its offers.
use Rattle.std.proofs.Common.{◌≡◌, ◌≤◌, ◌+◌, refl, sym, ◌∙◌, ap, ℕ, zero, suc, List, [], ◌∷◌, ◌++◌, length, set, Option, Some, None, arith}
use Rattle.std.specs.Prelude.{All, map, replicate}
use Rattle.std.specs.List.{slice_get, flat_map}
use Rattle.std.specs.Option.{option_map}
use Rattle.std.proofs.lemmas.List.{length-map, map-append, map-set, replicate_more}
use Rattle.std.proofs.lemmas.List.Elements.{All-nil, All-cons}
use Rattle.std.proofs.lemmas.Option.{slice_get-map, slice_get_past}
use Rattle.pz_offer.specs.declared.end.End.{End}
use Rattle.pz_match.specs.declared.offers.Sender.{Sender}
use Rattle.pz_match.specs.declared.offers.Receiver.{Receiver}
use Rattle.pz_match.specs.declared.kept.Sending.{Sending}
use Rattle.pz_match.specs.declared.kept.Receiving.{Receiving}
use Rattle.pz_match.specs.Judging.{Verdicts}
use Rattle.pz_match.specs.Pairs.{Judged, offered}
use Rattle.pz_match.specs.devices.Lists.{upto}
use Rattle.pz_match.specs.devices.Kept.{Kept}
use Rattle.pz_match.specs.devices.Tallies.{GroupsView, Alike, no_tally, total_of}
use Rattle.pz_match.specs.devices.Asking.{renewed}
use Rattle.pz_match.specs.devices.Holding.{Holds, Sound}
use Rattle.pz_match.specs.devices.Ordering.{Ordered}
use Rattle.pz_match.specs.devices.Updating.{renewed_in, silent, other_offers, senders_of, receivers_of}
use Rattle.pz_match.proofs.Sums.{length_upto, flat_mapped}

abbrev pub senders_in : Kept → List Sender
senders_in e = map (λ s. s.sender) e.sends

abbrev pub receivers_in : Kept → List Receiver
receivers_in e = map (λ r. r.receiver) e.receives

module _ (says : Verdicts) (p : ℕ) (sent : List Sending) (hears : List Receiving) (all : List Kept) where
  same_sends : (ss : List Sending) → map (λ (s : Sending). s.sender) (map (renewed says p hears) ss) ≡ map (λ (s : Sending). s.sender) ss
  same_sends [] = refl
  same_sends (s ∷ ss) = ap (λ (ys : List Sender). s.sender ∷ ys) (same_sends ss)

  same_senders : (xs : List Kept) → map senders_in (map (renewed_in says p hears) xs) ≡ map senders_in xs
  same_senders [] = refl
  same_senders (x ∷ xs) = λ i. same_sends x.sends i ∷ same_senders xs i

  same_receivers : (xs : List Kept) → map receivers_in (map (renewed_in says p hears) xs) ≡ map receivers_in xs
  same_receivers [] = refl
  same_receivers (x ∷ xs) = ap (λ (ys : List (List Receiver)). receivers_in x ∷ ys) (same_receivers xs)

  pub senders_after : map senders_in (other_offers says p sent hears all) ≡ set (map senders_in all) p (map (λ (s : Sending). s.sender) sent)
  senders_after = map-set senders_in (map (renewed_in says p hears) all) p (record { process = p; sends = sent; receives = hears }) ∙ ap (λ (xs : List (List Sender)). set xs p (map (λ (s : Sending). s.sender) sent)) (same_senders all)

  pub receivers_after : map receivers_in (other_offers says p sent hears all) ≡ set (map receivers_in all) p (map (λ (r : Receiving). r.receiver) hears)
  receivers_after = map-set receivers_in (map (renewed_in says p hears) all) p (record { process = p; sends = sent; receives = hears }) ∙ ap (λ (xs : List (List Receiver)). set xs p (map (λ (r : Receiving). r.receiver) hears)) (same_receivers all)

-- all of a table

pub all_senders_are : (all : List Kept) → flat_map (λ (ss : List Sender). ss) (map senders_in all) ≡ senders_of all
all_senders_are all = flat_mapped (λ (ss : List Sender). ss) senders_in all

pub all_receivers_are : (all : List Kept) → flat_map (λ (rs : List Receiver). rs) (map receivers_in all) ≡ receivers_of all
all_receivers_are all = flat_mapped (λ (rs : List Receiver). rs) receivers_in all

-- the k-th, by its ends
pub offered_at : (ps : List Judged) (k : ℕ) (q : Judged) → slice_get ps k ≡ Some q → slice_get (map offered ps) k ≡ Some (offered q)
offered_at ps k q at = slice_get-map offered ps k ∙ ap (option_map offered) at

pub offered_none : (ps : List Judged) (k : ℕ) → length ps ≤ k → slice_get (map offered ps) k ≡ None
offered_none ps k le = slice_get_past (map offered ps) k (omega (arith, le, length-map ps offered))

-- Processes that offer nothing

silent_total : (g : ℕ) (ns : List ℕ) → Alike no_tally (total_of (map silent ns) g)
silent_total g [] = record { sends = refl; free = refl; own = refl; asking = refl; yes = refl; troubles = refl }
silent_total g (n ∷ ns) =
    let h = silent_total g ns in
    record { sends = omega (arith, h.sends); free = omega (arith, h.free); own = omega (arith, h.own); asking = omega (arith, h.asking); yes = omega (arith, h.yes); troubles = omega (arith, h.troubles) }

silent_numbers : (ns : List ℕ) → map (λ (e : Kept). e.process) (map silent ns) ≡ ns
silent_numbers [] = refl
silent_numbers (n ∷ ns) = ap (λ (ms : List ℕ). n ∷ ms) (silent_numbers ns)

silent_sound : (groups : GroupsView) (all : List Kept) (ns : List ℕ) → All (Sound groups all) (map silent ns)
silent_sound groups all [] = All-nil (Sound groups all)
silent_sound groups all (n ∷ ns) = All-cons (Sound groups all) (silent n) (map silent ns) (record {
  sends_own = λ k d lt. absurd (omega (arith, lt));
  receives_own = λ k d lt. absurd (omega (arith, lt));
  sends_keyed = λ k d lt. absurd (omega (arith, lt));
  receives_keyed = λ k d lt. absurd (omega (arith, lt));
  answered = λ k d lt. absurd (omega (arith, lt));
}) (silent_sound groups all ns)

pub silent_holds : (n : ℕ) → Holds (record { groups = []; wires = 0 }) (map silent (upto n))
silent_holds n = record {
  numbered = silent_numbers (upto n) ∙ ap upto (sym (length-map (upto n) silent ∙ length_upto n));
  sound = silent_sound (record { groups = []; wires = 0 }) (map silent (upto n)) (upto n);
  tallied = λ g. silent_total g (upto n);
}

pub silent_senders : (n : ℕ) → map senders_in (map silent (upto n)) ≡ replicate n []
silent_senders zero = refl
silent_senders (suc n) =
    ap (map senders_in) (map-append silent (upto n) (n ∷ [])) ∙ (map-append senders_in (map silent (upto n)) (silent n ∷ [])
    ∙ (ap (λ (xs : List (List Sender)). xs ++ [] ∷ []) (silent_senders n) ∙ (let one : n + 1 ≡ suc n = omega arith in replicate_more n [] ∙ ap (λ m. replicate m []) one)))

pub silent_receivers : (n : ℕ) → map receivers_in (map silent (upto n)) ≡ replicate n []
silent_receivers zero = refl
silent_receivers (suc n) =
    ap (map receivers_in) (map-append silent (upto n) (n ∷ [])) ∙ (map-append receivers_in (map silent (upto n)) (silent n ∷ [])
    ∙ (ap (λ (xs : List (List Receiver)). xs ++ [] ∷ []) (silent_receivers n) ∙ (let one : n + 1 ≡ suc n = omega arith in replicate_more n [] ∙ ap (λ m. replicate m []) one)))

pub pair_same : (a b : Sender) (c d : End) → a ≡ b → c ≡ d → ◌≡◌ {A = Option (Sender × End)} (Some (a, c)) (Some (b, d))
pair_same a b c d one two = λ i. Some (one i, two i)

pub silent_ordered : (ns : List ℕ) → All Ordered (map silent ns)
silent_ordered [] = All-nil Ordered
silent_ordered (n ∷ ns) = All-cons Ordered (silent n) (map silent ns) (record { sends = λ i j d before within. absurd (omega (arith, within)); receives = λ i j d before within. absurd (omega (arith, within)) }) (silent_ordered ns)

pub offered_same : (ps qs : List Judged) (k r : ℕ) → slice_get ps k ≡ slice_get qs r → slice_get (map offered qs) r ≡ slice_get (map offered ps) k
offered_same ps qs k r same = slice_get-map offered qs r ∙ (ap (option_map offered) (sym same) ∙ sym (slice_get-map offered ps k))
