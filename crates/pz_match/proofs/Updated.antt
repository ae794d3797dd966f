-- An update, put together.
use Rattle.std.proofs.Common.{◌≡◌, ◌<◌, refl, sym, ◌∙◌, ap, subst, ℕ, List, [], ◌∷◌, ◌++◌, length, get_or, set, Option, Some, None, arith}
use Rattle.std.specs.Prelude.{All, map}
use Rattle.std.specs.List.{slice_get}
use Rattle.std.specs.Option.{option_map_or}
use Rattle.std.proofs.lemmas.List.{length-set, length-map, get_or-set_same, get_or-map, map-set, set-set}
use Rattle.std.proofs.lemmas.List.Elements.{All-weaker, All-nil, All-cons}
use Rattle.pz_offer.specs.declared.ends.SendOffer.{SendOffer}
use Rattle.pz_offer.specs.declared.ends.ReceiveOffer.{ReceiveOffer}
use Rattle.pz_match.specs.declared.offers.Sender.{Sender}
use Rattle.pz_match.specs.declared.offers.Receiver.{Receiver}
use Rattle.pz_match.specs.declared.groups.Tally.{Tally}
use Rattle.pz_match.specs.declared.kept.Sending.{Sending}
use Rattle.pz_match.specs.declared.kept.Receiving.{Receiving}
use Rattle.pz_match.specs.Offers.{senders, receivers, sender, receiver}
use Rattle.pz_match.specs.Judging.{Verdicts}
use Rattle.pz_match.specs.declared.kept.Offers.{Offers}
use Rattle.pz_match.specs.devices.Kept.{Kept, kept}
use Rattle.pz_match.specs.devices.Tallies.{GroupsView, Follows, Moves, Alike, tally_at, plus, receives_part, part_of, total_of}
use Rattle.pz_match.specs.devices.Holding.{Holds, SendKeyed, ReceiveKeyed}
use Rattle.pz_match.specs.devices.Updating.{Heard, Offered, Replaced, Covers, renewed_in, silent, other_offers}
use Rattle.pz_match.proofs.Sought.{numbered_at}
use Rattle.pz_match.proofs.Grouped.{follows_next}
use Rattle.pz_match.proofs.Offered.{send_keyed, receive_keyed}
use Rattle.pz_match.proofs.Replacing.{total_set, holds_new}

-- each of a list, by what is seen of it
pub all_seen : {X Y : Type 0} (P : Y → Type 0) (f : X → Y) (xs : List X) → All P (map f xs) → All (λ x. P (f x)) xs
all_seen P f xs all k d lt = subst P (get_or-map f xs k d (f d) lt) (all k (f d) (omega (arith, lt, length-map xs f)))

senders_own : (p : ℕ) (ss : List SendOffer) → All (λ (s : Sender). s.end.process ≡ p) (senders p ss)
senders_own p [] = All-nil (λ (s : Sender). s.end.process ≡ p)
senders_own p (s ∷ ss) = by s.wire (senders_own p ss)
  where
    by : (w : Option ℕ) → All (λ (x : Sender). x.end.process ≡ p) (senders p ss) → All (λ (x : Sender). x.end.process ≡ p) (option_map_or (λ wire. sender p s wire ∷ []) w [] ++ senders p ss)
    by None later = later
    by (Some w) later = All-cons (λ (x : Sender). x.end.process ≡ p) (sender p s w) (senders p ss) refl later

receivers_own : (p : ℕ) (rs : List ReceiveOffer) → All (λ (r : Receiver). r.end.process ≡ p) (receivers p rs)
receivers_own p [] = All-nil (λ (r : Receiver). r.end.process ≡ p)
receivers_own p (r ∷ rs) = by r.wire (receivers_own p rs)
  where
    by : (w : Option ℕ) → All (λ (x : Receiver). x.end.process ≡ p) (receivers p rs) → All (λ (x : Receiver). x.end.process ≡ p) (option_map_or (λ wire. receiver p r wire ∷ []) w [] ++ receivers p rs)
    by None later = later
    by (Some w) later = All-cons (λ (x : Receiver). x.end.process ≡ p) (receiver p r w) (receivers p rs) refl later

-- after what the process offered is withdrawn, but for what stays
module _ (p : ℕ) (g0 g1 : GroupsView) (all : List Kept) (old : Kept) (sp rp : ℕ → Tally) (within : p < length all) (is : old ≡ get_or all p old) (holds : Holds g0 all) (moves : Moves g0 g1 (part_of old) (λ g. plus (sp g) (rp g))) where
  pub tallied_without : (g : ℕ) → Alike (tally_at g1.groups g) (plus (total_of (set all p (silent p)) g) (plus (sp g) (rp g)))
  tallied_without g =
      let t = holds.tallied g in let m = moves g in let s = total_set g all p old (silent p) within is in
      record {
        sends = omega (arith, t.sends, m.sends, s.sends);
        free = omega (arith, t.free, m.free, s.free);
        own = omega (arith, t.own, m.own, s.own);
        asking = omega (arith, t.asking, m.asking, s.asking);
        yes = omega (arith, t.yes, m.yes, s.yes);
        troubles = omega (arith, t.troubles, m.troubles, s.troubles);
      }

  pub covers_heard : (g2 : GroupsView) (heard : List Receiving) → Moves g1 g2 rp (receives_part heard) → Covers g2 (set all p (silent p))
  covers_heard g2 heard more g = let t = (tallied_without g).asking in let m = (more g).asking in omega (arith, t, m)

module _ (says : Verdicts) (p : ℕ) (sends : List SendOffer) (receives : List ReceiveOffer) (g0 g1 g2 g3 g4 : GroupsView) (all : List Kept) (old : Kept) (sent : List Sending) (heard : List Receiving) (sp rp : ℕ → Tally)
    (within : p < length all) (is : old ≡ get_or all p old) (holds : Holds g0 all)
    (follows : Follows g0 g1) (moves : Moves g0 g1 (part_of old) (λ g. plus (sp g) (rp g)))
    (h : Heard g1 g2 rp p receives heard) (o : Offered says (set all p (silent p)) heard g2 g3 sp p sends sent)
    (renew_follows : Follows g3 g4) (renew_moves : Moves g3 g4 (total_of (set all p (silent p))) (total_of (map (renewed_in says p heard) (set all p (silent p))))) where
  mid : List Kept
  mid = map (renewed_in says p heard) (set all p (silent p))

  now : Kept
  now = record { process = p; sends = sent; receives = heard }

  same : set (map (renewed_in says p heard) (set all p (silent p))) p (record { process = p; sends = sent; receives = heard }) ≡ other_offers says p sent heard all
  same =
      ap (λ (xs : List Kept). set xs p (record { process = p; sends = sent; receives = heard })) (map-set (renewed_in says p heard) all p (silent p))
      ∙ set-set (map (renewed_in says p heard) all) p (renewed_in says p heard (silent p)) (record { process = p; sends = sent; receives = heard })

  empty_there : renewed_in says p heard (silent p) ≡ get_or (map (renewed_in says p heard) (set all p (silent p))) p (renewed_in says p heard (silent p))
  empty_there =
      sym
      (get_or-map (renewed_in says p heard) (set all p (silent p)) p (silent p) (renewed_in says p heard (silent p)) (omega (arith, within, length-set all p (silent p)))
      ∙ ap (renewed_in says p heard) (get_or-set_same all p (silent p) (silent p) within))

  tallied : (g : ℕ) → Alike (tally_at g4.groups g) (total_of (other_offers says p sent heard all) g)
  tallied g =
      let t1 = tallied_without p g0 g1 all old sp rp within is holds moves g in
      let t2 = h.moves g in let t3 = o.moves g in let t4 = renew_moves g in
      let last = total_set g (map (renewed_in says p heard) (set all p (silent p))) p (renewed_in says p heard (silent p)) (record { process = p; sends = sent; receives = heard })
      (omega (arith, within, length-set all p (silent p), length-map (set all p (silent p)) (renewed_in says p heard))) empty_there in
      let done : Alike (tally_at g4.groups g) (total_of (set (map (renewed_in says p heard) (set all p (silent p))) p (record { process = p; sends = sent; receives = heard })) g)
      = record {
        sends = omega (arith, t1.sends, t2.sends, t3.sends, t4.sends, last.sends);
        free = omega (arith, t1.free, t2.free, t3.free, t4.free, last.free);
        own = omega (arith, t1.own, t2.own, t3.own, t4.own, last.own);
        asking = omega (arith, t1.asking, t2.asking, t3.asking, t4.asking, last.asking);
        yes = omega (arith, t1.yes, t2.yes, t3.yes, t4.yes, last.yes);
        troubles = omega (arith, t1.troubles, t2.troubles, t3.troubles, t4.troubles, last.troubles);
      } in
      subst (λ (xs : List Kept). Alike (tally_at g4.groups g) (total_of xs g)) same done

  to_end : Follows g0 g4
  to_end = follows_next follows (follows_next h.follows (follows_next o.follows renew_follows))

  pub replaced_from : Replaced says p sends receives g0 all g4 (set (map (renewed_in says p heard) (set all p (silent p))) p (record { process = p; sends = sent; receives = heard }))
  replaced_from = record {
    sent = sent;
    heard = heard;
    is = same;
    same_sends = o.same;
    same_receives = h.same;
    answered = o.answered;
    holds =
        subst (Holds g4) (sym same)
        (holds_new says p sent heard all within g0 g4 holds to_end
        (all_seen (λ (s : Sender). s.end.process ≡ p) (λ (s : Sending). s.sender) sent (subst (All (λ (s : Sender). s.end.process ≡ p)) (sym o.same) (senders_own p sends)))
        (all_seen (λ (r : Receiver). r.end.process ≡ p) (λ (r : Receiving). r.receiver) heard (subst (All (λ (r : Receiver). r.end.process ≡ p)) (sym h.same) (receivers_own p receives)))
        (All-weaker (SendKeyed g3) (SendKeyed g4) (send_keyed renew_follows) sent o.keyed)
        (All-weaker (ReceiveKeyed g2) (ReceiveKeyed g4) (receive_keyed (follows_next o.follows renew_follows)) heard h.keyed)
        o.answered tallied);
    wires = to_end.wires;
  }

-- what is heard is of the process
pub heard_own : (p : ℕ) (receives : List ReceiveOffer) (heard : List Receiving) → map (λ r. r.receiver) heard ≡ receivers p receives → All (λ (r : Receiving). r.receiver.end.process ≡ p) heard
heard_own p receives heard same = all_seen (λ (r : Receiver). r.end.process ≡ p) (λ (r : Receiving). r.receiver) heard (subst (All (λ (r : Receiver). r.end.process ≡ p)) (sym same) (receivers_own p receives))

pub sent_own : (p : ℕ) (sends : List SendOffer) (sent : List Sending) → map (λ s. s.sender) sent ≡ senders p sends → All (λ (s : Sending). s.sender.end.process ≡ p) sent
sent_own p sends sent same = all_seen (λ (s : Sender). s.end.process ≡ p) (λ (s : Sending). s.sender) sent (subst (All (λ (s : Sender). s.end.process ≡ p)) (sym same) (senders_own p sends))

-- As the offers are stored

pub mid_is : (p : ℕ) (g0 : GroupsView) (stored : List Offers) (old quiet : Offers) → Holds g0 (map kept stored) → slice_get (map kept stored) p ≡ Some (kept old) → kept quiet ≡ silent old.process → map kept (set stored p quiet) ≡ set (map kept stored) p (silent p)
mid_is p g0 stored old quiet holds is quiet_is =
    map-set kept stored p quiet ∙ ap (set (map kept stored) p) (quiet_is ∙ ap silent (numbered_at g0 (map kept stored) holds p (kept old) is))

module _ (says : Verdicts) (p : ℕ) (all : List Kept) (sent : List Sending) (heard : List Receiving) (stored : List Offers) (d x : Offers) (within : p < length all)
    (is : map kept stored ≡ map (renewed_in says p heard) (set all p (silent p))) (x_is : kept x ≡ record { process = (get_or stored p d).process; sends = sent; receives = heard }) where
  in_stored : p < length stored
  in_stored = let long = ap length is in omega (arith, within, long, length-map stored kept, length-map (set all p (silent p)) (renewed_in says p heard), length-set all p (silent p))

  number : (get_or stored p d).process ≡ p
  number =
      ap (λ (k : Kept). k.process)
      (sym (get_or-map kept stored p d (kept d) in_stored)
      ∙ (ap (λ (xs : List Kept). get_or xs p (kept d)) is
      ∙ (get_or-map (renewed_in says p heard) (set all p (silent p)) p (silent p) (kept d) (omega (arith, within, length-set all p (silent p)))
      ∙ ap (renewed_in says p heard) (get_or-set_same all p (silent p) (silent p) within))))

  pub stored_is : map kept (set stored p x) ≡ set (map (renewed_in says p heard) (set all p (silent p))) p (record { process = p; sends = sent; receives = heard })
  stored_is =
      map-set kept stored p x
      ∙ ((λ i. set (is i) p (x_is i)) ∙ ap (λ n. set (map (renewed_in says p heard) (set all p (silent p))) p (record { process = n; sends = sent; receives = heard })) number)
