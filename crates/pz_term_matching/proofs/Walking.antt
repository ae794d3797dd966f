-- The way of a sender along the receives that hear it.
use Rattle.std.proofs.Common.{◌≡◌, ◌+◌, ◌≤◌, refl, sym, ◌∙◌, ap, subst, ℕ, Bool, true, false, ◌&&◌, not, nat_eq, List, [], ◌∷◌, ◌++◌, length, drop, get_or, ◌<◌, Some, unwrap_or, if◌then◌else◌, arith}
use Rattle.std.specs.List.{slice_get}
use Rattle.std.proofs.lemmas.Bool.{eq-eqb, and_parts, and_left}
use Rattle.std.proofs.lemmas.List.{append_assoc, append-nil, drop_all}
use Rattle.std.proofs.lemmas.Option.{get_or_from_slice_get}
use Rattle.pz_term_matching.specs.declared.ends.Sender.{Sender}
use Rattle.pz_term_matching.specs.declared.ends.Receiver.{Receiver}
use Rattle.pz_term_matching.specs.declared.ends.Pair.{Pair}
use Rattle.pz_term_matching.specs.declared.key.Key.{Key}
use Rattle.pz_term_matching.specs.declared.chains.Link.{Link}
use Rattle.pz_term_matching.specs.declared.chains.Chains.{Chains}
use Rattle.pz_term_matching.specs.devices.Chains.{hears, hears_elsewhere, first_from, link_from, links_from, found_in, AreChains}
use Rattle.pz_term_matching.specs.devices.Pairing.{pair, pairs_from}
use Rattle.pz_term_matching.proofs.Firsts.{at_head, head_at, rest_from, rest_is, rest_passes, skips}
use Rattle.pz_term_matching.proofs.Chained.{Heard, heard}

-- whether a receive hears the sender, and in another process
abbrev pub hears_it : Sender → Receiver → Bool
hears_it s r = hears s.wire s.message (length s.parcel.values) r

abbrev pub fits_it : Sender → Receiver → Bool
fits_it s r = hears_elsewhere s.wire s.message (length s.parcel.values) s.end.process r

-- What is still to come from this place on, behind the pairs so far, is what is wanted; and a receive
-- at the place hears the sender.
pub record IsWalking (s : Sender) (number : ℕ) (all : List Receiver) (old now : List Pair) (place : ℕ) : Type 0 where
  pub pairs : now ++ pairs_from s number place (drop place all) ≡ old ++ pairs_from s number 0 all
  pub here : (r : Receiver) → slice_get all place ≡ Some r → hears_it s r ≡ true

module _ (s : Sender) (number : ℕ) (all : List Receiver) (old now : List Pair) where
  -- on from a place to the first that passes a test
  goes : (test : Receiver → Bool) (place : ℕ) → ((x : Receiver) → test x ≡ false → fits_it s x ≡ false) → ((x : Receiver) → test x ≡ true → hears_it s x ≡ true)
      → now ++ pairs_from s number place (drop place all) ≡ old ++ pairs_from s number 0 all
      → IsWalking s number all old now (first_from test place (drop place all))
  goes test place fails passes so_far =
      let at : drop (first_from test place (drop place all)) all ≡ rest_from test (drop place all) = rest_is test all place (drop place all) refl in
      record {
        pairs =
            ap (λ (l : List Receiver). now ++ pairs_from s number (first_from test place (drop place all)) l) at
            ∙ (ap (λ (l : List Pair). now ++ l)
            (sym (skips test (pairs_from s number) (λ n r rs none. ap (λ (b : Bool). if b then pair number n ∷ pairs_from s number (n + 1) rs else pairs_from s number (n + 1) rs) (fails r none)) place (drop place all)))
            ∙ so_far);
        here = λ r there.
            passes r (rest_passes test (drop place all) r (drop (first_from test place (drop place all) + 1) all) (sym at ∙ head_at all (first_from test place (drop place all)) r there));
      }

  -- where the list ends
  pub walked : (place : ℕ) → length all ≤ place → IsWalking s number all old now place → now ≡ old ++ pairs_from s number 0 all
  walked place past walking =
      let none : drop place all ≡ [] = drop_all place all past in
      sym (append-nil now) ∙ (sym (ap (λ (l : List Receiver). now ++ pairs_from s number place l) none) ∙ walking.pairs)

-- at the first that hears it
pub begins : (s : Sender) (number : ℕ) (all : List Receiver) (chains : Chains) (old : List Pair) (key : Key) (place : ℕ)
    → AreChains all chains → key.wire ≡ s.wire → key.message.now ≡ s.message → key.count ≡ length s.parcel.values
    → place ≡ unwrap_or (found_in chains key) (length chains.links.items) → IsWalking s number all old old place
begins s number all chains old key place are wire message count is =
    let first : place ≡ first_from (hears_it s) 0 all =
    is ∙ (ap (unwrap_or (found_in chains key)) are.counted ∙ (are.firsts key ∙ (λ i. first_from (hears (wire i) (message i) (count i)) 0 all))) in
    subst (IsWalking s number all old old) (sym first)
    (goes s number all old old (hears_it s) 0 (λ x none. and_left (hears_it s x) (not (nat_eq s.end.process x.end.process)) none) (λ x some. some) refl)

module _ (s : Sender) (number : ℕ) (all : List Receiver) (old now : List Pair) (place : ℕ) (r : Receiver)
    (at : drop place all ≡ r ∷ drop (place + 1) all) (walking : IsWalking s number all old now place) where
  there : hears_it s r ≡ true
  there = walking.here r (at_head all place r (drop (place + 1) all) at)

  like : Heard s.wire s.message (length s.parcel.values) r
  like = heard s.wire s.message (length s.parcel.values) r there

  alike : (x : Receiver) → hears_it s x ≡ hears r.wire r.message r.count x
  alike x = λ i. hears (like.wire i) (like.message i) (like.count i) x

  so_far : now ++ (if fits_it s r then pair number place ∷ pairs_from s number (place + 1) (drop (place + 1) all) else pairs_from s number (place + 1) (drop (place + 1) all)) ≡ old ++ pairs_from s number 0 all
  so_far = sym (ap (λ (l : List Receiver). now ++ pairs_from s number place l) at) ∙ walking.pairs

  -- past the receives of the sender's own process
  pub passes_own : (elsewhere : ℕ) → r.end.process ≡ s.end.process → elsewhere ≡ first_from (hears_elsewhere r.wire r.message r.count r.end.process) (place + 1) (drop (place + 1) all)
      → IsWalking s number all old now elsewhere
  passes_own elsewhere own is =
      let none : fits_it s r ≡ false = ap (λ (b : Bool). b && not (nat_eq s.end.process r.end.process)) there ∙ ap not (eq-eqb s.end.process r.end.process (sym own)) in
      let same : (x : Receiver) → fits_it s x ≡ hears_elsewhere r.wire r.message r.count r.end.process x = λ x i. hears_elsewhere (like.wire i) (like.message i) (like.count i) (sym own i) x in
      subst (IsWalking s number all old now) (sym is)
      (goes s number all old now (hears_elsewhere r.wire r.message r.count r.end.process) (place + 1)
      (λ x fails. same x ∙ fails)
      (λ x passes. (and_parts (hears_it s x) (not (nat_eq s.end.process x.end.process)) (same x ∙ passes)).0)
      (sym (ap (λ (b : Bool). now ++ (if b then pair number place ∷ pairs_from s number (place + 1) (drop (place + 1) all) else pairs_from s number (place + 1) (drop (place + 1) all))) none) ∙ so_far))

  -- a pair more
  pub takes_one : (next : ℕ) → nat_eq s.end.process r.end.process ≡ false → next ≡ first_from (hears r.wire r.message r.count) (place + 1) (drop (place + 1) all)
      → IsWalking s number all old (now ++ pair number place ∷ []) next
  takes_one next apart is =
      let fits : fits_it s r ≡ true = ap (λ (b : Bool). b && not (nat_eq s.end.process r.end.process)) there ∙ ap not apart in
      subst (IsWalking s number all old (now ++ pair number place ∷ [])) (sym is)
      (goes s number all old (now ++ pair number place ∷ []) (hears r.wire r.message r.count) (place + 1)
      (λ x fails. and_left (hears_it s x) (not (nat_eq s.end.process x.end.process)) (alike x ∙ fails))
      (λ x passes. alike x ∙ passes)
      (append_assoc now (pair number place ∷ []) (pairs_from s number (place + 1) (drop (place + 1) all))
      ∙ (sym (ap (λ (b : Bool). now ++ (if b then pair number place ∷ pairs_from s number (place + 1) (drop (place + 1) all) else pairs_from s number (place + 1) (drop (place + 1) all))) fits) ∙ so_far)))

-- what stands at the place of a linked receive
pub link_at : (all : List Receiver) (chains : Chains) (place : ℕ) (r : Receiver) (l : Link) → AreChains all chains → drop place all ≡ r ∷ drop (place + 1) all
    → place < length chains.links.items → l ≡ get_or chains.links.items place l → l ≡ link_from place r (drop (place + 1) all)
link_at all chains place r l are at within is =
    let there : slice_get chains.links.items place ≡ Some (link_from place r (drop (place + 1) all)) =
    at_head chains.links.items place (link_from place r (drop (place + 1) all)) (links_from (place + 1) (drop (place + 1) all)) (are.links place (omega arith) ∙ ap (links_from place) at) in
    is ∙ get_or_from_slice_get chains.links.items place (link_from place r (drop (place + 1) all)) l there
