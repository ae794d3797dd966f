-- Senders in the order of their wires.
use Rattle.std.proofs.Common.{◌≡◌, ◌<◌, ◌≤◌, ◌+◌, ◌⊎◌, inl, inr, refl, sym, ◌∙◌, ap, subst, ℕ, Bool, false, nat_eq, List, [], ◌∷◌, drop, get_or, Some, arith}
use Rattle.std.specs.Prelude.{All, Contains}
use Rattle.std.specs.List.{slice_get, IsDistinct, AllByRecursion}
use Rattle.std.specs.List.Sorted.{IsPermutation, IsSorted}
use Rattle.std.specs.Ordering.{nat_cmp, ordering_then, is_lt}
use Rattle.std.specs.Cmp.{IsTotalOrder, nat_eq_equiv}
use Rattle.std.specs.declared.cmp.Ordering.{Ordering}
use Rattle.std.proofs.lemmas.Bool.{eqb-false, ne_eqb, cases_order}
use Rattle.std.proofs.lemmas.Bool.Decides.{nat_tests}
use Rattle.std.proofs.lemmas.Cmp.{nat_cmp_total, on_total, then_total}
use Rattle.std.proofs.lemmas.List.Elements.{All-nil, All-cons, Contains-append_left, Contains-append_right}
use Rattle.std.proofs.lemmas.List.Sorted.{ranks_by, sorted_far, All-permutation, Contains-permutation}
use Rattle.std.proofs.lemmas.Map.Keys.{IsDistinct-IsPermutation, apart_from_distinct}
use Rattle.pz_term_matching.specs.declared.ends.Sender.{Sender}
use Rattle.pz_term_matching.specs.declared.turns.Turn.{Turn}
use Rattle.pz_term_matching.specs.devices.Turns.{TurnBefore, IsTurn, AreTurns}
use Rattle.pz_term_matching.proofs.Firsts.{drop_next, at_head, none_past}

abbrev pub turn : ℕ → ℕ → Turn
turn wire sender = record { wire = wire; sender = sender }

-- of these senders, of which the first has this number
abbrev pub turns_from : ℕ → List Sender → List Turn
turns_from place [] = []
turns_from place (s ∷ ss) = turn s.wire place ∷ turns_from (place + 1) ss

abbrev same_sender : Turn → Turn → Bool
same_sender a b = nat_eq a.sender b.sender

abbrev pub by_turn : Turn → Turn → Ordering
by_turn a b = ordering_then (nat_cmp a.wire b.wire) (nat_cmp a.sender b.sender)

turns_known : (all : List Sender) (place : ℕ) (ss : List Sender) → drop place all ≡ ss → All (IsTurn all) (turns_from place ss)
turns_known all place [] is = All-nil (IsTurn all)
turns_known all place (s ∷ ss) is =
    All-cons (IsTurn all) (turn s.wire place) (turns_from (place + 1) ss) (record { sender = s; there = at_head all place s ss is; wire = refl })
    (turns_known all (place + 1) ss (drop_next all place s ss is))

every_turn : (all : List Sender) (place : ℕ) (ss : List Sender) → drop place all ≡ ss → (i : ℕ) (s : Sender) → place ≤ i → slice_get all i ≡ Some s → Contains (turns_from place ss) (turn s.wire i)
every_turn all place [] is i s from there = absurd (none_past all place i s from is there)
every_turn all place (x ∷ xs) is i s from there = by (split i from) (λ later. every_turn all (place + 1) xs (drop_next all place x xs is) i s later there)
  where
    split : (n : ℕ) → place ≤ n → (place ≡ n) ⊎ (place + 1 ≤ n)
    split n h = grind arith

    by : (place ≡ i) ⊎ (place + 1 ≤ i) → (place + 1 ≤ i → Contains (turns_from (place + 1) xs) (turn s.wire i)) → Contains (turn x.wire place ∷ turns_from (place + 1) xs) (turn s.wire i)
    by (inl here) later =
        let same : Some x ≡ Some s = sym (at_head all place x xs is) ∙ (ap (slice_get all) here ∙ there) in
        let one : x ≡ s = cc in
        let this : turn x.wire place ≡ turn s.wire i = (λ j. turn (one j).wire (here j)) in
        subst (Contains (turn x.wire place ∷ turns_from (place + 1) xs)) this (Contains-append_left (turn x.wire place ∷ []) (turns_from (place + 1) xs) (turn x.wire place) (0, omega arith, refl))
    by (inr after) later = Contains-append_right (turn x.wire place ∷ []) (turns_from (place + 1) xs) (turn s.wire i) (later after)

apart_later : (first place : ℕ) (wire : ℕ) (ss : List Sender) → first < place → AllByRecursion (λ t. same_sender (turn wire first) t ≡ false) (turns_from place ss)
apart_later first place wire [] before = tt
apart_later first place wire (s ∷ ss) before =
    (ne_eqb first place (λ same. absurd (omega (arith, same, before))), apart_later first (place + 1) wire ss (omega (arith, before)))

turns_distinct : (place : ℕ) (ss : List Sender) → IsDistinct same_sender (turns_from place ss)
unfolding IsDistinct
turns_distinct place [] = tt
turns_distinct place (s ∷ ss) = (apart_later place (place + 1) s.wire ss (omega arith), turns_distinct (place + 1) ss)

by_turn_total : IsTotalOrder by_turn
by_turn_total = then_total (on_total (λ (t : Turn). t.wire) nat_cmp_total) (on_total (λ (t : Turn). t.sender) nat_cmp_total)

-- what is not after another, and is another, is before it
rises : (a b : Turn) → is_lt (by_turn b a) ≡ false → same_sender a b ≡ false → TurnBefore a b
rises a b order apart = by (cases_order b.wire a.wire)
  where
    by : (b.wire ≡ a.wire) ⊎ ((b.wire < a.wire) ⊎ (a.wire < b.wire)) → TurnBefore a b
    by (inl same) =
        inr (sym same, later (cases_order b.sender a.sender))
      where
        later : (b.sender ≡ a.sender) ⊎ ((b.sender < a.sender) ⊎ (a.sender < b.sender)) → a.sender < b.sender
        later (inl one) = absurd (eqb-false a.sender b.sender apart (sym one))
        later (inr (inl under)) = absurd (grind (arith, nat_tests))
        later (inr (inr above)) = above
    by (inr (inl under)) = absurd (grind (arith, nat_tests))
    by (inr (inr above)) = inl above

pub are_turns : (all : List Sender) (turns : List Turn) → IsPermutation (turns_from 0 all) turns → IsSorted by_turn turns → AreTurns all turns
are_turns all turns moved sorted =
    let distinct : IsDistinct same_sender turns = IsDistinct-IsPermutation same_sender (λ a b. nat_eq_equiv.symm a.sender b.sender) (turns_from 0 all) turns moved (turns_distinct 0 all) in
    record {
      ordered = λ i j d before within.
          rises (get_or turns i d) (get_or turns j d)
          (sorted_far (λ a b. is_lt (by_turn a b)) (ranks_by by_turn_total (λ t. t)) turns sorted i j d (omega (arith, before)) within)
          (apart_from_distinct same_sender turns i j d distinct before within);
      known = All-permutation (IsTurn all) (turns_from 0 all) turns moved (turns_known all 0 all refl);
      every = λ i s there. Contains-permutation (turns_from 0 all) turns (turn s.wire i) moved (every_turn all 0 all refl i s (omega arith) there);
    }
