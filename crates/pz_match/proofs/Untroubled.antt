-- Where the groups have no trouble, no pair has one.
use Rattle.std.proofs.Common.{◌≡◌, ◌≤◌, ◌<◌, ◌+◌, refl, sym, ◌∙◌, ap, ℕ, zero, suc, Bool, true, false, nat_eq, List, [], ◌∷◌, length, get_or, Option, Some, None, if◌then◌else◌, arith}
use Rattle.std.specs.Prelude.{All, sum_by, count_by}
use Rattle.std.specs.List.{slice_get}
use Rattle.std.specs.Option.{option_map_or}
use Rattle.std.proofs.lemmas.Bool.{eq-eqb}
use Rattle.std.proofs.lemmas.List.Elements.{All-head, All-tail}
use Rattle.std.proofs.lemmas.List.Concat.{length-flat_map}
use Rattle.std.proofs.lemmas.List.Sums.{sum_by-cons, get_or-le-sum_by}
use Rattle.std.proofs.lemmas.Option.{get_or_from_slice_get, slice_get_within}
use Rattle.pz_match.specs.declared.groups.Group.{Group}
use Rattle.pz_match.specs.declared.groups.Sort.TheVariants.{Troubled}
use Rattle.pz_match.specs.declared.kept.Sending.{Sending}
use Rattle.pz_match.specs.declared.kept.Receiving.{Receiving}
use Rattle.pz_match.specs.Pairs.{first_trouble}
use Rattle.pz_match.specs.devices.Lists.{upto}
use Rattle.pz_match.specs.devices.Kept.{Kept, free_in, pairs_on, all_pairs}
use Rattle.pz_match.specs.devices.Tallies.{GroupsView, tally_at, no_tally, pick, yeses, troubled, sends_part, part_of, total_of}
use Rattle.pz_match.specs.devices.Holding.{Holds}
use Rattle.pz_match.specs.devices.Seeking.{wants, sought, number_on, from_process}
use Rattle.pz_match.proofs.Sums.{filter_flat}
use Rattle.pz_match.proofs.Sought.{wire_counted}
use Rattle.pz_match.proofs.Troubles.{trouble_none}

zeros : {X : Type 0} (f : X → ℕ) (xs : List X) → All (λ x. f x ≡ 0) xs → sum_by f xs ≡ 0
zeros f [] each = refl
zeros f (x ∷ xs) each = let here : f x ≡ 0 = All-head (λ x. f x ≡ 0) x xs each in omega (arith, here, zeros f xs (All-tail (λ x. f x ≡ 0) x xs each), sum_by-cons f x xs)

in_sends : (rs : List Receiving) (ss : List Sending) (k : ℕ) (d : Sending) → k < length ss → troubled (get_or ss k d).rows ≤ (sends_part rs ss (get_or ss k d).group).troubles
in_sends rs [] k d lt = absurd (omega (arith, lt))
in_sends rs (s ∷ ss) zero d lt =
    let here : (sends_part rs (s ∷ ss) s.group).troubles ≡ troubled s.rows + (sends_part rs ss s.group).troubles
    = ap (λ b. (pick b (record { sends = 1; free = 0; own = count_by (free_in s.group) rs; asking = 0; yes = yeses s.rows; troubles = troubled s.rows })).troubles + (sends_part rs ss s.group).troubles) (eq-eqb s.group s.group refl) in
    omega (arith, here)
in_sends rs (s ∷ ss) (suc k) d lt = omega (arith, in_sends rs ss k d (omega (arith, lt)))

in_total : (g : ℕ) (all : List Kept) (k : ℕ) (d : Kept) → k < length all → (part_of (get_or all k d) g).troubles ≤ (total_of all g).troubles
in_total g [] k d lt = absurd (omega (arith, lt))
in_total g (e ∷ all) zero d lt = omega arith
in_total g (e ∷ all) (suc k) d lt = omega (arith, in_total g all k d (omega (arith, lt)))

module _ (groups : GroupsView) (all : List Kept) (holds : Holds groups all) (none : sum_by (λ x. x.tally.troubles) groups.groups ≡ 0) where
  no_tally_at : (g : ℕ) → (tally_at groups.groups g).troubles ≡ 0
  no_tally_at g = by (slice_get groups.groups g) refl
    where
      by : (o : Option Group) → slice_get groups.groups g ≡ o → (option_map_or (λ x. x.tally) o no_tally).troubles ≡ 0
      by None is = refl
      by (Some x) is =
          let at : get_or groups.groups g x ≡ x = get_or_from_slice_get groups.groups g x x is in
          let le = get_or-le-sum_by (λ (y : Group). y.tally.troubles) groups.groups g x (slice_get_within groups.groups g x is) in
          let same : (get_or groups.groups g x).tally.troubles ≡ x.tally.troubles = ap (λ (y : Group). y.tally.troubles) at in
          omega (arith, le, same, none)

  no_send : (w k : ℕ) (d : Kept) → k < length all → (n : ℕ) (c : Sending) → n < length (get_or all k d).sends → number_on Troubled groups.groups w (get_or all k d).receives (get_or (get_or all k d).sends n c) ≡ 0
  no_send w k d lt n c below = by (nat_eq s.sender.wire w)
    where
      e : Kept
      e = get_or all k d

      s : Sending
      s = get_or (get_or all k d).sends n c

      nil : troubled (get_or (get_or all k d).sends n c).rows ≡ 0
      nil =
          let g : ℕ = (get_or (get_or all k d).sends n c).group in
          let first = in_sends (get_or all k d).receives (get_or all k d).sends n c below in
          let second = in_total g all k d lt in
          let third = (holds.tallied g).troubles in
          let fourth = no_tally_at g in
          omega (arith, first, second, third, fourth)

      by : (b : Bool) → (if b then troubled (get_or (get_or all k d).sends n c).rows else 0) ≡ 0
      by true = nil
      by false = refl

  no_wire : (w : ℕ) → length (sought Troubled (pairs_on all w)) ≡ 0
  no_wire w =
      sym (wire_counted groups all holds Troubled w)
      ∙ zeros (from_process Troubled groups.groups w) all (λ k d lt. zeros (number_on Troubled groups.groups w (get_or all k d).receives) (get_or all k d).sends (λ n c below. no_send w k d lt n c below))

  pub untroubled : (wires : ℕ) → first_trouble (all_pairs all wires) ≡ None
  untroubled wires =
      let size : length (sought Troubled (all_pairs all wires)) ≡ 0
      = ap length (filter_flat (pairs_on all) (λ q. wants Troubled q.verdict) (upto wires))
      ∙ (length-flat_map (λ w. sought Troubled (pairs_on all w)) (upto wires) ∙ zeros (λ w. length (sought Troubled (pairs_on all w))) (upto wires) (λ k d lt. no_wire (get_or (upto wires) k d))) in
      trouble_none (all_pairs all wires) (omega (arith, size))
