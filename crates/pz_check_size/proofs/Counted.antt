-- The totals of classes that are counted in order.
use Rattle.std.proofs.Common.{◌≡◌, ◌≢◌, refl, sym, ap, subst, ◌∙◌, ℕ, zero, suc, ◌+◌, ◌<◌, ◌≤◌, ◌⊎◌, inl, inr, List, [], ◌∷◌, length, get_or, Some, slice_get, arith, get_or-set_same, get_or-set_other}
use Rattle.std.specs.List.{Contains}
use Rattle.std.proofs.Math.ListN.{set, length-set}
use Rattle.std.proofs.lemmas.List.{length-map, ext_get_or, get_or_past}
use Rattle.std.proofs.lemmas.Option.{unwrap_or-slice_get, slice_get-get_or, slice_get_within}
use Rattle.pz_check_size.specs.declared.nodes.Held.{Held}
use Rattle.pz_check_size.specs.declared.nodes.Node.{Node}
use Rattle.pz_check_size.specs.declared.totals.Totals.{Totals}
use Rattle.pz_check_size.specs.devices.Levels.{none_yet, capped_plus, total_in, with_all, total_with, next_level, level}
use Rattle.pz_check_size.specs.devices.Nodes.{held_by}
use Rattle.pz_check_size.specs.devices.Counting.{IsCountingOrder, AreCounted}
use Rattle.pz_check_size.proofs.Numberings.{same_number}

two_ways : (u v : ℕ) → (u < v) ⊎ (v ≤ u)
two_ways u v = grind arith

-- what is held is counted alike by totals that agree on it
with_agrees : (hs : List Held) (ts us : List Totals) (t : Totals) → ((h : Held) → Contains hs h → total_in ts h.class ≡ total_in us h.class) → with_all ts t hs ≡ with_all us t hs
with_agrees [] ts us t agree = refl
with_agrees (h ∷ hs) ts us t agree =
    let first : total_in ts h.class ≡ total_in us h.class = agree h (0, omega arith, refl) in
    ap (λ (u : Totals). with_all ts (capped_plus t u) hs) first ∙ with_agrees hs ts us (capped_plus t (total_in us h.class)) (λ x (k, below, is). agree x (suc k, omega arith, is))

next_agrees : (ns : List Node) (ts us : List Totals) (c : ℕ) → ((h : Held) → Contains (held_by ns c) h → total_in ts h.class ≡ total_in us h.class) → total_in (next_level ns ts) c ≡ total_in (next_level ns us) c
next_agrees [] ts us c agree = refl
next_agrees (n ∷ ns) ts us zero agree = with_agrees n.held ts us n.own agree
next_agrees (n ∷ ns) ts us (suc c) agree = next_agrees ns ts us c agree

total_is : (ts : List Totals) (c : ℕ) → total_in ts c ≡ get_or ts c none_yet
total_is ts c = unwrap_or-slice_get ts c none_yet

total_past : (ts : List Totals) (c : ℕ) → length ts ≤ c → total_in ts c ≡ none_yet
total_past ts c beyond = total_is ts c ∙ get_or_past ts c none_yet beyond

total_here : (ts : List Totals) (c : ℕ) (t : Totals) → c < length ts → total_in (set ts c t) c ≡ t
total_here ts c t below = total_is (set ts c t) c ∙ get_or-set_same ts c t none_yet below

total_elsewhere : (ts : List Totals) (c x : ℕ) (t : Totals) → x ≢ c → total_in (set ts c t) x ≡ total_in ts x
total_elsewhere ts c x t other = total_is (set ts c t) x ∙ (get_or-set_other ts c x t none_yet other ∙ sym (total_is ts x))

level_size : (nodes : List Node) (l : ℕ) → length (level nodes l) ≡ length nodes
level_size nodes zero = length-map nodes (λ n. none_yet)
level_size nodes (suc l) = length-map nodes (total_with (level nodes l))

module _ (nodes : List Node) (order : List ℕ) (is_order : IsCountingOrder nodes order) where
  -- at first none is counted
  pub none_counted : (ts : List Totals) → length ts ≡ length nodes → AreCounted nodes order ts 0
  none_counted ts size = record { sized = size; counted = λ i c l at none enough. absurd (omega arith) }

  module _ (ts : List Totals) (count : ℕ) (before : AreCounted nodes order ts count) (c : ℕ) (at : slice_get order count ≡ Some c) where
    abbrev total : Totals
    total = total_in (next_level nodes ts) c

    -- a class that the next one holds is counted
    agrees : (l : ℕ) → count ≤ l → (h : Held) → Contains (held_by nodes c) h → total_in ts h.class ≡ total_in (level nodes l) h.class
    agrees l enough h among = by_way (two_ways h.class (length nodes))
      where
        by_place : (j : ℕ) × (j < count) × (slice_get order j ≡ Some h.class) → total_in ts h.class ≡ total_in (level nodes l) h.class
        by_place (j, less, there) = before.counted j h.class l there less enough

        by_way : (h.class < length nodes) ⊎ (length nodes ≤ h.class) → total_in ts h.class ≡ total_in (level nodes l) h.class
        by_way (inl inside) = by_place (is_order.after count c h at among inside)
        by_way (inr beyond) = total_past ts h.class (omega (arith, before.sized)) ∙ sym (total_past (level nodes l) h.class (omega (arith, level_size nodes l)))

    here : (l : ℕ) → count + 1 ≤ l → total_in (set ts c total) c ≡ total_in (level nodes l) c
    here zero enough = absurd (omega arith)
    here (suc l) enough =
        let inside : c < length nodes = is_order.within count c at in
        total_here ts c total (omega (arith, before.sized)) ∙ next_agrees nodes ts (level nodes l) c (agrees l (omega arith))

    counted : (i x l : ℕ) → slice_get order i ≡ Some x → i < count + 1 → count + 1 ≤ l → total_in (set ts c total) x ≡ total_in (level nodes l) x
    counted i x l there less enough = by_place (same_number x c)
      where
        by_way : x ≢ c → (i < count) ⊎ (count ≤ i) → total_in ts x ≡ total_in (level nodes l) x
        by_way other (inl earlier) = before.counted i x l there earlier (omega arith)
        by_way other (inr last) =
            let place : i ≡ count = omega arith in
            let same : Some x ≡ Some c = sym there ∙ (ap (λ (k : ℕ). slice_get order k) place ∙ at) in
            absurd (other cc)

        by_place : (x ≡ c) ⊎ (x ≢ c) → total_in (set ts c total) x ≡ total_in (level nodes l) x
        by_place (inl same) = subst (λ (y : ℕ). total_in (set ts c total) y ≡ total_in (level nodes l) y) (sym same) (here l enough)
        by_place (inr other) = total_elsewhere ts c x total other ∙ by_way other (two_ways i count)

    -- one more
    one_counted : AreCounted nodes order (set ts c total) (count + 1)
    one_counted = record { sized = length-set ts c total ∙ before.sized; counted = counted }

  -- what the code counts
  pub counts : (ts seen : List Totals) (count : ℕ) (t : Totals) → count < length order → seen ≡ ts → t ≡ total_in (next_level nodes seen) (get_or order count 0) → AreCounted nodes order ts count → AreCounted nodes order (set ts (get_or order count 0) t) (count + 1)
  counts ts seen count t within seen_is counted_is before =
      let same : total_in (next_level nodes ts) (get_or order count 0) ≡ t = sym (counted_is ∙ ap (λ (x : List Totals). total_in (next_level nodes x) (get_or order count 0)) seen_is) in
      subst (λ (x : Totals). AreCounted nodes order (set ts (get_or order count 0) x) (count + 1)) same (one_counted ts count before (get_or order count 0) (slice_get-get_or order count 0 within))

  -- where all are counted, the totals are those of the last level
  pub all_counted : (ts : List Totals) (count : ℕ) → length order ≤ count → count ≤ length order → AreCounted nodes order ts count → ts ≡ level nodes (length nodes)
  all_counted ts count enough within done = ext_get_or none_yet ts (level nodes (length nodes)) (done.sized ∙ sym (level_size nodes (length nodes))) same
    where
      same : (c : ℕ) → c < length ts → get_or ts c none_yet ≡ get_or (level nodes (length nodes)) c none_yet
      same c below = sym (total_is ts c) ∙ (by_place (is_order.each c (omega (arith, done.sized))) ∙ total_is (level nodes (length nodes)) c)
        where
          by_place : (i : ℕ) × (slice_get order i ≡ Some c) → total_in ts c ≡ total_in (level nodes (length nodes)) c
          by_place (i, there) =
              let inside : i < length order = slice_get_within order i c there in
              done.counted i c (length nodes) there (omega arith) (omega (arith, is_order.sized))
