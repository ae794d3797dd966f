-- The internal actions of all processes, one process behind the other.
use Rattle.std.proofs.Common.{◌≡◌, ◌≤◌, ◌+◌, ◌⊎◌, inl, inr, ℕ, zero, suc, List, [], ◌∷◌, ◌++◌, map, length, take, Some, refl, sym, subst, ap, ◌∙◌, length-append, arith}
use Rattle.std.specs.Prelude.{slice_get, AllPairs, Contains}
use Rattle.std.proofs.lemmas.Option.{same_Some}
use Rattle.std.proofs.lemmas.List.{length-map}
use Rattle.std.proofs.lemmas.List.Elements.{Contains-append_left, Contains-append_right}
use Rattle.pz_tree_standing.specs.pz_syntax.declared.tokens.Pos.{Pos}
use Rattle.pz_tree_standing.specs.pz_offer.declared.end.End.{End}
use Rattle.pz_tree_standing.specs.pz_offer.PlaceOrder.{PlaceBefore, EndBefore}
use Rattle.pz_tree_standing.specs.pz_rules.declared.action.Kind.{Kind}
use Rattle.pz_tree_standing.specs.pz_rules.declared.action.Action.{Action}
use Rattle.pz_tree_standing.specs.pz_rules.declared.action.Action.TheVariants.{Internal, Comm}
use Rattle.pz_tree_standing.specs.pz_rules.Terms.{Term}
use Rattle.pz_tree_standing.specs.pz_rules.Settings.{Setting, Context}
use Rattle.pz_tree_standing.specs.pz_rules.InternalActions.{Can}
use Rattle.pz_tree_standing.specs.pz_rules.Offers as offers
use Rattle.pz_tree_standing.specs.pz_rules.Offers.{Offers, Before}
use Rattle.pz_tree_standing.specs.pz_rules.devices.Walk as walk
use Rattle.pz_tree_standing.specs.pz_rules.devices.Walk.{Noted, internal_actions}
use Rattle.pz_tree_standing.specs.pz_rules.devices.Walks.{IsThere, InternalActionsAreListed}
use Rattle.pz_sim_totals.specs.Sums as sums
use Rattle.pz_sim_laws.specs.Members.{Member, config_of, AreMembers}
use Rattle.pz_sim_laws.specs.Deciding.{total_of, total_of_all}
use Rattle.pz_sim_laws.proofs.Lists.{AllPairs-nil, AllPairs-append, AllPairs-map, Contains-none, Contains-map, from_map, all_got, got_cons, got_behind, got_mapped, Contains-append_cases}
use Rattle.pz_sim_laws.proofs.Standing.{end_at, part_of_member, in_member, IsTail, next_tail, first_here, none_left, one_here, from_cases, all_tail}

abbrev pub action_of : ℕ → Noted walk.Doing → Action
action_of i d = Internal (end_at i d.place) d.what.kind d.what.pos

abbrev pub actions_of : ℕ → Member → List Action
actions_of i m = map (action_of i) (internal_actions m.seen m.term)

abbrev pub actions_from : ℕ → List Member → List Action
actions_from i [] = []
actions_from i (m ∷ ms) = actions_of i m ++ actions_from (suc i) ms

-- they are counted

pub counted : (clock i : ℕ) (ms : List Member) → length (actions_from i ms) ≡ (total_of_all clock ms).summary.internal
counted clock i [] = refl
counted clock i (m ∷ ms) =
    let rest = counted clock (suc i) ms in
    let here = length-map (internal_actions m.seen m.term) (action_of i) in
    length-append (actions_of i m) (actions_from (suc i) ms) ∙ (let e : length (actions_of i m) + length (actions_from (suc i) ms) ≡ length (internal_actions m.seen m.term) + (total_of_all clock ms).summary.internal = omega (arith, rest, here) in e)

-- and each has its number
pub numbered : (clock i j n : ℕ) (ms : List Member) (m : Member) (d : Noted walk.Doing) → slice_get ms j ≡ Some m → slice_get (internal_actions m.seen m.term) n ≡ Some d
    → slice_get (actions_from i ms) ((sums.all (take j (map (total_of clock) ms))).summary.internal + n) ≡ Some (action_of (i + j) d)
numbered clock i j n [] m d is got = cc
numbered clock i zero n (x ∷ ms) m d is got =
    let same : x ≡ m = same_Some x m is in
    let here : slice_get (internal_actions x.seen x.term) n ≡ Some d = subst (λ (y : Member). slice_get (internal_actions y.seen y.term) n ≡ Some d) (sym same) got in
    ap (slice_get (actions_of i x ++ actions_from (suc i) ms)) (let e : 0 + n ≡ n = omega arith in e)
    ∙ got_cons (actions_of i x) (actions_from (suc i) ms) n (action_of i d) (got_mapped (action_of i) (internal_actions x.seen x.term) n d here)
    ∙ ap (λ (k : ℕ). Some (action_of k d)) (let e : i ≡ i + 0 = omega arith in e)
numbered clock i (suc j) n (x ∷ ms) m d is got =
    let before = (sums.all (take j (map (total_of clock) ms))).summary.internal in
    let here : length (actions_of i x) ≡ length (internal_actions x.seen x.term) = length-map (internal_actions x.seen x.term) (action_of i) in
    ap (slice_get (actions_of i x ++ actions_from (suc i) ms)) (let e : (length (internal_actions x.seen x.term) + before) + n ≡ length (actions_of i x) + (before + n) = omega (arith, here) in e)
    ∙ got_behind (actions_of i x) (actions_from (suc i) ms) (before + n)
    ∙ numbered clock (suc i) j n ms m d is got
    ∙ ap (λ (k : ℕ). Some (action_of k d)) (let e : suc i + j ≡ i + suc j = omega arith in e)

abbrev pub IsInternal : Action → Type 0
IsInternal (Internal at kind pos) = Unit {0}
IsInternal (Comm wire sender receiver message parcel) = ⊥

abbrev pub end_of : Action → End
end_of (Internal at kind pos) = at
end_of (Comm wire sender receiver message parcel) = sender

module _ (setting : Setting) (clock : ℕ) (ms : List Member) (are : AreMembers setting clock ms) (law : InternalActionsAreListed) where
  -- of a process or a later one, offered
  pub record IsOffered (i : ℕ) (a : Action) : Type 0 where
    pub is_internal : IsInternal a
    pub offered : Offers setting (config_of clock ms) a
    pub from : i ≤ (end_of a).process

  -- those of one process

  offered_here : (i : ℕ) (m : Member) → slice_get ms i ≡ Some m → (a : Action) → Contains (actions_of i m) a → IsInternal a × Offers setting (config_of clock ms) a × ((end_of a).process ≡ i)
  offered_here i m is a there =
      let from = from_map (action_of i) (internal_actions m.seen m.term) a there in
      let it : IsThere m.seen m.term from.one.place (λ f part. Can m.seen f part from.one.what.kind from.one.what.pos) =
      all_got (λ (n : Noted walk.Doing). IsThere m.seen m.term n.place (λ f part. Can m.seen f part n.what.kind n.what.pos)) (internal_actions m.seen m.term) from.one (law m.seen m.term).derivable from.within in
      subst (λ (b : Action). IsInternal b × Offers setting (config_of clock ms) b × ((end_of b).process ≡ i)) from.is (
        tt,
        offers.internal (end_at i from.one.place) m.seen it.frame it.part from.one.what.kind from.one.what.pos (part_of_member setting clock ms are i m from.one.place it.frame it.part is it.active) it.it_holds,
        refl,
      )

  ordered_here : (i : ℕ) (m : Member) → AllPairs Before (actions_of i m)
  ordered_here i m = AllPairs-map (action_of i) (λ (x y : Noted walk.Doing). PlaceBefore x.place y.place) Before (internal_actions m.seen m.term) (λ x y before. inr (refl, before)) (law m.seen m.term).ordered

  -- those of the members from a number on

  pub offered_from : (i : ℕ) (tail : List Member) → IsTail ms i tail → (a : Action) → Contains (actions_from i tail) a → IsOffered i a
  offered_from i [] is a there = absurd (Contains-none a there)
  offered_from i (m ∷ tail) is a there = by (Contains-append_cases (actions_of i m) (actions_from (suc i) tail) a there) (λ later. offered_from (suc i) tail (next_tail ms i m tail is) a later)
    where
      by : Contains (actions_of i m) a ⊎ Contains (actions_from (suc i) tail) a → (Contains (actions_from (suc i) tail) a → IsOffered (suc i) a) → IsOffered i a
      by (inl here) go = let x = offered_here i m (first_here ms i m tail is) a here in let same = x.2 in record { is_internal = x.0; offered = x.1; from = omega (arith, same) }
      by (inr later) go = let x = go later in let le = x.from in record { is_internal = x.is_internal; offered = x.offered; from = omega (arith, le) }

  before_of : (x y : Action) → IsInternal x → IsInternal y → EndBefore (end_of x) (end_of y) → Before x y
  before_of (Internal at kind pos) (Internal other another place) is is_other before = before
  before_of (Internal at kind pos) (Comm wire sender receiver message parcel) is is_other before = absurd is_other
  before_of (Comm wire sender receiver message parcel) y is is_other before = absurd is

  pub ordered_from : (i : ℕ) (tail : List Member) → IsTail ms i tail → AllPairs Before (actions_from i tail)
  ordered_from i [] is = AllPairs-nil Before
  ordered_from i (m ∷ tail) is =
      AllPairs-append Before (actions_of i m) (actions_from (suc i) tail) (ordered_here i m) (ordered_from (suc i) tail (next_tail ms i m tail is)) (λ x y first second.
      let a = offered_here i m (first_here ms i m tail is) x first in
      let b = offered_from (suc i) tail (next_tail ms i m tail is) y second in
      let same = a.2 in
      let le = b.from in
      before_of x y a.0 b.is_internal (inl (omega (arith, same, le))))

  every_here : (i : ℕ) (m : Member) (at : End) (kind : Kind) (pos : Pos) → at.process ≡ i → IsThere m.seen m.term at.place (λ f part. Can m.seen f part kind pos) → Contains (actions_of i m) (Internal at kind pos)
  every_here i m at kind pos same is =
      subst (λ (k : ℕ). Contains (actions_of i m) (Internal (end_at k at.place) kind pos)) (sym same)
      (Contains-map (action_of i) (internal_actions m.seen m.term) (record { place = at.place; what = record { kind = kind; pos = pos } })
      ((law m.seen m.term).every at.place (record { kind = kind; pos = pos }) is))

  every_from : (i : ℕ) (tail : List Member) → IsTail ms i tail → (at : End) (kind : Kind) (pos : Pos) (m : Member) → i ≤ at.process → slice_get ms at.process ≡ Some m
      → IsThere m.seen m.term at.place (λ f part. Can m.seen f part kind pos) → Contains (actions_from i tail) (Internal at kind pos)
  every_from i [] is at kind pos m from here there = absurd (none_left ms i is at.process m from here)
  every_from i (x ∷ tail) is at kind pos m from here there = by (from_cases i at.process from) (λ le. every_from (suc i) tail (next_tail ms i x tail is) at kind pos m le here there)
    where
      by : (at.process ≡ i) ⊎ (suc i ≤ at.process) → (suc i ≤ at.process → Contains (actions_from (suc i) tail) (Internal at kind pos)) → Contains (actions_from i (x ∷ tail)) (Internal at kind pos)
      by (inl same) go =
          let one : m ≡ x = one_here ms i at.process x m tail is same here in
          Contains-append_left (actions_of i x) (actions_from (suc i) tail) (Internal at kind pos) (subst (λ (y : Member). Contains (actions_of i y) (Internal at kind pos)) one (every_here i m at kind pos same there))
      by (inr later) go = Contains-append_right (actions_of i x) (actions_from (suc i) tail) (Internal at kind pos) (go later)

  -- all of them

  pub every_internal : (a : Action) → IsInternal a → Offers setting (config_of clock ms) a → Contains (actions_from 0 ms) a
  every_internal _ is (offers.internal at a f part kind pos active can) =
      let x = in_member setting clock ms are (λ (b : Context) (g : ℕ) (t : Term). Can b g t kind pos) at a f part active can in
      every_from 0 ms (all_tail ms) at kind pos x.member (omega arith) x.is x.is_there
  every_internal _ is (offers.communication number sender receiver message parcel pair judged) = absurd is

  pub internal_offered : (a : Action) → Contains (actions_from 0 ms) a → IsOffered 0 a
  internal_offered a there = offered_from 0 ms (all_tail ms) a there

  pub internal_ordered : AllPairs Before (actions_from 0 ms)
  internal_ordered = ordered_from 0 ms (all_tail ms)
