-- A tree replaced in the list of trees.
use Rattle.std.proofs.Common.{◌≡◌, ◌≢◌, ◌<◌, ◌⊎◌, inl, inr, ℕ, zero, suc, List, [], ◌∷◌, map, set, length, Some, refl, sym, subst, ap, ◌∙◌, arith}
use Rattle.std.specs.Prelude.{slice_get, All}
use Rattle.std.proofs.lemmas.Option.{same_Some, slice_get_within, get_or_from_slice_get}
use Rattle.std.proofs.lemmas.List.{map-set, set-set, set_comm}
use Rattle.std.proofs.lemmas.List.Elements.{All-set}
use Rattle.pz_rules.specs.pz_syntax.Classes.{ModelTree}
use Rattle.pz_rules.specs.Terms.{done}
use Rattle.pz_rules.specs.Settings.{Setting}
use Rattle.pz_sim_laws.specs.Members.{Member, become, AreMembers}
use Rattle.pz_sim_laws.specs.Deciding.{total_of}
use Rattle.pz_sim_laws.specs.Laws.{MembersStay}
use Rattle.pz_tree.specs.declared.tree.Tree.{Tree}
use Rattle.pz_tree.specs.Trees.{IsFresh, term_in, process_in}
use Rattle.pz_tree.specs.pz_tree_standing.Frames.{FramesStand}
use Rattle.pz_sim.specs.Members.{member_of, members_of}
use Rattle.pz_sim.specs.devices.Holding.{AreTrees}
use Rattle.pz_sim.specs.devices.Tables.{hushed, IsHeard, AreHeard}
use Rattle.pz_sim.proofs.Heard.{same_or_apart, set_same, set_other}

-- what stands at a place of a list that is seen in another way
pub got_mapped : {X Y : Type 0} (f : X → Y) (xs : List X) (k : ℕ) (x : X) → slice_get xs k ≡ Some x → slice_get (map f xs) k ≡ Some (f x)
got_mapped f [] k x is = cc
got_mapped f (z ∷ xs) zero x is = ap (λ y. Some (f y)) (same_Some z x is)
got_mapped f (z ∷ xs) (suc k) x is = got_mapped f xs k x is

pub from_mapped : {X Y : Type 0} (f : X → Y) (xs : List X) (k : ℕ) (y : Y) → slice_get (map f xs) k ≡ Some y → (x : X) × (slice_get xs k ≡ Some x) × (f x ≡ y)
from_mapped f [] k y is = cc
from_mapped f (x ∷ xs) zero y is = (x, refl, same_Some (f x) y is)
from_mapped f (x ∷ xs) (suc k) y is = from_mapped f xs k y is

pub got_set : {X : Type 0} (xs : List X) (i : ℕ) (y : X) → i < length xs → slice_get (set xs i y) i ≡ Some y
got_set [] i y within = absurd (omega (arith, within))
got_set (x ∷ xs) zero y within = refl
got_set (x ∷ xs) (suc i) y within = got_set xs i y (omega (arith, within))

-- what all of a list are, the one at a place is
pub all_at : {X : Type 0} (P : X → Type 0) (xs : List X) (k : ℕ) (x : X) → All P xs → slice_get xs k ≡ Some x → P x
all_at P xs k x all is = subst P (get_or_from_slice_get xs k x x is) (all k x (slice_get_within xs k x is))

module _ (m : ModelTree) where
  -- the members and the totals of trees, of which one is replaced

  pub members_replaced : (ts : List Tree) (i : ℕ) (u : Tree) → members_of m (set ts i u) ≡ set (members_of m ts) i (member_of m u)
  members_replaced ts i u = map-set (member_of m) ts i u

  pub totals_replaced : (clock : ℕ) (ts : List Tree) (i : ℕ) (u : Tree) → map (total_of clock) (members_of m (set ts i u)) ≡ set (map (total_of clock) (members_of m ts)) i (total_of clock (member_of m u))
  totals_replaced clock ts i u = ap (map (total_of clock)) (members_replaced ts i u) ∙ map-set (total_of clock) (members_of m ts) i (member_of m u)

  -- two that have acted, of which the first was silent meanwhile and the second speaks first
  pub both_spoken : (ts : List Tree) (i j : ℕ) (h : Member) (u v : Tree) → i ≢ j
      → set (set (set (members_of m ts) i h) j (member_of m v)) i (member_of m u) ≡ members_of m (set (set ts j v) i u)
  both_spoken ts i j h u v apart =
      let ms = members_of m ts in
      ap (λ (xs : List Member). set xs i (member_of m u)) (set_comm ms i j h (member_of m v) apart)
      ∙ set-set (set ms j (member_of m v)) i h (member_of m u)
      ∙ ap (λ (xs : List Member). set xs i (member_of m u)) (sym (members_replaced ts j v))
      ∙ sym (members_replaced (set ts j v) i u)

  module _ (clock : ℕ) where
    -- the members of fresh trees at a clock are heard
    pub all_heard : (ts : List Tree) → All (IsFresh m) ts → All (λ t. t.clock ≡ clock) ts → AreHeard m clock ts (members_of m ts)
    all_heard ts fresh clocks i h is =
        let x = from_mapped (member_of m) ts i h is in
        inr (record { tree = x.0; is = x.1; fresh = all_at (IsFresh m) ts i x.0 fresh x.1; same_clock = all_at (λ (t : Tree). t.clock ≡ clock) ts i x.0 clocks x.1; same = sym x.2 })

    -- behind those that are silent trees may be others
    pub heard_over : (ts us : List Tree) (hs : List Member) → AreHeard m clock ts hs → ((j : ℕ) (h : Member) → slice_get hs j ≡ Some h → (h.term ≡ done) ⊎ (slice_get us j ≡ slice_get ts j)) → AreHeard m clock us hs
    heard_over ts us hs heard others j h there = by (heard j h there) (others j h there)
      where
        by : (h.term ≡ done) ⊎ IsHeard m clock ts j h → (h.term ≡ done) ⊎ (slice_get us j ≡ slice_get ts j) → (h.term ≡ done) ⊎ IsHeard m clock us j h
        by (inl silent) other = inl silent
        by (inr one) (inl silent) = inl silent
        by (inr one) (inr same) = inr (record { tree = one.tree; is = same ∙ one.is; fresh = one.fresh; same_clock = one.same_clock; same = one.same })

    pub heard_behind : (ts : List Tree) (hs : List Member) (i : ℕ) (h : Member) (u : Tree) → AreHeard m clock ts (set hs i (hushed h)) → AreHeard m clock (set ts i u) (set hs i (hushed h))
    heard_behind ts hs i h u heard = heard_over ts (set ts i u) (set hs i (hushed h)) heard (λ j x there. by j x there (same_or_apart i j))
      where
        by : (j : ℕ) (x : Member) → slice_get (set hs i (hushed h)) j ≡ Some x → (i ≡ j) ⊎ (i ≢ j) → (x.term ≡ done) ⊎ (slice_get (set ts i u) j ≡ slice_get ts j)
        by j x there (inl same) = inl (ap (λ (y : Member). y.term) (set_same hs i (hushed h) x (ap (slice_get (set hs i (hushed h))) same ∙ there)))
        by j x there (inr apart) = inr (set_other ts i j u apart)

module _ (setting : Setting) (clock : ℕ) where
  -- what is so of trees one by one: all but that each term fits and is not too high
  pub record AreAlike (ts : List Tree) : Type 0 where
    pub members : AreMembers setting clock (members_of setting.model ts)
    pub fresh : All (IsFresh setting.model) ts
    pub clocks : All (λ t. t.clock ≡ clock) ts
    pub frames : All (λ t. FramesStand (term_in t) (process_in t).state) ts

  pub are_alike : (ts : List Tree) → AreTrees setting clock ts → AreAlike ts
  are_alike ts are = record { members = are.members; fresh = are.fresh; clocks = are.clocks; frames = are.frames }

  -- one process has become another, and its tree is that
  pub alike_replaced : MembersStay → (ts : List Tree) (i : ℕ) (t u : Tree) → AreAlike ts → slice_get ts i ≡ Some t → member_of setting.model u ≡ become (member_of setting.model t) (process_in u)
      → IsFresh setting.model u → u.clock ≡ clock → FramesStand (term_in u) (process_in u).state → AreAlike (set ts i u)
  alike_replaced stay ts i t u are is same fresh same_clock frames = record {
    members = subst (AreMembers setting clock) (ap (set (members_of setting.model ts) i) (sym same) ∙ sym (members_replaced setting.model ts i u))
        (stay setting clock (members_of setting.model ts) i (member_of setting.model t) (process_in u) are.members (got_mapped (member_of setting.model) ts i t is));
    fresh = All-set (IsFresh setting.model) ts i u fresh are.fresh;
    clocks = All-set (λ (x : Tree). x.clock ≡ clock) ts i u same_clock are.clocks;
    frames = All-set (λ (x : Tree). FramesStand (term_in x) (process_in x).state) ts i u frames are.frames;
  }
