-- What a call changes: the nodes under some keys become those under others. And a node that is taken in hand,
-- with the parts that stand below it.
use Rattle.std.specs.Prelude.{◌≡◌, ◌≢◌, ℕ, Bool, true, false, ◌||◌, ◌⊎◌, eqb, Option, Some, None}
use Rattle.pz_nodes_shapes.specs.Rose.{Rose, Roses, Map, has, has_any, Stands, StandAll}

pub record Change {X : Type 0} (m n : Map X) (old new : ℕ → Bool) : Type 0 where
  -- what is in neither stays
  pub kept : (k : ℕ) → old k ≡ false → new k ≡ false → n k ≡ m k
  -- what is no longer used is gone
  pub freed : (k : ℕ) → old k ≡ true → new k ≡ false → n k ≡ None
  -- a key that is used now was used before or was vacant
  pub fresh : (k : ℕ) → new k ≡ true → (old k ≡ true) ⊎ (m k ≡ None)

abbrev pub no_key : ℕ → Bool
no_key k = false

-- only this key has changed
abbrev pub OnlyAt : {X : Type 0} → Map X → Map X → ℕ → Type 0
OnlyAt m n k = (j : ℕ) → j ≢ k → n j ≡ m j

-- in hand: the key of a node that was taken out, and the parts that stand below it, of the old keys
abbrev pub in_hand : {X : Type 0} → ℕ → Roses X → ℕ → Bool
in_hand k ss j = eqb j k || has_any ss j

pub record Holds {X : Type 0} (m0 m : Map X) (old : ℕ → Bool) (k : ℕ) (ss : Roses X) : Type 0 where
  pub there : m k ≡ None → ⊥
  pub outside : has_any ss k ≡ false
  pub stand : StandAll m ss
  pub change : Change m0 m old (in_hand k ss)

-- what has become of a part: in place of the old keys stands this, or nothing
pub record Becomes {X : Type 0} (m n : Map X) (old : ℕ → Bool) (s : Rose X) : Type 0 where
  pub stands : Stands n s
  pub change : Change m n old (has s)

abbrev pub BecomesOption : {X : Type 0} → Map X → Map X → (ℕ → Bool) → Option (Rose X) → Type 0
BecomesOption m n old None = Change m n old no_key
BecomesOption m n old (Some s) = Becomes m n old s
