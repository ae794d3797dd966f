-- The shape of the nodes that stand under a key: a rose tree of what they hold, each node with its key. A
-- child that is gone has no node.
use Rattle.std.specs.Prelude.{◌≡◌, ℕ, zero, suc, Bool, true, false, ◌||◌, ◌+◌, eqb, List, [], ◌∷◌, Option, Some, None, slice_index_or}
use Rattle.pz_nodes_shapes.specs.declared.node.Node.{Node}

mutual
  pub data Rose (X : Type 0) : Type 0 where
    node : ℕ → X → Roses X → Rose X

  pub data Roses (X : Type 0) : Type 0 where
    none : Roses X
    gone : Roses X → Roses X
    more : Rose X → Roses X → Roses X

-- what is under each key
abbrev pub Map : Type 0 → Type 0
Map X = ℕ → Option (Node X)

-- the key of the child of this number
abbrev pub kid_of : {X : Type 0} → Option (Node X) → ℕ → Option ℕ
kid_of None i = None
kid_of (Some n) i = slice_index_or n.kids i None

module _ {X : Type 0} where
  -- the key of the topmost node
  abbrev pub root : Rose X → ℕ
  root (node k x ss) = k

  abbrev pub kids : Rose X → Roses X
  kids (node k x ss) = ss

  -- what the topmost node holds
  abbrev pub payload : Rose X → X
  payload (node k x ss) = x

  -- the keys of the children
  abbrev pub roots : Roses X → List (Option ℕ)
  roots none = []
  roots (gone ss) = None ∷ roots ss
  roots (more s ss) = Some (root s) ∷ roots ss

  -- the child of this number
  abbrev pub pick : Roses X → ℕ → Option (Rose X)
  pick none i = None
  pick (gone ss) zero = None
  pick (more s ss) zero = Some s
  pick (gone ss) (suc i) = pick ss i
  pick (more s ss) (suc i) = pick ss i

  abbrev pub joined : Option (Rose X) → Roses X → Roses X
  joined None ss = gone ss
  joined (Some s) ss = more s ss

  -- the child of this number has become that
  abbrev pub with_kid : Roses X → ℕ → Option (Rose X) → Roses X
  with_kid none i x = none
  with_kid (gone ss) zero x = joined x ss
  with_kid (more s ss) zero x = joined x ss
  with_kid (gone ss) (suc i) x = gone (with_kid ss i x)
  with_kid (more s ss) (suc i) x = more s (with_kid ss i x)

  abbrev mutual
    -- how many nodes
    pub size : Rose X → ℕ
    size (node k x ss) = suc (sizes ss)

    pub sizes : Roses X → ℕ
    sizes none = 0
    sizes (gone ss) = sizes ss
    sizes (more s ss) = size s + sizes ss

  -- how many children there are
  abbrev pub present : Roses X → ℕ
  present none = 0
  present (gone ss) = present ss
  present (more s ss) = suc (present ss)

  abbrev mutual
    -- which keys are used
    pub has : Rose X → ℕ → Bool
    has (node k x ss) j = eqb j k || has_any ss j

    pub has_any : Roses X → ℕ → Bool
    has_any none j = false
    has_any (gone ss) j = has_any ss j
    has_any (more s ss) j = has s j || has_any ss j

  abbrev pub has_option : Option (Rose X) → ℕ → Bool
  has_option None j = false
  has_option (Some s) j = has s j

-- no key is in both
abbrev pub Apart : (ℕ → Bool) → (ℕ → Bool) → Type 0
Apart f g = (k : ℕ) → f k ≡ true → g k ≡ true → ⊥

module _ {X : Type 0} where
  abbrev mutual
    -- each node is there under its key, and each key is used once
    pub Stands : Map X → Rose X → Type 0
    Stands m (node k x ss) = (m k ≡ Some (record { what = x; kids = roots ss })) × (has_any ss k ≡ false) × StandAll m ss

    pub StandAll : Map X → Roses X → Type 0
    StandAll m none = Unit {0}
    StandAll m (gone ss) = StandAll m ss
    StandAll m (more s ss) = Apart (has s) (has_any ss) × Stands m s × StandAll m ss

  -- how many children there are or were
  abbrev pub width : Roses X → ℕ
  width none = 0
  width (gone ss) = suc (width ss)
  width (more s ss) = suc (width ss)

  -- the one child that there is, if there is no more than one
  abbrev pub alone : Roses X → Option (Rose X)
  alone none = None
  alone (gone ss) = alone ss
  alone (more s ss) = Some s
