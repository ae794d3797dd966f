-- What is so of shapes when nodes are changed, whatever a node holds.
use Rattle.std.specs.Prelude.{◌≡◌, ◌<◌, ◌≤◌, ℕ, Bool, true, Option, Some, None}
use Rattle.pz_nodes.specs.Arena.{Arena, find, live}
use Rattle.pz_nodes_shapes.specs.declared.node.Node.{Node}
use Rattle.pz_nodes_shapes.specs.Rose.{Rose, Roses, node, Map, root, roots, pick, with_kid, width, present, alone, size, has, has_option, Stands}
use Rattle.pz_nodes_shapes.specs.Change.{Change, no_key, OnlyAt, Holds, Becomes, BecomesOption}
use Rattle.pz_nodes_shapes.specs.Reading.{read, depth}
use Rattle.pz_nodes_shapes.specs.Dropping.{DropRule}
use Rattle.pz_nodes_shapes.specs.Seen.{seen, seen_shape}

module _ (X : Type 0) where
  -- ------------------------------------------------------------ a node in hand

  -- a node that stands may be taken in hand, and then the parts below it stand
  abbrev pub TakenInHand : Type 0
  TakenInHand =
      (m : Map X) (k : ℕ) (x : X) (ss : Roses X)
      → Stands m (node k x ss)
      → Holds m m (has (node k x ss)) k ss

  -- it stays in hand when a child becomes another or is gone,
  abbrev pub ChildReplaced : Type 0
  ChildReplaced =
      (m0 m n : Map X) (old : ℕ → Bool) (k : ℕ) (ss : Roses X) (i : ℕ) (x : Option (Rose X))
      → i < width ss
      → Holds m0 m old k ss
      → BecomesOption m n (has_option (pick ss i)) x
      → Holds m0 n old k (with_kid ss i x)

  -- and when something is written under its own key
  abbrev pub Touched : Type 0
  Touched =
      (m0 m n : Map X) (old : ℕ → Bool) (k : ℕ) (ss : Roses X)
      → Holds m0 m old k ss
      → OnlyAt m n k
      → (n k ≡ None → ⊥)
      → Holds m0 n old k ss

  -- put back, it stands over what is below
  abbrev pub PutBack : Type 0
  PutBack =
      (m0 m n : Map X) (old : ℕ → Bool) (k : ℕ) (y : X) (ss : Roses X)
      → Holds m0 m old k ss
      → n k ≡ Some (record { what = y; kids = roots ss })
      → OnlyAt m n k
      → Becomes m0 n old (node k y ss)

  -- taken away, it leaves the one child that there is, if there is one
  abbrev pub TakenAway : Type 0
  TakenAway =
      (m0 m n : Map X) (old : ℕ → Bool) (k : ℕ) (ss : Roses X) (x : Option (Rose X))
      → Holds m0 m old k ss
      → n k ≡ None
      → OnlyAt m n k
      → present ss ≤ 1
      → alone ss ≡ x
      → BecomesOption m0 n old x

  -- ------------------------------------------------------------ one change after another

  abbrev pub ChangesCompose : Type 0
  ChangesCompose = (m n p : Map X) (f g h : ℕ → Bool) → Change m n f g → Change n p g h → Change m p f h

  -- nothing was left, and then something is made
  abbrev pub MadeAnew : Type 0
  MadeAnew =
      (m n p : Map X) (f : ℕ → Bool) (x : Option (Rose X))
      → Change m n f no_key
      → BecomesOption n p no_key x
      → BecomesOption m p f x

  -- what stands is decided by what is under its keys, and nothing else
  abbrev pub StandsByItsKeys : Type 0
  StandsByItsKeys =
      (m n : Map X) (s : Rose X)
      → ((k : ℕ) → has s k ≡ true → n k ≡ m k)
      → Stands m s
      → Stands n s

  abbrev pub KeysAreUsed : Type 0
  KeysAreUsed = (m : Map X) (s : Rose X) → Stands m s → (k : ℕ) → has s k ≡ true → m k ≡ None → ⊥

  -- ------------------------------------------------------------ reading

  -- what stands under a key is read there, by fuel for its depth
  abbrev pub IsRead : Type 0
  IsRead = (m : Map X) (fuel : ℕ) (s : Rose X) → Stands m s → depth s ≤ fuel → read fuel m (root s) ≡ Some s

  abbrev pub IsNoDeeper : Type 0
  IsNoDeeper = (s : Rose X) → depth s ≤ size s

  -- no more nodes stand than there are
  abbrev pub IsNoLarger : Type 0
  IsNoLarger = (a : Arena (Node X)) (s : Rose X) → Stands (find a) s → size s ≤ live a

module _ (X Y : Type 0) where
  -- ------------------------------------------------------------ nodes seen as something else

  -- what stands of nodes so seen is the shape of nodes that stand
  abbrev pub StandsSeen : Type 0
  StandsSeen =
      (v : X → Y) (m : Map X) (s : Rose Y)
      → Stands (seen v m) s
      → (t : Rose X) × Stands m t × (seen_shape v t ≡ s)

  abbrev pub ChangeSeen : Type 0
  ChangeSeen = (v : X → Y) (m n : Map X) (f g : ℕ → Bool) → Change m n f g → Change (seen v m) (seen v n) f g

  abbrev pub DropSeen : Type 0
  DropSeen =
      (v : X → Y) (m n : Map X) (key old new : ℕ)
      → DropRule m n key old new
      → DropRule (seen v m) (seen v n) key old new
