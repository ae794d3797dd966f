-- What stands under a key, read no deeper than the fuel.
use Rattle.std.specs.Prelude.{ℕ, zero, suc, max, List, [], ◌∷◌, Option, Some, None}
use Rattle.pz_nodes_shapes.specs.declared.node.Node.{Node}
use Rattle.pz_nodes_shapes.specs.Rose.{Rose, Roses, node, none, gone, more, Map, joined}

module _ {X : Type 0} where
  abbrev pub read_kids : (ℕ → Option (Rose X)) → List (Option ℕ) → Roses X
  read_kids f [] = none
  read_kids f (None ∷ ks) = gone (read_kids f ks)
  read_kids f (Some k ∷ ks) = joined (f k) (read_kids f ks)

  abbrev pub read_node : (ℕ → Option (Rose X)) → ℕ → Option (Node X) → Option (Rose X)
  read_node f k None = None
  read_node f k (Some n) = Some (node k n.what (read_kids f n.kids))

  abbrev pub read : ℕ → Map X → ℕ → Option (Rose X)
  read zero m k = None
  read (suc fuel) m k = read_node (read fuel m) k (m k)

  abbrev mutual
    -- how many nodes one below the other
    pub depth : Rose X → ℕ
    depth (node k x ss) = suc (depths ss)

    pub depths : Roses X → ℕ
    depths none = 0
    depths (gone ss) = depths ss
    depths (more s ss) = max (depth s) (depths ss)
