-- Shapes whose nodes have the children that their forms have.
use Rattle.std.specs.Prelude.{◌≡◌}
use Rattle.pz_nodes_shapes.specs.Rose.{node, none, gone, more, width}
use Rattle.pz_tree_standing.specs.Heads.{Head, leaf, wait, parallel, select, abort, idle, handling, shifted, Shape, Shapes}

abbrev pub IsNoShift : Head → Type 0
IsNoShift (shifted s) = ⊥
IsNoShift h = Unit {0}

-- one child that is there and is no shift node
abbrev pub OneInside : Shapes → Type 0
OneInside (more (node k x ts) none) = IsNoShift x.head
OneInside ss = ⊥

-- as many places as the form has, of which any may be empty; two shifts, one under the other, are one
abbrev pub HasParts : Head → Shapes → Type 0
HasParts (leaf s) ss = width ss ≡ 0
HasParts (wait due at) ss = width ss ≡ 0
HasParts parallel ss = Unit {0}
HasParts select ss = Unit {0}
HasParts abort ss = width ss ≡ 2
HasParts (idle again s) ss = width ss ≡ 2
HasParts (handling again s) ss = width ss ≡ 2
HasParts (shifted s) ss = OneInside ss
HasParts h ss = width ss ≡ 1

abbrev mutual
  pub Whole : Shape → Type 0
  Whole (node k x ss) = HasParts x.head ss × AreWhole ss

  pub AreWhole : Shapes → Type 0
  AreWhole none = Unit {0}
  AreWhole (gone ss) = AreWhole ss
  AreWhole (more s ss) = Whole s × AreWhole ss
