-- The same nodes, where what each holds is seen as something else.
use Rattle.std.specs.Prelude.{option_map}
use Rattle.pz_nodes_shapes.specs.declared.node.Node.{Node}
use Rattle.pz_nodes_shapes.specs.Rose.{Rose, Roses, node, none, gone, more, Map}

module _ {X Y : Type 0} where
  abbrev pub seen_node : (X → Y) → Node X → Node Y
  seen_node v n = record { what = v n.what; kids = n.kids }

  abbrev pub seen : (X → Y) → Map X → Map Y
  seen v m k = option_map (seen_node v) (m k)

  abbrev mutual
    pub seen_shape : (X → Y) → Rose X → Rose Y
    seen_shape v (node k x ss) = node k (v x) (seen_shapes v ss)

    pub seen_shapes : (X → Y) → Roses X → Roses Y
    seen_shapes v none = none
    seen_shapes v (gone ss) = gone (seen_shapes v ss)
    seen_shapes v (more s ss) = more (seen_shape v s) (seen_shapes v ss)
