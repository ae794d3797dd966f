use Rattle.std.proofs.Common.{◌≡◌, ◌++◌, map, drop}
use Rattle.pz_classes.specs.pz_syntax.ClassView.{decl_view, model_view}
use Rattle.pz_check_size.specs.devices.Nodes.{node_of, nodes}
use Rattle.pz_check_size.proofs.nodes.nodes_of.Given as goal

abbrev pub invariant-loop-decl : goal.invariant-loop-decl
invariant-loop-decl l = l.nodes ++ map (node_of (model_view l.model)) (map decl_view (drop l.decl-index l.decl-items)) ≡ nodes (model_view l.model)
