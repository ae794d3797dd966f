use Rattle.std.proofs.Common.{refl, sym, subst}
use Rattle.pz_classes_code.specs.StepView as step
use Rattle.pz_nodes.specs.Arena.{find}
use Rattle.pz_rules.specs.Terms as terms
use Rattle.pz_tree_nodes.specs.declared.node.Head.TheVariants as kind
use Rattle.pz_tree_nodes.specs.Keeping.{IsKept}
use Rattle.pz_tree_nodes.proofs.Forming.{leaf_forms}
use Rattle.pz_tree_nodes.proofs.Keeping.{leaf_is_kept}
use Rattle.pz_tree_nodes.proofs.Rules.{none_under}
use Rattle.pz_tree_nodes.proofs.planting.plant_leaf.Goals as goal

pub returns : goal.returns
returns g c clock =
    let s = step.view c.args.step in
    none_under c.put.result (find c.args.nodes.now) (find c.put.new.nodes) clock c.args.steps.now c.put.new.steps (kind.Leaf c.args.step) c.none.result c.leaf_kept-kept.result
    (terms.leaf s) (terms.leaf s) c.put.ensures c.none.ensures refl
    (λ w. (leaf_forms clock s, subst (IsKept clock (terms.leaf s)) (sym c.leaf_kept-kept.ensures) (leaf_is_kept clock s)))
