use Rattle.std.proofs.Common.{◌≡◌, ◌+◌, refl, sym, subst, arith}
use Rattle.pz_nodes.specs.Arena.{find}
use Rattle.pz_rules.specs.Terms as terms
use Rattle.pz_tree_nodes.specs.declared.node.Head.TheVariants as kind
use Rattle.pz_tree_nodes.specs.Keeping.{IsKept}
use Rattle.pz_tree_nodes.proofs.Forming.{wait_forms}
use Rattle.pz_tree_nodes.proofs.Keeping.{wait_is_kept}
use Rattle.pz_tree_nodes.proofs.Rules.{none_under}
use Rattle.pz_tree_nodes.proofs.planting.plant_wait.Goals as goal

pub returns : goal.returns
returns g c =
    let clock = c.args.clock in
    let left = c.args.left in
    let due = c.saturating_add-due.result in
    none_under c.put.result (find c.args.nodes.now) (find c.put.new.nodes) clock c.args.steps.now c.put.new.steps (kind.Wait due c.args.pos) c.none.result c.wait_kept-kept.result
    (terms.wait left c.args.pos) (terms.wait left c.args.pos) c.put.ensures c.none.ensures refl
    (λ w.
    let e : due ≡ clock + left = omega (arith, w, c.saturating_add-due.ensures) in
    (wait_forms clock left due c.args.pos e, subst (IsKept clock (terms.wait left c.args.pos)) (sym c.wait_kept-kept.ensures) (wait_is_kept clock left due c.args.pos e)))
