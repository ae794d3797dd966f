use Rattle.std.proofs.Common.{◌≡◌, ◌∙◌, sym, ap, subst, ◌≤◌, List, Bor, None, Some, slice_get, get_or, length, map, arith}
use Rattle.std.proofs.lemmas.Grind.{common_steps}
use Rattle.std.proofs.lemmas.List.{length-map}
use Rattle.std.proofs.lemmas.Option.{slice_get-get_or, get_or_from_slice_get}
use Rattle.pz_classes_code.specs.pz_syntax.declared.clusters.Instance.{Instance}
use Rattle.pz_classes_code.specs.pz_syntax.ClassView.{decl_view, model_view}
use Rattle.pz_classes_lineage.specs.declared.visit.Visit.{Visit}
use Rattle.pz_classes.specs.pz_check_violations.declared.violation.Violation.{Violation}
use Rattle.pz_classes.specs.pz_check_violations.Least.{LeastOf, least_from}
use Rattle.pz_classes.specs.pz_classes_rules.Members.{spelled}
use Rattle.pz_classes.specs.pz_classes_rules.Instances.{own_parameters}
use Rattle.pz_classes.specs.pz_classes_rules.InstanceRules.{BreaksC14}
use Rattle.pz_check_instances.specs.devices.Given.{ill_given_in, all_given}
use Rattle.pz_check_instances.proofs.Line.{line_after, scopes_of}
use Rattle.pz_check_instances.proofs.Numbered.{visit_within}
use Rattle.pz_check_instances.proofs.Steps.{least_step}
use Rattle.pz_check_instances.proofs.WalkSteps.{opened_next, names_at, ill_here}
use Rattle.pz_check_instances.proofs.GivenFound as found
use Rattle.pz_check_instances.proofs.given.least_ill_given.Goals as goal

pub of-requires : goal.of-requires
of-requires c =
    let m = model_view c.args.model.now in
    let visits = c.preorder-visit-items.result.now in
    let i = c.loop-visit.visit-index in
    let v : Visit = get_or visits i (record { class = 0; depth = 0 }) in
    let at : slice_get visits i ≡ Some v = slice_get-get_or visits i (record { class = 0; depth = 0 }) c.loop-visit-test.true in
    let within : v.class ≤ length m.decls = visit_within m visits i v (c.preorder-visit-items.ensures.preorder m c.requires) at in
    omega (arith, within, c.in_ok-instances.ensures.counted, length-map c.args.model.now.decls decl_view)

pub loop-visit-preserved : goal.loop-visit-preserved
loop-visit-preserved c =
    let m = model_view c.args.model.now in
    let visits = c.preorder-visit-items.result.now in
    let i = c.loop-visit.visit-index in
    let v : Visit = get_or visits i (record { class = 0; depth = 0 }) in
    let at : slice_get visits i ≡ Some v = slice_get-get_or visits i (record { class = 0; depth = 0 }) c.loop-visit-test.true in
    let here : v ≡ get_or visits i v = sym (get_or_from_slice_get visits i v v at) in
    let scopes = scopes_of m own_parameters (line_after m visits i) in
    let opens = opened_next m own_parameters visits i _ v _ c.add_groups.new.self
    (c.preorder-visit-items.ensures.preorder m c.requires) at (omega arith) (ap spelled c.parameters_at.ensures)
    (c.in_ok-add_groups.ensures _ _ (c.in_ok-enter.ensures scopes c.loop-visit.invariant.opened)) in
    let names = names_at m own_parameters visits i _ v _ at (omega arith) (c.names.ensures _ opens) in
    let listed = ap (λ (is : List (Bor Instance)). map (λ (i : Bor Instance). i.now) is) c.of.ensures ∙ c.in_ok-instances.ensures.listed v.class in
    record {
      opened = opens;
      found = least_step (λ (w : Visit). ill_given_in m w.class) visits v i _ _ _ _ c.loop-visit-test.true here (omega arith)
          (c.in_ok-least.ensures ∙ ap (λ (vs : List Violation). least_from c.loop-visit.least vs) (ill_here m v.class _ c.of.result.now names listed))
          c.loop-visit.invariant.found;
    }

pub returns : goal.returns
returns c =
    let m = model_view c.args.model.now in
    let visits = c.preorder-visit-items.result.now in
    let all : c.loop-visit.least ≡ least_from None (all_given m visits) = grind (arith, common_steps, c.loop-visit.invariant.found) in
    subst (LeastOf (BreaksC14 m)) (sym all) (found.least_ill_given m visits (c.preorder-visit-items.ensures.preorder m c.requires))
