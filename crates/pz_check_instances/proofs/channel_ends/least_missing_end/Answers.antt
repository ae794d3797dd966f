use Rattle.std.proofs.Common.{◌≡◌, ◌∙◌, sym, ap, subst, ◌≤◌, List, Option, None, Some, slice_get, get_or, length, map, arith}
use Rattle.std.specs.List.{flat_map}
use Rattle.std.proofs.lemmas.Grind.{common_steps}
use Rattle.std.proofs.lemmas.List.{length-map}
use Rattle.std.proofs.lemmas.Option.{slice_get-get_or, get_or_from_slice_get}
use Rattle.pz_classes_code.specs.pz_syntax.ClassView.{decl_view, model_view}
use Rattle.pz_classes_lineage.specs.declared.visit.Visit.{Visit}
use Rattle.pz_classes.specs.pz_check_violations.declared.violation.Violation.{Violation}
use Rattle.pz_classes.specs.pz_check_violations.Least.{LeastOf, least_from}
use Rattle.pz_classes.proofs.pz_check_violations_proofs.Leasts.{least_from_append}
use Rattle.pz_classes.specs.pz_classes_rules.Members.{spelled, own_ports}
use Rattle.pz_classes.specs.pz_classes_rules.ChannelRules.{BreaksC16}
use Rattle.pz_check_instances.specs.declared.channel_ends.Asked.{Asked}
use Rattle.pz_check_instances.specs.devices.Ends.{over, missing_at, absent_in, missing_ends}
use Rattle.pz_check_instances.specs.devices.Search.{wanted}
use Rattle.pz_check_instances.proofs.Line.{line_after, scopes_of}
use Rattle.pz_check_instances.proofs.Numbered.{visit_within}
use Rattle.pz_check_instances.proofs.Steps.{least_step}
use Rattle.pz_check_instances.proofs.WalkSteps.{opened_next, names_at, absent_here}
use Rattle.pz_check_instances.proofs.EndsFound as found
use Rattle.pz_check_instances.proofs.channel_ends.least_missing_end.Goals as goal

pub loop-visit-init : goal.loop-visit-init
loop-visit-init c =
    let m = model_view c.args.model.now in
    let visits = c.preorder-visit-items.result.now in
    let later = flat_map (λ (w : Visit). absent_in m w.class) visits in
    record {
      opened = c.new-opened.ensures;
      found = ap (λ (l : Option Violation). least_from l later) c.in_ok-found.ensures.least ∙ sym (least_from_append None (over (missing_at m) 1 m.decls) later);
    }

pub of-requires : goal.of-requires
of-requires c =
    let m = model_view c.args.model.now in
    let visits = c.preorder-visit-items.result.now in
    let i = c.loop-visit.visit-index in
    let v : Visit = get_or visits i (record { class = 0; depth = 0 }) in
    let at : slice_get visits i ≡ Some v = slice_get-get_or visits i (record { class = 0; depth = 0 }) c.loop-visit-test.true in
    let within : v.class ≤ length m.decls = visit_within m visits i v (c.preorder-visit-items.ensures.preorder m c.requires.classes) at in
    omega (arith, within, c.in_ok-found.ensures.counted, length-map c.args.model.now.decls decl_view)

pub loop-visit-preserved : goal.loop-visit-preserved
loop-visit-preserved c =
    let m = model_view c.args.model.now in
    let visits = c.preorder-visit-items.result.now in
    let i = c.loop-visit.visit-index in
    let v : Visit = get_or visits i (record { class = 0; depth = 0 }) in
    let at : slice_get visits i ≡ Some v = slice_get-get_or visits i (record { class = 0; depth = 0 }) c.loop-visit-test.true in
    let here : v ≡ get_or visits i v = sym (get_or_from_slice_get visits i v v at) in
    let scopes = scopes_of m own_ports (line_after m visits i) in
    let opens = opened_next m own_ports visits i _ v _ c.add_ids.new.self
    (c.preorder-visit-items.ensures.preorder m c.requires.classes) at (omega arith) (ap spelled c.ports_at.ensures)
    (c.in_ok-add_ids.ensures _ _ (c.in_ok-enter.ensures scopes c.loop-visit.invariant.opened)) in
    let names = names_at m own_ports visits i _ v _ at (omega arith) (c.names.ensures _ opens) in
    let asked = ap (λ (list : List Asked). map wanted list) c.of.ensures ∙ c.in_ok-found.ensures.asked v.class in
    record {
      opened = opens;
      found = least_step (λ (w : Visit). absent_in m w.class) visits v i _ _ _ _ c.loop-visit-test.true here (omega arith)
          (c.least_of_class-least.ensures ∙ ap (λ (vs : List Violation). least_from c.loop-visit.least vs) (absent_here m v.class _ c.of.result.now names asked))
          c.loop-visit.invariant.found;
    }

pub returns : goal.returns
returns c =
    let m = model_view c.args.model.now in
    let visits = c.preorder-visit-items.result.now in
    let all : c.loop-visit.least ≡ least_from None (missing_ends m visits) = grind (arith, common_steps, c.loop-visit.invariant.found) in
    subst (LeastOf (BreaksC16 m)) (sym all) (found.least_missing_end m visits (c.preorder-visit-items.ensures.preorder m c.requires.classes))
