use Rattle.std.proofs.Common.{◌≡◌, sym, subst, ap, ◌∙◌, None}
use Rattle.std.specs.List.{flat_map}
use Rattle.std.proofs.lemmas.Result.{IfOk-weaker}
use Rattle.pz_classes.specs.pz_syntax.declared.clusters.Decl.{Decl}
use Rattle.pz_classes.specs.pz_syntax.ClassView.{decl_view, model_view}
use Rattle.pz_check_violations.specs.Least.{LeastOf, least_from}
use Rattle.pz_classes.specs.pz_classes_rules.RepeatRules.{BreaksC4}
use Rattle.pz_check_duplicates.specs.declared.inherited.Inherited.TheVariants.{Fields, Variables, Ports}
use Rattle.pz_check_duplicates.specs.devices.RepeatList.{of_own, of_visits, all_repeats}
use Rattle.pz_check_duplicates.proofs.Steps.{flat_view, searched}
use Rattle.pz_check_duplicates.proofs.RepeatsFound.{least_found}
use Rattle.pz_check_duplicates.proofs.repeats.least_repeat.Goals as goal

pub least_of_each-requires : goal.least_of_each-requires
least_of_each-requires c = rw c.as_slice.ensures c.requires.few

pub returns : goal.returns
returns c =
    let m = model_view c.args.model.now in
    let visits = c.preorder-visits.result.now in
    let each : flat_map (λ (d : Decl). of_own (decl_view d)) c.as_slice.result.now ≡ flat_map of_own m.decls
    = ap (flat_map (λ (d : Decl). of_own (decl_view d))) c.as_slice.ensures ∙ sym (flat_view decl_view of_own c.args.model.now.decls) in
    let all : least_from c.in_ok-port.port (flat_map (λ (d : Decl). of_own (decl_view d)) c.as_slice.result.now) ≡ least_from None (all_repeats m visits)
    = ap (least_from c.in_ok-port.port) each
    ∙ searched (of_visits m Fields visits) (of_visits m Variables visits) (of_visits m Ports visits) (flat_map of_own m.decls) None c.in_ok-field.field c.in_ok-variable.variable c.in_ok-port.port
    c.in_ok-field.ensures c.in_ok-variable.ensures c.in_ok-port.ensures in
    let found : LeastOf (BreaksC4 m) (least_from None (all_repeats m visits)) = least_found m visits (c.preorder-visits.ensures.preorder m c.requires.classes) in
    IfOk-weaker c.least_of_each.result _ (LeastOf (BreaksC4 m)) (λ least is. subst (LeastOf (BreaksC4 m)) (sym (is ∙ all)) found) c.least_of_each.ensures
