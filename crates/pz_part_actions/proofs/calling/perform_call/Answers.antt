use Rattle.std.proofs.Common.{◌∙◌, List, length, Err, ap, refl}
use Rattle.std.proofs.lemmas.Result.{IfOk-weaker}
use Rattle.pz_classes_code.specs.pz_syntax.Statements.{call}
use Rattle.pz_classes_code.specs.declared.slot.Slot.{Slot}
use Rattle.pz_classes_code.specs.CodeView.{list_view}
use Rattle.pz_classes_code.specs.StepView.{sequence_view}
use Rattle.pz_rules.specs.Terms.{leaf}
use Rattle.pz_rules.specs.InternalActions.{entered}
use Rattle.pz_part_queries.specs.pz_classes.CheckedView.{checked_model}
use Rattle.pz_term_around.specs.pz_part_opening.Homes.{home_view}
use Rattle.pz_part_actions.specs.devices.Standing.{seen_there}
use Rattle.pz_part_actions.proofs.Becomings.{home_is}
use Rattle.pz_part_actions.proofs.Openings.{answered, opening_answered}
use Rattle.pz_part_actions.proofs.Methods.{merely_callable, is_called}
use Rattle.pz_part_actions.proofs.Calls.{call_entered, call_troubled}
use Rattle.pz_part_actions.proofs.calling.perform_call.Goals as goal

pub find_method-called-requires : goal.find_method-called-requires
find_method-called-requires c =
    merely_callable c.args.here.now c.args.home.now.class c.args.pos c.args.method.now c.args.args.now c.args.results.now c.as_bytes-name.result.now (length c.args.args.now) c.len-outputs.result
    (c.as_bytes-name.ensures.value ∙ c.as_str.ensures) refl (c.len-outputs.ensures ∙ ap (λ (xs : List Slot). length xs) c.get.ensures) c.requires.fits

pub returns-in-Ok-clause-performs : goal.returns-in-Ok-clause-performs
returns-in-Ok-clause-performs c = λ known.
    IfOk-weaker c.enter.result _ _
    (λ left opens.
    opening_answered c.args.here.now c.args.pos
    (entered (home_view c.args.home.now) c.evaluate_all.new.state.held c.find_method-called.result.locals c.args.results.now (sequence_view c.find_method-called.result.steps.now) c.in-Ok.values) c.evaluate_all.new.state c.enter.new.state
    (seen_there c.args.here.now c.args.home.now c.args.state.now.held) c.args.frame.0 (leaf (call c.args.pos c.args.method.now (list_view c.args.args.now) c.args.results.now)) refl refl left
    (call_entered (seen_there c.args.here.now c.args.home.now c.args.state.now.held) c.args.frame.0 c.args.pos c.args.method.now (list_view c.args.args.now) c.args.results.now c.evaluate_all.new.state c.in_ok-values.field-0
    (c.in_ok-values.ensures.gives (checked_model c.args.home.now.checked.now) c.args.home.now.class.0 known) c.find_method-called.result.locals (sequence_view c.find_method-called.result.steps.now)
    (is_called (checked_model c.args.home.now.checked.now) c.args.home.now.class.0 c.args.method.now c.args.args.now c.args.results.now c.as_bytes-name.result.now (length c.args.args.now) c.len-outputs.result c.find_method-called.result.locals c.find_method-called.result.steps.now
    (c.as_bytes-name.ensures.value ∙ c.as_str.ensures) refl (c.len-outputs.ensures ∙ ap (λ (xs : List Slot). length xs) c.get.ensures) (c.find_method-called.ensures (checked_model c.args.home.now.checked.now) known))
    (home_view c.args.home.now) (home_is c.args.here.now c.args.home.now c.args.state.now.held c.requires.edition) c.in-Ok.values c.in-Ok.is) opens)
    c.enter.ensures.opens

pub returns-in-Err-clause-performs : goal.returns-in-Err-clause-performs
returns-in-Err-clause-performs c = λ known.
    answered (seen_there c.args.here.now c.args.home.now c.args.state.now.held) c.args.frame.0 (leaf (call c.args.pos c.args.method.now (list_view c.args.args.now) c.args.results.now)) c.args.pos (Err c.in-Err.trouble)
    (call_troubled (seen_there c.args.here.now c.args.home.now c.args.state.now.held) c.args.frame.0 c.args.pos c.args.method.now (list_view c.args.args.now) c.args.results.now c.evaluate_all.new.state c.in_ok-values.field-0
    (c.in_ok-values.ensures.gives (checked_model c.args.home.now.checked.now) c.args.home.now.class.0 known) c.find_method-called.result.locals (sequence_view c.find_method-called.result.steps.now)
    (is_called (checked_model c.args.home.now.checked.now) c.args.home.now.class.0 c.args.method.now c.args.args.now c.args.results.now c.as_bytes-name.result.now (length c.args.args.now) c.len-outputs.result c.find_method-called.result.locals c.find_method-called.result.steps.now
    (c.as_bytes-name.ensures.value ∙ c.as_str.ensures) refl (c.len-outputs.ensures ∙ ap (λ (xs : List Slot). length xs) c.get.ensures) (c.find_method-called.ensures (checked_model c.args.home.now.checked.now) known))
    c.in-Err.trouble c.in-Err.is)
