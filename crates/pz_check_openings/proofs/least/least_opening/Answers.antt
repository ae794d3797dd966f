use Rattle.std.proofs.Common.{◌∙◌, ap, Option}
use Rattle.std.proofs.lemmas.Result.{IfOk-weaker}
use Rattle.pz_classes.specs.pz_check_violations.declared.violation.Violation.{Violation}
use Rattle.pz_classes.specs.CheckedView.{checked_model}
use Rattle.pz_check_openings.specs.Answers.{Tells}
use Rattle.pz_check_openings.specs.devices.Outlines.{outlines}
use Rattle.pz_check_openings.specs.devices.Settling.{value_of}
use Rattle.pz_check_openings.proofs.Telling.{told_settled, tell_round, tell_size}
use Rattle.pz_check_openings.proofs.least.least_opening.Goals as goal

pub returns-then-are_settled : goal.returns-then-are_settled
returns-then-are_settled c =
    told_settled (checked_model c.args.checked.now) c.in_ok-outlines.outlines c.as_slice-2.result.now (value_of c.in_ok-found.found.names c.as_slice-3.result.now) c.as_slice-2.ensures
    (c.in_ok-outlines.ensures ∙ ap outlines c.model.ensures.is) (c.are_settled.ensures c.if-are_settled.true)

pub least_round_of-requires : goal.least_round_of-requires
least_round_of-requires c = c.as_slice-4.ensures ∙ (c.in_ok-outlines.ensures ∙ ap outlines c.model.ensures.is)

pub returns-in-Some : goal.returns-in-Some
returns-in-Some c = tell_round (checked_model c.args.checked.now) c.in_ok-round.round c.in-Some.violation c.in_ok-round.ensures c.in-Some.is

pub least_size_of-requires : goal.least_size_of-requires
least_size_of-requires c = c.as_slice-in-None.ensures ∙ (c.in_ok-outlines.ensures ∙ ap outlines c.model.ensures.is)

pub returns : goal.returns
returns c =
    IfOk-weaker c.least_size_of.result _ (Tells (checked_model c.args.checked.now)) (λ (found : Option Violation) large. tell_size (checked_model c.args.checked.now) c.in_ok-round.round found c.in_ok-round.ensures c.in-None.is large) c.least_size_of.ensures
