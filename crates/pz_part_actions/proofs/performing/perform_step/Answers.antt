use Rattle.std.proofs.Common.{Ok, sym, ap, ◌∙◌}
use Rattle.pz_classes_code.specs.declared.code.Code.{Code}
use Rattle.pz_classes_code.specs.CodeView as code
use Rattle.pz_classes_code.specs.StepView.{view, sequence_view}
use Rattle.pz_classes_code.specs.pz_syntax.Statements.{conditional}
use Rattle.pz_rules.specs.declared.term.Term.TheVariants.{Done}
use Rattle.pz_rules.specs.Terms.{leaf}
use Rattle.pz_part_actions.specs.Becoming.{process_left}
use Rattle.pz_part_actions.specs.devices.Standing.{seen_there}
use Rattle.pz_part_actions.specs.devices.Parts.{otherwise_view}
use Rattle.pz_part_actions.proofs.Openings.{answered}
use Rattle.pz_part_actions.proofs.Forms.{is_skip, is_delay, is_if}
use Rattle.pz_part_actions.proofs.Performed.{skip_performed, delay_performed, by_step}
use Rattle.pz_part_actions.proofs.performing.perform_step.Goals as goal

pub returns-in-Skip-clause-performs : goal.returns-in-Skip-clause-performs
returns-in-Skip-clause-performs c = λ known.
    answered (seen_there c.args.here.now c.args.home.now c.args.state.now.held) c.args.frame.0 (leaf (view c.args.step.now)) c.args.step.now.pos (process_left c.args.state.now.held (Ok Done))
    (skip_performed (seen_there c.args.here.now c.args.home.now c.args.state.now.held) c.args.frame.0 c.args.step.now.pos (view c.args.step.now) (is_skip c.args.step.now (sym c.get.ensures ∙ c.in-Skip.is)))

pub returns-in-Delay-clause-performs : goal.returns-in-Delay-clause-performs
returns-in-Delay-clause-performs c = λ known.
    answered (seen_there c.args.here.now c.args.home.now c.args.state.now.held) c.args.frame.0 (leaf (view c.args.step.now)) c.args.step.now.pos (process_left c.args.state.now.held (Ok Done))
    (delay_performed (seen_there c.args.here.now c.args.home.now c.args.state.now.held) c.args.frame.0 c.args.step.now.pos (view c.args.step.now) (code.view c.in-Delay.field-0) (is_delay c.args.step.now c.in-Delay.field-0 (sym c.get.ensures ∙ c.in-Delay.is)))

pub returns-in-If-clause-performs : goal.returns-in-If-clause-performs
returns-in-If-clause-performs c = λ known.
    by_step (seen_there c.args.here.now c.args.home.now c.args.state.now.held) c.args.frame.0 c.args.step.now.pos c.perform_if.result c.perform_if.new.state.held (view c.args.step.now)
    (conditional c.args.step.now.pos (code.view c.get-in-If.result.now) (sequence_view c.in-If.steps) (otherwise_view c.in-If.other))
    (is_if c.args.step.now c.in-If.test c.in-If.steps c.in-If.other (sym c.get.ensures ∙ c.in-If.is) ∙ ap (λ (test : Code). conditional c.args.step.now.pos (code.view test) (sequence_view c.in-If.steps) (otherwise_view c.in-If.other)) (sym c.get-in-If.ensures))
    (c.perform_if.ensures.performs known)
