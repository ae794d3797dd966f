use Rattle.std.proofs.Common.{◌∙◌, ℕ, Option, sym, ap}
use Rattle.pz_classes_code.specs.StepView.{view}
use Rattle.pz_term_time.specs.devices.Begun.{begun_with}
use Rattle.pz_term_time.proofs.Left.{shows_Leaf}
use Rattle.pz_term_time.proofs.passing.pass_step.Goals as goal

pub returns-in-Some-clause-passed : goal.returns-in-Some-clause-passed
returns-in-Some-clause-passed c = λ m class known.
    c.go_on.ensures ∙ ap (λ (o : Option ℕ). begun_with c.args.time c.args.step.pos (view c.args.step) o) (sym c.in-Some.is) ∙ c.in_ok-left.ensures.left m class c.args.time known

pub returns-in-None-clause-passed : goal.returns-in-None-clause-passed
returns-in-None-clause-passed c = λ m class known.
    shows_Leaf c.args.step ∙ ap (λ (o : Option ℕ). begun_with c.args.time c.args.step.pos (view c.args.step) o) (sym c.in-None.is) ∙ c.in_ok-left.ensures.left m class c.args.time known
