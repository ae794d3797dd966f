use Rattle.pz_classes_code.specs.pz_syntax.ClassView.{model_view}
use Rattle.pz_classes.specs.devices.Fronts.{IsLineTo}
use Rattle.pz_classes.proofs.line.follow.Given as goal

abbrev pub invariant-loop-step : goal.invariant-loop-step
invariant-loop-step l = IsLineTo (model_view l.model) l.first l.line.own l.line.ends.items l.last
