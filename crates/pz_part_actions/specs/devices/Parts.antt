-- Statements that may be left out, in the code's words.
use Rattle.std.specs.Prelude.{ℕ, List, map, Option, option_map}
use Rattle.pz_classes_code.specs.pz_syntax.Statements.{StatementPart}
use Rattle.pz_classes_code.specs.pz_value.declared.value.ClassId.{ClassId}
use Rattle.pz_classes_code.specs.declared.slot.Slot.{Slot}
use Rattle.pz_classes_code.specs.declared.step.Step.{Step}
use Rattle.pz_classes_code.specs.StepView.{view, otherwise_of}

abbrev pub otherwise_view : Option (List Step) → StatementPart Slot ClassId ℕ
otherwise_view part = otherwise_of (option_map (map view) part)
