use Rattle.std.proofs.Common.{◌≡◌, map, take}
use Rattle.pz_classes.specs.pz_syntax.ClassView.{process_method_view}
use Rattle.pz_classes.specs.pz_classes_rules.RepeatRules.{process_heading}
use Rattle.pz_check_duplicates.specs.devices.Headings.{heading_of}
use Rattle.pz_check_duplicates.proofs.methods.process_things.Given as goal

abbrev pub invariant-loop-method : goal.invariant-loop-method
invariant-loop-method l = map heading_of l.things ≡ map process_heading (map process_method_view (take l.method-index l.methods))
