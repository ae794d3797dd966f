use Rattle.std.proofs.Common.{◌≡◌, map, take}
use Rattle.pz_classes.specs.pz_syntax.ClassView.{data_method_view}
use Rattle.pz_classes.specs.pz_classes_rules.RepeatRules.{data_heading}
use Rattle.pz_check_duplicates.specs.devices.Headings.{heading_of}
use Rattle.pz_check_duplicates.proofs.methods.data_things.Given as goal

abbrev pub invariant-loop-method : goal.invariant-loop-method
invariant-loop-method l = map heading_of l.things ≡ map data_heading (map data_method_view (take l.method-index l.methods))
