use Rattle.std.proofs.Common.{◌≡◌, drop}
use Rattle.std.specs.List.{list_any}
use Rattle.pz_classes_code.specs.pz_syntax.ClassView.{model_view}
use Rattle.pz_check_names.specs.devices.Unsized.{is_unsized_part}
use Rattle.pz_check_names.proofs.sizes.has_unsized_part.Given as goal

abbrev pub invariant-loop-part : goal.invariant-loop-part
invariant-loop-part l = list_any (is_unsized_part (model_view l.model)) (drop l.part-index l.parts) ≡ list_any (is_unsized_part (model_view l.model)) l.parts
