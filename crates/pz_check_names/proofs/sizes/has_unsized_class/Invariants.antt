use Rattle.std.proofs.Common.{◌≡◌, map, drop}
use Rattle.std.specs.List.{list_any}
use Rattle.pz_classes_code.specs.pz_syntax.ClassView.{decl_view, model_view}
use Rattle.pz_check_names.specs.devices.Unsized.{is_unsized_class, is_unsized_model}
use Rattle.pz_check_names.proofs.sizes.has_unsized_class.Given as goal

abbrev pub invariant-loop-decl : goal.invariant-loop-decl
invariant-loop-decl l = list_any (is_unsized_class (model_view l.model)) (map decl_view (drop l.decl-index l.decl-items)) ≡ is_unsized_model (model_view l.model)
