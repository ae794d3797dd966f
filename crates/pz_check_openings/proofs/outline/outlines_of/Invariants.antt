use Rattle.std.proofs.Common.{◌≡◌, ◌++◌, map, drop}
use Rattle.std.specs.List.{flat_map}
use Rattle.pz_classes.specs.pz_syntax.ClassView.{decl_view, model_view}
use Rattle.pz_check_openings.specs.devices.Outlines.{declared_outlines, outlines}
use Rattle.pz_check_openings.proofs.outline.outlines_of.Given as goal

abbrev pub invariant-loop-decl : goal.invariant-loop-decl
invariant-loop-decl l = l.outlines ++ flat_map declared_outlines (map decl_view (drop l.decl-index l.model.decls)) ≡ outlines (model_view l.model)
