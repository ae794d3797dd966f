use Rattle.std.proofs.Common.{◌≡◌, drop}
use Rattle.std.specs.List.{list_any, flat_map}
use Rattle.pz_syntax.specs.ClassView.{decl_view, model_view}
use Rattle.std.proofs.Common.{map}
use Rattle.pz_classes.specs.pz_classes_rules.SizeRules.{system_of, system_size}
use Rattle.pz_env.specs.devices.Counting.{is_above}
use Rattle.pz_env.proofs.room.has_large_system.Given as goal

abbrev pub invariant-loop-decl : goal.invariant-loop-decl
invariant-loop-decl l =
    list_any (λ s. is_above (system_size (model_view l.model) s)) (flat_map system_of (map decl_view (drop l.decl-index l.model.decls)))
    ≡ list_any (λ s. is_above (system_size (model_view l.model) s)) (flat_map system_of (map decl_view l.model.decls))
