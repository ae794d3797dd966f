use Rattle.std.proofs.Common.{◌≡◌, map, take}
use Rattle.std.specs.List.{flat_map}
use Rattle.pz_classes.specs.pz_syntax.ClassView.{decl_view}
use Rattle.pz_classes.specs.pz_classes_rules.SizeRules.{system_of}
use Rattle.pz_check_duplicates.specs.devices.Again.{thing_place}
use Rattle.pz_check_duplicates.specs.devices.Systems.{system_place}
use Rattle.pz_check_duplicates.proofs.systems.system_things.Given as goal

abbrev pub invariant-loop-decl : goal.invariant-loop-decl
invariant-loop-decl l = map thing_place l.things ≡ map system_place (flat_map system_of (map decl_view (take l.decl-index l.decl-items)))
