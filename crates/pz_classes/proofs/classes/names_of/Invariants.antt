use Rattle.std.proofs.Common.{◌≡◌, ◌∷◌, codes, map, take}
use Rattle.pz_classes_code.specs.pz_syntax.ClassView.{decl_view}
use Rattle.pz_classes_rules.specs.Numbers.{spelling}
use Rattle.pz_classes.proofs.classes.names_of.Given as goal

abbrev pub invariant-loop-decl : goal.invariant-loop-decl
invariant-loop-decl l = l.names ≡ codes "Array" ∷ map spelling (map decl_view (take l.decl-index l.decl-items))
