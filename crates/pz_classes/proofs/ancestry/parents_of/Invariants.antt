use Rattle.std.proofs.Common.{◌≡◌, None, ◌∷◌, map, take}
use Rattle.pz_classes_code.specs.pz_syntax.ClassView.{decl_view, model_view}
use Rattle.pz_classes_rules.specs.Ancestors.{parent_of}
use Rattle.pz_classes.proofs.ancestry.parents_of.Given as goal

abbrev pub invariant-loop-decl : goal.invariant-loop-decl
invariant-loop-decl l = l.parents.items ≡ None ∷ map (λ d. parent_of (model_view l.model) (decl_view d)) (take l.decl-index l.decl-items)
