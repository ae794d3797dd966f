use Rattle.std.proofs.Common.{◌≡◌, None, ◌∷◌, map, refl, arith}
use Rattle.std.proofs.lemmas.Grind.{common_steps}
use Rattle.pz_classes_code.specs.pz_syntax.ClassView.{decl_view, model_view}
use Rattle.pz_classes_rules.specs.Ancestors.{parent_of}
use Rattle.pz_classes.proofs.Lines.{parents_are}
use Rattle.pz_classes.proofs.ancestry.parents_of.Goals as goal

pub returns-clause-each : goal.returns-clause-each
returns-clause-each c =
    let all : c.loop-decl.parents.items ≡ None ∷ map (λ d. parent_of (model_view c.args.model.now) (decl_view d)) c.args.model.now.decls = grind (arith, common_steps) in
    parents_are (model_view c.args.model.now) c.args.model.now.decls c.loop-decl.parents.items refl all
