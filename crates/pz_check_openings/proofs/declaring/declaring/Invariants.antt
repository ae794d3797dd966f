use Rattle.pz_classes.specs.pz_syntax.ClassView.{model_view}
use Rattle.pz_check_openings.proofs.Marks.{AreSoFar}
use Rattle.pz_check_openings.proofs.declaring.declaring.Given as goal

abbrev pub invariant-loop-decl : goal.invariant-loop-decl
invariant-loop-decl l = AreSoFar (model_view l.model) l.methods l.marks.items l.decl-index l.first
