use Rattle.pz_syntax.specs.ClassView.{decl_view, model_view}
use Rattle.pz_env.specs.devices.Counting.{size_of, steps_of, IsLeft}
use Rattle.pz_env.proofs.room.is_large.Given as goal

abbrev pub invariant-loop-counting : goal.invariant-loop-counting
invariant-loop-counting l = IsLeft (model_view l.model) (size_of (model_view l.model) (decl_view l.decl)) l.counting

abbrev pub decreases-loop-counting : goal.decreases-loop-counting
decreases-loop-counting l = steps_of (model_view l.model) l.counting.left.items
