use Rattle.std.proofs.Common.{◌≡◌, drop}
use Rattle.pz_rules.specs.Leaving.{all_done}
use Rattle.pz_rules.specs.View.{terms_view}
use Rattle.pz_part_opening.proofs.done.all_done.Given as goal

abbrev pub invariant-loop-part : goal.invariant-loop-part
invariant-loop-part l = all_done (terms_view (drop l.part-index l.parts)) ≡ all_done (terms_view l.parts)
