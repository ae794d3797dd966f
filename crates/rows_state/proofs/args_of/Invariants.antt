use Rattle.std.proofs.Common.{All}
use Rattle.pz_copy.specs.pz_state.References.{RefersWithin}
use Rattle.rows_state.proofs.args_of.Given as goal

abbrev pub invariant-loop-word : goal.invariant-loop-word
invariant-loop-word l = All (RefersWithin l.objects) l.args.items
