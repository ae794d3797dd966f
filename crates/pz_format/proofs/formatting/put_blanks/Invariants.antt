use Rattle.std.proofs.Common.{◌≡◌, ◌++◌}
use Rattle.pz_format.specs.Levels.{blanks}
use Rattle.pz_format.proofs.formatting.put_blanks.Given as goal

abbrev pub invariant-loop : goal.invariant-loop
invariant-loop l = l.text.items ≡ l.fn.text.items ++ blanks l.counter
