use Rattle.std.proofs.Common.{◌≡◌, ◌+◌, take}
use Rattle.std.specs.Prelude.{sum}
use Rattle.pz_match_lists.proofs.counts.find_in.Given as goal

abbrev pub invariant-loop-place : goal.invariant-loop-place
invariant-loop-place l = sum (take l.place l.numbers) + l.rest ≡ sum (take l.start l.numbers) + l.number
