use Rattle.std.proofs.Common.{◌<◌, ℕ, get_or}
use Rattle.pz_match.specs.devices.Tallies.{HasKey}
use Rattle.pz_match.proofs.finding.find.Given as goal

abbrev pub invariant-loop-number : goal.invariant-loop-number
invariant-loop-number l = (k d : ℕ) → k < l.number-index → HasKey l.groups (get_or l.numbers k d) l.wire l.message l.count → ⊥
