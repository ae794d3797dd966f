use Rattle.std.proofs.Common.{◌≡◌, drop}
use Rattle.pz_check_size.specs.devices.Levels.{with_all, total_with}
use Rattle.pz_check_size.proofs.totals.total_with.Given as goal

abbrev pub invariant-loop-held : goal.invariant-loop-held
invariant-loop-held l = with_all l.totals l.total (drop l.held-index l.held-items) ≡ total_with l.totals l.node
