use Rattle.std.proofs.Common.{◌≡◌, ◌≤◌, ◌+◌, ◌++◌, length, drop}
use Rattle.std.specs.Prelude.{map}
use Rattle.std.specs.List.{flat_map}
use Rattle.pz_match.specs.Judging.{Stays}
use Rattle.pz_match.specs.devices.Kept.{kept}
use Rattle.pz_match.specs.devices.Asking.{asked_in}
use Rattle.pz_match.specs.devices.Seeking.{past}
use Rattle.pz_match.proofs.asking.ask_all.Given as goal

abbrev pub invariant-loop-at : goal.invariant-loop-at
invariant-loop-at g l =
    let says = g.J.Judge.verdict l.initial.judge in
    record {
      within : l.at ≤ length l.askers;
      rows : l.rows ++ flat_map (asked_in says l.sender l.group) (map kept (drop (past l.askers l.at) l.all)) ≡ l.initial.rows ++ flat_map (asked_in says l.sender l.group) (map kept l.all);
      stays : Stays g.J.Judge.takes g.J.Judge.verdict g.J.Judge.lent l.initial.judge l.judge;
      count : g.J.Judge.asked l.judge + length l.initial.rows ≡ g.J.Judge.asked l.initial.judge + length l.rows;
    }
