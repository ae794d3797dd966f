use Rattle.std.proofs.Common.{◌≡◌, ◌+◌, ◌++◌, length, drop}
use Rattle.pz_match.specs.Judging.{Stays}
use Rattle.pz_match.specs.devices.Asking.{asked}
use Rattle.pz_match.proofs.asking.ask.Given as goal

abbrev pub invariant-loop-receive : goal.invariant-loop-receive
invariant-loop-receive g l =
    let says = g.J.Judge.verdict l.initial.judge in
    record {
      rows : l.rows ++ asked says l.sender l.group l.process (drop l.receive-index l.receives) ≡ l.initial.rows ++ asked says l.sender l.group l.process l.receives;
      stays : Stays g.J.Judge.takes g.J.Judge.verdict g.J.Judge.lent l.initial.judge l.judge;
      count : g.J.Judge.asked l.judge + length (asked says l.sender l.group l.process (drop l.receive-index l.receives)) ≡ g.J.Judge.asked l.initial.judge + length (asked says l.sender l.group l.process l.receives);
    }
