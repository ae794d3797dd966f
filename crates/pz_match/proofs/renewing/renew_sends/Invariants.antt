use Rattle.std.proofs.Common.{◌≡◌, ◌+◌, ◌++◌, length, take, drop, List}
use Rattle.std.specs.Prelude.{sum_by, map}
use Rattle.pz_match.specs.declared.kept.Receiving.{Receiving}
use Rattle.pz_match.specs.Judging.{Stays}
use Rattle.pz_match.specs.devices.Tallies.{Follows, Moves, sends_part}
use Rattle.pz_match.specs.devices.Asking.{asked, renewed}
use Rattle.pz_match.proofs.renewing.renew_sends.Given as goal

abbrev pub invariant-loop-place : goal.invariant-loop-place
invariant-loop-place g l =
    let says = g.J.Judge.verdict l.initial.judge in
    record {
      sends : l.sends ≡ map (renewed says l.process l.receives) (take l.place l.initial.sends) ++ drop l.place l.initial.sends;
      follows : Follows l.initial.groups l.groups;
      moves : (rs : List Receiving) → Moves l.initial.groups l.groups (sends_part rs l.initial.sends) (sends_part rs l.sends);
      groups : length l.groups.groups ≡ length l.initial.groups.groups;
      stays : Stays g.J.Judge.takes g.J.Judge.verdict g.J.Judge.lent l.initial.judge l.judge;
      count : g.J.Judge.asked l.judge ≡ g.J.Judge.asked l.initial.judge + sum_by (λ s. length (asked says s.sender s.group l.process l.receives)) (take l.place l.initial.sends);
    }
