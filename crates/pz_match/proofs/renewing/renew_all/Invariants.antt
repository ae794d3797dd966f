use Rattle.std.proofs.Common.{◌≡◌, ◌≤◌, ◌+◌, ◌++◌, length, take, drop}
use Rattle.std.specs.Prelude.{sum_by, map}
use Rattle.pz_match.specs.Judging.{Stays}
use Rattle.pz_match.specs.devices.Kept.{kept}
use Rattle.pz_match.specs.devices.Tallies.{Follows, Moves, total_of}
use Rattle.pz_match.specs.devices.Asking.{asked}
use Rattle.pz_match.specs.devices.Seeking.{past}
use Rattle.pz_match.specs.devices.Updating.{renewed_in}
use Rattle.pz_match.proofs.renewing.renew_all.Given as goal

abbrev pub invariant-loop-at : goal.invariant-loop-at
invariant-loop-at g l =
    let says = g.J.Judge.verdict l.initial.judge in
    let first = map kept l.initial.all in
    record {
      within : l.at ≤ length l.places;
      all : map kept l.all ≡ map (renewed_in says l.process l.receives) (take (past l.places l.at) first) ++ drop (past l.places l.at) first;
      follows : Follows l.initial.groups l.groups;
      moves : Moves l.initial.groups l.groups (total_of first) (total_of (map kept l.all));
      groups : length l.groups.groups ≡ length l.initial.groups.groups;
      stays : Stays g.J.Judge.takes g.J.Judge.verdict g.J.Judge.lent l.initial.judge l.judge;
      count : g.J.Judge.asked l.judge ≡ g.J.Judge.asked l.initial.judge + sum_by (λ e. sum_by (λ s. length (asked says s.sender s.group l.process l.receives)) e.sends) (take (past l.places l.at) first);
    }
