use Rattle.std.proofs.Common.{◌≡◌, ◌+◌, length, take}
use Rattle.std.specs.Prelude.{sum_by, map}
use Rattle.pz_match.specs.Judging.{Stays}
use Rattle.pz_match.specs.devices.Kept.{kept}
use Rattle.pz_match.specs.devices.Staying.{stays_part}
use Rattle.pz_match.specs.devices.Updating.{Offered}
use Rattle.pz_match.proofs.offering.offer.Given as goal

abbrev pub invariant-loop-offer : goal.invariant-loop-offer
invariant-loop-offer g l =
    record {
      place : l.at ≡ length l.yielded;
      offered : Offered (g.J.Judge.verdict l.initial.judge) (map kept l.all) l.receives l.initial.groups l.groups (stays_part (take l.at l.plan)) l.process l.yielded l.sent.items;
      stays : Stays g.J.Judge.takes g.J.Judge.verdict g.J.Judge.lent l.initial.judge l.judge;
      count : g.J.Judge.asked l.judge ≡ g.J.Judge.asked l.initial.judge + sum_by (λ x. length x.rows) l.sent.items;
    }
