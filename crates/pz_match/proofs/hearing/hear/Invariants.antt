use Rattle.std.proofs.Common.{◌≡◌, length, take}
use Rattle.pz_match.specs.devices.Staying.{stays_part}
use Rattle.pz_match.specs.devices.Updating.{Heard}
use Rattle.pz_match.proofs.hearing.hear.Given as goal

abbrev pub invariant-loop-offer : goal.invariant-loop-offer
invariant-loop-offer l = record {
  place : l.at ≡ length l.yielded;
  heard : Heard l.initial.groups l.groups (stays_part (take l.at l.plan)) l.process l.yielded l.kept.items;
}
