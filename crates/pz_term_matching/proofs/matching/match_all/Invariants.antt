use Rattle.std.proofs.Common.{◌≡◌, take}
use Rattle.std.specs.List.{flat_map}
use Rattle.pz_term_matching.specs.devices.Pairing.{pairs_of}
use Rattle.pz_term_matching.proofs.matching.match_all.Given as goal

abbrev pub invariant-loop-turn : goal.invariant-loop-turn
invariant-loop-turn l = l.pairs.items ≡ flat_map (pairs_of l.senders l.receivers) (take l.turn-index l.turns)
