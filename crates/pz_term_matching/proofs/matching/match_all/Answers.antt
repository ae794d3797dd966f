use Rattle.std.proofs.lemmas.Option.{slice_get_within}
use Rattle.pz_term_matching.specs.devices.Turns.{IsTurn}
use Rattle.std.proofs.Common.{get_or}
use Rattle.pz_term_matching.proofs.Turning.{turn}
use Rattle.pz_term_matching.proofs.Paired.{turn_more}
use Rattle.pz_term_matching.proofs.matching.match_all.Goals as goal

pub loop-turn-preserved : goal.loop-turn-preserved
loop-turn-preserved c =
    let senders = c.args.senders.now in
    let turns = c.args.turns.now in
    let n = c.loop-turn.turn-index in
    let known : IsTurn senders (get_or turns n (turn 0 0)) = c.requires.turns.known n (turn 0 0) c.loop-turn-test.true in
    turn_more senders c.args.receivers.now turns n (turn 0 0) c.index-senders-number.result c.loop-turn.pairs.items c.match_sender.new.pairs.items c.loop-turn-test.true
    c.index-senders-number.is (slice_get_within senders (get_or turns n (turn 0 0)).sender known.sender known.there) c.loop-turn.invariant c.in_ok-match_sender.ensures
