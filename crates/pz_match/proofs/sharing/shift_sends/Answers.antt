-- One send more goes or comes.
use Rattle.std.proofs.Common.{drop, ◌+◌}
use Rattle.pz_match.specs.devices.Tallies.{sends_part, only_in}
use Rattle.pz_match.proofs.Shifting.{shifts_next, sends_next}
use Rattle.pz_match.proofs.sharing.shift_sends.Goals as goal

pub loop-send-preserved : goal.loop-send-preserved
loop-send-preserved c =
    let rs = c.args.receives.now in
    let ss = c.args.sends.now in
    let i = c.loop-send.send-index in
    let s = c.send-item.result in
    record {
      shifts =
          shifts_next c.args.block c.args.way c.args.shares.now c.loop-send.shares c.shift_in.new.shares (sends_part rs ss) (sends_part rs (drop i ss)) (only_in s.group c.send_tally-part.result) (sends_part rs (drop (i + 1) ss))
          (sends_next rs ss i s c.send_tally-part.result c.loop-send-test.true c.send-item.is c.send_tally-part.ensures) c.loop-send.invariant.shifts c.in_ok-shift_in.ensures;
    }
