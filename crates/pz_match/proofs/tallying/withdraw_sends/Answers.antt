-- One send less.
use Rattle.std.proofs.Common.{◌∙◌, ap}
use Rattle.pz_match.specs.devices.Tallies.{send_tally}
use Rattle.pz_match.proofs.Grouped.{follows_next}
use Rattle.pz_match.proofs.Offered.{withdrawn_send}
use Rattle.pz_match.proofs.tallying.withdraw_sends.Goals as goal

pub loop-send-preserved : goal.loop-send-preserved
loop-send-preserved c =
    record {
      follows = follows_next c.loop-send.invariant.follows c.in_ok-adjust.ensures.follows;
      moves =
          withdrawn_send c.args.groups.now c.loop-send.groups c.adjust.new.groups c.args.receives.now c.args.sends.now c.loop-send.send-index c.send-item.result c.send_tally-tally.result c.loop-send-test.true c.send-item.is (c.send_tally-tally.ensures ∙ ap (send_tally c.args.receives.now c.send-item.result.group) c.as_slice.ensures)
          c.loop-send.invariant.moves c.in_ok-adjust.ensures.moves;
      count = c.in_ok-adjust.ensures.count ∙ c.loop-send.invariant.count;
    }
