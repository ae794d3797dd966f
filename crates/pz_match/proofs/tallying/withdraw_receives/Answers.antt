-- One receive less.
use Rattle.std.proofs.Common.{◌∙◌}
use Rattle.pz_match.proofs.Grouped.{follows_next}
use Rattle.pz_match.proofs.Offered.{withdrawn_receive}
use Rattle.pz_match.proofs.tallying.withdraw_receives.Goals as goal

pub loop-receive-preserved : goal.loop-receive-preserved
loop-receive-preserved c =
    record {
      follows = follows_next c.loop-receive.invariant.follows c.in_ok-adjust.ensures.follows;
      moves =
          withdrawn_receive c.args.groups.now c.loop-receive.groups c.adjust.new.groups c.args.receives.now c.loop-receive.receive-index c.receive-item.result c.receive_tally-tally.result c.loop-receive-test.true c.receive-item.is c.receive_tally-tally.ensures
          c.loop-receive.invariant.moves c.in_ok-adjust.ensures.moves;
      count = c.in_ok-adjust.ensures.count ∙ c.loop-receive.invariant.count;
    }
