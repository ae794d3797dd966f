use Rattle.std.proofs.Common.{take_all, ◌∙◌}
use Rattle.pz_term.proofs.Copies.{next_copied}
use Rattle.pz_term.proofs.copying.copy_actions.Goals as goal

pub loop-action-init : goal.loop-action-init
loop-action-init c = c.in_ok-copies.ensures.items

pub loop-action-preserved : goal.loop-action-preserved
loop-action-preserved c =
    next_copied c.args.actions.now c.loop-action.copies.items c.push.new.self.items c.loop-action.action-index c.action-item.result c.in_ok-copy_action.field-0 c.loop-action-test.true
    c.loop-action.invariant c.action-item.is c.in_ok-copy_action.ensures c.in_ok-push.ensures.items

pub returns : goal.returns
returns c = c.loop-action.invariant ∙ take_all c.loop-action.action-index c.args.actions.now c.loop-action-test.false
