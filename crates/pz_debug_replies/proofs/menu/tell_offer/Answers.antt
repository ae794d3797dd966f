use Rattle.pz_debug_replies.proofs.Written.{none_written}
use Rattle.pz_debug_replies.proofs.menu.tell_offer.Goals as goal

pub returns-in_err-line : goal.returns-in_err-line
returns-in_err-line g c = λ a offer. none_written c.rules_are_known.ensures _ _ c.from_residual.result c.from_residual.ensures.1
