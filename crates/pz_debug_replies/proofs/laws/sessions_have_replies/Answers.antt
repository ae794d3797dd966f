use Rattle.pz_debug_replies.proofs.Existing.{every_advance, every_reply, every_text, every_session}
use Rattle.pz_debug_replies.proofs.laws.sessions_have_replies.Goals as goal

pub returns-clause-advance : goal.returns-clause-advance
returns-clause-advance c = every_advance c.rules_are_known.ensures

pub returns-clause-reply : goal.returns-clause-reply
returns-clause-reply c = every_reply c.rules_are_known.ensures

pub returns-clause-text : goal.returns-clause-text
returns-clause-text c = every_text c.rules_are_known.ensures

pub returns-clause-session : goal.returns-clause-session
returns-clause-session c = every_session c.rules_are_known.ensures
