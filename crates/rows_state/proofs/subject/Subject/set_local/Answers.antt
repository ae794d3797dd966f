use Rattle.rows_state.proofs.Shadowed.{known_local}
use Rattle.rows_state.proofs.subject.Subject.set_local.Goals as goal

pub invariant_of-self : goal.invariant_of-self
invariant_of-self c = record {
  now = rw c.in_ok-set_local.ensures.ok (known_local c.in-Some.frame.id.0 c.args.slot _ c.self.invariant.now);
  saved = rw c.in_ok-set_local.ensures.ok c.self.invariant.saved;
}
