use Rattle.rows_state.proofs.Shadowed.{known_entered}
use Rattle.rows_state.proofs.subject.Subject.enter.Goals as goal

pub invariant_of-self-2 : goal.invariant_of-self-2
invariant_of-self-2 c = record {
  now = rw c.in_ok-id.ensures.ok (known_entered c.in_ok-id.id c.args.locals c.self.invariant.now c.in_ok-id.ensures.least.free);
  saved = rw c.in_ok-id.ensures.ok c.self.invariant.saved;
}
