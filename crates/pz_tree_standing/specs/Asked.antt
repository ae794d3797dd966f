-- Terms of which something is asked at every moment.
use Rattle.std.specs.Prelude.{Bool, true, false, ◌||◌}
use Rattle.pz_rules.specs.pz_syntax.Statements.{delay, send}
use Rattle.pz_rules.specs.Terms.{Step, Term, done, leaf, wait, sequence, parallel, select, guarded, frame, abort, idle, handling, Terms, no_terms, and}

-- the time of a delay that has not begun, the arguments of a send
abbrev pub statement_asks : Step → Bool
statement_asks (delay at e) = true
statement_asks (send at port name args after) = true
statement_asks s = false

abbrev mutual
  -- such a statement or a guard is there; what is interrupted does not count
  pub asks : Term → Bool
  asks done = false
  asks (leaf s) = statement_asks s
  asks (wait left at) = false
  asks (sequence t rest) = asks t
  asks (parallel ts) = any_asks ts
  asks (select ts) = any_asks ts
  asks (guarded test at t) = true
  asks (frame number inputs results t) = asks t
  asks (abort t u) = asks t || asks u
  asks (idle t u again) = asks t || asks u
  asks (handling t u again) = asks u

  pub any_asks : Terms → Bool
  any_asks no_terms = false
  any_asks (and t ts) = asks t || any_asks ts
