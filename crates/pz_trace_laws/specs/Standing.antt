-- Configurations in which no name of a message that is still to be sent or received has an LF.
use Rattle.std.specs.Prelude.{◌≡◌, ℕ, Some, slice_get}
use Rattle.pz_trace.specs.pz_rules.Terms.{Term, done, leaf, wait, sequence, parallel, select, guarded, frame, abort, idle, handling, Terms, no_terms, and}
use Rattle.pz_trace.specs.pz_rules.Settings.{Process}
use Rattle.pz_trace.specs.pz_rules.Configurations.{Config}
use Rattle.pz_trace_laws.specs.Messages.{StatementUnbroken, StatementsUnbroken}

abbrev mutual
  pub TermUnbroken : Term → Type 0
  TermUnbroken done = Unit {0}
  TermUnbroken (leaf s) = StatementUnbroken s
  TermUnbroken (wait left at) = Unit {0}
  TermUnbroken (sequence t rest) = TermUnbroken t × StatementsUnbroken rest
  TermUnbroken (parallel ts) = TermsUnbroken ts
  TermUnbroken (select ts) = TermsUnbroken ts
  TermUnbroken (guarded test at t) = TermUnbroken t
  TermUnbroken (frame number inputs results t) = TermUnbroken t
  TermUnbroken (abort t u) = TermUnbroken t × TermUnbroken u
  TermUnbroken (idle t u again) = TermUnbroken t × TermUnbroken u × StatementUnbroken again
  TermUnbroken (handling t u again) = TermUnbroken t × TermUnbroken u × StatementUnbroken again

  pub TermsUnbroken : Terms → Type 0
  TermsUnbroken no_terms = Unit {0}
  TermsUnbroken (and t ts) = TermUnbroken t × TermsUnbroken ts

abbrev pub AllUnbroken : Config → Type 0
AllUnbroken c = (i : ℕ) (p : Process) → slice_get c.processes i ≡ Some p → TermUnbroken p.term
