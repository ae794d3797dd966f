-- How many delays may have something left: of these only so many passings of time can follow each other.
use Rattle.std.specs.Prelude.{ℕ, zero, suc, ◌+◌, List, [], ◌∷◌}
use Rattle.pz_bind_rules.specs.pz_syntax.Statements.{delay}
use Rattle.pz_rules.specs.Terms.{Step, Term, done, leaf, wait, sequence, parallel, select, guarded, frame, abort, idle, handling, Terms, no_terms, and}
use Rattle.pz_rules.specs.Settings.{Process}

-- one that has something left
abbrev pub waits_on : ℕ → ℕ
waits_on zero = 0
waits_on (suc n) = 1

abbrev pub statement_pending : Step → ℕ
statement_pending (delay at e) = 1
statement_pending s = 0

abbrev mutual
  pub pending : Term → ℕ
  pending done = 0
  pending (leaf s) = statement_pending s
  pending (wait left at) = waits_on left
  pending (sequence t rest) = pending t
  pending (parallel ts) = all_pending ts
  pending (select ts) = all_pending ts
  pending (guarded test at t) = pending t
  pending (frame number inputs results t) = pending t
  pending (abort t u) = pending t + pending u
  pending (idle t u again) = pending t + pending u
  pending (handling t u again) = pending t + pending u

  pub all_pending : Terms → ℕ
  all_pending no_terms = 0
  all_pending (and t ts) = pending t + all_pending ts

-- of a configuration
abbrev pub list_pending : List Process → ℕ
list_pending [] = 0
list_pending (p ∷ ps) = pending p.term + list_pending ps
