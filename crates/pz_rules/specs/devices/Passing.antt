-- What the passing of time leaves of a term, computed.
use Rattle.std.specs.Prelude.{ℕ, ◌-◌, Bool, true, false, Result, Ok, Err}
use Rattle.pz_bind_rules.specs.pz_syntax.declared.tokens.Pos.{Pos}
use Rattle.pz_bind_rules.specs.pz_syntax.Statements.{delay}
use Rattle.pz_offer.specs.declared.trouble.Trouble.{Trouble}
use Rattle.pz_rules.specs.Terms.{Code, Step, Term, done, leaf, wait, sequence, parallel, select, guarded, frame, abort, idle, handling, Terms, no_terms, and}
use Rattle.pz_rules.specs.Settings.{Context}
use Rattle.pz_rules.specs.devices.Found.{tested, lasting}

-- a delay of which so much is left begins; without an answer it stays
abbrev pub begun : ℕ → Pos → Code → Result ℕ Trouble → Term
begun d at e (Ok left) = wait (left - d) at
begun d at e (Err t) = leaf (delay at e)

abbrev pub statement_passed : Context → ℕ → ℕ → Step → Term
statement_passed a d f (delay at e) = begun d at e (lasting a f at e)
statement_passed a d f s = leaf s

-- behind a guard of which the test came to this
abbrev pub if_open : Result Bool Trouble → Term → Term → Term
if_open (Ok true) x t = x
if_open (Ok false) x t = t
if_open (Err u) x t = t

abbrev mutual
  pub passed : Context → ℕ → ℕ → Term → Term
  passed a d f done = done
  passed a d f (leaf s) = statement_passed a d f s
  passed a d f (wait left at) = wait (left - d) at
  passed a d f (sequence t rest) = sequence (passed a d f t) rest
  passed a d f (parallel ts) = parallel (passed_all a d f ts)
  passed a d f (select ts) = select (passed_all a d f ts)
  passed a d f (guarded test at t) = guarded test at (if_open (tested a f at test) (passed a d f t) t)
  passed a d f (frame number inputs results t) = frame number inputs results (passed a d number t)
  passed a d f (abort t u) = abort (passed a d f t) (passed a d f u)
  passed a d f (idle t u again) = idle (passed a d f t) (passed a d f u) again
  passed a d f (handling t u again) = handling t (passed a d f u) again

  pub passed_all : Context → ℕ → ℕ → Terms → Terms
  passed_all a d f no_terms = no_terms
  passed_all a d f (and t ts) = and (passed a d f t) (passed_all a d f ts)
