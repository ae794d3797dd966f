-- Terms whose active parts answer the same when time d has passed.
use Rattle.std.specs.Prelude.{◌≡◌, ◌<◌, ◌+◌, ℕ, true, false, Ok}
use Rattle.pz_rules.specs.pz_syntax.Statements.{delay, send}
use Rattle.pz_rules.specs.pz_eval_rules.Clocks.{names_clock, part_names_clock}
use Rattle.pz_rules.specs.Terms.{Step, Term, done, leaf, wait, sequence, parallel, select, guarded, frame, abort, idle, handling, Terms, no_terms, and}
use Rattle.pz_rules.specs.Settings.{Context}
use Rattle.pz_rules.specs.devices.Found.{tested}

-- the process, at a clock that is so much later
abbrev pub later : Context → ℕ → Context
later a d = record a { clock = a.clock + d }

-- it is no delay that begins, and what it sends does not name the clock
abbrev pub StatementIsSteady : Step → Type 0
StatementIsSteady (delay at e) = ⊥
StatementIsSteady (send at port name args after) = part_names_clock args ≡ false
StatementIsSteady s = Unit {0}

abbrev mutual
  -- in frame f: no delay begins or is over by then, and no test or argument names the clock
  pub Steady : Context → ℕ → ℕ → Term → Type 0
  Steady a d f done = Unit {0}
  Steady a d f (leaf s) = StatementIsSteady s
  Steady a d f (wait left at) = d < left
  Steady a d f (sequence t rest) = Steady a d f t
  Steady a d f (parallel ts) = AreSteady a d f ts
  Steady a d f (select ts) = AreSteady a d f ts
  Steady a d f (guarded test at t) = (names_clock test ≡ false) × (tested a f at test ≡ Ok true → Steady a d f t)
  Steady a d f (frame number inputs results t) = Steady a d number t
  Steady a d f (abort t u) = Steady a d f t × Steady a d f u
  Steady a d f (idle t u again) = Steady a d f t × Steady a d f u
  -- what is interrupted stands still
  Steady a d f (handling t u again) = Steady a d f u

  pub AreSteady : Context → ℕ → ℕ → Terms → Type 0
  AreSteady a d f no_terms = Unit {0}
  AreSteady a d f (and t ts) = Steady a d f t × AreSteady a d f ts
