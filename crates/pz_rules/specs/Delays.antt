-- The active delays, and what the passing of time leaves of a term.
use Rattle.std.specs.Prelude.{◌≡◌, ℕ, ◌-◌, Bool, true, false, List, Ok}
use Rattle.pz_bind_rules.specs.pz_syntax.declared.tokens.Pos.{Pos}
use Rattle.pz_bind_rules.specs.pz_syntax.Statements.{delay}
use Rattle.pz_bind_rules.specs.pz_classes_code.declared.slot.Slot.{Slot}
use Rattle.pz_rules.specs.Terms.{Code, Step, Steps, Term, done, leaf, wait, sequence, parallel, select, guarded, frame, abort, idle, handling, Terms, no_terms, and}
use Rattle.pz_rules.specs.Settings.{Context}
use Rattle.pz_rules.specs.Evaluations.{Lasts, Tests}

-- a delay of which so much is left; one that has not begun is evaluated at every moment
pub data Delays (a : Context) (f : ℕ) : Term → ℕ → Type 0 where
  not_begun : (at : Pos) (e : Code) (left : ℕ) → Lasts a f at e (Ok left) → Delays a f (leaf (delay at e)) left
  begun : (left : ℕ) (at : Pos) → Delays a f (wait left at) left

-- a statement that is no delay
abbrev pub is_timeless : Step → Bool
is_timeless (delay at e) = false
is_timeless s = true

mutual
  -- Time d passes: each active delay begins or goes on, and has so much less left. All else stays.
  pub data Passes (a : Context) (d : ℕ) : ℕ → Term → Term → Type 0 where
    is_done : (f : ℕ) → Passes a d f done done
    stays : (f : ℕ) (s : Step) → is_timeless s ≡ true → Passes a d f (leaf s) (leaf s)
    begins : (f : ℕ) (at : Pos) (e : Code) (left : ℕ) → Lasts a f at e (Ok left) → Passes a d f (leaf (delay at e)) (wait (left - d) at)
    goes_on : (f left : ℕ) (at : Pos) → Passes a d f (wait left at) (wait (left - d) at)
    in_sequence : (f : ℕ) (t x : Term) (rest : Steps) → Passes a d f t x → Passes a d f (sequence t rest) (sequence x rest)
    in_parallel : (f : ℕ) (ts xs : Terms) → PassesAll a d f ts xs → Passes a d f (parallel ts) (parallel xs)
    in_select : (f : ℕ) (ts xs : Terms) → PassesAll a d f ts xs → Passes a d f (select ts) (select xs)
    behind_true : (f : ℕ) (test : Code) (at : Pos) (t x : Term) → Tests a f at test (Ok true) → Passes a d f t x → Passes a d f (guarded test at t) (guarded test at x)
    behind_false : (f : ℕ) (test : Code) (at : Pos) (t : Term) → Tests a f at test (Ok false) → Passes a d f (guarded test at t) (guarded test at t)
    in_frame : (f number inputs : ℕ) (results : List Slot) (t x : Term) → Passes a d number t x → Passes a d f (frame number inputs results t) (frame number inputs results x)
    in_abort : (f : ℕ) (t x u y : Term) → Passes a d f t x → Passes a d f u y → Passes a d f (abort t u) (abort x y)
    in_idle : (f : ℕ) (t x u y : Term) (again : Step) → Passes a d f t x → Passes a d f u y → Passes a d f (idle t u again) (idle x y again)
    -- what is interrupted stands still
    in_handling : (f : ℕ) (t u y : Term) (again : Step) → Passes a d f u y → Passes a d f (handling t u again) (handling t y again)

  pub data PassesAll (a : Context) (d : ℕ) : ℕ → Terms → Terms → Type 0 where
    none : (f : ℕ) → PassesAll a d f no_terms no_terms
    both : (f : ℕ) (t x : Term) (ts xs : Terms) → Passes a d f t x → PassesAll a d f ts xs → PassesAll a d f (and t ts) (and x xs)
