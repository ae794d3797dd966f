-- How many delays what opens may bring, in whatever way statements open.
use Rattle.std.specs.Prelude.{◌≡◌, ◌≤◌, ℕ, ◌+◌, List, Some}
use Rattle.std.specs.List.{sum_by}
use Rattle.pz_bind_rules.specs.pz_syntax.ModelForm.{Each}
use Rattle.pz_bind_rules.specs.pz_syntax.Statements.{Statement, delay, bracketed, guarded, parallel, select, conditional, repeated, abort, interrupt, Statements, no_statements, then, StatementPart, not_written, otherwise, Branches, no_branches, branch}
use Rattle.pz_bind_rules.specs.pz_syntax.Classes.{ModelTree}
use Rattle.pz_bind_rules.specs.pz_classes_rules.Starts.{init}
use Rattle.pz_classes_beginnings.specs.Beginning.{statements_in_all, all_plain_calls}
use Rattle.pz_classes_openings.specs.Openings.{called, of_called, opened_to}
use Rattle.pz_offer.specs.pz_state.States.{StateView}
use Rattle.pz_rules.specs.Terms as terms
use Rattle.pz_rules.specs.Terms.{Step, Steps, Term, done, leaf, wait, sequence, frame, idle, handling, Terms, no_terms, and}
use Rattle.pz_rules.specs.Settings.{Setting, Home}
use Rattle.pz_rules.specs.Opening.{opened_all}
use Rattle.pz_rules.specs.Openable.{alone, inner}
use Rattle.pz_rules.specs.Methods.{IsMethod}
use Rattle.pz_rules.specs.devices.Pending.{pending}

-- the delays that are written in statements
module _ {X K Q : Type 0} where
  abbrev mutual
    pub delays_in : Statement X K Q → ℕ
    delays_in (delay at e) = 1
    delays_in (bracketed at ts) = delays_in_all ts
    delays_in (guarded at e t) = delays_in t
    delays_in (parallel at bs) = delays_in_each bs
    delays_in (select at bs) = delays_in_each bs
    delays_in (conditional at e ts other) = delays_in_all ts + delays_in_part other
    delays_in (repeated at e ts) = delays_in_all ts
    delays_in (abort at ts t) = delays_in_all ts + delays_in t
    delays_in (interrupt at ts t) = delays_in_all ts + delays_in t
    delays_in t = 0

    pub delays_in_all : Statements X K Q → ℕ
    delays_in_all no_statements = 0
    delays_in_all ((then) t ts) = delays_in t + delays_in_all ts

    pub delays_in_part : StatementPart X K Q → ℕ
    delays_in_part not_written = 0
    delays_in_part (otherwise ts) = delays_in_all ts

    pub delays_in_each : Branches X K Q → ℕ
    delays_in_each no_branches = 0
    delays_in_each (branch ts bs) = delays_in_all ts + delays_in_each bs

-- So many statements ever open at once out of these in a process of this class: they, and those as which
-- their plain calls open, followed so many methods deep.
abbrev pub spread_of : ModelTree → ℕ → ℕ → Steps → ℕ
spread_of m class depth ts = statements_in_all ts + sum_by (λ x. of_called (opened_to m class depth) (called m class x)) (all_plain_calls ts)

-- a process of this class
abbrev pub home_in : Setting → ℕ → Home
home_in setting class = record { model = setting.model; edition = setting.limits.edition; class = class }

module _ (P : Steps → Type 0) where
  -- of the statements in a term that may open
  abbrev mutual
    pub Holds : Term → Type 0
    Holds done = Unit {0}
    Holds (leaf t) = P (alone t)
    Holds (wait left at) = Unit {0}
    Holds (sequence t rest) = Holds t × P rest
    Holds (terms.parallel ts) = HoldAll ts
    Holds (terms.select ts) = HoldAll ts
    Holds (terms.guarded test at t) = Holds t
    Holds (frame number inputs results t) = Holds t
    Holds (terms.abort t u) = Holds t × Holds u
    Holds (idle t u again) = Holds t × Holds u × P (alone again)
    Holds (handling t u again) = Holds t × Holds u × P (alone again)

    pub HoldAll : Terms → Type 0
    HoldAll no_terms = Unit {0}
    HoldAll (and t ts) = Holds t × HoldAll ts

  -- it is so of what they are made of
  pub record IsClosed : Type 0 where
    pub one : (t : Step) (ts : Steps) → P ((then) t ts) → P (alone t)
    pub behind : (t : Step) (ts : Steps) → P ((then) t ts) → P ts
    pub within : (t : Step) → P (alone t) → Each P (inner t)

  -- what has opened holds no others, and has at most so many delays
  abbrev pub Brings : ℕ → Term → Type 0
  Brings most t = Holds t × (pending t ≤ most)

-- The statements that open in a process of this class are such, and whatever opens brings at most so many
-- delays.
pub record Bounds (setting : Setting) (class : ℕ) (P : Steps → Type 0) (most : ℕ) : Type 0 where
  pub closed : IsClosed P
  pub bodies : (name : List ℕ) (inputs outputs locals : ℕ) (body : Steps) → IsMethod setting.model class name inputs outputs locals body → P body
  pub starts : (call : Step) → init setting.model class ≡ Some call → P (alone call)
  pub opens : (ts : Steps) (s : StateView) → P ts → Brings P most (opened_all (home_in setting class) ts s).term
