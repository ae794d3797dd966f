-- The summary of a term from those of its parts; and when it stays as it is.
use Rattle.std.specs.Prelude.{◌≡◌, ◌+◌, ℕ, false, List}
use Rattle.pz_rules.specs.pz_syntax.declared.tokens.Pos.{Pos}
use Rattle.pz_rules.specs.pz_classes_code.declared.slot.Slot.{Slot}
use Rattle.pz_rules.specs.pz_classes_rules.Soundness.{IsSound}
use Rattle.pz_rules.specs.pz_offer.Summaries.{join, shifted}
use Rattle.pz_rules.specs.Terms.{Code, Step, Steps, Term, sequence, parallel, select, guarded, frame, abort, idle, handling, Terms}
use Rattle.pz_rules.specs.Settings.{Context}
use Rattle.pz_rules.specs.Delays.{Passes}
use Rattle.pz_rules.specs.devices.Found.{tested}
use Rattle.pz_tree_standing.specs.Summaries.{summary_of, summaries_of, gated}
use Rattle.pz_tree_standing.specs.Asked.{asks}
use Rattle.pz_tree_standing.specs.Steady.{later, Steady}
use Rattle.pz_tree_standing.specs.Woken.{starts, clocked, IsAfter}

-- the statements behind an open one add nothing
abbrev pub OfSequence : Type 0
OfSequence = (a : Context) (c f : ℕ) (t : Term) (rest : Steps)
    → summary_of a c f (sequence t rest) ≡ summary_of a c f t

abbrev pub OfFrame : Type 0
OfFrame = (a : Context) (c f number inputs : ℕ) (results : List Slot) (t : Term)
    → summary_of a c f (frame number inputs results t) ≡ summary_of a c number t

-- a guard adds the trouble of its test, and hides its body unless the test is true
abbrev pub OfGuard : Type 0
OfGuard = (a : Context) (c f : ℕ) (test : Code) (at : Pos) (t : Term)
    → summary_of a c f (guarded test at t) ≡ gated (tested a f at test) (summary_of a c f t)

abbrev pub OfAbort : Type 0
OfAbort = (a : Context) (c f : ℕ) (t u : Term)
    → summary_of a c f (abort t u) ≡ join (summary_of a c f t) (summary_of a c f u)

abbrev pub OfIdle : Type 0
OfIdle = (a : Context) (c f : ℕ) (t u : Term) (again : Step)
    → summary_of a c f (idle t u again) ≡ join (summary_of a c f t) (summary_of a c f u)

-- what is interrupted adds nothing
abbrev pub OfHandling : Type 0
OfHandling = (a : Context) (c f : ℕ) (t u : Term) (again : Step)
    → summary_of a c f (handling t u again) ≡ summary_of a c f u

abbrev pub OfParallel : Type 0
OfParallel = (a : Context) (c f : ℕ) (ts : Terms)
    → summary_of a c f (parallel ts) ≡ summaries_of a c f ts

abbrev pub OfSelect : Type 0
OfSelect = (a : Context) (c f : ℕ) (ts : Terms)
    → summary_of a c f (select ts) ≡ summaries_of a c f ts

-- by a clock that is ahead, all is due so much later
abbrev pub OfLaterClock : Type 0
OfLaterClock = (a : Context) (c by f : ℕ) (t : Term)
    → summary_of a (c + by) f t ≡ shifted by (summary_of a c f t)

-- what is asked nothing has one summary, whatever the state and the clock of the process
abbrev pub UnaskedIsSteady : Type 0
UnaskedIsSteady = (a b : Context) (c f : ℕ) (t : Term) → asks t ≡ false
    → summary_of a c f t ≡ summary_of b c f t

-- in a sound model, what time leaves of a steady term has the summary from before
abbrev pub SteadySummary : Type 0
SteadySummary = (a : Context) (d c f : ℕ) (t x : Term) → IsSound a.setting.model → Steady a d f t
    → Passes a d f t x
    → summary_of (later a d) (c + d) f x ≡ summary_of a c f t

-- what has no delay that begins, names no clock, and is due only afterwards, is steady
abbrev pub UnwokenIsSteady : Type 0
UnwokenIsSteady = (a : Context) (d c f : ℕ) (t : Term) → starts a f t ≡ false
    → clocked a f t ≡ false → IsAfter (c + d) (summary_of a c f t).due
    → Steady a d f t
