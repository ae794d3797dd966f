-- What the tables say of terms: summaries are those of terms, and changes are what actions leave of them.
use Rattle.std.specs.Prelude.{◌≡◌, ℕ, Bool, Some, Result, Ok, Err}
use Rattle.pz_tree_standing.specs.pz_syntax.declared.tokens.Pos.{Pos}
use Rattle.pz_tree_standing.specs.pz_state.States.{StateView}
use Rattle.pz_tree_standing.specs.pz_offer.declared.trouble.Trouble.{Trouble}
use Rattle.pz_tree_standing.specs.pz_offer.declared.summary.Summary.{Summary}
use Rattle.pz_clock.specs.Shifts.{ShiftView, local, ShiftFits}
use Rattle.pz_tree_standing.specs.pz_rules.Terms.{Code, Step, Term, done, guarded, abort, idle, handling}
use Rattle.pz_tree_standing.specs.pz_rules.Settings.{Context, Process, left_by, Home}
use Rattle.pz_tree_standing.specs.pz_rules.Opening.{opened}
use Rattle.pz_tree_standing.specs.pz_rules.Leaving.{is_done, around}
use Rattle.pz_tree_standing.specs.pz_rules.devices.Found.{tested}
use Rattle.pz_tree_standing.specs.Summaries.{summary_of}
use Rattle.pz_preempt.specs.declared.summaries.Gate.{Gate}
use Rattle.pz_preempt.specs.declared.summaries.Mode.{Mode}
use Rattle.pz_preempt.specs.declared.summaries.Mode.TheVariants.{Idle, Handling}
use Rattle.pz_preempt.specs.declared.changes.Change.{Change}
use Rattle.pz_preempt.specs.declared.changes.Change.TheVariants.{Same, KeepSecond, Suspend, Resume, End}
use Rattle.pz_preempt.specs.Tables.{gate_of}

-- ------------------------------------------------------------ summaries

-- with the trouble of a test, if it has one: nothing else of a guard whose test has a trouble counts
abbrev pub with_trouble : Result Bool Trouble → Summary → Summary
with_trouble (Ok b) s = s
with_trouble (Err t) s = record s { trouble = Some t }

-- From the summary of its body, at the body's own clock, and from what its test comes to, this is the summary of
-- the guard, but for the trouble of that test.
abbrev pub IsOfGuard : Gate → ShiftView → Summary → Summary → Type 0
IsOfGuard gate shift child s =
    (a : Context) (c f : ℕ) (test : Code) (at : Pos) (t : Term)
    → gate ≡ gate_of (tested a f at test)
    → ShiftFits shift c
    → child ≡ summary_of a (local shift c) f t
    → with_trouble (tested a f at test) s ≡ summary_of a c f (guarded test at t)

abbrev pub IsOfAbort : Summary → Summary → Summary → Type 0
IsOfAbort first second s =
    (a : Context) (c f : ℕ) (t u : Term)
    → first ≡ summary_of a c f t
    → second ≡ summary_of a c f u
    → s ≡ summary_of a c f (abort t u)

abbrev pub interrupt : Mode → Term → Term → Step → Term
interrupt Idle t u again = idle t u again
interrupt Handling t u again = handling t u again

abbrev pub IsOfInterrupt : Mode → ShiftView → Summary → Summary → Summary → Type 0
IsOfInterrupt mode shift first second s =
    (a : Context) (c f : ℕ) (t u : Term) (again : Step)
    → ShiftFits shift c
    → first ≡ summary_of a (local shift c) f t
    → second ≡ summary_of a c f u
    → s ≡ summary_of a c f (interrupt mode t u again)

-- ------------------------------------------------------------ changes

-- what a change makes, in this state, of a term of which the part that acted has become x
abbrev pub changed : Home → StateView → Change → Term → Term → Process
changed h s Same (abort t u) x = left_by s (abort x u)
changed h s Same (idle t u again) x = left_by s (idle x u again)
changed h s Same (handling t u again) x = left_by s (handling t x again)
changed h s KeepSecond whole x = left_by s x
changed h s Suspend (idle t u again) x = left_by s (handling t x again)
changed h s Resume (idle t u again) x = let y = opened h again s in left_by y.state (idle t y.term again)
changed h s Resume (handling t u again) x = let y = opened h again s in left_by y.state (idle t y.term again)
changed h s End whole x = left_by s done
changed h s _ whole x = left_by s whole

-- what an action of the part of this number leaves of an abort, in any frame and state
abbrev pub IsLeftOfAbort : ℕ → Bool → Change → Type 0
IsLeftOfAbort i finished change =
    (h : Home) (f : ℕ) (s : StateView) (t u x : Term)
    → is_done x ≡ finished
    → around h f s (abort t u) i x ≡ changed h s change (abort t u) x

abbrev pub IsLeftOfInterrupt : Mode → ℕ → Bool → Change → Type 0
IsLeftOfInterrupt mode i finished change =
    (h : Home) (f : ℕ) (s : StateView) (t u x : Term) (again : Step)
    → is_done x ≡ finished
    → around h f s (interrupt mode t u again) i x ≡ changed h s change (interrupt mode t u again) x
