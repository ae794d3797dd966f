-- Guards, aborts and interrupts: their summaries from those of their parts, and what becomes of them when a part
-- has acted.
use Rattle.std.specs.Prelude.{◌≡◌, ℕ, zero, suc, Bool, true, false, Result, Ok, Err}
use Rattle.pz_tree_standing.specs.pz_offer.declared.trouble.Trouble.{Trouble}
use Rattle.pz_tree_standing.specs.pz_offer.declared.summary.Summary.{Summary}
use Rattle.pz_tree_standing.specs.pz_offer.Summaries.{nothing, join, shifted, AreJoinable, MayShift}
use Rattle.pz_clock.specs.Shifts.{ShiftView, is_running}
use Rattle.pz_preempt.specs.declared.summaries.Gate.{Gate}
use Rattle.pz_preempt.specs.declared.summaries.Gate.TheVariants.{Open, Shut}
use Rattle.pz_preempt.specs.declared.summaries.Mode.{Mode}
use Rattle.pz_preempt.specs.declared.summaries.Mode.TheVariants.{Idle, Handling}
use Rattle.pz_preempt.specs.declared.changes.Change.{Change}
use Rattle.pz_preempt.specs.declared.changes.Change.TheVariants.{Same, KeepSecond, Suspend, Resume, End}

-- the gate of a guard of which the test came to this
abbrev pub gate_of : Result Bool Trouble → Gate
gate_of (Ok true) = Open
gate_of (Ok false) = Shut
gate_of (Err t) = Shut

-- what stands behind an open gate is active, and by the clock of the guard all of it is due later by what its own
-- clock is behind
abbrev pub guarded_summary : Gate → ShiftView → Summary → Summary
guarded_summary Open shift child = shifted shift.behind child
guarded_summary Shut shift child = nothing

-- of an interrupt whose first part has this clock
abbrev pub interrupted_summary : Mode → ShiftView → Summary → Summary → Summary
interrupted_summary Idle shift first second = join (shifted shift.behind first) second
interrupted_summary Handling shift first second = second

-- the clock of what is active runs, and what is due by it is a moment of the clock around it
pub record RunsAhead (shift : ShiftView) (s : Summary) : Type 0 where
  pub runs : is_running shift ≡ true
  pub within : MayShift shift.behind s

abbrev pub MayGuard : Gate → ShiftView → Summary → Type 0
MayGuard Open shift child = RunsAhead shift child
MayGuard Shut shift child = Unit {0}

abbrev pub MayInterrupt : Mode → ShiftView → Summary → Summary → Type 0
MayInterrupt Idle shift first second = RunsAhead shift first × AreJoinable first second
MayInterrupt Handling shift first second = Unit {0}

-- an abort is done once its first part is, and is what is left of the second once that has acted
abbrev pub abort_change : ℕ → Bool → Change
abort_change zero true = End
abort_change zero false = Same
abort_change (suc i) finished = KeepSecond

-- An interrupt is done once its first part is. The first stands still from when the second has acted until that is
-- done, be it by its first action.
abbrev pub interrupt_change : Mode → ℕ → Bool → Change
interrupt_change Idle zero true = End
interrupt_change Idle zero false = Same
interrupt_change Idle (suc i) true = Resume
interrupt_change Idle (suc i) false = Suspend
interrupt_change Handling i true = Resume
interrupt_change Handling i false = Same
