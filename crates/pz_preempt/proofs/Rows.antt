-- Rows of guards, aborts and interrupts, worked out.
use Rattle.std.proofs.Common.{◌≡◌, true, false, Some, Err, refl}
use Rattle.pz_tree_standing.specs.pz_syntax.declared.tokens.Pos.{Pos}
use Rattle.pz_tree_standing.specs.pz_syntax.Statements.{skip}
use Rattle.pz_tree_standing.specs.pz_state.States.{StateView}
use Rattle.pz_tree_standing.specs.pz_offer.declared.trouble.Trouble.TheVariants.{High}
use Rattle.pz_tree_standing.specs.pz_offer.declared.summary.Summary.{Summary}
use Rattle.pz_tree_standing.specs.pz_offer.Summaries.{nothing}
use Rattle.pz_clock.specs.Shifts.{ShiftView, new_shift, frozen, thawed}
use Rattle.pz_tree_standing.specs.pz_rules.Terms.{Step, Term, done, leaf, wait, abort, idle, handling}
use Rattle.pz_tree_standing.specs.pz_rules.Settings.{left_by, Home}
use Rattle.pz_tree_standing.specs.pz_rules.Leaving.{around}
use Rattle.pz_preempt.specs.declared.summaries.Gate.TheVariants.{Open, Shut}
use Rattle.pz_preempt.specs.declared.summaries.Mode.TheVariants.{Idle, Handling}
use Rattle.pz_preempt.specs.Tables.{gate_of, guarded_summary, interrupted_summary, abort_change, interrupt_change}
use Rattle.pz_preempt.specs.Forms.{with_trouble, changed}

abbrev at : Pos
at = record { line = 1; column = 1 }

abbrev again : Step
again = skip at

-- a delay with 6 left where the clock of its part shows 4, and a part that can take a step
abbrev waits : Summary
waits = record nothing { due = Some 10 }

abbrev steps : Summary
steps = record nothing { internal = 1 }

-- its clock stood still from 4 to 11, and is 7 behind: by the clock around it the delay is over at 17
abbrev stood : ShiftView
stood = thawed (frozen new_shift 4) 11

behind_open_gate : guarded_summary Open stood waits ≡ record nothing { due = Some 17 }
behind_open_gate = refl

behind_shut_gate : guarded_summary Shut (frozen stood 11) waits ≡ nothing
behind_shut_gate = refl

-- a test with a trouble shuts the gate, and its trouble is all that is seen
troubled : with_trouble (Err (High 2 at)) (guarded_summary (gate_of (Err (High 2 at))) stood steps) ≡ record nothing { trouble = Some (High 2 at) }
troubled = refl

both_parts : interrupted_summary Idle stood waits steps ≡ record nothing { internal = 1; due = Some 17 }
both_parts = refl

-- while the second part acts, the first is not seen
only_the_second : interrupted_summary Handling (frozen stood 11) waits steps ≡ steps
only_the_second = refl

-- ------------------------------------------------------------ what becomes of them

abbrev t : Term
t = wait 6 at

abbrev u : Term
u = leaf again

-- the first part of an abort goes on, or ends it, and the second takes its place
first_goes_on : (h : Home) (s : StateView) → around h 0 s (abort t u) 0 u ≡ changed h s (abort_change 0 false) (abort t u) u
first_goes_on h s = refl

first_ends : (h : Home) (s : StateView) → around h 0 s (abort t u) 0 done ≡ left_by s done
first_ends h s = refl

second_stays : (h : Home) (s : StateView) → changed h s (abort_change 1 false) (abort t u) t ≡ left_by s t
second_stays h s = refl

-- a handler that is done by its first action has the first part go on, and stands open afresh
at_once : (h : Home) (s : StateView) → changed h s (interrupt_change Idle 1 true) (idle t u again) done ≡ left_by s (idle t (leaf again) again)
at_once h s = refl

suspends : (h : Home) (s : StateView) → changed h s (interrupt_change Idle 1 false) (idle t u again) t ≡ left_by s (handling t t again)
suspends h s = refl

goes_on : (h : Home) (s : StateView) → changed h s (interrupt_change Handling 1 false) (handling t u again) t ≡ left_by s (handling t t again)
goes_on h s = refl

resumes : (h : Home) (s : StateView) → changed h s (interrupt_change Handling 1 true) (handling t u again) done ≡ left_by s (idle t (leaf again) again)
resumes h s = refl

ends : (h : Home) (s : StateView) → changed h s (interrupt_change Idle 0 true) (idle t u again) done ≡ left_by s done
ends h s = refl
