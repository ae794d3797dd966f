-- Worked terms, which the checker works out.
use Rattle.std.proofs.Common.{◌≡◌, ℕ, pos, true, false, [], ◌∷◌, Some, Ok, refl}
use Rattle.pz_bind_rules.specs.pz_syntax.declared.tokens.Pos.{Pos}
use Rattle.pz_bind_rules.specs.pz_syntax.declared.tokens.Symbol.TheVariants.{Greater}
use Rattle.pz_bind_rules.specs.pz_syntax.declared.exprs.Literal.TheVariants as literal
use Rattle.pz_bind_rules.specs.pz_syntax.Expressions.{variable, chain, none, left_out, link, no_links}
use Rattle.pz_bind_rules.specs.pz_syntax.Expressions as expression
use Rattle.pz_bind_rules.specs.pz_syntax.Statements.{skip, delay, no_statements, then}
use Rattle.pz_bind_rules.specs.pz_syntax.Classes.{ModelTree}
use Rattle.pz_bind_rules.specs.pz_value.declared.value.Value.{Value}
use Rattle.pz_bind_rules.specs.pz_value.declared.value.Value.TheVariants as value
use Rattle.pz_bind_rules.specs.pz_classes_code.declared.slot.Slot.TheVariants.{Shared}
use Rattle.pz_offer.specs.pz_state.States.{StateView}
use Rattle.pz_prims.specs.Rows.{answered}
use Rattle.pz_prims.specs.EveryValue.{every_value}
use Rattle.pz_prims.specs.Integers.{integers}
use Rattle.pz_prims.specs.Booleans.{booleans}
use Rattle.pz_prims.specs.Table.{outcome}
use Rattle.pz_offer.specs.pz_copy.Parcels.{ParcelView}
use Rattle.pz_eval_rules.specs.devices.Computed.{sequence, arguments, operators, replied, selectors, going, turns, step, evaluated}
use Rattle.pz_rules.specs.declared.action.Kind.TheVariants.{Expire}
use Rattle.pz_rules.specs.Terms as terms
use Rattle.pz_rules.specs.Terms.{Code, Step, Term, done, leaf, wait, parallel, select, guarded, frame, abort, idle, handling, Terms, no_terms, and}
use Rattle.pz_rules.specs.declared.limits.Edition.TheVariants.{One}
use Rattle.pz_rules.specs.Settings.{Setting, Context, in_state, left_by, Home}
use Rattle.pz_rules.specs.Leaving.{around, residual, swept}
use Rattle.pz_rules.specs.Messages.{bound}
use Rattle.pz_rules.specs.devices.Found.{tested}
use Rattle.pz_rules.specs.devices.Walk.{internal_actions, active_delays}
use Rattle.pz_rules.specs.devices.Passing.{passed}

abbrev nothing : ModelTree
nothing = record { decls = [] }

abbrev setting : Setting
setting = record { model = nothing; limits = record { units = 100; depth = 20; height = 1000; edition = One } }

abbrev at : ℕ → Pos
at column = record { line = 1; column = column }

abbrev integer : ℕ → Value
integer n = value.Int (pos n)

-- a process with one variable, which has this value
abbrev state_with : Value → StateView
state_with v = record { vars = v ∷ []; frames = []; objects = [] }

abbrev seen_with : Value → Context
seen_with v = record { setting = setting; process = 0; class = 1; clock = 0; state = state_with v }

-- the variable is greater than this
abbrev greater : ℕ → Code
greater n = chain (at 2) (variable (at 2) (Shared 0)) (link Greater (at 4) (expression.literal (at 6) (literal.Int (pos n))) no_links)

-- What becomes of each level around an action

abbrev home : Home
home = record { model = nothing; edition = One; class = 1 }

abbrev s : StateView
s = state_with value.Nil

abbrev x : Term
x = wait 1 (at 1)

abbrev y : Term
y = wait 2 (at 2)

abbrev again : Step
again = skip (at 9)

sequence_goes_on : around home 0 s (terms.sequence x ((then) again no_statements)) 0 done ≡ left_by s (leaf again)
sequence_goes_on = refl

sequence_stays : around home 0 s (terms.sequence x ((then) again no_statements)) 0 y ≡ left_by s (terms.sequence y ((then) again no_statements))
sequence_stays = refl

parallel_stays : around home 0 s (parallel (and x (and done no_terms))) 0 y ≡ left_by s (parallel (and y (and done no_terms)))
parallel_stays = refl

parallel_is_done : around home 0 s (parallel (and x (and done no_terms))) 0 done ≡ left_by s done
parallel_is_done = refl

choice_is_taken : around home 0 s (select (and x (and y no_terms))) 1 done ≡ left_by s done
choice_is_taken = refl

guard_is_left : around home 0 s (guarded (greater 0) (at 1) x) 0 y ≡ left_by s y
guard_is_left = refl

abort_stays : around home 0 s (abort x y) 0 y ≡ left_by s (abort y y)
abort_stays = refl

abort_is_done : around home 0 s (abort x y) 0 done ≡ left_by s done
abort_is_done = refl

first_part_ends : around home 0 s (abort x y) 1 y ≡ left_by s y
first_part_ends = refl

idle_stays : around home 0 s (idle x y again) 0 y ≡ left_by s (idle y y again)
idle_stays = refl

idle_is_done : around home 0 s (idle x y again) 0 done ≡ left_by s done
idle_is_done = refl

handler_begins : around home 0 s (idle x y again) 1 x ≡ left_by s (handling x x again)
handler_begins = refl

-- a handler that is done by its first action stands open afresh at once
handler_reopens : around home 0 s (idle x y again) 1 done ≡ left_by s (idle x (leaf again) again)
handler_reopens = refl

handler_goes_on : around home 0 s (handling x y again) 1 x ≡ left_by s (handling x x again)
handler_goes_on = refl

handler_ends : around home 0 s (handling x y again) 1 done ≡ left_by s (idle x (leaf again) again)
handler_ends = refl

-- Frames

-- frame 1 with an input and an output, and frame 2
abbrev two_frames : StateView
two_frames = record { vars = value.Nil ∷ []; frames = (1, integer 7 ∷ integer 8 ∷ []) ∷ (2, []) ∷ []; objects = [] }

-- a frame that is done assigns its outputs, and leaves the state
frame_returns : swept (residual home 0 (frame 1 1 (Shared 0 ∷ []) x) (0 ∷ []) (left_by two_frames done)) ≡ left_by (state_with (integer 8)) done
frame_returns = refl

-- a frame without outputs that is all of a frame without outputs stands in its place
frame_is_replaced : swept (residual home 0 (frame 1 0 [] x) (0 ∷ []) (left_by two_frames (frame 2 0 [] y)))
    ≡ left_by (record { vars = value.Nil ∷ []; frames = (2, []) ∷ []; objects = [] }) (frame 2 0 [] y)
frame_is_replaced = refl

-- one with an output is not
frame_with_output_stays : swept (residual home 0 (frame 1 1 (Shared 0 ∷ []) x) (0 ∷ []) (left_by two_frames (frame 2 0 [] y)))
    ≡ left_by two_frames (frame 1 1 (Shared 0 ∷ []) (frame 2 0 [] y))
frame_with_output_stays = refl

-- A guard that closes: a delay behind it stands still

abbrev behind_guard : Term
behind_guard = parallel (and (guarded (greater 0) (at 1) (wait 5 (at 7))) (and (wait 2 (at 9)) no_terms))

both_count : active_delays (seen_with (integer 1)) behind_guard ≡ record { place = 0 ∷ 0 ∷ []; what = 5 } ∷ record { place = 1 ∷ []; what = 2 } ∷ []
unfolding evaluated step sequence arguments operators replied selectors going turns outcome answered every_value integers booleans
both_count = refl

one_counts : active_delays (seen_with (integer 0)) behind_guard ≡ record { place = 1 ∷ []; what = 2 } ∷ []
unfolding evaluated step sequence arguments operators replied selectors going turns outcome answered every_value integers booleans
one_counts = refl

both_go_on : passed (seen_with (integer 1)) 2 0 behind_guard ≡ parallel (and (guarded (greater 0) (at 1) (wait 3 (at 7))) (and (wait 0 (at 9)) no_terms))
unfolding evaluated step sequence arguments operators replied selectors going turns outcome answered every_value integers booleans
both_go_on = refl

one_goes_on : passed (seen_with (integer 0)) 2 0 behind_guard ≡ parallel (and (guarded (greater 0) (at 1) (wait 5 (at 7))) (and (wait 0 (at 9)) no_terms))
unfolding evaluated step sequence arguments operators replied selectors going turns outcome answered every_value integers booleans
one_goes_on = refl

-- A delay whose time is the variable begins with the passing of time

abbrev by_variable : Term
by_variable = leaf (delay (at 3) (variable (at 9) (Shared 0)))

begins : passed (seen_with (integer 4)) 4 0 by_variable ≡ wait 0 (at 3)
unfolding evaluated step sequence arguments operators replied selectors going turns outcome answered every_value integers booleans
begins = refl

expires : internal_actions (seen_with (integer 4)) (wait 0 (at 3)) ≡ record { place = []; what = record { kind = Expire; pos = at 3 } } ∷ []
expires = refl

-- An interrupt: what is interrupted stands still, and goes on once the handler is done

abbrev interrupted : Term
interrupted = handling (wait 6 (at 5)) (wait 7 (at 6)) again

only_handler_counts : active_delays (seen_with value.Nil) interrupted ≡ record { place = 1 ∷ []; what = 7 } ∷ []
only_handler_counts = refl

handler_elapses : passed (seen_with value.Nil) 7 0 interrupted ≡ handling (wait 6 (at 5)) (wait 0 (at 6)) again
handler_elapses = refl

goes_on_after : residual home 0 (handling (wait 6 (at 5)) (wait 0 (at 6)) again) (1 ∷ []) (left_by s done) ≡ left_by s (idle (wait 6 (at 5)) (leaf again) again)
goes_on_after = refl

-- An abort: the delay of the first part is gone once the second acts

aborted : residual home 0 (abort (wait 10 (at 5)) (leaf again)) (1 ∷ []) (left_by s done) ≡ left_by s done
aborted = refl

-- A condition that is false for one parcel, and true for another

abbrev parcel : ℕ → ParcelView
parcel n = record { values = integer n ∷ []; objects = [] }

refuses : tested (in_state (seen_with value.Nil) (bound (seen_with value.Nil) 0 (Some (Shared 0 ∷ [])) (parcel 2))) 0 (at 1) (greater 2) ≡ Ok false
unfolding evaluated step sequence arguments operators replied selectors going turns outcome answered every_value integers booleans
refuses = refl

takes : tested (in_state (seen_with value.Nil) (bound (seen_with value.Nil) 0 (Some (Shared 0 ∷ [])) (parcel 3))) 0 (at 1) (greater 2) ≡ Ok true
unfolding evaluated step sequence arguments operators replied selectors going turns outcome answered every_value integers booleans
takes = refl
