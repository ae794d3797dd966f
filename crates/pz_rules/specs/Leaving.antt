-- What an action leaves of a term: the acting part becomes another, and what is around it changes
-- level by level.
use Rattle.std.specs.Prelude.{ℕ, zero, suc, Bool, true, false, ◌&&◌, nat_eq, nat_le, if◌then◌else◌, List, [], ◌∷◌, drop, filter, Result, Ok, Err}
use Rattle.std.specs.List.{list_any}
use Rattle.pz_bind_rules.specs.pz_syntax.declared.tokens.Pos.{Pos}
use Rattle.pz_bind_rules.specs.pz_classes_code.declared.slot.Slot.{Slot}
use Rattle.pz_offer.specs.pz_state.States.{StateView, locals}
use Rattle.pz_offer.specs.PlaceOrder.{Place}
use Rattle.pz_offer.specs.declared.trouble.Trouble.{Trouble}
use Rattle.pz_offer.specs.declared.trouble.Trouble.TheVariants.{High}
use Rattle.pz_rules.specs.Terms.{Step, Term, done, sequence, parallel, select, guarded, frame, abort, idle, handling, Terms, no_terms, and, child, height, frames_in, frame_in}
use Rattle.pz_rules.specs.Framing.{framed}
use Rattle.pz_rules.specs.Opening.{opened, opened_all}
use Rattle.pz_rules.specs.Settings.{Context, Process, left_by, Home, home_of}
use Rattle.pz_eval_binding.specs.Binding.{set_slots}

abbrev pub replaced : Terms → ℕ → Term → Terms
replaced no_terms i x = no_terms
replaced (and t ts) zero x = and x ts
replaced (and t ts) (suc i) x = and t (replaced ts i x)

abbrev pub is_done : Term → Bool
is_done done = true
is_done _ = false

abbrev pub all_done : Terms → Bool
all_done no_terms = true
all_done (and t ts) = is_done t && all_done ts

-- done once all parts are
abbrev pub joined : Terms → Term
joined ts = if all_done ts then done else parallel ts

-- the values of the outputs of a frame, which are its locals behind its inputs, go to the variables
-- of the frame f around it
abbrev pub returned : ℕ → ℕ → ℕ → List Slot → StateView → StateView
returned f number inputs results s = set_slots f results (drop inputs (locals s number)) s

-- what an interrupt becomes when its second part has become this: the first goes on once it is done,
-- and the second stands open afresh
abbrev pub handled : Home → StateView → Term → Step → Term → Process
handled h s t again done = let x = opened h again s in left_by x.state (idle t x.term again)
handled h s t again x = left_by s (handling t x again)

-- what the first part leaves of an `abort`
abbrev pub aborted : Term → Term → Term
aborted u done = done
aborted u x = abort x u

abbrev pub interrupted : Term → Step → Term → Term
interrupted u again done = done
interrupted u again x = idle x u again

-- A term in frame f and in state s whose child of this number has become x
abbrev pub around : Home → ℕ → StateView → Term → ℕ → Term → Process
around h f s (sequence t rest) i done = opened_all h rest s
around h f s (sequence t rest) i x = left_by s (sequence x rest)
around h f s (parallel ts) i x = left_by s (joined (replaced ts i x))
around h f s (select ts) i x = left_by s x
around h f s (guarded test at t) i x = left_by s x
around h f s (frame number inputs results t) i done = left_by (returned f number inputs results s) done
around h f s (frame number inputs results t) i x = left_by s (framed number inputs results x)
around h f s (abort t u) zero x = left_by s (aborted u x)
around h f s (abort t u) (suc i) x = left_by s x
around h f s (idle t u again) zero x = left_by s (interrupted u again x)
around h f s (idle t u again) (suc i) x = handled h s t again x
around h f s (handling t u again) i x = handled h s t again x
around h f s t i x = left_by s t

-- a term in frame f whose part at the place has become this
abbrev pub residual : Home → ℕ → Term → Place → Process → Process
residual h f t [] x = x
residual h f t (i ∷ place) x = let inner = residual h (frame_in t f) (child t i) place x in around h f inner.state t i inner.term

-- the frames that stand in the term, and no others
abbrev pub only_frames : List ℕ → StateView → StateView
only_frames standing s = record s { frames = filter (λ f. list_any (nat_eq f.0) standing) s.frames }

abbrev pub swept : Process → Process
swept p = record p { state = only_frames (frames_in p.term) p.state }

-- the process, unless its term is too high: at the place of the statement that acted
abbrev pub not_too_high : Context → Pos → Process → Result Process Trouble
not_too_high a at p = if nat_le (height p.term) a.setting.limits.height then Ok p else Err (High a.process at)

-- the whole process, when the part at the place has become this
abbrev pub settled : Context → Pos → Term → Place → Process → Result Process Trouble
settled a at whole place x = not_too_high a at (swept (residual (home_of a) 0 whole place x))
