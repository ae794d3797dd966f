-- What a step of the code does to what is to come.
use Rattle.std.specs.Prelude.{◌≡◌, ℕ, List, [], ◌∷◌, Result, Ok, Err}
use Rattle.pz_classes_code.specs.pz_value.declared.value.Value.{Value}
use Rattle.pz_eval_operations.specs.pz_eval_rules.Memories.{Memory, Location}
use Rattle.pz_eval_operations.specs.pz_eval_rules.Answers.{Answer, ends, fault, gives, stops}
use Rattle.pz_eval_operations.specs.pz_eval_rules.devices.Computed.{Reached, done, spent}
use Rattle.pz_eval_operations.specs.declared.stop.Stop.{Stop}
use Rattle.pz_eval_operations.specs.declared.stop.Stop.TheVariants as stop
use Rattle.pz_eval_machine.specs.declared.control.Control.{Control}
use Rattle.pz_eval_machine.specs.declared.control.Control.TheVariants as control
use Rattle.pz_eval_operations.specs.declared.task.Activation.{Activation}
use Rattle.pz_eval_machine.specs.declared.control.Finish.{Finish}
use Rattle.pz_eval_machine.specs.declared.control.Finish.TheVariants as finish
use Rattle.pz_eval_machine.specs.declared.control.Progress.{Progress}
use Rattle.pz_eval_machine.specs.declared.control.Progress.TheVariants as progress
use Rattle.pz_eval_operations.specs.devices.Sites.{place_of}

-- The code stops as what was to come does, with so many units left. Want of memory is the one free
-- answer.
abbrev pub Stops : Stop → Reached Value → ℕ → Type 0
Stops stop.NoMemory before r = Unit {0}
Stops stop.Spent before r = before ≡ spent
Stops (stop.Fault kind at) before r = before ≡ done (stops (fault kind at)) r

-- what the code does next comes to the same as what was to come
abbrev pub Goes : (Control → Reached Value) → Result Control Stop → ℕ → Reached Value → Type 0
Goes after (Ok c) r before = after c ≡ before
Goes after (Err e) r before = Stops e before r

abbrev pub given : Result Value Stop → Result Control Stop
given (Ok y) = Ok (control.Give y)
given (Err e) = Err e

abbrev pub finished : Finish → Memory → Answer Value
finished (finish.Value y) m = gives y m
finished (finish.Return y) m = stops (ends y m)

-- the same, where the evaluation may be over, and leave this behind
abbrev pub Progresses : (Control → Reached Value) → Progress → Memory → ℕ → Reached Value → Type 0
Progresses after (progress.On c) m r before = after c ≡ before
Progresses after (progress.Over f) m r before = before ≡ done (finished f m) r

abbrev pub Advances : (Control → Reached Value) → Result Progress Stop → Memory → ℕ → Reached Value → Type 0
Advances after (Ok x) m r before = Progresses after x m r before
Advances after (Err e) m r before = Stops e before r

abbrev pub went_on : Result Control Stop → Result Progress Stop
went_on (Ok c) = Ok (progress.On c)
went_on (Err e) = Err e

-- P holds where the evaluation is over
abbrev pub OnOver : Type 0 → Progress → Type 0
OnOver P (progress.On c) = Unit {0}
OnOver P (progress.Over f) = P

-- the evaluation is over
abbrev pub Finishes : Result Finish Stop → Memory → ℕ → Reached Value → Type 0
Finishes (Ok f) m r before = before ≡ done (finished f m) r
Finishes (Err e) m r before = Stops e before r

-- where the first of these methods runs, and then one more
abbrev pub root : List Activation → Location → Location
root [] p = p
root (a ∷ as_) p = place_of a.site
