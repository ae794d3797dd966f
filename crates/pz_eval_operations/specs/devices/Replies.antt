-- What the code knows of a reply.
use Rattle.std.specs.Prelude.{◌≡◌, ◌<◌, ℕ, Result, Ok, Err}
use Rattle.pz_classes_code.specs.CodeView.{list_view}
use Rattle.pz_state.specs.References.{RefersWithin}
use Rattle.pz_eval_rules.specs.Memories.{Memory}
use Rattle.pz_eval_rules.specs.Answers.{fault, gives, stops}
use Rattle.pz_eval_rules.specs.Steps.{Codes, answers, runs}
use Rattle.pz_eval_rules.specs.Steps as steps
use Rattle.pz_eval_operations.specs.declared.stop.Stop.{Stop}
use Rattle.pz_eval_operations.specs.declared.stop.Stop.TheVariants as stop
use Rattle.pz_eval_operations.specs.declared.replying.Method.{Method}
use Rattle.pz_eval_operations.specs.declared.replying.Reply.{Reply}
use Rattle.pz_eval_operations.specs.declared.replying.Reply.TheVariants as reply

abbrev pub method_found : Method → ℕ × Codes
method_found method = (method.locals, list_view method.code.now)

-- this is the reply, and this is left behind where it is an answer
abbrev pub Replies : Result Reply Stop → steps.Reply → Memory → Type 0
Replies (Ok (reply.Answers y)) x m = x ≡ answers (gives y m)
Replies (Ok (reply.Runs r method)) x m = x ≡ runs r method.locals (list_view method.code.now)
Replies (Err stop.NoMemory) x m = Unit {0}
Replies (Err stop.Spent) x m = ⊥
Replies (Err (stop.Fault kind at)) x m = x ≡ answers (stops (fault kind at))

-- what is named is there
abbrev pub ReplyWithin : ℕ → Reply → Type 0
ReplyWithin count (reply.Answers y) = RefersWithin count y
ReplyWithin count (reply.Runs r method) = r < count

-- P holds, unless the receiver answers
abbrev pub UnlessAnswer : Type 0 → Reply → Type 0
UnlessAnswer P (reply.Answers y) = Unit {0}
UnlessAnswer P (reply.Runs r method) = P
