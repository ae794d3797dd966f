-- References that the code holds name objects that are there.
use Rattle.std.specs.Prelude.{◌<◌, ℕ, All}
use Rattle.pz_state.specs.References.{RefersWithin}
use Rattle.pz_eval_operations.specs.declared.task.Site.{Site}
use Rattle.pz_eval_operations.specs.declared.task.Site.TheVariants.{Process, Object}
use Rattle.pz_eval_operations.specs.declared.task.Request.{Request}
use Rattle.pz_eval_operations.specs.declared.task.Task.{Task}
use Rattle.pz_eval_operations.specs.declared.task.Task.TheVariants as task
use Rattle.pz_eval_operations.specs.declared.task.Activation.{Activation}

pub record RequestWithin (count : ℕ) (q : Request) : Type 0 where
  pub receiver : RefersWithin count q.receiver
  pub arguments : All (RefersWithin count) q.arguments.items

abbrev pub TaskWithin : ℕ → Task → Type 0
TaskWithin count (task.Operand d left l rest) = RefersWithin count left
TaskWithin count (task.Argument q rest) = RequestWithin count q.value
TaskWithin count _ = Unit {0}

abbrev pub SiteWithin : ℕ → Site → Type 0
SiteWithin count (Process frame) = Unit {0}
SiteWithin count (Object r) = r < count

pub record ActivationWithin (count : ℕ) (a : Activation) : Type 0 where
  pub site : SiteWithin count a.site
  pub locals : All (RefersWithin count) a.locals.items
  pub tasks : All (TaskWithin count) a.tasks.items
