-- How much can be done before a unit is counted: each step that counts none makes this less.
use Rattle.std.specs.Prelude.{◌≡◌, ◌+◌, ◌<◌, ◌≤◌, ◌⊎◌, ℕ, suc, List}
use Rattle.std.specs.List.{sum_by}
use Rattle.pz_classes_code.specs.pz_syntax.Expressions.{chain, sends, none, more, Part, left_out, written, Links, no_links, link, Sendings, no_sendings, sending}
use Rattle.pz_classes_code.specs.pz_value.declared.value.ClassId.{ClassId}
use Rattle.pz_classes_code.specs.declared.slot.Slot.{Slot}
use Rattle.pz_classes_code.specs.CodeView.{Tree, view, list_view, part_view}
use Rattle.pz_eval_operations.specs.pz_eval_rules.Steps.{Codes}
use Rattle.pz_eval_operations.specs.declared.task.Task.{Task}
use Rattle.pz_eval_operations.specs.declared.task.Task.TheVariants as task
use Rattle.pz_eval_machine.specs.declared.control.Control.{Control}
use Rattle.pz_eval_machine.specs.declared.control.Control.TheVariants as control
use Rattle.pz_eval_operations.specs.declared.task.Activation.{Activation}
use Rattle.pz_eval_machine.specs.declared.control.Progress.{Progress}
use Rattle.pz_eval_machine.specs.declared.control.Progress.TheVariants as progress
use Rattle.pz_eval_operations.specs.devices.Views.{links_view, sendings_view}

unfoldable mutual
  -- the evaluation of any other expression begins with a unit
  pub weight : Tree → ℕ
  weight (chain at t ls) = suc (weight t + suc (links_weight ls))
  weight (sends at t ss) = suc (weight t + suc (sendings_weight ss))
  weight t = 0

  pub list_weight : Codes → ℕ
  list_weight none = 0
  list_weight (more t ts) = suc (weight t + list_weight ts)

  pub part_weight : Part Slot ClassId → ℕ
  part_weight left_out = 0
  part_weight (written ts) = list_weight ts

  -- an operator that has its operands counts a unit
  pub links_weight : Links Slot ClassId → ℕ
  links_weight no_links = 0
  links_weight (link op at t ls) = weight t

  -- and so does a selector that has its arguments
  pub sendings_weight : Sendings Slot ClassId → ℕ
  sendings_weight no_sendings = 0
  sendings_weight (sending selector args ss) = part_weight args

abbrev pub task_weight : Task → ℕ
task_weight (task.Sequence d rest) = suc (list_weight (list_view rest.now))
task_weight (task.Operators d links) = suc (links_weight (links_view links.now))
task_weight (task.Operand d left l rest) = 0
task_weight (task.Selectors d sendings) = suc (sendings_weight (sendings_view sendings.now))
task_weight (task.Argument q rest) = suc (list_weight (list_view rest.now))
task_weight (task.Unary op at) = 1
task_weight (task.Assign x) = 1
task_weight task.Return = 1
task_weight (task.If d at part other) = suc (list_weight (list_view part.now) + part_weight (part_view other.now))
task_weight (task.Test d at test body) = suc (list_weight (list_view body.now))
task_weight (task.Turn d at test body) = 0

unfoldable pub tasks_weight : List Task → ℕ
tasks_weight ks = sum_by task_weight ks

abbrev pub control_weight : Control → ℕ
control_weight (control.Evaluate d code) = weight (view code.now)
control_weight (control.Give y) = 0
control_weight (control.Send q) = 0
control_weight (control.Leave y) = 0

-- of what is done next in a method, and its tasks
abbrev pub load : Control → List Task → ℕ
load c ks = control_weight c + tasks_weight ks

abbrev pub caller_weight : Activation → ℕ
caller_weight a = suc (tasks_weight a.tasks.items)

unfoldable pub callers_weight : List Activation → ℕ
callers_weight callers = sum_by caller_weight callers

-- of what is done next, the tasks of the method that runs, and its callers
abbrev pub total : Control → Activation → List Activation → ℕ
total c a callers = load c a.tasks.items + callers_weight callers

-- Fewer units are left; or as many, and less can be done before one is counted.
abbrev pub Falls : ℕ → ℕ → ℕ → ℕ → Type 0
Falls u w u1 w1 = (u1 < u) ⊎ ((u1 ≡ u) × (w1 < w))

-- the same, or no less can be done
abbrev pub NoMore : ℕ → ℕ → ℕ → ℕ → Type 0
NoMore u w u1 w1 = (u1 < u) ⊎ ((u1 ≡ u) × (w1 ≤ w))

-- P holds of what is done next
abbrev pub WhileOn : (Control → Type 0) → Progress → Type 0
WhileOn P (progress.On c) = P c
WhileOn P (progress.Over f) = Unit {0}
