-- What the tasks of the code come to.
use Rattle.std.specs.Prelude.{ℕ, List, [], ◌∷◌, ◌++◌}
use Rattle.pz_classes_code.specs.pz_syntax.declared.tokens.Pos.{Pos}
use Rattle.pz_classes_code.specs.pz_syntax.declared.names.Id.{Id}
use Rattle.pz_classes_code.specs.pz_syntax.Expressions.{Sendings}
use Rattle.pz_classes_code.specs.pz_syntax.Classes.{ModelTree}
use Rattle.pz_classes_code.specs.pz_value.declared.value.ClassId.{ClassId}
use Rattle.pz_classes_code.specs.pz_value.declared.value.Value.{Value}
use Rattle.pz_classes_code.specs.pz_value.declared.value.Value.TheVariants.{Nil}
use Rattle.pz_classes_code.specs.declared.slot.Slot.{Slot}
use Rattle.pz_classes_code.specs.CodeView.{Tree, view, list_view, part_view}
use Rattle.pz_eval_operations.specs.pz_eval_rules.Memories.{Location, write}
use Rattle.pz_eval_operations.specs.pz_eval_rules.Answers.{ends, gives, stops, ended}
use Rattle.pz_eval_operations.specs.pz_eval_rules.Steps.{Codes, truth, chosen, applied, applied_alone, reply}
use Rattle.pz_eval_operations.specs.pz_eval_rules.devices.Computed.{Reached, done, Computation, follow, and_then, seen_by, tick, tested, sequence, arguments, operators, replied, selectors, going, turns, evaluated}
use Rattle.pz_eval_operations.specs.declared.task.Task.{Task}
use Rattle.pz_eval_operations.specs.declared.task.Task.TheVariants as task
use Rattle.pz_eval_machine.specs.declared.control.Control.{Control}
use Rattle.pz_eval_machine.specs.declared.control.Control.TheVariants as control
use Rattle.pz_eval_operations.specs.declared.task.Activation.{Activation}
use Rattle.pz_state.specs.States.{StateView}
use Rattle.pz_eval_operations.specs.devices.Sites.{place_of, locals_at, memory_of}
use Rattle.pz_eval_operations.specs.devices.Views.{links_view, sendings_view}

module _ (model : ModelTree) (now : ℕ) where
  -- the turns of a `while`, of which there are no more than units
  abbrev pub turning : ℕ → Location → Pos → Tree → Codes → Computation Value
  turning d p at t ts m r = turns model now (evaluated model now d) r p at t ts m r

  -- a selector is sent with these arguments, and then those behind it
  abbrev pub sent : ℕ → Location → Value → Id → Sendings Slot ClassId → List Value → Computation Value
  sent d p y selector ss ws =
      tick (λ m r. and_then (replied model now (evaluated model now d) (reply model y selector ws m) ws m r) (λ z. selectors model now (evaluated model now d) p z ss))

  -- what a task comes to with a value
  abbrev pub resumed : Location → Task → Value → Computation Value
  resumed p (task.Sequence d rest) y m r = sequence model now (evaluated model now d) p y (list_view rest.now) m r
  resumed p (task.Operators d links) y m r = operators model now (evaluated model now d) p y (links_view links.now) m r
  resumed p (task.Operand d left l rest) w m r =
      tick (λ m1 r1. follow (applied l.now.op l.now.pos left w m1) r1 (λ z. operators model now (evaluated model now d) p z (links_view rest.now))) m r
  resumed p (task.Selectors d sendings) y m r = selectors model now (evaluated model now d) p y (sendings_view sendings.now) m r
  resumed p (task.Argument q rest) w m r =
      and_then (arguments model now (evaluated model now q.value.depth) p (q.value.arguments.items ++ w ∷ []) (list_view rest.now) m r)
      (sent q.value.depth p q.value.receiver q.value.selector.now (sendings_view q.value.more.now))
  resumed p (task.Unary op at) y m r = done (applied_alone op at y m) r
  resumed p (task.Assign x) y m r = done (gives y (write p x y m)) r
  resumed p task.Return y m r = done (stops (ends y m)) r
  resumed p (task.If d at part other) y m r =
      tested at (truth y) (λ b. sequence model now (evaluated model now d) p Nil (chosen b (list_view part.now) (part_view other.now))) m r
  resumed p (task.Test d at test body) y m r =
      tested at (truth y) (going model now (evaluated model now d) p (list_view body.now) (turning d p at (view test.now) (list_view body.now))) m r
  resumed p (task.Turn d at test body) y m r = turning d p at (view test.now) (list_view body.now) m r

  -- tasks, the latest of which is last, and then something else
  unfoldable pub pending_before : Location → (Value → Computation Value) → List Task → Value → Computation Value
  pending_before p next [] = next
  pending_before p next (k ∷ ks) = pending_before p (λ y m r. and_then (resumed p k y m r) next) ks

  abbrev pub pending : Location → List Task → Value → Computation Value
  pending p ks = pending_before p (λ y m r. done (gives y m) r) ks

  -- what is done next in a method, and then these tasks
  abbrev pub meant : Location → List Task → Control → Computation Value
  meant p ks (control.Evaluate d code) m r = and_then (evaluated model now d p (view code.now) m r) (pending p ks)
  meant p ks (control.Give y) m r = pending p ks y m r
  meant p ks (control.Send q) m r = and_then (sent q.value.depth p q.value.receiver q.value.selector.now (sendings_view q.value.more.now) q.value.arguments.items m r) (pending p ks)
  meant p ks (control.Leave y) m r = done (stops (ends y m)) r

  -- the same in a method that runs
  abbrev pub coming : Activation → StateView → ℕ → Control → Reached Value
  coming a s r c = meant (place_of a.site) a.tasks.items c (memory_of a s) r

  -- what comes of this once the tasks of the method are done
  abbrev pub then_tasks : Activation → Reached Value → Reached Value
  then_tasks a x = and_then x (pending (place_of a.site) a.tasks.items)

  -- a caller goes on with what its method came to
  abbrev pub handed : Activation → Reached Value → Reached Value
  handed a x = and_then (seen_by (ended (locals_at a.site a.locals.items)) x) (pending (place_of a.site) a.tasks.items)

  -- callers, the latest of which is last
  unfoldable pub unwound_before : (Reached Value → Reached Value) → List Activation → Reached Value → Reached Value
  unwound_before next [] = next
  unwound_before next (a ∷ as_) = unwound_before (λ x. next (handed a x)) as_

  abbrev pub unwound : List Activation → Reached Value → Reached Value
  unwound callers = unwound_before (λ x. x) callers

  -- all that is to come: what is done next in the method that runs, its tasks, and then its callers
  abbrev pub to_come : List Activation → Activation → StateView → ℕ → Control → Reached Value
  to_come callers a s r c = unwound callers (coming a s r c)
