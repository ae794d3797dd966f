-- What callers make of what their methods come to.
use Rattle.std.proofs.Common.{◌≡◌, ℕ, ◌-◌, List, [], ◌∷◌, ◌++◌, length, Bor, Result, Ok, Err, refl, sym, ap, ◌∙◌}
use Rattle.std.specs.Prelude.{OnOk}
use Rattle.pz_classes_code.specs.pz_syntax.declared.tokens.Pos.{Pos}
use Rattle.pz_classes_code.specs.pz_syntax.Classes.{ModelTree}
use Rattle.pz_classes_code.specs.pz_value.declared.value.Value.{Value}
use Rattle.pz_classes_code.specs.pz_value.declared.value.Value.TheVariants.{Nil}
use Rattle.pz_classes_code.specs.declared.code.CodeSending.{CodeSending}
use Rattle.pz_state.specs.declared.fault.FaultKind.{FaultKind}
use Rattle.pz_state.specs.States.{StateView, nils}
use Rattle.pz_eval_operations.specs.pz_eval_rules.Memories.{Memory, Location, in_object}
use Rattle.pz_eval_operations.specs.pz_eval_rules.Answers.{ends, fault, gives, stops, ended}
use Rattle.pz_eval_operations.specs.pz_eval_rules.Steps.{Codes, runs}
use Rattle.pz_eval_operations.specs.pz_eval_rules.devices.Computed.{Reached, done, spent, Computation, and_then, seen_by, tick, sequence, replied, selectors, evaluated}
use Rattle.pz_eval_operations.specs.declared.stop.Stop.{Stop}
use Rattle.pz_eval_operations.specs.declared.stop.Stop.TheVariants as stop
use Rattle.pz_eval_operations.specs.declared.task.Site.TheVariants.{Object}
use Rattle.pz_eval_operations.specs.declared.task.Task.TheVariants as task
use Rattle.pz_eval_machine.specs.declared.control.Control.{Control}
use Rattle.pz_eval_operations.specs.declared.task.Activation.{Activation}
use Rattle.pz_eval_machine.specs.declared.control.Progress.{Progress}
use Rattle.pz_eval_operations.specs.devices.Sites.{place_of, locals_at, memory_at}
use Rattle.pz_eval_operations.specs.devices.Views.{sendings_view}
use Rattle.pz_eval_machine.specs.devices.Tasks.{pending_before, pending, handed, unwound_before, unwound}
use Rattle.pz_eval_machine.specs.devices.Steps.{Stops, Goes, Advances, went_on, root}
use Rattle.pz_eval_operations.specs.devices.Telling.{Ticks}
use Rattle.pz_eval_machine.proofs.Going.{then_gives, then_pending}

module _ (model : ModelTree) (now : ℕ) where
  pub unwound_push : (next : Reached Value → Reached Value) (cs : List Activation) (a : Activation) (x : Reached Value)
      → unwound_before model now next (cs ++ a ∷ []) x ≡ unwound_before model now next cs (handed model now a x)
  unfolding unwound_before
  unwound_push next [] a x = refl
  unwound_push next (c ∷ cs) a x = unwound_push (λ z. next (handed model now c z)) cs a x

  pub unwound_none : (cs : List Activation) (x : Reached Value) → cs ≡ [] → unwound model now cs x ≡ x
  unfolding unwound_before
  unwound_none cs x e = rw e refl

  -- what needs no caller stays
  unwound_spent : (next : Reached Value → Reached Value) (cs : List Activation) → next spent ≡ spent → unwound_before model now next cs spent ≡ spent
  unfolding unwound_before
  unwound_spent next [] e = e
  unwound_spent next (c ∷ cs) e = unwound_spent (λ z. next (handed model now c z)) cs e

  unwound_fault : (next : Reached Value → Reached Value) (cs : List Activation) (kind : FaultKind) (at : Pos) (r : ℕ)
      → next (done (stops (fault kind at)) r) ≡ done (stops (fault kind at)) r → unwound_before model now next cs (done (stops (fault kind at)) r) ≡ done (stops (fault kind at)) r
  unfolding unwound_before
  unwound_fault next [] kind at r e = e
  unwound_fault next (c ∷ cs) kind at r e = unwound_fault (λ z. next (handed model now c z)) cs kind at r e

  pub stops_unwound : (e : Stop) (cs : List Activation) (x : Reached Value) (r : ℕ) → Stops e x r → Stops e (unwound model now cs x) r
  stops_unwound stop.NoMemory cs x r h = tt
  stops_unwound stop.Spent cs x r h = ap (unwound model now cs) h ∙ unwound_spent (λ z. z) cs refl
  stops_unwound (stop.Fault kind at) cs x r h = ap (unwound model now cs) h ∙ unwound_fault (λ z. z) cs kind at r refl

  pub goes_unwound : (cs : List Activation) (after : Control → Reached Value) (result : Result Control Stop) (r : ℕ) (x : Reached Value)
      → Goes after result r x → Goes (λ k. unwound model now cs (after k)) result r (unwound model now cs x)
  goes_unwound cs after (Ok k) r x h = ap (unwound model now cs) h
  goes_unwound cs after (Err e) r x h = stops_unwound e cs x r h

  -- no unit is left
  pub tick_stops : (e : Stop) (cs : List Activation) (f : Computation Value) (m : Memory) (u u1 : ℕ) (next : Value → Computation Value)
      → Ticks (Err e) u u1 → Stops e (unwound model now cs (and_then (tick f m u) next)) u1
  tick_stops stop.NoMemory cs f m u u1 next h = absurd h
  tick_stops stop.Spent cs f m u u1 next h = ap (λ (n : ℕ). unwound model now cs (and_then (tick f m n) next)) h ∙ unwound_spent (λ z. z) cs refl
  tick_stops (stop.Fault kind at) cs f m u u1 next h = absurd h

  -- a method begins, and its caller waits
  pub call_same : (s : StateView) (r d o n : ℕ) (body : Codes) (ws : List Value) (more : Bor (List CodeSending)) (a0 a inner : Activation) (cs cs1 : List Activation)
      → a.site ≡ a0.site → a.locals.items ≡ a0.locals.items → a.tasks.items ≡ a0.tasks.items ++ task.Selectors d more ∷ [] → cs1 ≡ cs ++ a ∷ []
      → inner.site ≡ Object o → inner.locals.items ≡ ws ++ nils (n - length ws) → inner.tasks.items ≡ []
      → unwound model now cs1 (and_then (sequence model now (evaluated model now d) (place_of inner.site) Nil body (memory_at inner.site s inner.locals.items) r) (pending model now (place_of inner.site) inner.tasks.items))
      ≡ unwound model now cs (and_then (and_then (replied model now (evaluated model now d) (runs o n body) ws (memory_at a0.site s a0.locals.items) r) (λ z. selectors model now (evaluated model now d) (place_of a0.site) z (sendings_view more.now))) (pending model now (place_of a0.site) a0.tasks.items))
  unfolding replied pending_before
  call_same s r d o n body ws more a0 a inner cs cs1 a_site a_locals a_tasks cs1_is i_site i_locals i_tasks =
      let below : Reached Value = sequence model now (evaluated model now d) (in_object o) Nil body (record { state = s; locals = ws ++ nils (n - length ws) }) r in
      let began : and_then (sequence model now (evaluated model now d) (place_of inner.site) Nil body (memory_at inner.site s inner.locals.items) r) (pending model now (place_of inner.site) inner.tasks.items) ≡ below = rw (i_site, i_locals, i_tasks) (then_gives below) in
      let over : handed model now a below ≡ and_then (and_then (seen_by (ended (locals_at a0.site a0.locals.items)) below) (λ z. selectors model now (evaluated model now d) (place_of a0.site) z (sendings_view more.now))) (pending model now (place_of a0.site) a0.tasks.items) =
      rw (a_site, a_locals) (then_pending model now (place_of a0.site) (seen_by (ended (locals_at a0.site a0.locals.items)) below) (task.Selectors d more) a0.tasks.items a.tasks.items a_tasks) in
      ap (unwound model now cs1) began ∙ ap (λ (xs : List Activation). unwound model now xs below) cs1_is ∙ unwound_push (λ z. z) cs a below ∙ ap (unwound model now cs) over

  -- a value goes to the caller
  pub value_handed : (cs cs1 : List Activation) (a : Activation) (s : StateView) (locals : List Value) (y : Value) (r : ℕ) → cs ≡ cs1 ++ a ∷ []
      → unwound model now cs1 (pending model now (place_of a.site) a.tasks.items y (memory_at a.site s a.locals.items) r) ≡ unwound model now cs (done (gives y (record { state = s; locals = locals })) r)
  value_handed cs cs1 a s locals y r e =
      sym (ap (λ (xs : List Activation). unwound model now xs (done (gives y (record { state = s; locals = locals })) r)) e ∙ unwound_push (λ z. z) cs1 a (done (gives y (record { state = s; locals = locals })) r))

  pub result_handed : (cs cs1 : List Activation) (a : Activation) (s : StateView) (locals : List Value) (y : Value) (r : ℕ) → cs ≡ cs1 ++ a ∷ []
      → unwound model now cs1 (pending model now (place_of a.site) a.tasks.items y (memory_at a.site s a.locals.items) r) ≡ unwound model now cs (done (stops (ends y (record { state = s; locals = locals }))) r)
  result_handed cs cs1 a s locals y r e =
      sym (ap (λ (xs : List Activation). unwound model now xs (done (stops (ends y (record { state = s; locals = locals }))) r)) e ∙ unwound_push (λ z. z) cs1 a (done (stops (ends y (record { state = s; locals = locals }))) r))

pub root_push : (cs cs1 : List Activation) (a : Activation) (p : Location) → cs1 ≡ cs ++ a ∷ [] → root cs1 p ≡ root cs (place_of a.site)
root_push [] cs1 a p e = rw e refl
root_push (c ∷ cs) cs1 a p e = rw e refl

pub on_ok : {T E P : Type 0} (result : Result T E) → P → OnOk result P
on_ok (Ok x) h = h
on_ok (Err e) h = tt

pub advanced : (after : Control → Reached Value) (control : Result Control Stop) (result : Result Progress Stop) (m : Memory) (r : ℕ) (before : Reached Value)
    → result ≡ went_on control → Goes after control r before → Advances after result m r before
advanced after (Ok k) result m r before e h = rw e h
advanced after (Err stop) result m r before e h = rw e h
