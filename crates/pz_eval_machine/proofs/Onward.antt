-- How lists, operators, selectors, arguments and turns go on.
use Rattle.std.proofs.Common.{◌≡◌, ℕ, zero, suc, List, [], ◌∷◌, ◌++◌, length, Bool, true, false, Option, Some, None, Bor, Box, Global, refl, sym, ap, subst, arith, rules}
use Rattle.pz_classes_code.specs.pz_syntax.declared.tokens.Pos.{Pos}
use Rattle.pz_classes_code.specs.pz_syntax.Expressions.{Part}
use Rattle.pz_classes_code.specs.pz_syntax.Classes.{ModelTree}
use Rattle.pz_classes_code.specs.pz_value.declared.value.ClassId.{ClassId}
use Rattle.pz_classes_code.specs.pz_value.declared.value.Value.{Value}
use Rattle.pz_classes_code.specs.pz_value.declared.value.Value.TheVariants as value
use Rattle.pz_classes_code.specs.declared.slot.Slot.{Slot}
use Rattle.pz_classes_code.specs.declared.code.Code.{Code}
use Rattle.pz_classes_code.specs.declared.code.CodeLink.{CodeLink}
use Rattle.pz_classes_code.specs.declared.code.CodeSending.{CodeSending, out-CodeSending}
use Rattle.pz_classes_code.specs.declared.code.CodeForm.TheFolds.{the_lemmas}
use Rattle.pz_classes_code.specs.CodeView.{Tree, view, list_view, part_view, sending_view}
use Rattle.pz_state.specs.declared.fault.FaultKind.TheVariants.{NotBoolean}
use Rattle.pz_eval_operations.specs.pz_eval_rules.Memories.{Memory, Location}
use Rattle.pz_eval_operations.specs.pz_eval_rules.Answers.{fault, gives, stops}
use Rattle.pz_eval_operations.specs.pz_eval_rules.Steps.{Codes, truth, chosen, applied}
use Rattle.pz_eval_operations.specs.pz_eval_rules.Evaluation.{arguments_of}
use Rattle.pz_eval_operations.specs.pz_eval_rules.devices.Computed.{Reached, done, Computation, follow, and_then, tick, tested, sequence, arguments, operators, selectors, going, turns, evaluated}
use Rattle.pz_eval_operations.specs.pz_eval_rules.devices.Laws.{TurnsGoOn}
use Rattle.pz_eval_operations.specs.declared.task.Request.{Request}
use Rattle.pz_eval_operations.specs.declared.task.Task.{Task}
use Rattle.pz_eval_operations.specs.declared.task.Task.TheVariants as task
use Rattle.pz_eval_operations.specs.devices.AtOnce.{Assigned}
use Rattle.pz_eval_operations.specs.devices.Views.{links_view, sendings_view}
use Rattle.pz_eval_machine.specs.devices.Tasks.{turning, sent, resumed, pending}
use Rattle.pz_eval_machine.proofs.Going.{then_assoc, then_gives, then_pending}
use Rattle.pz_eval_operations.proofs.Views.{link_is}

-- what a selector stands for
sending_of : (s : CodeSending) (args : Option (List Code)) → (out-CodeSending s).args ≡ args → sending_view s ≡ ((out-CodeSending s).selector, part_view args)
sending_of s None e = search (rules, the_lemmas)
sending_of s (Some es) e = search (rules, the_lemmas)

pub sending_is : (s : CodeSending) → sending_view s ≡ ((out-CodeSending s).selector, part_view (out-CodeSending s).args)
sending_is s = sending_of s (out-CodeSending s).args refl

module _ (model : ModelTree) (now d : ℕ) (p : Location) (m : Memory) (r : ℕ) (next : Value → Computation Value) where
  -- lists
  pub list_over : (y : Value) (codes : List Code) → length codes ≡ 0 → next y m r ≡ and_then (sequence model now (evaluated model now d) p y (list_view codes) m r) next
  unfolding sequence
  list_over y [] e = refl
  list_over y (c ∷ cs) e = absurd (omega (arith, e))

  pub list_more : (y : Value) (first : Code) (rest : Bor (List Code)) (codes : List Code) → codes ≡ first ∷ rest.now
      → and_then (and_then (evaluated model now d p (view first) m r) (resumed model now p (task.Sequence d rest))) next ≡ and_then (sequence model now (evaluated model now d) p y (list_view codes) m r) next
  unfolding sequence
  list_more y first rest codes e = rw e refl

  -- the last one leaves no task
  pub list_last : (y : Value) (first : Code) (rest codes : List Code) → codes ≡ first ∷ rest → rest ≡ []
      → and_then (evaluated model now d p (view first) m r) next ≡ and_then (sequence model now (evaluated model now d) p y (list_view codes) m r) next
  unfolding sequence
  list_last y first rest codes e none = rw (e, none) (ap (λ (x : Reached Value). and_then x next) (sym (then_gives (evaluated model now d p (view first) m r))))

  -- operators
  pub operators_over : (y : Value) (links : List CodeLink) → length links ≡ 0 → next y m r ≡ and_then (operators model now (evaluated model now d) p y (links_view links) m r) next
  unfolding operators
  operators_over y [] e = refl
  operators_over y (l ∷ ls) e = absurd (omega (arith, e))

  pub operators_more : (y : Value) (first : Bor CodeLink) (rest : Bor (List CodeLink)) (links : List CodeLink) → links ≡ first.now ∷ rest.now
      → and_then (and_then (evaluated model now d p (view first.now.operand) m r) (resumed model now p (task.Operand d y first rest))) next ≡ and_then (operators model now (evaluated model now d) p y (links_view links) m r) next
  unfolding operators
  operators_more y first rest links e = rw (e, link_is first.now) refl

  -- the operand is found at once
  pub operators_found : (y w : Value) (u : ℕ) (first : CodeLink) (rest links : List CodeLink) → links ≡ first ∷ rest → evaluated model now d p (view first.operand) m r ≡ done (gives w m) u
      → and_then (tick (λ m1 r1. follow (applied first.op first.pos y w m1) r1 (λ z. operators model now (evaluated model now d) p z (links_view rest))) m u) next
      ≡ and_then (operators model now (evaluated model now d) p y (links_view links) m r) next
  unfolding operators
  operators_found y w u first rest links e found = rw (e, link_is first, found) refl

  -- selectors
  pub selectors_over : (y : Value) (sendings : List CodeSending) → length sendings ≡ 0 → next y m r ≡ and_then (selectors model now (evaluated model now d) p y (sendings_view sendings) m r) next
  unfolding selectors
  selectors_over y [] e = refl
  selectors_over y (s ∷ ss) e = absurd (omega (arith, e))

-- an assignment that is done at once
pub done_assigned : (d : ℕ) (p : Location) (t : Tree) (m m1 : Memory) (u u1 : ℕ) (o : Option Value) (y : Value) → o ≡ Some y → Assigned d p t m u m1 u1 o → Assigned d p t m u m1 u1 (Some y)
done_assigned d p t m m1 u u1 o y e = subst (λ (x : Option Value). Assigned d p t m u m1 u1 x) e

pub list_assigned : (model : ModelTree) (now d : ℕ) (p p1 : Location) (y z : Value) (first : Code) (rest codes : List Code) (m m1 : Memory) (u u1 : ℕ) → p1 ≡ p → codes ≡ first ∷ rest
    → Assigned d p (view first) m u m1 u1 (Some z)
    → sequence model now (evaluated model now d) p1 z (list_view rest) m1 u1 ≡ sequence model now (evaluated model now d) p y (list_view codes) m u
unfolding sequence
list_assigned model now d p p1 y z first rest codes m m1 u u1 p_is e found = rw (p_is, e, found.1 model now) refl

module _ (model : ModelTree) (now : ℕ) (p : Location) (m : Memory) (r : ℕ) (next : Value → Computation Value) where
  pub selectors_more : (d : ℕ) (y : Value) (first : CodeSending) (rest : List CodeSending) (sendings : List CodeSending) (ws : List Value) (ts : Codes) → sendings ≡ first ∷ rest
      → ws ≡ [] → ts ≡ arguments_of (part_view (out-CodeSending first).args)
      → and_then (and_then (arguments model now (evaluated model now d) p ws ts m r) (sent model now d p y (out-CodeSending first).selector (sendings_view rest))) next
      ≡ and_then (selectors model now (evaluated model now d) p y (sendings_view sendings) m r) next
  unfolding selectors
  selectors_more d y first rest sendings ws ts e ws_is ts_is = rw (e, ws_is, ts_is, sending_is first) refl

  -- arguments
  pub arguments_over : (q : Request) (codes : List Code) → length codes ≡ 0
      → and_then (sent model now q.depth p q.receiver q.selector.now (sendings_view q.more.now) q.arguments.items m r) next
      ≡ and_then (and_then (arguments model now (evaluated model now q.depth) p q.arguments.items (list_view codes) m r) (sent model now q.depth p q.receiver q.selector.now (sendings_view q.more.now))) next
  unfolding arguments
  arguments_over q [] e = refl
  arguments_over q (c ∷ cs) e = absurd (omega (arith, e))

  pub arguments_more : (q : Box Request Global) (first : Code) (rest : Bor (List Code)) (codes : List Code) → codes ≡ first ∷ rest.now
      → and_then (and_then (evaluated model now q.value.depth p (view first) m r) (resumed model now p (task.Argument q rest))) next
      ≡ and_then (and_then (arguments model now (evaluated model now q.value.depth) p q.value.arguments.items (list_view codes) m r) (sent model now q.value.depth p q.value.receiver q.value.selector.now (sendings_view q.value.more.now))) next
  unfolding arguments
  arguments_more q first rest codes e =
      rw e (ap (λ (x : Reached Value). and_then x next) (sym (then_assoc (evaluated model now q.value.depth p (view first) m r)
      (λ y. arguments model now (evaluated model now q.value.depth) p (q.value.arguments.items ++ y ∷ []) (list_view rest.now)) (sent model now q.value.depth p q.value.receiver q.value.selector.now (sendings_view q.value.more.now)))))

-- turns
turns_counted : TurnsGoOn → (model : ModelTree) (now d : ℕ) (p : Location) (at : Pos) (test : Bor Code) (body : Bor (List Code)) (m : Memory) (u : ℕ)
    → tick (λ m1 r1. and_then (evaluated model now d p (view test.now) m1 r1) (resumed model now p (task.Test d at test body))) m u ≡ turning model now d p at (view test.now) (list_view body.now) m u
unfolding turns
turns_counted law model now d p at test body m zero = refl
turns_counted law model now d p at test body m (suc r) = sym (law model now d p at (view test.now) (list_view body.now) m r)

pub turns_more : TurnsGoOn → (model : ModelTree) (now d : ℕ) (p : Location) (at : Pos) (test : Bor Code) (body : Bor (List Code)) (m : Memory) (u : ℕ) (next : Value → Computation Value)
    → and_then (tick (λ m1 r1. and_then (evaluated model now d p (view test.now) m1 r1) (resumed model now p (task.Test d at test body))) m u) next
    ≡ and_then (turning model now d p at (view test.now) (list_view body.now) m u) next
turns_more law model now d p at test body m u next = ap (λ (x : Reached Value). and_then x next) (turns_counted law model now d p at test body m u)

-- tests
pub no_truth : (y : Value) → ((b : Bool) → y ≡ value.Bool b → ⊥) → truth y ≡ None
no_truth value.Nil other = refl
no_truth (value.Bool b) other = absurd (other b refl)
no_truth (value.Int n) other = refl
no_truth (value.Char n) other = refl
no_truth (value.Str text) other = refl
no_truth (value.Ref r) other = refl

pub not_tested : (y : Value) → ((b : Bool) → y ≡ value.Bool b → ⊥) → (at : Pos) (f : Bool → Computation Value) (m : Memory) (r : ℕ) (next : Value → Computation Value)
    → and_then (tested at (truth y) f m r) next ≡ done (stops (fault NotBoolean at)) r
not_tested y other at f m r next = rw (no_truth y other) refl

pub part_chosen : (model : ModelTree) (now d : ℕ) (p : Location) (at : Pos) (m : Memory) (r : ℕ) (next : Value → Computation Value) (y : Value) (b : Bool) (codes ts : Codes) (other : Part Slot ClassId)
    → y ≡ value.Bool b → codes ≡ chosen b ts other
    → and_then (sequence model now (evaluated model now d) p value.Nil codes m r) next
    ≡ and_then (tested at (truth y) (λ x. sequence model now (evaluated model now d) p value.Nil (chosen x ts other)) m r) next
part_chosen model now d p at m r next y b codes ts other y_is codes_is = rw (y_is, codes_is) refl

pub turn_ends : (model : ModelTree) (now d : ℕ) (p : Location) (at : Pos) (m : Memory) (r : ℕ) (next : Value → Computation Value) (y : Value) (b : Bool) (ts : Codes) (again : Computation Value)
    → y ≡ value.Bool b → b ≡ false → next value.Nil m r ≡ and_then (tested at (truth y) (going model now (evaluated model now d) p ts again) m r) next
unfolding going
turn_ends model now d p at m r next y b ts again y_is b_is = rw (y_is, b_is) refl

pub turn_goes : (model : ModelTree) (now d : ℕ) (p : Location) (at : Pos) (test : Bor Code) (body : Bor (List Code)) (m : Memory) (r : ℕ) (y : Value) (b : Bool) (ks ks1 : List Task)
    → y ≡ value.Bool b → b ≡ true → ks1 ≡ ks ++ task.Turn d at test body ∷ []
    → and_then (sequence model now (evaluated model now d) p value.Nil (list_view body.now) m r) (pending model now p ks1)
    ≡ and_then (tested at (truth y) (going model now (evaluated model now d) p (list_view body.now) (turning model now d p at (view test.now) (list_view body.now))) m r) (pending model now p ks)
unfolding going
turn_goes model now d p at test body m r y b ks ks1 y_is b_is e =
    rw (y_is, b_is) (then_pending model now p (sequence model now (evaluated model now d) p value.Nil (list_view body.now) m r) (task.Turn d at test body) ks ks1 e)
