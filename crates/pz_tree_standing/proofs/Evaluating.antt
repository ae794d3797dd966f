-- No evaluation opens or closes a frame.
use Rattle.std.proofs.Common.{◌≡◌, ℕ, Bool, true, false, List, [], ◌∷◌, length, Option, Some, None, refl, ap, ◌∙◌, subst}
use Rattle.std.specs.Prelude.{if◌then◌else◌, nat_eq, nat_lt, ◌^◌, pos, map}
use Rattle.pz_rules.specs.pz_syntax.declared.tokens.Pos.{Pos}
use Rattle.pz_rules.specs.pz_syntax.declared.tokens.Symbol.{Symbol}
use Rattle.pz_rules.specs.pz_syntax.declared.names.Id.{Id}
use Rattle.pz_rules.specs.pz_syntax.Expressions.{Links, Sendings}
use Rattle.pz_rules.specs.pz_syntax.Classes.{ModelTree}
use Rattle.pz_rules.specs.pz_value.declared.value.ClassId.{ClassId}
use Rattle.pz_rules.specs.pz_value.declared.value.Value.{Value}
use Rattle.pz_rules.specs.pz_value.declared.value.Value.TheVariants.{Nil, Bool as Boolean, Int, Char, Str, Ref}
use Rattle.pz_rules.specs.pz_classes_code.declared.slot.Slot.{Slot}
use Rattle.pz_rules.specs.pz_classes_code.declared.slot.Slot.TheVariants.{Local, Shared, Unknown}
use Rattle.pz_rules.specs.pz_classes_code.CodeView.{Tree}
use Rattle.pz_rules.specs.pz_state.declared.fault.FaultKind.TheVariants.{StoreFull, ClockTooLarge}
use Rattle.pz_rules.specs.pz_state.States.{StateView, Frames, at_frame, made, object, object_limit}
use Rattle.pz_prims.specs.declared.answer.Prim.{Prim}
use Rattle.pz_prims.specs.declared.answer.Prim.TheVariants as prim
use Rattle.pz_prims.specs.Table.{outcome}
use Rattle.pz_rules.specs.pz_classes_rules.Members.{fields}
use Rattle.pz_rules.specs.pz_eval_rules.Memories.{Memory, Location, in_process, in_object, with_state, write}
use Rattle.pz_rules.specs.pz_eval_rules.Answers.{Stop, ends, fault, Answer, gives, stops, ended, ended_list}
use Rattle.pz_rules.specs.pz_eval_rules.Steps.{Codes, spelling, told, applied, applied_alone, Reply, answers, runs, method_reply, data_method, class_reply, reply_by, reply}
use Rattle.pz_rules.specs.pz_eval_rules.Evaluation.{Evaluates, a_constant, a_variable, itself, the_time, a_new, in_brackets, a_chain, a_chain_stops, some_sends, some_sends_stop, a_unary, a_unary_stops, an_assignment, an_assignment_stops, a_return, a_return_stops, an_if, an_if_wrong, an_if_stops, a_while, InSequence, no_more, one_more, one_stops, Arguments, no_argument, an_argument, an_argument_stops, Operators, no_operator, an_operator, an_operator_wrong, an_operand_stops, Selectors, no_selector, an_answer, an_answer_wrong, a_method, a_method_wrong, arguments_stop, Turns, a_turn, a_turn_stops, over, a_test_wrong, a_test_stops}
use Rattle.pz_rules.specs.pz_eval_rules.Outcomes.{Finds, a_value, a_fault, too_much, FindsAll, all_values, one_fault, all_too_much}
use Rattle.pz_rules.specs.pz_eval_rules.Outcomes as outcomes
use Rattle.pz_tree_standing.specs.Frames.{numbers}
use Rattle.pz_tree_standing.proofs.Primitives.{outcome_same}

-- ------------------------------------------------------------ what is written

pub locals_same : (fs : Frames) (number : ℕ) (change : List Value → List Value) → map (λ f. f.0) (at_frame number change fs) ≡ map (λ f. f.0) fs
locals_same [] number change = refl
locals_same (f ∷ fs) number change = by (nat_eq f.0 number) (locals_same fs number change)
  where
    by : (b : Bool) → map (λ f. f.0) (at_frame number change fs) ≡ map (λ f. f.0) fs → map (λ f. f.0) (if b then (f.0, change f.1) ∷ fs else f ∷ at_frame number change fs) ≡ f.0 ∷ map (λ f. f.0) fs
    by true same = refl
    by false same = ap (λ l. f.0 ∷ l) same

write_same : (p : Location) (x : Slot) (y : Value) (m : Memory) → numbers (write p x y m).state ≡ numbers m.state
write_same (in_process frame) (Local i) y m = locals_same m.state.frames frame _
write_same (in_process frame) (Shared i) y m = refl
write_same (in_process frame) Unknown y m = refl
write_same (in_object r) (Local i) y m = refl
write_same (in_object r) (Shared i) y m = refl
write_same (in_object r) Unknown y m = refl

-- ------------------------------------------------------------ what is left behind

abbrev KeepsStop : Memory → Stop → Type 0
KeepsStop m (ends y n) = numbers n.state ≡ numbers m.state
KeepsStop m (fault kind at) = Unit {0}

abbrev Keeps : (A : Type 0) → Memory → Answer A → Type 0
Keeps A m (gives y n) = numbers n.state ≡ numbers m.state
Keeps A m (stops e) = KeepsStop m e

after_stop : (m n : Memory) (e : Stop) → numbers n.state ≡ numbers m.state → KeepsStop n e → KeepsStop m e
after_stop m n (ends y o) h k = k ∙ h
after_stop m n (fault kind at) h k = tt

after : (A : Type 0) (m n : Memory) (a : Answer A) → numbers n.state ≡ numbers m.state → Keeps A n a → Keeps A m a
after A m n (gives y o) h k = k ∙ h
after A m n (stops e) h k = after_stop m n e h k

either : (A : Type 0) (m : Memory) (b : Bool) (x y : Answer A) → Keeps A m x → Keeps A m y → Keeps A m (if b then x else y)
either A m true x y h k = h
either A m false x y h k = k

told_keeps : (at : Pos) (m n : Memory) (x : Prim) → numbers n.state ≡ numbers m.state → Keeps Value m (told at n x)
told_keeps at m n (prim.Value y) h = h
told_keeps at m n (prim.Fault kind) h = tt
told_keeps at m n prim.Other h = tt

applied_keeps : (op : Symbol) (at : Pos) (y w : Value) (m : Memory) → Keeps Value m (applied op at y w m)
applied_keeps op at y w m =
    let o = outcome m.state y (spelling op) (w ∷ []) in
    told_keeps at m (with_state m o.state) o.answer (outcome_same m.state y (spelling op) (w ∷ []))

alone_keeps : (op : Symbol) (at : Pos) (y : Value) (m : Memory) → Keeps Value m (applied_alone op at y m)
alone_keeps op at y m =
    let o = outcome m.state y (spelling op) [] in
    told_keeps at m (with_state m o.state) o.answer (outcome_same m.state y (spelling op) [])

abbrev KeepsReply : Memory → Reply → Type 0
KeepsReply m (answers a) = Keeps Value m a
KeepsReply m (runs r count body) = Unit {0}

method_keeps : (m : Memory) (r : ℕ) (at : Pos) (o : Option (ℕ × Codes)) → KeepsReply m (method_reply r at o)
method_keeps m r at None = tt
method_keeps m r at (Some body) = tt

class_keeps : (model : ModelTree) (m n : Memory) (y : Value) (selector : Id) (count : ℕ) → KeepsReply n (class_reply model m y selector count)
class_keeps model m n (Ref r) selector count = method_keeps n r selector.pos (data_method model (object m.state r).class selector.name count)
class_keeps model m n Nil selector count = tt
class_keeps model m n (Boolean b) selector count = tt
class_keeps model m n (Int z) selector count = tt
class_keeps model m n (Char c) selector count = tt
class_keeps model m n (Str t) selector count = tt

by_keeps : (model : ModelTree) (m n : Memory) (y : Value) (selector : Id) (count : ℕ) (x : Prim) → numbers n.state ≡ numbers m.state → KeepsReply m (reply_by model m y selector count n x)
by_keeps model m n y selector count (prim.Value z) h = h
by_keeps model m n y selector count (prim.Fault kind) h = tt
by_keeps model m n y selector count prim.Other h = class_keeps model m m y selector count

reply_keeps : (model : ModelTree) (y : Value) (selector : Id) (args : List Value) (m : Memory) → KeepsReply m (reply model y selector args m)
reply_keeps model y selector args m =
    let o = outcome m.state y selector.name args in
    by_keeps model m (with_state m o.state) y selector (length args) o.answer (outcome_same m.state y selector.name args)

ended_keeps : (locals : List Value) (m : Memory) (a : Answer Value) → Keeps Value m a → Keeps Value m (ended locals a)
ended_keeps locals m (gives y n) h = h
ended_keeps locals m (stops (ends y n)) h = h
ended_keeps locals m (stops (fault kind at)) h = tt

-- ------------------------------------------------------------ evaluation

mutual
  pub evaluates_keeps : {model : ModelTree} {now : ℕ} {p : Location} {m : Memory} {t : Tree} {a : Answer Value} {u d : ℕ} → Evaluates model now p m t a u d → Keeps Value m a
  evaluates_keeps a_constant = refl
  evaluates_keeps a_variable = refl
  evaluates_keeps itself = refl
  evaluates_keeps {now = now} {m = m} (the_time {at = at}) = either Value m (nat_lt now (2 ^ 63)) (gives (Int (pos now)) m) (stops (fault ClockTooLarge at)) refl tt
  evaluates_keeps {model = model} {m = m} (a_new {at = at} {class = class}) =
      either Value m (nat_lt (length m.state.objects) object_limit) (gives (Ref (length m.state.objects)) (with_state m (made m.state class (length (fields model class.0))))) (stops (fault StoreFull at)) refl tt
  evaluates_keeps (in_brackets h) = sequence_keeps h
  evaluates_keeps (a_chain {m = m} {m1 = m1} {a = a} h k) = after Value m m1 a (evaluates_keeps h) (operators_keep k)
  evaluates_keeps (a_chain_stops h) = evaluates_keeps h
  evaluates_keeps (some_sends {m = m} {m1 = m1} {a = a} h k) = after Value m m1 a (evaluates_keeps h) (selectors_keep k)
  evaluates_keeps (some_sends_stop h) = evaluates_keeps h
  evaluates_keeps (a_unary {m = m} {m1 = m1} {at = at} {op = op} {y = y} h) = after Value m m1 (applied_alone op at y m1) (evaluates_keeps h) (alone_keeps op at y m1)
  evaluates_keeps (a_unary_stops h) = evaluates_keeps h
  evaluates_keeps (an_assignment {p = p} {m1 = m1} {x = x} {y = y} h) = write_same p x y m1 ∙ evaluates_keeps h
  evaluates_keeps (an_assignment_stops h) = evaluates_keeps h
  evaluates_keeps (a_return h) = evaluates_keeps h
  evaluates_keeps (a_return_stops h) = evaluates_keeps h
  evaluates_keeps (an_if {m = m} {m1 = m1} {a = a} h q k) = after Value m m1 a (evaluates_keeps h) (sequence_keeps k)
  evaluates_keeps (an_if_wrong h q) = tt
  evaluates_keeps (an_if_stops h) = evaluates_keeps h
  evaluates_keeps (a_while h) = turns_keep h

  pub sequence_keeps : {model : ModelTree} {now : ℕ} {p : Location} {m : Memory} {y : Value} {ts : Codes} {a : Answer Value} {u d : ℕ} → InSequence model now p m y ts a u d → Keeps Value m a
  sequence_keeps no_more = refl
  sequence_keeps (one_more {m = m} {m1 = m1} {a = a} h k) = after Value m m1 a (evaluates_keeps h) (sequence_keeps k)
  sequence_keeps (one_stops h) = evaluates_keeps h

  pub arguments_keep : {model : ModelTree} {now : ℕ} {p : Location} {m : Memory} {ys : List Value} {ts : Codes} {a : Answer (List Value)} {u d : ℕ} → Arguments model now p m ys ts a u d → Keeps (List Value) m a
  arguments_keep no_argument = refl
  arguments_keep (an_argument {m = m} {m1 = m1} {a = a} h k) = after (List Value) m m1 a (evaluates_keeps h) (arguments_keep k)
  arguments_keep (an_argument_stops h) = evaluates_keeps h

  pub operators_keep : {model : ModelTree} {now : ℕ} {p : Location} {m : Memory} {y : Value} {ls : Links Slot ClassId} {a : Answer Value} {u d : ℕ} → Operators model now p m y ls a u d → Keeps Value m a
  operators_keep no_operator = refl
  operators_keep (an_operator {m = m} {m1 = m1} {m2 = m2} {y = y} {w = w} {op = op} {at = at} {a = a} h q k) =
      after Value m m1 a (evaluates_keeps h) (after Value m1 m2 a (subst (Keeps Value m1) q (applied_keeps op at y w m1)) (operators_keep k))
  operators_keep (an_operator_wrong {m = m} {m1 = m1} {y = y} {w = w} {op = op} {at = at} {e = e} h q) =
      after_stop m m1 e (evaluates_keeps h) (subst (Keeps Value m1) q (applied_keeps op at y w m1))
  operators_keep (an_operand_stops h) = evaluates_keeps h

  pub selectors_keep : {model : ModelTree} {now : ℕ} {p : Location} {m : Memory} {y : Value} {ss : Sendings Slot ClassId} {a : Answer Value} {u d : ℕ} → Selectors model now p m y ss a u d → Keeps Value m a
  selectors_keep no_selector = refl
  selectors_keep {model = model} (an_answer {m = m} {m1 = m1} {m2 = m2} {y = y} {selector = selector} {ws = ws} {a = a} h q k) =
      after Value m m1 a (arguments_keep h) (after Value m1 m2 a (subst (KeepsReply m1) q (reply_keeps model y selector ws m1)) (selectors_keep k))
  selectors_keep {model = model} (an_answer_wrong {m = m} {m1 = m1} {y = y} {selector = selector} {ws = ws} {e = e} h q) =
      after_stop m m1 e (arguments_keep h) (subst (KeepsReply m1) q (reply_keeps model y selector ws m1))
  selectors_keep (a_method {m = m} {m1 = m1} {m2 = m2} {b = b} {a = a} h q k w z) =
      after Value m m1 a (arguments_keep h) (after Value m1 m2 a (subst (Keeps Value m1) w (ended_keeps m1.locals m1 b (sequence_keeps k))) (selectors_keep z))
  selectors_keep (a_method_wrong {m = m} {m1 = m1} {b = b} {e = e} h q k w) =
      after_stop m m1 e (arguments_keep h) (subst (Keeps Value m1) w (ended_keeps m1.locals m1 b (sequence_keeps k)))
  selectors_keep (arguments_stop h) = arguments_keep h

  pub turns_keep : {model : ModelTree} {now : ℕ} {p : Location} {m : Memory} {at : Pos} {t : Tree} {ts : Codes} {a : Answer Value} {u d : ℕ} → Turns model now p m at t ts a u d → Keeps Value m a
  turns_keep (a_turn {m = m} {m1 = m1} {m2 = m2} {a = a} h q k z) = after Value m m1 a (evaluates_keeps h) (after Value m1 m2 a (sequence_keeps k) (turns_keep z))
  turns_keep (a_turn_stops {m = m} {m1 = m1} {e = e} h q k) = after_stop m m1 e (evaluates_keeps h) (sequence_keeps k)
  turns_keep (over h q) = evaluates_keeps h
  turns_keep (a_test_wrong h q) = tt
  turns_keep (a_test_stops h) = evaluates_keeps h

-- ------------------------------------------------------------ within an allowance

list_keeps : (m : Memory) (a : Answer (List Value)) (ys : List Value) (n : Memory) → Keeps (List Value) m a → ended_list a ≡ gives ys n → numbers n.state ≡ numbers m.state
list_keeps m (gives xs o) ys n h e = subst (Keeps (List Value) m) e h
list_keeps m (stops (ends y o)) ys n h e = subst (Keeps (List Value) m) e h
list_keeps m (stops (fault kind at)) ys n h e = absurd cc

pub finds_same : {model : ModelTree} {now frame : ℕ} {s : StateView} {t : Tree} {allowed : Rattle.pz_rules.specs.pz_eval_rules.declared.allowance.Allowance.Allowance} {o : Rattle.pz_rules.specs.pz_eval_rules.declared.outcome.Outcome.Outcome} {left : StateView}
    → Finds model now frame s t allowed o left → numbers left ≡ numbers s
finds_same {s = s} (a_value {a = a} {m = m} w e) = subst (Keeps Value (outcomes.outside s)) e (ended_keeps [] (outcomes.outside s) a (evaluates_keeps w.derivation))
finds_same (a_fault w) = refl
finds_same (too_much none) = refl

pub finds_all_same : {model : ModelTree} {now frame : ℕ} {s : StateView} {ts : Codes} {allowed : Rattle.pz_rules.specs.pz_eval_rules.declared.allowance.Allowance.Allowance} {o : Rattle.pz_rules.specs.pz_eval_rules.declared.outcome.Listed.Listed} {left : StateView}
    → FindsAll model now frame s ts allowed o left → numbers left ≡ numbers s
finds_all_same {s = s} (all_values {a = a} {ys = ys} {m = m} w e) = list_keeps (outcomes.outside s) a ys m (arguments_keep w.derivation) e
finds_all_same (one_fault w) = refl
finds_all_same (all_too_much none) = refl
