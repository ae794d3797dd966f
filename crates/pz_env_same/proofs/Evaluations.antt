-- Evaluation takes nothing of a model but the fields of data classes and the bodies of their methods.
use Rattle.std.proofs.Common.{◌≡◌, ℕ, List, length, Option, if◌then◌else◌, refl, sym, subst, ap, ◌∙◌}
use Rattle.std.specs.Prelude.{nat_lt}
use Rattle.std.specs.Option.{option_and_then}
use Rattle.pz_rules.specs.pz_syntax.declared.tokens.Pos.{Pos}
use Rattle.pz_rules.specs.pz_syntax.declared.names.Id.{Id}
use Rattle.pz_rules.specs.pz_syntax.Expressions.{Links, Sendings, creation}
use Rattle.pz_rules.specs.pz_syntax.Classes.{ModelTree}
use Rattle.pz_rules.specs.pz_value.declared.value.ClassId.{ClassId}
use Rattle.pz_rules.specs.pz_value.declared.value.Value.{Value}
use Rattle.pz_rules.specs.pz_value.declared.value.Value.TheVariants.{Nil, Bool as Boolean, Int, Char, Str, Ref}
use Rattle.pz_rules.specs.pz_classes_rules.Bodies.{BodyTree}
use Rattle.pz_rules.specs.pz_classes_code.declared.slot.Slot.{Slot}
use Rattle.pz_rules.specs.pz_classes_code.CodeView.{Tree}
use Rattle.pz_rules.specs.pz_state.declared.fault.FaultKind.TheVariants.{StoreFull}
use Rattle.pz_rules.specs.pz_state.States.{StateView, object, made, object_limit}
use Rattle.pz_prims.specs.declared.answer.Prim.{Prim}
use Rattle.pz_prims.specs.Table.{outcome}
use Rattle.pz_rules.specs.pz_eval_rules.declared.allowance.Allowance.{Allowance}
use Rattle.pz_rules.specs.pz_eval_rules.declared.outcome.Outcome.{Outcome}
use Rattle.pz_rules.specs.pz_eval_rules.declared.outcome.Listed.{Listed}
use Rattle.pz_rules.specs.pz_eval_rules.Memories.{Memory, Location, with_state}
use Rattle.pz_rules.specs.pz_eval_rules.Answers.{Answer, gives, stops, fault}
use Rattle.pz_rules.specs.pz_eval_rules.Steps.{Codes, created, data_part, method_reply, class_reply, reply_by, reply}
use Rattle.pz_rules.specs.pz_eval_rules.Evaluation.{Evaluates, a_constant, a_variable, itself, the_time, a_new, in_brackets, a_chain, a_chain_stops, some_sends, some_sends_stop, a_unary, a_unary_stops, an_assignment, an_assignment_stops, a_return, a_return_stops, an_if, an_if_wrong, an_if_stops, a_while, InSequence, no_more, one_more, one_stops, Arguments, no_argument, an_argument, an_argument_stops, Operators, no_operator, an_operator, an_operator_wrong, an_operand_stops, Selectors, no_selector, an_answer, an_answer_wrong, a_method, a_method_wrong, arguments_stop, Turns, a_turn, a_turn_stops, over, a_test_wrong, a_test_stops}
use Rattle.pz_rules.specs.pz_eval_rules.Outcomes.{Within, ComesTo, AllComeTo, Finds, a_value, a_fault, too_much, FindsAll, all_values, one_fault, all_too_much}
use Rattle.pz_env_same.specs.SameRules.{SameData}

module _ (m n : ModelTree) (same : SameData m n) where
  created_same : (class : ClassId) (at : Pos) (k : Memory) → created m class at k ≡ created n class at k
  created_same class at k =
      ap (λ (fs : List Id). let a : Answer Value = if nat_lt (length k.state.objects) object_limit then gives (Ref (length k.state.objects)) (with_state k (made k.state class (length fs))) else stops (fault StoreFull at) in a)
      (same.fields class.0)

  class_reply_same : (k : Memory) (y : Value) (selector : Id) (count : ℕ) → class_reply m k y selector count ≡ class_reply n k y selector count
  class_reply_same k (Ref r) selector count =
      ap (λ (o : Option BodyTree). method_reply r selector.pos (option_and_then data_part o)) (same.bodies (object k.state r).class.0 selector.name count)
  class_reply_same k Nil selector count = refl
  class_reply_same k (Boolean b) selector count = refl
  class_reply_same k (Int i) selector count = refl
  class_reply_same k (Char c) selector count = refl
  class_reply_same k (Str s) selector count = refl

  reply_by_same : (k : Memory) (y : Value) (selector : Id) (count : ℕ) (k1 : Memory) (answer : Prim) → reply_by m k y selector count k1 answer ≡ reply_by n k y selector count k1 answer
  reply_by_same k y selector count k1 Prim.Other = class_reply_same k y selector count
  reply_by_same k y selector count k1 (Prim.Value z) = refl
  reply_by_same k y selector count k1 (Prim.Fault kind) = refl

  reply_same : (y : Value) (selector : Id) (ws : List Value) (k : Memory) → reply m y selector ws k ≡ reply n y selector ws k
  reply_same y selector ws k =
      let o = outcome k.state y selector.name ws in
      reply_by_same k y selector (length ws) (with_state k o.state) o.answer

  module _ (now : ℕ) where
    mutual
      pub evaluates : {p : Location} {k : Memory} {t : Tree} {a : Answer Value} {u d : ℕ} → Evaluates m now p k t a u d → Evaluates n now p k t a u d
      evaluates a_constant = a_constant
      evaluates a_variable = a_variable
      evaluates itself = itself
      evaluates the_time = the_time
      evaluates (a_new {p = p} {m = k} {at = at} {class = class}) = subst (λ (a : Answer Value). Evaluates n now p k (creation at class) a 1 1) (sym (created_same class at k)) a_new
      evaluates (in_brackets h) = in_brackets (in_sequence h)
      evaluates (a_chain h q) = a_chain (evaluates h) (operators q)
      evaluates (a_chain_stops h) = a_chain_stops (evaluates h)
      evaluates (some_sends h q) = some_sends (evaluates h) (selectors q)
      evaluates (some_sends_stop h) = some_sends_stop (evaluates h)
      evaluates (a_unary h) = a_unary (evaluates h)
      evaluates (a_unary_stops h) = a_unary_stops (evaluates h)
      evaluates (an_assignment h) = an_assignment (evaluates h)
      evaluates (an_assignment_stops h) = an_assignment_stops (evaluates h)
      evaluates (a_return h) = a_return (evaluates h)
      evaluates (a_return_stops h) = a_return_stops (evaluates h)
      evaluates (an_if h is q) = an_if (evaluates h) is (in_sequence q)
      evaluates (an_if_wrong h is) = an_if_wrong (evaluates h) is
      evaluates (an_if_stops h) = an_if_stops (evaluates h)
      evaluates (a_while h) = a_while (turns h)

      in_sequence : {p : Location} {k : Memory} {y : Value} {ts : Codes} {a : Answer Value} {u d : ℕ} → InSequence m now p k y ts a u d → InSequence n now p k y ts a u d
      in_sequence no_more = no_more
      in_sequence (one_more h q) = one_more (evaluates h) (in_sequence q)
      in_sequence (one_stops h) = one_stops (evaluates h)

      pub arguments : {p : Location} {k : Memory} {ys : List Value} {ts : Codes} {a : Answer (List Value)} {u d : ℕ} → Arguments m now p k ys ts a u d → Arguments n now p k ys ts a u d
      arguments no_argument = no_argument
      arguments (an_argument h q) = an_argument (evaluates h) (arguments q)
      arguments (an_argument_stops h) = an_argument_stops (evaluates h)

      operators : {p : Location} {k : Memory} {y : Value} {ls : Links Slot ClassId} {a : Answer Value} {u d : ℕ} → Operators m now p k y ls a u d → Operators n now p k y ls a u d
      operators no_operator = no_operator
      operators (an_operator h is q) = an_operator (evaluates h) is (operators q)
      operators (an_operator_wrong h is) = an_operator_wrong (evaluates h) is
      operators (an_operand_stops h) = an_operand_stops (evaluates h)

      selectors : {p : Location} {k : Memory} {y : Value} {ss : Sendings Slot ClassId} {a : Answer Value} {u d : ℕ} → Selectors m now p k y ss a u d → Selectors n now p k y ss a u d
      selectors no_selector = no_selector
      selectors (an_answer {m1 = k1} {y = y} {selector = selector} {ws = ws} h is q) = an_answer (arguments h) (sym (reply_same y selector ws k1) ∙ is) (selectors q)
      selectors (an_answer_wrong {m1 = k1} {y = y} {selector = selector} {ws = ws} h is) = an_answer_wrong (arguments h) (sym (reply_same y selector ws k1) ∙ is)
      selectors (a_method {m1 = k1} {y = y} {selector = selector} {ws = ws} h is b e q) = a_method (arguments h) (sym (reply_same y selector ws k1) ∙ is) (in_sequence b) e (selectors q)
      selectors (a_method_wrong {m1 = k1} {y = y} {selector = selector} {ws = ws} h is b e) = a_method_wrong (arguments h) (sym (reply_same y selector ws k1) ∙ is) (in_sequence b) e
      selectors (arguments_stop h) = arguments_stop (arguments h)

      turns : {p : Location} {k : Memory} {at : Pos} {t : Tree} {ts : Codes} {a : Answer Value} {u d : ℕ} → Turns m now p k at t ts a u d → Turns n now p k at t ts a u d
      turns (a_turn h is b q) = a_turn (evaluates h) is (in_sequence b) (turns q)
      turns (a_turn_stops h is b) = a_turn_stops (evaluates h) is (in_sequence b)
      turns (over h is) = over (evaluates h) is
      turns (a_test_wrong h is) = a_test_wrong (evaluates h) is
      turns (a_test_stops h) = a_test_stops (evaluates h)

pub same_data_back : (m n : ModelTree) → SameData m n → SameData n m
same_data_back m n same = record { fields = λ c. sym (same.fields c); bodies = λ c name inputs. sym (same.bodies c name inputs) }

-- What is found

module _ (m n : ModelTree) (now frame : ℕ) (s : StateView) (allowed : Allowance) where
  within : SameData m n → (t : Tree) (a : Answer Value) → Within (ComesTo m now frame s t) allowed a → Within (ComesTo n now frame s t) allowed a
  within same t a w = record { units = w.units; depth = w.depth; derivation = evaluates m n same now w.derivation; paid = w.paid; deep = w.deep }

  all_within : SameData m n → (ts : Codes) (a : Answer (List Value)) → Within (AllComeTo m now frame s ts) allowed a → Within (AllComeTo n now frame s ts) allowed a
  all_within same ts a w = record { units = w.units; depth = w.depth; derivation = arguments m n same now w.derivation; paid = w.paid; deep = w.deep }

module _ (m n : ModelTree) (same : SameData m n) (now frame : ℕ) (s : StateView) (allowed : Allowance) where
  pub finds : (t : Tree) (o : Outcome) (left : StateView) → Finds m now frame s t allowed o left → Finds n now frame s t allowed o left
  finds t _ _ (a_value {a = a} w is) = a_value (within m n now frame s allowed same t a w) is
  finds t _ _ (a_fault {kind = kind} {at = at} w) = a_fault (within m n now frame s allowed same t (stops (fault kind at)) w)
  finds t _ _ (too_much none) = too_much (λ a w. none a (within n m now frame s allowed (same_data_back m n same) t a w))

  pub finds_all : (ts : Codes) (o : Listed) (left : StateView) → FindsAll m now frame s ts allowed o left → FindsAll n now frame s ts allowed o left
  finds_all ts _ _ (all_values {a = a} w is) = all_values (all_within m n now frame s allowed same ts a w) is
  finds_all ts _ _ (one_fault {kind = kind} {at = at} w) = one_fault (all_within m n now frame s allowed same ts (stops (fault kind at)) w)
  finds_all ts _ _ (all_too_much none) = all_too_much (λ a w. none a (all_within n m now frame s allowed (same_data_back m n same) ts a w))
