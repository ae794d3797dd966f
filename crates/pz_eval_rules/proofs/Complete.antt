-- What is derivable within the allowance is reached.
use Rattle.std.proofs.Common.{◌≡◌, ℕ, zero, suc, ◌+◌, ◌≤◌, List, refl, ap, arith}
use Rattle.pz_classes_rules.specs.pz_syntax.declared.tokens.Pos.{Pos}
use Rattle.pz_classes_rules.specs.pz_syntax.Expressions.{Links, Sendings}
use Rattle.pz_classes_rules.specs.pz_syntax.Classes.{ModelTree}
use Rattle.pz_state.specs.pz_value.declared.value.ClassId.{ClassId}
use Rattle.pz_state.specs.pz_value.declared.value.Value.{Value}
use Rattle.pz_classes_rules.specs.pz_classes_code.declared.slot.Slot.{Slot}
use Rattle.pz_classes_rules.specs.pz_classes_code.CodeView.{Tree}
use Rattle.pz_eval_rules.specs.Memories.{Memory, Location}
use Rattle.pz_eval_rules.specs.Answers.{Answer, gives}
use Rattle.pz_eval_rules.specs.Steps.{Codes}
use Rattle.pz_eval_rules.specs.Evaluation.{Evaluates, a_constant, a_variable, itself, the_time, a_new, in_brackets, a_chain, a_chain_stops, some_sends, some_sends_stop, a_unary, a_unary_stops, an_assignment, an_assignment_stops, a_return, a_return_stops, an_if, an_if_wrong, an_if_stops, a_while, InSequence, no_more, one_more, one_stops, Arguments, no_argument, an_argument, an_argument_stops, Operators, no_operator, an_operator, an_operator_wrong, an_operand_stops, Selectors, no_selector, an_answer, an_answer_wrong, a_method, a_method_wrong, arguments_stop, Turns, a_turn, a_turn_stops, over, a_test_wrong, a_test_stops}
use Rattle.pz_eval_rules.specs.devices.Computed.{done, sequence, arguments, operators, replied, selectors, going, turns, step, evaluated}

deep : {model : ModelTree} {now : ℕ} {p : Location} {m : Memory} {t : Tree} {a : Answer Value} {u d : ℕ} → Evaluates model now p m t a u d → 1 ≤ d
deep a_constant = omega arith
deep a_variable = omega arith
deep itself = omega arith
deep the_time = omega arith
deep a_new = omega arith
deep (in_brackets h) = omega arith
deep (a_chain h k) = omega arith
deep (a_chain_stops h) = omega arith
deep (some_sends h k) = omega arith
deep (some_sends_stop h) = omega arith
deep (a_unary h) = omega arith
deep (a_unary_stops h) = omega arith
deep (an_assignment h) = omega arith
deep (an_assignment_stops h) = omega arith
deep (a_return h) = omega arith
deep (a_return_stops h) = omega arith
deep (an_if h q k) = omega arith
deep (an_if_wrong h q) = omega arith
deep (an_if_stops h) = omega arith
deep (a_while h) = omega arith

costs : {model : ModelTree} {now : ℕ} {p : Location} {m : Memory} {at : Pos} {t : Tree} {ts : Codes} {a : Answer Value} {u d : ℕ} → Turns model now p m at t ts a u d → 1 ≤ u
costs (a_turn h q k z) = omega arith
costs (a_turn_stops h q k) = omega arith
costs (over h q) = omega arith
costs (a_test_wrong h q) = omega arith
costs (a_test_stops h) = omega arith

mutual
  unfolding evaluated step sequence arguments operators replied selectors going turns

  pub evaluates_done : {model : ModelTree} {now : ℕ} {p : Location} {m : Memory} {t : Tree} {a : Answer Value} {u d : ℕ}
      → Evaluates model now p m t a u d → (D B r : ℕ) → d ≤ D → B ≡ u + r → evaluated model now D p t m B ≡ done a r
  evaluates_done h zero B r le e = let k = deep h in absurd (omega arith)
  evaluates_done a_constant (suc D) B r le e = let b : B ≡ suc r = omega arith in rw b refl
  evaluates_done a_variable (suc D) B r le e = let b : B ≡ suc r = omega arith in rw b refl
  evaluates_done itself (suc D) B r le e = let b : B ≡ suc r = omega arith in rw b refl
  evaluates_done the_time (suc D) B r le e = let b : B ≡ suc r = omega arith in rw b refl
  evaluates_done a_new (suc D) B r le e = let b : B ≡ suc r = omega arith in rw b refl
  evaluates_done (in_brackets {u = u} h) (suc D) B r le e = let b : B ≡ suc (u + r) = omega arith in rw b (sequence_done h D (u + r) r (omega arith) refl)
  evaluates_done (a_chain {u2 = u2} h k) (suc D) B r le e = rw (evaluates_done h D B (u2 + r) (omega arith) (omega arith)) (operators_done k D (u2 + r) r (omega arith) refl)
  evaluates_done (a_chain_stops h) (suc D) B r le e = rw (evaluates_done h D B r (omega arith) e) refl
  evaluates_done (some_sends {u2 = u2} h k) (suc D) B r le e = rw (evaluates_done h D B (u2 + r) (omega arith) (omega arith)) (selectors_done k D (u2 + r) r (omega arith) refl)
  evaluates_done (some_sends_stop h) (suc D) B r le e = rw (evaluates_done h D B r (omega arith) e) refl
  evaluates_done (a_unary {u = u} h) (suc D) B r le e = let b : B ≡ suc (u + r) = omega arith in rw b (rw (evaluates_done h D (u + r) r (omega arith) refl) refl)
  evaluates_done (a_unary_stops {u = u} h) (suc D) B r le e = let b : B ≡ suc (u + r) = omega arith in rw b (rw (evaluates_done h D (u + r) r (omega arith) refl) refl)
  evaluates_done (an_assignment {u = u} h) (suc D) B r le e = let b : B ≡ suc (u + r) = omega arith in rw b (rw (evaluates_done h D (u + r) r (omega arith) refl) refl)
  evaluates_done (an_assignment_stops {u = u} h) (suc D) B r le e = let b : B ≡ suc (u + r) = omega arith in rw b (rw (evaluates_done h D (u + r) r (omega arith) refl) refl)
  evaluates_done (a_return {u = u} h) (suc D) B r le e = let b : B ≡ suc (u + r) = omega arith in rw b (rw (evaluates_done h D (u + r) r (omega arith) refl) refl)
  evaluates_done (a_return_stops {u = u} h) (suc D) B r le e = let b : B ≡ suc (u + r) = omega arith in rw b (rw (evaluates_done h D (u + r) r (omega arith) refl) refl)
  evaluates_done (an_if {u1 = u1} {u2 = u2} h q k) (suc D) B r le e = let b : B ≡ suc (u1 + (u2 + r)) = omega arith in rw b (rw (evaluates_done h D (u1 + (u2 + r)) (u2 + r) (omega arith) refl, q) (sequence_done k D (u2 + r) r (omega arith) refl))
  evaluates_done (an_if_wrong {u = u} h q) (suc D) B r le e = let b : B ≡ suc (u + r) = omega arith in rw b (rw (evaluates_done h D (u + r) r (omega arith) refl, q) refl)
  evaluates_done (an_if_stops {u = u} h) (suc D) B r le e = let b : B ≡ suc (u + r) = omega arith in rw b (rw (evaluates_done h D (u + r) r (omega arith) refl) refl)
  evaluates_done (a_while h) (suc D) B r le e = turns_done h D B B r (omega arith) (omega arith) e

  pub sequence_done : {model : ModelTree} {now : ℕ} {p : Location} {m : Memory} {y : Value} {ts : Codes} {a : Answer Value} {u d : ℕ}
      → InSequence model now p m y ts a u d → (D B r : ℕ) → d ≤ D → B ≡ u + r → sequence model now (evaluated model now D) p y ts m B ≡ done a r
  sequence_done (no_more {m = m} {y = y}) D B r le e = ap (done (gives y m)) (omega arith)
  sequence_done (one_more {u2 = u2} h k) D B r le e = rw (evaluates_done h D B (u2 + r) (omega arith) (omega arith)) (sequence_done k D (u2 + r) r (omega arith) refl)
  sequence_done (one_stops h) D B r le e = rw (evaluates_done h D B r le e) refl

  pub arguments_done : {model : ModelTree} {now : ℕ} {p : Location} {m : Memory} {ys : List Value} {ts : Codes} {a : Answer (List Value)} {u d : ℕ}
      → Arguments model now p m ys ts a u d → (D B r : ℕ) → d ≤ D → B ≡ u + r → arguments model now (evaluated model now D) p ys ts m B ≡ done a r
  arguments_done (no_argument {m = m} {ys = ys}) D B r le e = ap (done (gives ys m)) (omega arith)
  arguments_done (an_argument {u2 = u2} h k) D B r le e = rw (evaluates_done h D B (u2 + r) (omega arith) (omega arith)) (arguments_done k D (u2 + r) r (omega arith) refl)
  arguments_done (an_argument_stops h) D B r le e = rw (evaluates_done h D B r le e) refl

  pub operators_done : {model : ModelTree} {now : ℕ} {p : Location} {m : Memory} {y : Value} {ls : Links Slot ClassId} {a : Answer Value} {u d : ℕ}
      → Operators model now p m y ls a u d → (D B r : ℕ) → d ≤ D → B ≡ u + r → operators model now (evaluated model now D) p y ls m B ≡ done a r
  operators_done (no_operator {m = m} {y = y}) D B r le e = ap (done (gives y m)) (omega arith)
  operators_done (an_operator {u2 = u2} h q k) D B r le e = rw (evaluates_done h D B (suc (u2 + r)) (omega arith) (omega arith)) (rw q (operators_done k D (u2 + r) r (omega arith) refl))
  operators_done (an_operator_wrong h q) D B r le e = rw (evaluates_done h D B (suc r) (omega arith) (omega arith)) (rw q refl)
  operators_done (an_operand_stops h) D B r le e = rw (evaluates_done h D B r le e) refl

  pub selectors_done : {model : ModelTree} {now : ℕ} {p : Location} {m : Memory} {y : Value} {ss : Sendings Slot ClassId} {a : Answer Value} {u d : ℕ}
      → Selectors model now p m y ss a u d → (D B r : ℕ) → d ≤ D → B ≡ u + r → selectors model now (evaluated model now D) p y ss m B ≡ done a r
  selectors_done (no_selector {m = m} {y = y}) D B r le e = ap (done (gives y m)) (omega arith)
  selectors_done (an_answer {u2 = u2} h q k) D B r le e = rw (arguments_done h D B (suc (u2 + r)) (omega arith) (omega arith)) (rw q (selectors_done k D (u2 + r) r (omega arith) refl))
  selectors_done (an_answer_wrong h q) D B r le e = rw (arguments_done h D B (suc r) (omega arith) (omega arith)) (rw q refl)
  selectors_done (a_method {u2 = u2} {u3 = u3} h q k w z) D B r le e = rw (arguments_done h D B (suc (u2 + (u3 + r))) (omega arith) (omega arith))
      (rw (q, sequence_done k D (u2 + (u3 + r)) (u3 + r) (omega arith) refl, w) (selectors_done z D (u3 + r) r (omega arith) refl))
  selectors_done (a_method_wrong {u2 = u2} h q k w) D B r le e = rw (arguments_done h D B (suc (u2 + r)) (omega arith) (omega arith))
      (rw (q, sequence_done k D (u2 + r) r (omega arith) refl, w) refl)
  selectors_done (arguments_stop h) D B r le e = rw (arguments_done h D B r le e) refl

  pub turns_done : {model : ModelTree} {now : ℕ} {p : Location} {m : Memory} {at : Pos} {t : Tree} {ts : Codes} {a : Answer Value} {u d : ℕ}
      → Turns model now p m at t ts a u d → (D n B r : ℕ) → d ≤ D → B ≤ n → B ≡ u + r → turns model now (evaluated model now D) n p at t ts m B ≡ done a r
  turns_done h D zero B r le lt e = let k = costs h in absurd (omega arith)
  turns_done (a_turn {u1 = u1} {u2 = u2} {u3 = u3} h q k z) D (suc n) B r le lt e = let b : B ≡ suc (u1 + (u2 + (u3 + r))) = omega arith in rw b (rw (evaluates_done h D (u1 + (u2 + (u3 + r))) (u2 + (u3 + r)) (omega arith) refl, q, sequence_done k D (u2 + (u3 + r)) (u3 + r) (omega arith) refl) (turns_done z D n (u3 + r) r (omega arith) (omega arith) refl))
  turns_done (a_turn_stops {u1 = u1} {u2 = u2} h q k) D (suc n) B r le lt e = let b : B ≡ suc (u1 + (u2 + r)) = omega arith in rw b (rw (evaluates_done h D (u1 + (u2 + r)) (u2 + r) (omega arith) refl, q, sequence_done k D (u2 + r) r (omega arith) refl) refl)
  turns_done (over {u = u} h q) D (suc n) B r le lt e = let b : B ≡ suc (u + r) = omega arith in rw b (rw (evaluates_done h D (u + r) r le refl, q) refl)
  turns_done (a_test_wrong {u = u} h q) D (suc n) B r le lt e = let b : B ≡ suc (u + r) = omega arith in rw b (rw (evaluates_done h D (u + r) r le refl, q) refl)
  turns_done (a_test_stops {u = u} h) D (suc n) B r le lt e = let b : B ≡ suc (u + r) = omega arith in rw b (rw (evaluates_done h D (u + r) r le refl) refl)
