-- What is reached is derivable, within the allowance.
use Rattle.std.proofs.Common.{◌≡◌, ℕ, zero, suc, ◌+◌, max, ◌≤◌, Bool, true, false, List, [], ◌∷◌, ◌++◌, Option, Some, None, refl, arith}
use Rattle.pz_classes_rules.specs.pz_syntax.declared.tokens.Pos.{Pos}
use Rattle.pz_classes_rules.specs.pz_syntax.declared.names.Id.{Id}
use Rattle.pz_classes_rules.specs.pz_syntax.Expressions.{literal, variable, me, clock, creation, group, chain, sends, unary, assign, returned, choice, loop, none, more, Part, Links, no_links, link, Sendings, no_sendings, sending}
use Rattle.pz_classes_rules.specs.pz_syntax.Classes.{ModelTree}
use Rattle.pz_state.specs.pz_value.declared.value.ClassId.{ClassId}
use Rattle.pz_state.specs.pz_value.declared.value.Value.{Value}
use Rattle.pz_state.specs.pz_value.declared.value.Value.TheVariants.{Nil}
use Rattle.pz_classes_rules.specs.pz_classes_code.declared.slot.Slot.{Slot}
use Rattle.pz_classes_rules.specs.pz_classes_code.CodeView.{Tree}
use Rattle.pz_state.specs.declared.fault.FaultKind.TheVariants.{NotBoolean}
use Rattle.pz_classes_rules.specs.pz_classes_code.Literals.{constant}
use Rattle.pz_eval_rules.specs.Memories.{Memory, Location, in_object, read, write, self_at, started}
use Rattle.pz_eval_rules.specs.Answers.{Stop, ends, fault, Answer, gives, stops, ended}
use Rattle.pz_eval_rules.specs.Steps.{Codes, time, created, truth, chosen, applied, applied_alone, Reply, answers, runs, reply}
use Rattle.pz_eval_rules.specs.Evaluation.{arguments_of, Evaluates, a_constant, a_variable, itself, the_time, a_new, in_brackets, a_chain, a_chain_stops, some_sends, some_sends_stop, a_unary, a_unary_stops, an_assignment, an_assignment_stops, a_return, a_return_stops, an_if, an_if_wrong, an_if_stops, a_while, InSequence, no_more, one_more, one_stops, Arguments, no_argument, an_argument, an_argument_stops, Operators, no_operator, an_operator, an_operator_wrong, an_operand_stops, Selectors, no_selector, an_answer, an_answer_wrong, a_method, a_method_wrong, arguments_stop, Turns, a_turn, a_turn_stops, over, a_test_wrong, a_test_stops}
use Rattle.pz_eval_rules.specs.devices.Computed.{Reached, done, spent, Computation, follow, and_then, seen_by, tick, tested, sequence, arguments, operators, replied, selectors, going, turns, step, evaluated}

-- a derivation of this depth at most, for the units that are gone
pub record Derived (D B r : ℕ) (J : ℕ → ℕ → Type 0) : Type 0 where
  pub units : ℕ
  pub depth : ℕ
  pub proof : J units depth
  pub deep : depth ≤ D
  pub paid : B ≡ units + r

-- P holds of what is reached, if anything is
pub data Each {A : Type 0} (P : Answer A → ℕ → Type 0) : Reached A → Type 0 where
  reached : {a : Answer A} {r : ℕ} → P a r → Each P (done a r)
  nothing : Each P spent

at_then : {A B : Type 0} {P : Answer A → ℕ → Type 0} {Q : Answer B → ℕ → Type 0} {o : Reached A} (f : A → Computation B) → Each P o
    → ((y : A) (m : Memory) (r : ℕ) → P (gives y m) r → Each Q (f y m r)) → ((e : Stop) (r : ℕ) → P (stops e) r → Q (stops e) r) → Each Q (and_then o f)
at_then f (reached {a = gives y m} {r = r} h) go stop = go y m r h
at_then f (reached {a = stops e} {r = r} h) go stop = reached (stop e r h)
at_then f nothing go stop = nothing

at_follow : {A B : Type 0} {Q : Answer B → ℕ → Type 0} (a : Answer A) (r : ℕ) (f : A → Computation B)
    → ((y : A) (m : Memory) → a ≡ gives y m → Each Q (f y m r)) → ((e : Stop) → a ≡ stops e → Q (stops e) r) → Each Q (follow a r f)
at_follow (gives y m) r f go stop = go y m refl
at_follow (stops e) r f go stop = reached (stop e refl)

at_tick : {A : Type 0} {Q : Answer A → ℕ → Type 0} (f : Computation A) (m : Memory) (B : ℕ) → ((r : ℕ) → B ≡ suc r → Each Q (f m r)) → Each Q (tick f m B)
at_tick f m zero go = nothing
at_tick f m (suc r) go = go r refl

at_test : {A : Type 0} {Q : Answer A → ℕ → Type 0} (at : Pos) (x : Option Bool) (f : Bool → Computation A) (m : Memory) (r : ℕ)
    → ((b : Bool) → x ≡ Some b → Each Q (f b m r)) → (x ≡ None → Q (stops (fault NotBoolean at)) r) → Each Q (tested at x f m r)
at_test at None f m r go stop = reached (stop refl)
at_test at (Some b) f m r go stop = go b refl

at_same : {A : Type 0} {P Q : Answer A → ℕ → Type 0} {o : Reached A} → Each P o
    → ((a : Answer A) (r : ℕ) → P a r → Q a r) → Each Q o
at_same (reached {a = a} {r = r} h) go = reached (go a r h)
at_same nothing go = nothing

module _ (model : ModelTree) (now D : ℕ) where
  abbrev pub IsEvaluation : Location → Tree → Memory → ℕ → Answer Value → ℕ → Type 0
  IsEvaluation p t m B a r = Derived D B r (Evaluates model now p m t a)

  abbrev IsSequence : Location → Value → Codes → Memory → ℕ → Answer Value → ℕ → Type 0
  IsSequence p y ts m B a r = Derived D B r (InSequence model now p m y ts a)

  abbrev pub AreArguments : Location → List Value → Codes → Memory → ℕ → Answer (List Value) → ℕ → Type 0
  AreArguments p ys ts m B a r = Derived D B r (Arguments model now p m ys ts a)

  abbrev AreOperators : Location → Value → Links Slot ClassId → Memory → ℕ → Answer Value → ℕ → Type 0
  AreOperators p y ls m B a r = Derived D B r (Operators model now p m y ls a)

  abbrev AreSelectors : Location → Value → Sendings Slot ClassId → Memory → ℕ → Answer Value → ℕ → Type 0
  AreSelectors p y ss m B a r = Derived D B r (Selectors model now p m y ss a)

  abbrev AreTurns : Location → Pos → Tree → Codes → Memory → ℕ → Answer Value → ℕ → Type 0
  AreTurns p at t ts m B a r = Derived D B r (Turns model now p m at t ts a)

  abbrev inner : Location → Tree → Computation Value
  inner = evaluated model now D

  module _ (below : (p : Location) (t : Tree) (m : Memory) (B : ℕ) → Each (IsEvaluation p t m B) (inner p t m B)) where
    pub sequence_sound : (p : Location) (y : Value) (ts : Codes) (m : Memory) (B : ℕ) → Each (IsSequence p y ts m B) (sequence model now inner p y ts m B)
    unfolding sequence
    sequence_sound p y none m B = reached (record { units = 0; depth = 0; proof = no_more; deep = omega arith; paid = omega arith })
    sequence_sound p y (more t ts) m B = at_then (λ z. sequence model now inner p z ts) (below p t m B)
        (λ z m1 r1 h. at_same (sequence_sound p z ts m1 r1)
        (λ a r2 k. record { units = h.units + k.units; depth = max h.depth k.depth; proof = one_more h.proof k.proof; deep = omega arith; paid = omega arith }))
        (λ e r1 h. record { units = h.units; depth = h.depth; proof = one_stops h.proof; deep = h.deep; paid = h.paid })

    pub arguments_sound : (p : Location) (ys : List Value) (ts : Codes) (m : Memory) (B : ℕ) → Each (AreArguments p ys ts m B) (arguments model now inner p ys ts m B)
    unfolding arguments
    arguments_sound p ys none m B = reached (record { units = 0; depth = 0; proof = no_argument; deep = omega arith; paid = omega arith })
    arguments_sound p ys (more t ts) m B = at_then (λ y. arguments model now inner p (ys ++ y ∷ []) ts) (below p t m B)
        (λ y m1 r1 h. at_same (arguments_sound p (ys ++ y ∷ []) ts m1 r1)
        (λ a r2 k. record { units = h.units + k.units; depth = max h.depth k.depth; proof = an_argument h.proof k.proof; deep = omega arith; paid = omega arith }))
        (λ e r1 h. record { units = h.units; depth = h.depth; proof = an_argument_stops h.proof; deep = h.deep; paid = h.paid })

    operators_sound : (p : Location) (y : Value) (ls : Links Slot ClassId) (m : Memory) (B : ℕ) → Each (AreOperators p y ls m B) (operators model now inner p y ls m B)
    unfolding operators
    operators_sound p y no_links m B = reached (record { units = 0; depth = 0; proof = no_operator; deep = omega arith; paid = omega arith })
    operators_sound p y (link op at t ls) m B =
        at_then (λ w. tick (λ m1 r1. follow (applied op at y w m1) r1 (λ z. operators model now inner p z ls))) (below p t m B)
        (λ w m1 r1 h. at_tick (λ m2 r2. follow (applied op at y w m2) r2 (λ z. operators model now inner p z ls)) m1 r1
        (λ r2 g. at_follow (applied op at y w m1) r2 (λ z. operators model now inner p z ls)
        (λ z m2 q. at_same (operators_sound p z ls m2 r2)
        (λ a r3 k. record { units = h.units + suc k.units; depth = max h.depth k.depth; proof = an_operator h.proof q k.proof; deep = omega arith; paid = omega arith }))
        (λ e q. record { units = suc h.units; depth = h.depth; proof = an_operator_wrong h.proof q; deep = h.deep; paid = omega arith })))
        (λ e r1 h. record { units = h.units; depth = h.depth; proof = an_operand_stops h.proof; deep = h.deep; paid = h.paid })

    -- what comes after the arguments
    module _ (p : Location) (y : Value) (selector : Id) (args : Part Slot ClassId) (ss : Sendings Slot ClassId) (m : Memory) (B : ℕ)
        (rest : (z : Value) (m1 : Memory) (r1 : ℕ) → Each (AreSelectors p z ss m1 r1) (selectors model now inner p z ss m1 r1))
        (ws : List Value) (m1 : Memory) (r1 r2 : ℕ) (h : AreArguments p [] (arguments_of args) m B (gives ws m1) r1) (g : r1 ≡ suc r2) where
      answer_sound : (a : Answer Value) → reply model y selector ws m1 ≡ answers a
          → Each (AreSelectors p y (sending selector args ss) m B) (follow a r2 (λ z. selectors model now inner p z ss))
      answer_sound (gives z m2) q = at_same (rest z m2 r2)
          (λ b r3 k. record { units = h.units + suc k.units; depth = max h.depth k.depth; proof = an_answer h.proof q k.proof; deep = omega arith; paid = omega arith })
      answer_sound (stops e) q = reached (record { units = suc h.units; depth = h.depth; proof = an_answer_wrong h.proof q; deep = h.deep; paid = omega arith })

      body_sound : (o count : ℕ) (body : Codes) → reply model y selector ws m1 ≡ runs o count body
          → {x : Reached Value} → Each (IsSequence (in_object o) Nil body (started count ws m1) r2) x
          → Each (AreSelectors p y (sending selector args ss) m B) (and_then (seen_by (ended m1.locals) x) (λ z. selectors model now inner p z ss))
      body_sound o count body q nothing = nothing
      body_sound o count body q (reached {a = b} {r = r3} k) =
          at_follow (ended m1.locals b) r3 (λ z. selectors model now inner p z ss)
          (λ z m2 w. at_same (rest z m2 r3)
          (λ a r4 n. record { units = h.units + suc (k.units + n.units); depth = max h.depth (max k.depth n.depth); proof = a_method h.proof q k.proof w n.proof; deep = omega arith; paid = omega arith }))
          (λ e w. record { units = h.units + suc k.units; depth = max h.depth k.depth; proof = a_method_wrong h.proof q k.proof w; deep = omega arith; paid = omega arith })

      reply_sound : (x : Reply) → reply model y selector ws m1 ≡ x
          → Each (AreSelectors p y (sending selector args ss) m B) (and_then (replied model now inner x ws m1 r2) (λ z. selectors model now inner p z ss))
      unfolding replied
      reply_sound (answers a) q = answer_sound a q
      reply_sound (runs o count body) q = body_sound o count body q (sequence_sound (in_object o) Nil body (started count ws m1) r2)

    selectors_sound : (p : Location) (y : Value) (ss : Sendings Slot ClassId) (m : Memory) (B : ℕ) → Each (AreSelectors p y ss m B) (selectors model now inner p y ss m B)
    unfolding selectors
    selectors_sound p y no_sendings m B = reached (record { units = 0; depth = 0; proof = no_selector; deep = omega arith; paid = omega arith })
    selectors_sound p y (sending selector args ss) m B =
        at_then (λ ws. tick (λ m1 r1. and_then (replied model now inner (reply model y selector ws m1) ws m1 r1) (λ z. selectors model now inner p z ss))) (arguments_sound p [] (arguments_of args) m B)
        (λ ws m1 r1 h. at_tick (λ m2 r2. and_then (replied model now inner (reply model y selector ws m2) ws m2 r2) (λ z. selectors model now inner p z ss)) m1 r1
        (λ r2 g. reply_sound p y selector args ss m B (λ z. selectors_sound p z ss) ws m1 r1 r2 h g (reply model y selector ws m1) refl))
        (λ e r1 h. record { units = h.units; depth = h.depth; proof = arguments_stop h.proof; deep = h.deep; paid = h.paid })

    going_sound : (n : ℕ) (p : Location) (at : Pos) (t : Tree) (ts : Codes) (m : Memory) (B B1 : ℕ)
        → ((m1 : Memory) (r1 : ℕ) → Each (AreTurns p at t ts m1 r1) (turns model now inner n p at t ts m1 r1)) → B ≡ suc B1
        → (y : Value) (m1 : Memory) (r1 : ℕ) → IsEvaluation p t m B1 (gives y m1) r1 → (b : Bool) → truth y ≡ Some b
        → Each (AreTurns p at t ts m B) (going model now inner p ts (turns model now inner n p at t ts) b m1 r1)
    unfolding going
    going_sound n p at t ts m B B1 rest g y m1 r1 h true q = at_then (λ _. turns model now inner n p at t ts) (sequence_sound p Nil ts m1 r1)
        (λ z m2 r2 k. at_same (rest m2 r2)
        (λ a r3 w. record { units = suc (h.units + (k.units + w.units)); depth = max h.depth (max k.depth w.depth); proof = a_turn h.proof q k.proof w.proof; deep = omega arith; paid = omega arith }))
        (λ e r2 k. record { units = suc (h.units + k.units); depth = max h.depth k.depth; proof = a_turn_stops h.proof q k.proof; deep = omega arith; paid = omega arith })
    going_sound n p at t ts m B B1 rest g y m1 r1 h false q =
        reached (record { units = suc h.units; depth = h.depth; proof = over h.proof q; deep = h.deep; paid = omega arith })

    turns_sound : (n : ℕ) (p : Location) (at : Pos) (t : Tree) (ts : Codes) (m : Memory) (B : ℕ) → Each (AreTurns p at t ts m B) (turns model now inner n p at t ts m B)
    unfolding turns
    turns_sound zero p at t ts m B = nothing
    turns_sound (suc n) p at t ts m B =
        at_tick (λ m1 r1. and_then (inner p t m1 r1) (λ y. tested at (truth y) (going model now inner p ts (turns model now inner n p at t ts)))) m B
        (λ B1 g. at_then (λ y. tested at (truth y) (going model now inner p ts (turns model now inner n p at t ts))) (below p t m B1)
        (λ y m1 r1 h. at_test at (truth y) (going model now inner p ts (turns model now inner n p at t ts)) m1 r1
        (λ b q. going_sound n p at t ts m B B1 (turns_sound n p at t ts) g y m1 r1 h b q)
        (λ q. record { units = suc h.units; depth = h.depth; proof = a_test_wrong h.proof q; deep = h.deep; paid = omega arith }))
        (λ e r1 h. record { units = suc h.units; depth = h.depth; proof = a_test_stops h.proof; deep = h.deep; paid = omega arith }))

  -- one step further out
  abbrev IsOuter : Location → Tree → Memory → ℕ → Answer Value → ℕ → Type 0
  IsOuter p t m B a r = Derived (suc D) B r (Evaluates model now p m t a)

  module _ (below : (p : Location) (t : Tree) (m : Memory) (B : ℕ) → Each (IsEvaluation p t m B) (inner p t m B)) where
    step_sound : (p : Location) (t : Tree) (m : Memory) (B : ℕ) → Each (IsOuter p t m B) (step model now inner p t m B)
    unfolding step
    step_sound p (literal at x) m B = at_tick (λ m1 r1. done (gives (constant x) m1) r1) m B (λ r g. reached (record { units = 1; depth = 1; proof = a_constant; deep = omega arith; paid = omega arith }))
    step_sound p (variable at x) m B = at_tick (λ m1 r1. done (gives (read p x m1) m1) r1) m B (λ r g. reached (record { units = 1; depth = 1; proof = a_variable; deep = omega arith; paid = omega arith }))
    step_sound p (me at) m B = at_tick (λ m1 r1. done (gives (self_at p) m1) r1) m B (λ r g. reached (record { units = 1; depth = 1; proof = itself; deep = omega arith; paid = omega arith }))
    step_sound p (clock at) m B = at_tick (λ m1 r1. done (time now at m1) r1) m B (λ r g. reached (record { units = 1; depth = 1; proof = the_time; deep = omega arith; paid = omega arith }))
    step_sound p (creation at class) m B = at_tick (λ m1 r1. done (created model class at m1) r1) m B (λ r g. reached (record { units = 1; depth = 1; proof = a_new; deep = omega arith; paid = omega arith }))
    step_sound p (group at ts) m B = at_tick (sequence model now inner p Nil ts) m B
        (λ r g. at_same (sequence_sound below p Nil ts m r)
        (λ a r1 h. record { units = suc h.units; depth = suc h.depth; proof = in_brackets h.proof; deep = omega arith; paid = omega arith }))
    step_sound p (chain at t ls) m B = at_then (λ y. operators model now inner p y ls) (below p t m B)
        (λ y m1 r1 h. at_same (operators_sound below p y ls m1 r1)
        (λ a r2 k. record { units = h.units + k.units; depth = suc (max h.depth k.depth); proof = a_chain h.proof k.proof; deep = omega arith; paid = omega arith }))
        (λ e r1 h. record { units = h.units; depth = suc h.depth; proof = a_chain_stops h.proof; deep = omega arith; paid = h.paid })
    step_sound p (sends at t ss) m B = at_then (λ y. selectors model now inner p y ss) (below p t m B)
        (λ y m1 r1 h. at_same (selectors_sound below p y ss m1 r1)
        (λ a r2 k. record { units = h.units + k.units; depth = suc (max h.depth k.depth); proof = some_sends h.proof k.proof; deep = omega arith; paid = omega arith }))
        (λ e r1 h. record { units = h.units; depth = suc h.depth; proof = some_sends_stop h.proof; deep = omega arith; paid = h.paid })
    step_sound p (unary at op t) m B = at_tick (λ m1 r1. and_then (inner p t m1 r1) (λ y m2 r2. done (applied_alone op at y m2) r2)) m B
        (λ r g. at_then (λ y m2 r2. done (applied_alone op at y m2) r2) (below p t m r)
        (λ y m1 r1 h. reached (record { units = suc h.units; depth = suc h.depth; proof = a_unary h.proof; deep = omega arith; paid = omega arith }))
        (λ e r1 h. record { units = suc h.units; depth = suc h.depth; proof = a_unary_stops h.proof; deep = omega arith; paid = omega arith }))
    step_sound p (assign at x t) m B = at_tick (λ m1 r1. and_then (inner p t m1 r1) (λ y m2 r2. done (gives y (write p x y m2)) r2)) m B
        (λ r g. at_then (λ y m2 r2. done (gives y (write p x y m2)) r2) (below p t m r)
        (λ y m1 r1 h. reached (record { units = suc h.units; depth = suc h.depth; proof = an_assignment h.proof; deep = omega arith; paid = omega arith }))
        (λ e r1 h. record { units = suc h.units; depth = suc h.depth; proof = an_assignment_stops h.proof; deep = omega arith; paid = omega arith }))
    step_sound p (returned at t) m B = at_tick (λ m1 r1. and_then (inner p t m1 r1) (λ y m2 r2. done (stops (ends y m2)) r2)) m B
        (λ r g. at_then (λ y m2 r2. done (stops (ends y m2)) r2) (below p t m r)
        (λ y m1 r1 h. reached (record { units = suc h.units; depth = suc h.depth; proof = a_return h.proof; deep = omega arith; paid = omega arith }))
        (λ e r1 h. record { units = suc h.units; depth = suc h.depth; proof = a_return_stops h.proof; deep = omega arith; paid = omega arith }))
    step_sound p (choice at t ts other) m B =
        at_tick (λ m1 r1. and_then (inner p t m1 r1) (λ y. tested at (truth y) (λ b. sequence model now inner p Nil (chosen b ts other)))) m B
        (λ r g. at_then (λ y. tested at (truth y) (λ b. sequence model now inner p Nil (chosen b ts other))) (below p t m r)
        (λ y m1 r1 h. at_test at (truth y) (λ b. sequence model now inner p Nil (chosen b ts other)) m1 r1
        (λ b q. at_same (sequence_sound below p Nil (chosen b ts other) m1 r1)
        (λ a r2 k. record { units = suc (h.units + k.units); depth = suc (max h.depth k.depth); proof = an_if h.proof q k.proof; deep = omega arith; paid = omega arith }))
        (λ q. record { units = suc h.units; depth = suc h.depth; proof = an_if_wrong h.proof q; deep = omega arith; paid = omega arith }))
        (λ e r1 h. record { units = suc h.units; depth = suc h.depth; proof = an_if_stops h.proof; deep = omega arith; paid = omega arith }))
    step_sound p (loop at t ts) m B = at_same (turns_sound below B p at t ts m B)
        (λ a r1 h. record { units = h.units; depth = suc h.depth; proof = a_while h.proof; deep = omega arith; paid = h.paid })

pub evaluated_sound : (model : ModelTree) (now D : ℕ) (p : Location) (t : Tree) (m : Memory) (B : ℕ) → Each (IsEvaluation model now D p t m B) (evaluated model now D p t m B)
unfolding evaluated
evaluated_sound model now zero p t m B = nothing
evaluated_sound model now (suc D) p t m B = step_sound model now D (evaluated_sound model now D) p t m B

-- a list of arguments, which is asked by itself
pub list_sound : (model : ModelTree) (now D : ℕ) (p : Location) (ys : List Value) (ts : Codes) (m : Memory) (B : ℕ) → Each (AreArguments model now D p ys ts m B) (arguments model now (evaluated model now D) p ys ts m B)
list_sound model now D p ys ts m B = arguments_sound model now D (evaluated_sound model now D) p ys ts m B
