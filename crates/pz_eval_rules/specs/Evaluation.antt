-- Evaluation, a relation by cases. From left to right an expression comes to an answer, with so many
-- units and so deep.
--
-- A unit is counted when the evaluation of a constant, a variable, `self`, `currentTime`, `new`, a
-- bracketed expression, a unary operator, an assignment, a `return` or an `if` begins, when a test of a
-- `while` begins, and when an operator or a selector has its operands or arguments. So what ends in a
-- fault has counted the unit of what is wrong. The parts of an expression are one deeper than it, and
-- so are the expressions of the body of each method that it calls.
use Rattle.std.specs.Prelude.{◌≡◌, ℕ, suc, ◌+◌, max, Bool, true, false, List, [], ◌∷◌, ◌++◌, Some, None}
use Rattle.pz_classes_rules.specs.pz_syntax.declared.tokens.Pos.{Pos}
use Rattle.pz_classes_rules.specs.pz_syntax.declared.tokens.Symbol.{Symbol}
use Rattle.pz_classes_rules.specs.pz_syntax.declared.names.Id.{Id}
use Rattle.pz_classes_rules.specs.pz_syntax.declared.exprs.Literal.{Literal}
use Rattle.pz_classes_rules.specs.pz_syntax.Expressions.{literal, variable, me, clock, creation, group, chain, sends, unary, assign, returned, choice, loop, none, more, Part, left_out, written, Links, no_links, link, Sendings, no_sendings, sending}
use Rattle.pz_classes_rules.specs.pz_syntax.Classes.{ModelTree}
use Rattle.pz_state.specs.pz_value.declared.value.ClassId.{ClassId}
use Rattle.pz_state.specs.pz_value.declared.value.Value.{Value}
use Rattle.pz_state.specs.pz_value.declared.value.Value.TheVariants.{Nil}
use Rattle.pz_classes_rules.specs.pz_classes_code.declared.slot.Slot.{Slot}
use Rattle.pz_classes_rules.specs.pz_classes_code.CodeView.{Tree}
use Rattle.pz_state.specs.declared.fault.FaultKind.TheVariants.{NotBoolean}
use Rattle.pz_classes_rules.specs.pz_classes_code.Literals.{constant}
use Rattle.pz_eval_rules.specs.Memories.{Memory, Location, in_object, read, write, self_at, started}
use Rattle.pz_eval_rules.specs.Answers.{Stop, ends, fault, Answer, gives, stops, ended}
use Rattle.pz_eval_rules.specs.Steps.{Codes, time, created, truth, chosen, applied, applied_alone, answers, runs, reply}

-- the arguments that are written; none without brackets
abbrev pub arguments_of : Part Slot ClassId → Codes
arguments_of left_out = none
arguments_of (written ts) = ts

mutual
  -- in the classes of a model, at a clock: where it stands and what is read there, an expression comes
  -- to an answer
  pub data Evaluates (model : ModelTree) (now : ℕ) : Location → Memory → Tree → Answer Value → ℕ → ℕ → Type 0 where
    a_constant : {p : Location} {m : Memory} {at : Pos} {x : Literal}
        → Evaluates model now p m (literal at x) (gives (constant x) m) 1 1
    a_variable : {p : Location} {m : Memory} {at : Pos} {x : Slot}
        → Evaluates model now p m (variable at x) (gives (read p x m) m) 1 1
    itself : {p : Location} {m : Memory} {at : Pos}
        → Evaluates model now p m (me at) (gives (self_at p) m) 1 1
    the_time : {p : Location} {m : Memory} {at : Pos}
        → Evaluates model now p m (clock at) (time now at m) 1 1
    a_new : {p : Location} {m : Memory} {at : Pos} {class : ClassId}
        → Evaluates model now p m (creation at class) (created model class at m) 1 1
    in_brackets : {p : Location} {m : Memory} {at : Pos} {ts : Codes} {a : Answer Value} {u d : ℕ}
        → InSequence model now p m Nil ts a u d
        → Evaluates model now p m (group at ts) a (suc u) (suc d)
    a_chain : {p : Location} {m m1 : Memory} {at : Pos} {t : Tree} {ls : Links Slot ClassId} {y : Value} {a : Answer Value} {u1 d1 u2 d2 : ℕ}
        → Evaluates model now p m t (gives y m1) u1 d1 → Operators model now p m1 y ls a u2 d2
        → Evaluates model now p m (chain at t ls) a (u1 + u2) (suc (max d1 d2))
    a_chain_stops : {p : Location} {m : Memory} {at : Pos} {t : Tree} {ls : Links Slot ClassId} {e : Stop} {u d : ℕ}
        → Evaluates model now p m t (stops e) u d
        → Evaluates model now p m (chain at t ls) (stops e) u (suc d)
    some_sends : {p : Location} {m m1 : Memory} {at : Pos} {t : Tree} {ss : Sendings Slot ClassId} {y : Value} {a : Answer Value} {u1 d1 u2 d2 : ℕ}
        → Evaluates model now p m t (gives y m1) u1 d1 → Selectors model now p m1 y ss a u2 d2
        → Evaluates model now p m (sends at t ss) a (u1 + u2) (suc (max d1 d2))
    some_sends_stop : {p : Location} {m : Memory} {at : Pos} {t : Tree} {ss : Sendings Slot ClassId} {e : Stop} {u d : ℕ}
        → Evaluates model now p m t (stops e) u d
        → Evaluates model now p m (sends at t ss) (stops e) u (suc d)
    a_unary : {p : Location} {m m1 : Memory} {at : Pos} {op : Symbol} {t : Tree} {y : Value} {u d : ℕ}
        → Evaluates model now p m t (gives y m1) u d
        → Evaluates model now p m (unary at op t) (applied_alone op at y m1) (suc u) (suc d)
    a_unary_stops : {p : Location} {m : Memory} {at : Pos} {op : Symbol} {t : Tree} {e : Stop} {u d : ℕ}
        → Evaluates model now p m t (stops e) u d
        → Evaluates model now p m (unary at op t) (stops e) (suc u) (suc d)
    -- an assignment's value is the assigned one
    an_assignment : {p : Location} {m m1 : Memory} {at : Pos} {x : Slot} {t : Tree} {y : Value} {u d : ℕ}
        → Evaluates model now p m t (gives y m1) u d
        → Evaluates model now p m (assign at x t) (gives y (write p x y m1)) (suc u) (suc d)
    an_assignment_stops : {p : Location} {m : Memory} {at : Pos} {x : Slot} {t : Tree} {e : Stop} {u d : ℕ}
        → Evaluates model now p m t (stops e) u d
        → Evaluates model now p m (assign at x t) (stops e) (suc u) (suc d)
    -- `return` ends the body of the innermost method
    a_return : {p : Location} {m m1 : Memory} {at : Pos} {t : Tree} {y : Value} {u d : ℕ}
        → Evaluates model now p m t (gives y m1) u d
        → Evaluates model now p m (returned at t) (stops (ends y m1)) (suc u) (suc d)
    a_return_stops : {p : Location} {m : Memory} {at : Pos} {t : Tree} {e : Stop} {u d : ℕ}
        → Evaluates model now p m t (stops e) u d
        → Evaluates model now p m (returned at t) (stops e) (suc u) (suc d)
    -- an `if` has the value of its chosen part
    an_if : {p : Location} {m m1 : Memory} {at : Pos} {t : Tree} {ts : Codes} {other : Part Slot ClassId} {y : Value} {b : Bool} {a : Answer Value} {u1 d1 u2 d2 : ℕ}
        → Evaluates model now p m t (gives y m1) u1 d1 → truth y ≡ Some b → InSequence model now p m1 Nil (chosen b ts other) a u2 d2
        → Evaluates model now p m (choice at t ts other) a (suc (u1 + u2)) (suc (max d1 d2))
    an_if_wrong : {p : Location} {m m1 : Memory} {at : Pos} {t : Tree} {ts : Codes} {other : Part Slot ClassId} {y : Value} {u d : ℕ}
        → Evaluates model now p m t (gives y m1) u d → truth y ≡ None
        → Evaluates model now p m (choice at t ts other) (stops (fault NotBoolean at)) (suc u) (suc d)
    an_if_stops : {p : Location} {m : Memory} {at : Pos} {t : Tree} {ts : Codes} {other : Part Slot ClassId} {e : Stop} {u d : ℕ}
        → Evaluates model now p m t (stops e) u d
        → Evaluates model now p m (choice at t ts other) (stops e) (suc u) (suc d)
    a_while : {p : Location} {m : Memory} {at : Pos} {t : Tree} {ts : Codes} {a : Answer Value} {u d : ℕ}
        → Turns model now p m at t ts a u d
        → Evaluates model now p m (loop at t ts) a u (suc d)

  -- after a value, the expressions of a list: the value is that of the last one, or the one before the
  -- list where it is empty
  pub data InSequence (model : ModelTree) (now : ℕ) : Location → Memory → Value → Codes → Answer Value → ℕ → ℕ → Type 0 where
    no_more : {p : Location} {m : Memory} {y : Value}
        → InSequence model now p m y none (gives y m) 0 0
    one_more : {p : Location} {m m1 : Memory} {y z : Value} {t : Tree} {ts : Codes} {a : Answer Value} {u1 d1 u2 d2 : ℕ}
        → Evaluates model now p m t (gives z m1) u1 d1 → InSequence model now p m1 z ts a u2 d2
        → InSequence model now p m y (more t ts) a (u1 + u2) (max d1 d2)
    one_stops : {p : Location} {m : Memory} {y : Value} {t : Tree} {ts : Codes} {e : Stop} {u d : ℕ}
        → Evaluates model now p m t (stops e) u d
        → InSequence model now p m y (more t ts) (stops e) u d

  -- after the values of the arguments before them, the others: all values in order
  pub data Arguments (model : ModelTree) (now : ℕ) : Location → Memory → List Value → Codes → Answer (List Value) → ℕ → ℕ → Type 0 where
    no_argument : {p : Location} {m : Memory} {ys : List Value}
        → Arguments model now p m ys none (gives ys m) 0 0
    an_argument : {p : Location} {m m1 : Memory} {ys : List Value} {y : Value} {t : Tree} {ts : Codes} {a : Answer (List Value)} {u1 d1 u2 d2 : ℕ}
        → Evaluates model now p m t (gives y m1) u1 d1 → Arguments model now p m1 (ys ++ y ∷ []) ts a u2 d2
        → Arguments model now p m ys (more t ts) a (u1 + u2) (max d1 d2)
    an_argument_stops : {p : Location} {m : Memory} {ys : List Value} {t : Tree} {ts : Codes} {e : Stop} {u d : ℕ}
        → Evaluates model now p m t (stops e) u d
        → Arguments model now p m ys (more t ts) (stops e) u d

  -- the operators of a chain, of which the first is applied to this value
  pub data Operators (model : ModelTree) (now : ℕ) : Location → Memory → Value → Links Slot ClassId → Answer Value → ℕ → ℕ → Type 0 where
    no_operator : {p : Location} {m : Memory} {y : Value}
        → Operators model now p m y no_links (gives y m) 0 0
    an_operator : {p : Location} {m m1 m2 : Memory} {y w z : Value} {op : Symbol} {at : Pos} {t : Tree} {ls : Links Slot ClassId} {a : Answer Value} {u1 d1 u2 d2 : ℕ}
        → Evaluates model now p m t (gives w m1) u1 d1 → applied op at y w m1 ≡ gives z m2 → Operators model now p m2 z ls a u2 d2
        → Operators model now p m y (link op at t ls) a (u1 + suc u2) (max d1 d2)
    an_operator_wrong : {p : Location} {m m1 : Memory} {y w : Value} {op : Symbol} {at : Pos} {t : Tree} {ls : Links Slot ClassId} {e : Stop} {u d : ℕ}
        → Evaluates model now p m t (gives w m1) u d → applied op at y w m1 ≡ stops e
        → Operators model now p m y (link op at t ls) (stops e) (suc u) d
    an_operand_stops : {p : Location} {m : Memory} {y : Value} {op : Symbol} {at : Pos} {t : Tree} {ls : Links Slot ClassId} {e : Stop} {u d : ℕ}
        → Evaluates model now p m t (stops e) u d
        → Operators model now p m y (link op at t ls) (stops e) u d

  -- selectors, of which the first is sent to this value
  pub data Selectors (model : ModelTree) (now : ℕ) : Location → Memory → Value → Sendings Slot ClassId → Answer Value → ℕ → ℕ → Type 0 where
    no_selector : {p : Location} {m : Memory} {y : Value}
        → Selectors model now p m y no_sendings (gives y m) 0 0
    -- the receiver answers
    an_answer : {p : Location} {m m1 m2 : Memory} {y z : Value} {selector : Id} {args : Part Slot ClassId} {ss : Sendings Slot ClassId} {ws : List Value} {a : Answer Value} {u1 d1 u2 d2 : ℕ}
        → Arguments model now p m [] (arguments_of args) (gives ws m1) u1 d1
        → reply model y selector ws m1 ≡ answers (gives z m2) → Selectors model now p m2 z ss a u2 d2
        → Selectors model now p m y (sending selector args ss) a (u1 + suc u2) (max d1 d2)
    an_answer_wrong : {p : Location} {m m1 : Memory} {y : Value} {selector : Id} {args : Part Slot ClassId} {ss : Sendings Slot ClassId} {ws : List Value} {e : Stop} {u d : ℕ}
        → Arguments model now p m [] (arguments_of args) (gives ws m1) u d
        → reply model y selector ws m1 ≡ answers (stops e)
        → Selectors model now p m y (sending selector args ss) (stops e) (suc u) d
    -- the body of a method runs, in the object
    a_method : {p : Location} {m m1 m2 : Memory} {y z : Value} {selector : Id} {args : Part Slot ClassId} {ss : Sendings Slot ClassId} {ws : List Value} {r count : ℕ} {body : Codes} {b a : Answer Value} {u1 d1 u2 d2 u3 d3 : ℕ}
        → Arguments model now p m [] (arguments_of args) (gives ws m1) u1 d1
        → reply model y selector ws m1 ≡ runs r count body
        → InSequence model now (in_object r) (started count ws m1) Nil body b u2 d2
        → ended m1.locals b ≡ gives z m2 → Selectors model now p m2 z ss a u3 d3
        → Selectors model now p m y (sending selector args ss) a (u1 + suc (u2 + u3)) (max d1 (max d2 d3))
    a_method_wrong : {p : Location} {m m1 : Memory} {y : Value} {selector : Id} {args : Part Slot ClassId} {ss : Sendings Slot ClassId} {ws : List Value} {r count : ℕ} {body : Codes} {b : Answer Value} {e : Stop} {u1 d1 u2 d2 : ℕ}
        → Arguments model now p m [] (arguments_of args) (gives ws m1) u1 d1
        → reply model y selector ws m1 ≡ runs r count body
        → InSequence model now (in_object r) (started count ws m1) Nil body b u2 d2
        → ended m1.locals b ≡ stops e
        → Selectors model now p m y (sending selector args ss) (stops e) (u1 + suc u2) (max d1 d2)
    arguments_stop : {p : Location} {m : Memory} {y : Value} {selector : Id} {args : Part Slot ClassId} {ss : Sendings Slot ClassId} {e : Stop} {u d : ℕ}
        → Arguments model now p m [] (arguments_of args) (stops e) u d
        → Selectors model now p m y (sending selector args ss) (stops e) u d

  -- the turns of a `while`, which has nil in the end
  pub data Turns (model : ModelTree) (now : ℕ) : Location → Memory → Pos → Tree → Codes → Answer Value → ℕ → ℕ → Type 0 where
    a_turn : {p : Location} {m m1 m2 : Memory} {at : Pos} {t : Tree} {ts : Codes} {y z : Value} {a : Answer Value} {u1 d1 u2 d2 u3 d3 : ℕ}
        → Evaluates model now p m t (gives y m1) u1 d1 → truth y ≡ Some true
        → InSequence model now p m1 Nil ts (gives z m2) u2 d2 → Turns model now p m2 at t ts a u3 d3
        → Turns model now p m at t ts a (suc (u1 + (u2 + u3))) (max d1 (max d2 d3))
    a_turn_stops : {p : Location} {m m1 : Memory} {at : Pos} {t : Tree} {ts : Codes} {y : Value} {e : Stop} {u1 d1 u2 d2 : ℕ}
        → Evaluates model now p m t (gives y m1) u1 d1 → truth y ≡ Some true
        → InSequence model now p m1 Nil ts (stops e) u2 d2
        → Turns model now p m at t ts (stops e) (suc (u1 + u2)) (max d1 d2)
    over : {p : Location} {m m1 : Memory} {at : Pos} {t : Tree} {ts : Codes} {y : Value} {u d : ℕ}
        → Evaluates model now p m t (gives y m1) u d → truth y ≡ Some false
        → Turns model now p m at t ts (gives Nil m1) (suc u) d
    a_test_wrong : {p : Location} {m m1 : Memory} {at : Pos} {t : Tree} {ts : Codes} {y : Value} {u d : ℕ}
        → Evaluates model now p m t (gives y m1) u d → truth y ≡ None
        → Turns model now p m at t ts (stops (fault NotBoolean at)) (suc u) d
    a_test_stops : {p : Location} {m : Memory} {at : Pos} {t : Tree} {ts : Codes} {e : Stop} {u d : ℕ}
        → Evaluates model now p m t (stops e) u d
        → Turns model now p m at t ts (stops e) (suc u) d
