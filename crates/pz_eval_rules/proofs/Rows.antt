-- Worked expressions.
use Rattle.std.proofs.Common.{◌≡◌, ℕ, pos, List, [], ◌∷◌, Some, None, codes, refl}
use Rattle.pz_classes_rules.specs.pz_syntax.declared.tokens.Pos.{Pos}
use Rattle.pz_classes_rules.specs.pz_syntax.declared.tokens.Symbol.TheVariants.{Plus, Minus, Star, Slash, Less, Equal, Ampersand}
use Rattle.pz_classes_rules.specs.pz_syntax.declared.exprs.Literal.TheVariants as literal
use Rattle.pz_classes_rules.specs.pz_syntax.Expressions.{Expression, variable, me, clock, creation, group, chain, sends, unary, assign, returned, choice, loop, Expressions, none, more, Part, left_out, written, Links, no_links, link, Sendings, no_sendings, sending}
use Rattle.pz_classes_rules.specs.pz_syntax.Expressions as expression
use Rattle.pz_classes_rules.specs.pz_syntax.declared.names.Id.{Id}
use Rattle.pz_classes_rules.specs.pz_syntax.Classes.{DataMethodTree, ModelTree, data_class}
use Rattle.pz_state.specs.pz_value.declared.value.Value.TheVariants as value
use Rattle.pz_classes_rules.specs.pz_classes_code.declared.slot.Slot.TheVariants.{Shared}
use Rattle.pz_classes_rules.specs.pz_classes_code.CodeView.{Tree}
use Rattle.pz_state.specs.declared.fault.FaultKind.TheVariants.{DivideByZero, NotUnderstood, NotBoolean, ClockTooLarge}
use Rattle.pz_state.specs.States.{initial, nils}
use Rattle.pz_eval_rules.specs.declared.allowance.Allowance.{Allowance}
use Rattle.pz_eval_rules.specs.declared.outcome.Outcome.{Outcome}
use Rattle.pz_eval_rules.specs.declared.outcome.Outcome.TheVariants as found
use Rattle.pz_prims.specs.Rows.{answered}
use Rattle.pz_prims.specs.EveryValue.{every_value}
use Rattle.pz_prims.specs.Integers.{integers}
use Rattle.pz_prims.specs.Booleans.{booleans}
use Rattle.pz_prims.specs.Table.{outcome}
use Rattle.pz_eval_rules.specs.devices.Computed.{sequence, arguments, operators, replied, selectors, going, turns, step, evaluated}
use Rattle.pz_eval_rules.specs.devices.Outcomes.{reached_value, outcome_of, state_after}

-- a model without declarations
abbrev nothing : ModelTree
nothing = record { decls = [] }

abbrev at : ℕ → Pos
at column = record { line = 1; column = column }

abbrev allowed : ℕ → ℕ → Allowance
allowed units depth = record { units = units; depth = depth }

abbrev integer : ℕ → ℕ → Tree
integer column n = expression.literal (at column) (literal.Int (pos n))

-- what is found in a state of two nil variables, at this clock
abbrev at_clock : ℕ → Tree → ℕ → ℕ → Outcome
at_clock now t units depth = outcome_of (reached_value nothing now 0 (initial (nils 2)) t (allowed units depth))

abbrev finds : Tree → ℕ → ℕ → Outcome
finds = at_clock 0

-- 2 + 3 * 4
abbrev sum : Tree
sum = chain (at 1) (integer 1 2) (link Plus (at 3) (chain (at 5) (integer 5 3) (link Star (at 7) (integer 9 4) no_links)) no_links)

sum_found : finds sum 5 3 ≡ found.Value (value.Int (pos 14))
unfolding evaluated step sequence arguments operators replied selectors going turns outcome answered every_value integers booleans
sum_found = refl

a_unit_too_few : finds sum 4 400 ≡ found.Spent
unfolding evaluated step sequence arguments operators replied selectors going turns outcome answered every_value integers booleans
a_unit_too_few = refl

not_deep_enough : finds sum 5 2 ≡ found.Spent
unfolding evaluated step sequence arguments operators replied selectors going turns outcome answered every_value integers booleans
not_deep_enough = refl

-- 1 / 0 : the fault's own unit is counted before it
abbrev quotient : Tree
quotient = chain (at 1) (integer 1 1) (link Slash (at 3) (integer 5 0) no_links)

quotient_found : finds quotient 3 400 ≡ found.Fault DivideByZero (at 3)
unfolding evaluated step sequence arguments operators replied selectors going turns outcome answered every_value integers booleans
quotient_found = refl

quotient_spent : finds quotient 2 400 ≡ found.Spent
unfolding evaluated step sequence arguments operators replied selectors going turns outcome answered every_value integers booleans
quotient_spent = refl

-- false & 1 : both operands are evaluated
abbrev both : Tree
both = chain (at 1) (expression.literal (at 1) literal.False) (link Ampersand (at 7) (integer 9 1) no_links)

both_found : finds both 3 400 ≡ found.Fault NotBoolean (at 7)
unfolding evaluated step sequence arguments operators replied selectors going turns outcome answered every_value integers booleans
both_found = refl

-- - true
abbrev negated : Tree
negated = unary (at 1) Minus (expression.literal (at 3) literal.True)

negated_found : finds negated 2 400 ≡ found.Fault NotUnderstood (at 1)
unfolding evaluated step sequence arguments operators replied selectors going turns outcome answered every_value integers booleans
negated_found = refl

-- if 1 then 2 fi
abbrev no_test : Tree
no_test = choice (at 1) (integer 4 1) (more (integer 11 2) none) left_out

no_test_found : finds no_test 2 400 ≡ found.Fault NotBoolean (at 1)
unfolding evaluated step sequence arguments operators replied selectors going turns outcome answered every_value integers booleans
no_test_found = refl

-- currentTime
abbrev the_clock : Tree
the_clock = clock (at 1)

clock_found : at_clock 9223372036854775807 the_clock 1 1 ≡ found.Value (value.Int (pos 9223372036854775807))
unfolding evaluated step sequence arguments operators replied selectors going turns outcome answered every_value integers booleans
clock_found = refl

clock_too_large : at_clock 9223372036854775808 the_clock 1 1 ≡ found.Fault ClockTooLarge (at 1)
unfolding evaluated step sequence arguments operators replied selectors going turns outcome answered every_value integers booleans
clock_too_large = refl

-- x := 1; while x < 3 do x := x + 1 od; x
abbrev counting : Tree
counting = group (at 1) (more (assign (at 2) (Shared 0) (integer 7 1))
    (more (loop (at 10) (chain (at 16) (variable (at 16) (Shared 0)) (link Less (at 18) (integer 20 3) no_links))
    (more (assign (at 25) (Shared 0) (chain (at 30) (variable (at 30) (Shared 0)) (link Plus (at 32) (integer 34 1) no_links))) none))
    (more (variable (at 40) (Shared 0)) none)))

-- one unit for the brackets, two for the first assignment, four for each of three tests, four for
-- each of two turns, and one for the last variable
counting_found : finds counting 24 400 ≡ found.Value (value.Int (pos 3))
unfolding evaluated step sequence arguments operators replied selectors going turns outcome answered every_value integers booleans
counting_found = refl

counting_spent : finds counting 23 400 ≡ found.Spent
unfolding evaluated step sequence arguments operators replied selectors going turns outcome answered every_value integers booleans
counting_spent = refl

-- A class with a field, and methods with an input n:
--   f: if true then while true do return n od fi; 7
--   g: if n = 0 then 0 else self g(n - 1) fi
--   h: v := n; self

abbrev id : List ℕ → ℕ → Id
id name column = record { name = name; pos = at column }

abbrev truth : Expression Id Id
truth = expression.literal (at 5) literal.True

abbrev input : Expression Id Id
input = variable (at 6) (id (codes "n") 6)

abbrev number : ℕ → Expression Id Id
number n = expression.literal (at 7) (literal.Int (pos n))

abbrev routine : List ℕ → Expressions Id Id → DataMethodTree
routine name body = record {
  name = id name 9;
  inputs = Some (record { names = id (codes "n") 9 ∷ []; kind = id (codes "Integer") 9 } ∷ []);
  result = id (codes "Object") 9;
  locals = None;
  body = body;
}

abbrev f : DataMethodTree
f = routine (codes "f") (more (choice (at 3) truth (more (loop (at 4) truth (more (returned (at 5) input) none)) none) left_out) (more (number 7) none))

abbrev g : DataMethodTree
g = routine (codes "g") (more (choice (at 3) (chain (at 4) input (link Equal (at 5) (number 0) no_links))
    (more (number 0) none)
    (written (more (sends (at 6) (me (at 6)) (sending (id (codes "g") 8) (written (more (chain (at 4) input (link Minus (at 5) (number 1) no_links)) none)) no_sendings)) none)))
    none)

abbrev h : DataMethodTree
h = routine (codes "h") (more (assign (at 3) (id (codes "v") 3) input) (more (me (at 4)) none))

abbrev family : ModelTree
family = record {
  decls = data_class (record {
    name = id (codes "D") 1;
    parent = None;
    variables = Some (record { names = id (codes "v") 2 ∷ []; kind = id (codes "Integer") 2 } ∷ []);
    methods = Some (f ∷ g ∷ h ∷ []);
  }) ∷ [];
}

abbrev in_family : Tree → ℕ → ℕ → Outcome
in_family t units depth = outcome_of (reached_value family 0 0 (initial (nils 0)) t (allowed units depth))

-- new(D) name(n)
abbrev called : List ℕ → ℕ → Tree
called name n = sends (at 1) (creation (at 1) (record { 0 = 1 })) (sending (id name 8) (written (more (integer 10 n) none)) no_sendings)

returned_value : in_family (called (codes "f") 5) 9 5 ≡ found.Value (value.Int (pos 5))
unfolding evaluated step sequence arguments operators replied selectors going turns outcome answered every_value integers booleans
returned_value = refl

return_too_dear : in_family (called (codes "f") 5) 8 5 ≡ found.Spent
unfolding evaluated step sequence arguments operators replied selectors going turns outcome answered every_value integers booleans
return_too_dear = refl

return_too_deep : in_family (called (codes "f") 5) 9 4 ≡ found.Spent
unfolding evaluated step sequence arguments operators replied selectors going turns outcome answered every_value integers booleans
return_too_deep = refl

-- each call stands two deeper than the one before
recursive_value : in_family (called (codes "g") 2) 100 8 ≡ found.Value (value.Int (pos 0))
unfolding evaluated step sequence arguments operators replied selectors going turns outcome answered every_value integers booleans
recursive_value = refl

recursion_too_deep : in_family (called (codes "g") 2) 100 7 ≡ found.Spent
unfolding evaluated step sequence arguments operators replied selectors going turns outcome answered every_value integers booleans
recursion_too_deep = refl

-- a field is changed, and the object is given
changed_object : in_family (called (codes "h") 3) 100 400 ≡ found.Value (value.Ref 0)
unfolding evaluated step sequence arguments operators replied selectors going turns outcome answered every_value integers booleans
changed_object = refl

changed_field : state_after (initial (nils 0)) (reached_value family 0 0 (initial (nils 0)) (called (codes "h") 3) (allowed 100 400))
    ≡ record { vars = []; frames = []; objects = record { class = record { 0 = 1 }; items = value.Int (pos 3) ∷ [] } ∷ [] }
unfolding evaluated step sequence arguments operators replied selectors going turns outcome answered every_value integers booleans
changed_field = refl

no_such_method : in_family (called (codes "k") 3) 3 400 ≡ found.Fault NotUnderstood (at 8)
unfolding evaluated step sequence arguments operators replied selectors going turns outcome answered every_value integers booleans
no_such_method = refl

no_such_count : in_family (sends (at 1) (creation (at 1) (record { 0 = 1 })) (sending (id (codes "f") 8) left_out no_sendings)) 2 400 ≡ found.Fault NotUnderstood (at 8)
unfolding evaluated step sequence arguments operators replied selectors going turns outcome answered every_value integers booleans
no_such_count = refl
