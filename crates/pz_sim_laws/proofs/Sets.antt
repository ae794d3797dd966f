-- Terms, processes and configurations that are merely equal are equal: a term can be told by a statement.
use Rattle.std.proofs.Common.{◌≡◌, ℕ, List, [], Option, Some, None, refl, ap}
use Rattle.std.specs.Coded.{Coded, Coded-set, coded_ℕ, coded_list, coded×, code_by}
use ghost.Sets.{retract_set}
use mathlib.Core.List.{is_set}
use Rattle.std.proofs.Math.Nat.{ℕ_set}
use Rattle.pz_tree_standing.specs.pz_syntax.declared.tokens.Pos.{Pos}
use Rattle.pz_tree_standing.specs.pz_syntax.Expressions as expression
use Rattle.pz_tree_standing.specs.pz_syntax.Statements as statement
use Rattle.pz_tree_standing.specs.pz_syntax.Statements.{Statement, Statements, no_statements, then, Branches, no_branches, branch}
use Rattle.pz_tree_standing.specs.pz_value.declared.value.ClassId.{ClassId}
use Rattle.pz_tree_standing.specs.pz_value.contracts.value.ClassId as class_row
use Rattle.pz_tree_standing.specs.pz_value.declared.value.Value.{Value}
use Rattle.pz_tree_standing.specs.pz_value.contracts.value.Value as value_row
use Rattle.pz_tree_standing.specs.pz_classes_code.declared.slot.Slot.{Slot}
use Rattle.pz_tree_standing.specs.pz_state.Objects.{ObjectView}
use Rattle.pz_tree_standing.specs.pz_state.States.{StateView}
use Rattle.pz_tree_standing.specs.pz_rules.Terms.{Step, Steps, Term, done, leaf, wait, sequence, parallel, select, guarded, frame, abort, idle, handling, Terms, no_terms, and}
use Rattle.pz_tree_standing.specs.pz_rules.Settings.{Process}
use Rattle.pz_tree_standing.specs.pz_rules.Configurations.{Config}
use Rattle.pz_tree_standing.specs.pz_rules.devices.Sets.{StatementsAreASet}

-- A term as a statement: its numbers are told by places, its variables by the results of a call.

abbrev one : Step → Steps
one s = then s no_statements

abbrev two : Step → Step → Steps
two s t = then s (one t)

abbrev mutual
  told : Term → Step
  told done = statement.skip (record { line = 0; column = 0 })
  told (leaf s) = statement.abort (record { line = 0; column = 0 }) no_statements s
  told (wait left at) = statement.bracketed at (one (statement.skip (record { line = left; column = 0 })))
  told (sequence t rest) = statement.interrupt (record { line = 0; column = 0 }) rest (told t)
  told (parallel ts) = statement.parallel (record { line = 0; column = 0 }) (all_told ts)
  told (select ts) = statement.select (record { line = 0; column = 0 }) (all_told ts)
  told (guarded test at t) = statement.guarded at test (told t)
  told (frame number inputs results t) = statement.abort (record { line = number; column = inputs }) (one (statement.call (record { line = 0; column = 0 }) (record { name = []; pos = record { line = 0; column = 0 } }) expression.none results)) (told t)
  told (abort t u) = statement.bracketed (record { line = 0; column = 0 }) (two (told t) (told u))
  told (idle t u again) = statement.bracketed (record { line = 0; column = 0 }) (then (told t) (two (told u) again))
  told (handling t u again) = statement.bracketed (record { line = 0; column = 0 }) (then (told t) (then (told u) (two again again)))

  all_told : Terms → Branches Slot ClassId ℕ
  all_told no_terms = no_branches
  all_told (and t ts) = branch (one (told t)) (all_told ts)

-- and back

abbrev first_of : Terms → Term
first_of no_terms = done
first_of (and t ts) = t

abbrev rest_of : Terms → Terms
rest_of no_terms = no_terms
rest_of (and t ts) = ts

-- of statements one behind the other, with the terms that they tell
abbrev pair_told : Step → Steps → Terms → Term
pair_told y no_statements ds = abort (first_of ds) (first_of (rest_of ds))
pair_told y (then z no_statements) ds = idle (first_of ds) (first_of (rest_of ds)) z
pair_told y (then z (then w rest)) ds = handling (first_of ds) (first_of (rest_of ds)) z

abbrev wait_told : Pos → Step → Term
wait_told at (statement.skip p) = wait p.line at
wait_told at s = done

abbrev row_told : Pos → Steps → Terms → Term
row_told at no_statements ds = done
row_told at (then x no_statements) ds = wait_told at x
row_told at (then x (then y rest)) ds = pair_told y rest ds

abbrev results_of : Step → List Slot
results_of (statement.call at name args results) = results
results_of s = []

abbrev abort_told : Pos → Steps → Step → Term → Term
abort_told at no_statements s t = leaf s
abort_told at (then x rest) s t = frame at.line at.column (results_of x) t

abbrev mutual
  untold : Step → Term
  untold (statement.skip at) = done
  untold (statement.bracketed at ts) = row_told at ts (each_untold ts)
  untold (statement.guarded at e s) = guarded e at (untold s)
  untold (statement.parallel at bs) = parallel (all_untold bs)
  untold (statement.select at bs) = select (all_untold bs)
  untold (statement.abort at ts s) = abort_told at ts s (untold s)
  untold (statement.interrupt at ts s) = sequence (untold s) ts
  untold s = done

  each_untold : Steps → Terms
  each_untold no_statements = no_terms
  each_untold (then s ts) = and (untold s) (each_untold ts)

  all_untold : Branches Slot ClassId ℕ → Terms
  all_untold no_branches = no_terms
  all_untold (branch ts bs) = and (first_of (each_untold ts)) (all_untold bs)

mutual
  told_back : (t : Term) → untold (told t) ≡ t
  told_back done = refl
  told_back (leaf s) = refl
  told_back (wait left at) = refl
  told_back (sequence t rest) = ap (λ (x : Term). sequence x rest) (told_back t)
  told_back (parallel ts) = ap (λ (xs : Terms). parallel xs) (all_told_back ts)
  told_back (select ts) = ap (λ (xs : Terms). select xs) (all_told_back ts)
  told_back (guarded test at t) = ap (λ (x : Term). guarded test at x) (told_back t)
  told_back (frame number inputs results t) = ap (λ (x : Term). frame number inputs results x) (told_back t)
  told_back (abort t u) = λ i. abort (told_back t i) (told_back u i)
  told_back (idle t u again) = λ i. idle (told_back t i) (told_back u i) again
  told_back (handling t u again) = λ i. handling (told_back t i) (told_back u i) again

  all_told_back : (ts : Terms) → all_untold (all_told ts) ≡ ts
  all_told_back no_terms = refl
  all_told_back (and t ts) = λ i. and (told_back t i) (all_told_back ts i)

-- Sets

abbrev step_of : Step → Option Step → Step
step_of s None = s
step_of s (Some x) = x

step_set : StatementsAreASet → IsSet Step
step_set law = retract_set (λ (s : Step). Some s) (step_of (statement.skip (record { line = 0; column = 0 }))) (λ s. refl) law

term_set : StatementsAreASet → IsSet Term
term_set law = retract_set told untold told_back (step_set law)

coded_object : Coded ObjectView
coded_object = code_by (ClassId × List Value) (coded× class_row.the_row.coded (coded_list value_row.the_row.coded)) (λ (o : ObjectView). (o.class, o.items)) (λ x. record { class = x.0; items = x.1 }) (λ o. refl)

coded_state : Coded StateView
coded_state = code_by (List Value × (List (ℕ × List Value) × List ObjectView)) (coded× (coded_list value_row.the_row.coded) (coded× (coded_list (coded× coded_ℕ (coded_list value_row.the_row.coded))) (coded_list coded_object)))
    (λ (s : StateView). (s.vars, (s.frames, s.objects))) (λ x. record { vars = x.0; frames = x.1.0; objects = x.1.1 }) (λ s. refl)

state_set : IsSet StateView
state_set = Coded-set coded_state

pub process_set : StatementsAreASet → IsSet Process
process_set law = let terms : IsSet Term = term_set law in hlevel (terms, state_set)

pub config_set : StatementsAreASet → IsSet Config
config_set law = let ps : IsSet (List Process) = is_set (process_set law) in hlevel (ps, ℕ_set)
