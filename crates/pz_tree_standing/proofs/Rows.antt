-- Worked shapes: what they stand for and what is right, which the checker works out.
use Rattle.std.proofs.Common.{◌≡◌, ℕ, pos, [], ◌∷◌, Some, None, refl, arith}
use Rattle.pz_rules.specs.pz_syntax.declared.tokens.Pos.{Pos}
use Rattle.pz_rules.specs.pz_syntax.declared.tokens.Symbol.TheVariants.{Greater}
use Rattle.pz_rules.specs.pz_syntax.declared.exprs.Literal.TheVariants as literal
use Rattle.pz_rules.specs.pz_syntax.Expressions.{variable, chain, link, no_links}
use Rattle.pz_rules.specs.pz_syntax.Expressions as expression
use Rattle.pz_rules.specs.pz_syntax.Statements.{skip}
use Rattle.pz_rules.specs.pz_value.declared.value.Value.{Value}
use Rattle.pz_rules.specs.pz_value.declared.value.Value.TheVariants as value
use Rattle.pz_rules.specs.pz_classes_code.declared.slot.Slot.TheVariants.{Shared}
use Rattle.pz_prims.specs.Rows.{answered}
use Rattle.pz_prims.specs.EveryValue.{every_value}
use Rattle.pz_prims.specs.Integers.{integers}
use Rattle.pz_prims.specs.Booleans.{booleans}
use Rattle.pz_prims.specs.Table.{outcome}
use Rattle.pz_rules.specs.pz_offer.declared.summary.Summary.{Summary}
use Rattle.pz_rules.specs.pz_offer.Summaries.{nothing}
use Rattle.pz_rules.specs.pz_eval_rules.devices.Computed.{sequence, arguments, operators, replied, selectors, going, turns, step, evaluated}
use Rattle.pz_clock.specs.Shifts.{ShiftView}
use Rattle.pz_nodes_shapes.specs.Rose.{node, none, gone, more}
use Rattle.pz_rules.specs.Terms.{Code, Step, Term, done, no_terms, and}
use Rattle.pz_rules.specs.Terms as term
use Rattle.pz_rules.specs.declared.limits.Edition.TheVariants.{One}
use Rattle.pz_rules.specs.Settings.{Context}
use Rattle.pz_rules.specs.devices.Passing.{passed}
use Rattle.pz_tree_standing.specs.Heads.{Head, wait, parallel, guarded, idle, handling, shifted, What, Shape, Shapes}
use Rattle.pz_tree_standing.specs.Standing.{term_of, Fits}
use Rattle.pz_tree_standing.specs.Right.{Right}
use Rattle.pz_tree_standing.specs.Whole.{Whole}

abbrev at : ℕ → Pos
at column = record { line = 1; column = column }

-- process 3, with one variable of this value, at clock 100
abbrev seen_with : Value → Context
seen_with v = record {
  setting = record { model = record { decls = [] }; limits = record { units = 100; depth = 20; height = 1000; edition = One } };
  process = 3;
  class = 1;
  clock = 100;
  state = record { vars = v ∷ []; frames = []; objects = [] };
}

abbrev integer : ℕ → Value
integer n = value.Int (pos n)

-- the variable, and whether it is greater than 2
abbrev var : Code
var = variable (at 9) (Shared 0)

abbrev test : Code
test = chain (at 2) var (link Greater (at 4) (expression.literal (at 6) (literal.Int (pos 2))) no_links)

abbrev again : Step
again = skip (at 30)

abbrev due : ℕ → Summary
due d = record nothing { due = Some d }

abbrev holds : Head → Summary → What
holds h s = record { head = h; kept = s }

abbrev over : ℕ → Head → Summary → Shapes → Shape
over k h s ss = node k (holds h s) ss

abbrev alone : Shape → Shapes
alone s = more s none

abbrev behind : ℕ → ShiftView
behind n = record { behind = n; since = None }

-- A delay that has begun and is over at 17: at 12, 5 are left

begun : term_of 12 (over 0 (wait 17 (at 7)) (due 17) none) ≡ term.wait 5 (at 7)
begun = refl

-- Behind a guard that was closed from 4 to 11, 10 of a clock that is 7 behind is 17 of ours

abbrev guard_that_reopened : Shape
guard_that_reopened = over 0 (guarded test (at 1) (behind 7)) (due 17) (alone (over 1 (wait 10 (at 7)) (due 10) none))

reopened : term_of 12 guard_that_reopened ≡ term.guarded test (at 1) (term.wait 5 (at 7))
reopened = refl

reopened_is_right : Right (seen_with (integer 3)) 0 12 guard_that_reopened
unfolding evaluated step sequence arguments operators replied selectors going turns outcome answered every_value integers booleans
reopened_is_right = (refl, refl, (λ r. (refl, tt, tt), tt))

-- and while it is closed, since 4, the delay keeps 6 at any time, and adds nothing

abbrev closed_guard : Shape
closed_guard = over 0 (guarded test (at 1) (record { behind = 0; since = Some 4 })) nothing (alone (over 1 (wait 10 (at 7)) (due 10) none))

closed : term_of 9 closed_guard ≡ term.guarded test (at 1) (term.wait 6 (at 7))
closed = refl

closed_later : term_of 900 closed_guard ≡ term.guarded test (at 1) (term.wait 6 (at 7))
closed_later = refl

closed_is_right : Right (seen_with (integer 2)) 0 9 closed_guard
unfolding evaluated step sequence arguments operators replied selectors going turns outcome answered every_value integers booleans
closed_is_right = (refl, refl, (λ r. absurd cc, tt))

-- What a guard leaves that has acted, behind by 7: a shift node, which is no part of the term

abbrev left_behind : Shape
left_behind = over 0 (shifted (behind 7)) (due 17) (alone (over 1 (wait 10 (at 7)) (due 10) none))

no_part : term_of 12 left_behind ≡ term.wait 5 (at 7)
no_part = refl

left_is_right : Right (seen_with value.Nil) 0 12 left_behind
left_is_right = (refl, tt, (λ r. (refl, tt, tt), tt))

left_is_whole : Whole left_behind
left_is_whole = (tt, ((refl, tt), tt))

left_fits : Fits 12 left_behind
left_fits = ((omega arith, refl), ((omega arith, tt), tt))

-- one shift node directly under another is none
two_shifts : Whole (over 0 (shifted (behind 2)) (due 19) (alone left_behind)) → ⊥
two_shifts whole = whole.0

-- An interrupt: the first part, which is 2 behind, goes on, or stands still since 8

abbrev idle_node : Shape
idle_node = over 0 (idle again (behind 2)) (due 11) (more (over 1 (wait 9 (at 5)) (due 9) none) (more (over 2 (wait 20 (at 6)) (due 20) none) none))

idles : term_of 10 idle_node ≡ term.idle (term.wait 1 (at 5)) (term.wait 10 (at 6)) again
idles = refl

idle_is_right : Right (seen_with value.Nil) 0 10 idle_node
idle_is_right = (refl, tt, (λ r. (refl, tt, tt), (λ r. (refl, tt, tt), tt)))

abbrev handling_node : Shape
handling_node = over 0 (handling again (record { behind = 2; since = Some 8 })) (due 20) (more (over 1 (wait 9 (at 5)) (due 9) none) (more (over 2 (wait 20 (at 6)) (due 20) none) none))

handles : term_of 15 handling_node ≡ term.handling (term.wait 3 (at 5)) (term.wait 5 (at 6)) again
handles = refl

handling_is_right : Right (seen_with value.Nil) 0 15 handling_node
handling_is_right = (refl, tt, (λ r. absurd cc, (λ r. (refl, tt, tt), tt)))

-- what passes leaves the first part as it is, and the nodes stand for that
handling_passes : passed (seen_with value.Nil) 5 0 (term_of 15 handling_node) ≡ term_of 20 handling_node
handling_passes = refl

-- A child that is gone counts as done

gone_is_done : term_of 3 (over 0 parallel (due 5) (gone (alone (over 1 (wait 5 (at 5)) (due 5) none)))) ≡ term.parallel (and done (and (term.wait 2 (at 5)) no_terms))
gone_is_done = refl
