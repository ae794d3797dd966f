-- Worked terms and what they are planted as, which the checker works out.
use Rattle.std.proofs.Common.{◌≡◌, ◌-◌, ◌^◌, ℕ, true, [], ◌∷◌, Some, None, refl, arith}
use Rattle.pz_classes_code.specs.pz_syntax.declared.tokens.Pos.{Pos}
use Rattle.pz_classes_code.specs.pz_syntax.declared.names.Id.{Id}
use Rattle.pz_classes_code.specs.pz_syntax.Expressions.{clock, left_out}
use Rattle.pz_classes_code.specs.pz_syntax.Statements as statement
use Rattle.pz_classes_code.specs.declared.step.Step.{Step}
use Rattle.pz_classes_code.specs.StepView as step
use Rattle.pz_clock.specs.Shifts.{new_shift, frozen}
use Rattle.pz_nodes.specs.Arena.{Arena, find}
use Rattle.pz_nodes_shapes.specs.declared.node.Node.{Node}
use Rattle.pz_nodes_shapes.specs.Rose.{node, none, gone, more, Stands}
use Rattle.pz_rules.specs.pz_offer.declared.summary.Summary.{Summary}
use Rattle.pz_rules.specs.pz_offer.Summaries.{nothing}
use Rattle.pz_rules.specs.Terms.{Term, done, wait, parallel, abort, handling, no_terms, and}
use Rattle.pz_tree_nodes.specs.declared.kept.Kept.{Kept}
use Rattle.pz_tree_nodes.specs.declared.node.Head.TheVariants as kind
use Rattle.pz_tree_nodes.specs.declared.node.What.{What}
use Rattle.pz_tree_nodes.specs.Keeping.{IsMarked, kept_done, joined, raised}
use Rattle.pz_tree_nodes.specs.View.{Plant, term_in}
use Rattle.pz_tree_nodes.specs.Tended.{Tended}
use Rattle.pz_tree_nodes.specs.Planting.{EndsInTime, nodes_of}
use Rattle.pz_tree_nodes.specs.devices.Leaves.{statement_kept, delay_kept}

abbrev at : ℕ → Pos
at column = record { line = 1; column = column }

-- A `par` of a delay of which 5 are left, of nothing, and of one that is over, planted at 12

abbrev three : Term
three = parallel (and (wait 5 (at 7)) (and done (and (wait 0 (at 9)) no_terms)))

three_nodes : nodes_of three ≡ 3
three_nodes = refl

in_time : EndsInTime 12 three
in_time = (omega arith, (tt, (omega arith, tt)))

-- the second of these moments is none of 128 bits
too_late : EndsInTime (2 ^ 128 - 1) (wait 1 (at 7)) → ⊥
too_late e = omega (arith, e)

abbrev keeps : ℕ → Summary → Kept
keeps high s = record kept_done { summary = s; height = high }

abbrev delay : ℕ → ℕ → ℕ → ℕ → Plant
delay k left due column = node k (record { head = kind.Wait due (at column); kept = delay_kept left due }) none

abbrev planted_three : Plant
planted_three = node 2 (record { head = kind.Par; kept = keeps 2 (record nothing { internal = 1; due = Some 12 }) }) (more (delay 0 5 17 7) (gone (more (delay 1 0 12 9) none)))

stands_for_three : term_in 12 planted_three ≡ three
stands_for_three = refl

-- what it keeps is joined of what its parts keep
joined_of_three : joined (joined (delay_kept 5 17) (keeps 1 nothing)) (delay_kept 0 12) ≡ keeps 1 (record nothing { internal = 1; due = Some 12 })
joined_of_three = refl

-- three units later nobody has touched it, and 2 are left
three_later : term_in 15 planted_three ≡ parallel (and (wait 2 (at 7)) (and done (and (wait 0 (at 9)) no_terms)))
three_later = refl

-- What is interrupted stands still from when it is planted, at 10

abbrev interrupted : Step → Plant
interrupted again = node 2 (record { head = kind.Handling again (frozen new_shift 10); kept = raised (delay_kept 20 30) }) (more (delay 0 6 16 5) (more (delay 1 20 30 6) none))

is_interrupted : (again : Step) → term_in 10 (interrupted again) ≡ handling (wait 6 (at 5)) (wait 20 (at 6)) (step.view again)
is_interrupted again = refl

interrupted_later : (again : Step) → term_in 25 (interrupted again) ≡ handling (wait 6 (at 5)) (wait 5 (at 6)) (step.view again)
interrupted_later again = refl

-- A statement that can do something by itself is right at once

skip_is_kept : statement_kept (statement.skip (at 1)) ≡ keeps 1 (record nothing { internal = 1 })
skip_is_kept = refl

-- A receive is asked nothing; whether its condition names the clock is kept

abbrev name : Id
name = record { name = []; pos = at 3 }

clock_is_named : statement_kept (statement.receive (at 1) 0 name None (Some (clock (at 5))) left_out) ≡ record kept_done { summary = record nothing { receives = 1 }; clocked = true }
clock_is_named = refl

-- An abort in a map that was empty: all that is promised of it

abbrev two : Term
two = abort (wait 5 (at 7)) done

abbrev planted_two : Plant
planted_two = node 1 (record { head = kind.Abort; kept = raised (delay_kept 5 17) }) (more (delay 0 5 17 7) (gone none))

abbrev after : Arena (Node What)
after = record {
  slots = Some (record { what = record { head = kind.Wait 17 (at 7); kept = delay_kept 5 17 }; kids = [] })
      ∷ Some (record { what = record { head = kind.Abort; kept = raised (delay_kept 5 17) }; kids = Some 0 ∷ None ∷ [] })
      ∷ [];
  spare = 0;
}

two_stand : Stands (find after) planted_two
two_stand = (refl, refl, ((λ k p q. absurd cc), (refl, refl, tt), tt))

marks_delay : (left now due column : ℕ) → IsMarked (wait now (at column)) (delay_kept left due)
marks_delay left now due column = record { asked = refl; high = refl; flags = λ e a f. record { starts = refl; clocked = refl } }

marks_two : (c : ℕ) → IsMarked (term_in c planted_two) (raised (delay_kept 5 17))
marks_two c = record { asked = refl; high = refl; flags = λ e a f. record { starts = refl; clocked = refl } }

two_tended : (f : ℕ) → Tended f 12 planted_two
two_tended f = record {
  sound = record {
    whole = (refl, ((refl, tt), tt));
    fits = (tt, ((omega arith, tt), tt));
    rests = ((λ e a. refl), (((λ e a. refl), tt), tt));
  };
  marked = (marks_two, (((λ c. marks_delay 5 (17 - c) 17 7), tt), tt));
}

-- without the mark that nothing is asked, a node over an unasked delay is not tended
abbrev wrongly_marked : Plant
wrongly_marked = node 0 (record { head = kind.Wait 17 (at 7); kept = record kept_done { summary = record nothing { due = Some 17 }; asks = true } }) none

not_tended : Tended 0 12 wrongly_marked → ⊥
not_tended t = absurd (let e = (t.marked.0 12).asked in cc)
