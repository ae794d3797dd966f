-- A worked term in its nodes, which the checker works out.
use Rattle.std.proofs.Common.{◌≡◌, ℕ, [], ◌∷◌, Some, None, refl, arith}
use Rattle.std.specs.Prelude.{slice_index_or}
use Rattle.pz_classes_code.specs.pz_syntax.declared.tokens.Pos.{Pos}
use Rattle.pz_clock.specs.Shifts.{ShiftView}
use Rattle.pz_nodes_shapes.specs.Rose.{node, none, gone, more, Map}
use Rattle.pz_rules.specs.pz_offer.Summaries.{nothing}
use Rattle.pz_classes_code.specs.pz_syntax.Statements.{skip}
use Rattle.pz_rules.specs.Settings.{Context}
use Rattle.pz_rules.specs.Terms.{Step, Term}
use Rattle.pz_rules.specs.Terms as term
use Rattle.pz_tree_standing.specs.Heads.{Head, What, wait, parallel, frame, abort, handling, shifted, Shape}
use Rattle.pz_tree_nodes.specs.declared.kept.Kept.{Kept}
use Rattle.pz_tree_nodes.specs.declared.node.Head.TheVariants as kind
use Rattle.pz_tree_nodes.specs.declared.node.What as lying
use Rattle.pz_tree_nodes.specs.Keeping.{kept_done}
use Rattle.pz_tree_nodes.specs.Seeking.{StandsUnder, IsFound}
use Rattle.pz_tree_nodes.specs.Standing.{RightUnder}
use Rattle.pz_tree_nodes.specs.Choosing.{actions_in}
use Rattle.pz_tree_nodes.specs.devices.Counts.{IsSought}

abbrev at : Pos
at = record { line = 1; column = 7 }

-- A method in frame 7, in it what a guard left whose clock is 4 behind: an abort of a delay that is over at 17
-- by that clock, and of nothing

abbrev what : Head → What
what h = record { head = h; kept = nothing }

abbrev late : ShiftView
late = record { behind = 4; since = None }

abbrev map : Map What
map k = slice_index_or (
    Some (record { what = what (wait 17 at); kids = [] })
    ∷ Some (record { what = what abort; kids = Some 0 ∷ None ∷ [] })
    ∷ Some (record { what = what (shifted late); kids = Some 1 ∷ [] })
    ∷ Some (record { what = what (frame 7 0 []); kids = Some 2 ∷ [] })
    ∷ []
    ) k None

abbrev delay : Shape
delay = node 0 (what (wait 17 at)) none

abbrev both : Shape
both = node 1 (what abort) (more delay (gone none))

abbrev whole : Shape
whole = node 3 (what (frame 7 0 [])) (more (node 2 (what (shifted late)) (more both none)) none)

abbrev method : Term
method = term.frame 7 0 [] (term.abort (term.wait 1 at) term.done)

-- where the clock of the process shows 20, the inner one shows 16
stands : StandsUnder map (Some 3) 20 method
stands = record {
  shape = whole;
  stands = (refl, refl, ((λ k p q. absurd cc), (refl, refl, ((λ k p q. absurd cc), (refl, refl, ((λ k p q. absurd cc), (refl, refl, tt), tt)), tt)), tt));
  under = refl;
  whole = (refl, ((tt, ((refl, ((refl, tt), tt)), tt)), tt));
  fits = (tt, (((omega arith, refl), ((tt, ((omega arith, tt), tt)), tt)), tt));
  means = refl;
}

-- the abort is the first part of the method: the shift node takes no number
abort_found : IsFound map 0 method (0 ∷ []) (Some 1) 7 16
abort_found = record {
  part = record {
    shape = both;
    stands = (refl, refl, ((λ k p q. absurd cc), (refl, refl, tt), tt));
    under = refl;
    whole = (refl, ((refl, tt), tt));
    fits = (tt, ((omega arith, tt), tt));
    means = refl;
  };
  in_frame = refl;
  bare = tt;
}

-- the delay
delay_found : IsFound map 0 method (0 ∷ 0 ∷ []) (Some 0) 7 16
delay_found = record {
  part = record { shape = delay; stands = (refl, refl, tt); under = refl; whole = (refl, tt); fits = (omega arith, tt); means = refl };
  in_frame = refl;
  bare = tt;
}

-- the second part of the abort is done
nothing_found : IsFound map 0 method (0 ∷ 1 ∷ []) None 7 16
nothing_found = record { part = refl; in_frame = refl; bare = tt }

-- it is not the shift node that is found, nor is the delay in the frame of the process
no_shift_found : IsFound map 0 method (0 ∷ []) (Some 2) 7 20 → ⊥
no_shift_found h = h.bare

in_the_frame : IsFound map 0 method (0 ∷ 0 ∷ []) (Some 0) 0 16 → ⊥
in_the_frame h = absurd (let e = h.in_frame in cc)

-- A delay of which 1 is left stands tended and right, whatever the state and the frame, and has no action

abbrev begun : lying.What
begun = record { head = kind.Wait 17 at; kept = record kept_done { summary = record nothing { due = Some 17 } } }

abbrev one_node : Map lying.What
one_node k = slice_index_or (Some (record { what = begun; kids = [] }) ∷ []) k None

stands_right : (a : Context) (f : ℕ) → RightUnder a one_node f (Some 0) 16 (term.wait 1 at)
stands_right a f = record {
  plant = node 0 begun none;
  stands = (refl, refl, tt);
  under = refl;
  tended = record {
    sound = record { whole = (refl, tt); fits = (omega arith, tt); rests = ((λ e b. refl), tt) };
    marked = ((λ c. record { asked = refl; high = refl; flags = λ e b g. record { starts = refl; clocked = refl } }), tt);
  };
  right = (refl, tt, tt);
  means = refl;
}

no_action : (a : Context) (f : ℕ) → actions_in a f (term.wait 1 at) ≡ []
no_action a f = refl

-- A `par` of a delay of which nothing is left, what is done, and two actions, by what its nodes keep: the second of
-- all is the first of its last part

abbrev again : Step
again = skip at

abbrev keeping : ℕ → Kept
keeping n = record kept_done { summary = record nothing { internal = n } }

abbrev lying_map : Map lying.What
lying_map k = slice_index_or (
    Some (record { what = record { head = kind.Wait 17 at; kept = keeping 1 }; kids = [] })
    ∷ Some (record { what = record { head = kind.Abort; kept = keeping 2 }; kids = Some 2 ∷ Some 3 ∷ [] })
    ∷ []
    ) k None

second_of_par : IsSought lying_map parallel (Some 0 ∷ None ∷ Some 1 ∷ []) 1 (Some (record { number = 2; left = 0 }))
second_of_par = record { there = omega arith; active = refl; within = omega arith; before = refl }

third_of_par : IsSought lying_map parallel (Some 0 ∷ None ∷ Some 1 ∷ []) 2 (Some (record { number = 2; left = 1 }))
third_of_par = record { there = omega arith; active = refl; within = omega arith; before = refl }

no_fourth : IsSought lying_map parallel (Some 0 ∷ None ∷ Some 1 ∷ []) 3 None
no_fourth = omega arith

-- of an interrupt that is at work the first part has none
first_of_handler : IsSought lying_map (handling again late) (Some 1 ∷ Some 0 ∷ []) 0 (Some (record { number = 1; left = 0 }))
first_of_handler = record { there = omega arith; active = refl; within = omega arith; before = refl }

not_interrupted : IsSought lying_map (handling again late) (Some 1 ∷ Some 0 ∷ []) 0 (Some (record { number = 0; left = 0 })) → ⊥
not_interrupted h = absurd (let e = h.active in cc)
