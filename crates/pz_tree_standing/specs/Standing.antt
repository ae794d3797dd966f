-- What nodes stand for.
use Rattle.std.specs.Prelude.{◌≡◌, ◌≤◌, ℕ, suc, true, false, Option, Some, None}
use Rattle.pz_clock.specs.Shifts.{is_running, ShiftFits}
use Rattle.pz_nodes_shapes.specs.Rose.{node, none, gone, more}
use Rattle.pz_rules.specs.Terms.{Term, Terms, no_terms, and}
use Rattle.pz_rules.specs.Terms as term
use Rattle.pz_tree_standing.specs.Heads.{Head, wait, guarded, idle, handling, shifted, Shape, Shapes, inner_clock, formed}

abbrev mutual
  -- the term of a shape of which the clock shows c
  pub term_of : ℕ → Shape → Term
  term_of c (node k x ss) = formed x.head c (terms_of x.head c 0 ss)

  -- of children, of which the first has number i; one that is gone is done
  pub terms_of : Head → ℕ → ℕ → Shapes → Terms
  terms_of h c i none = no_terms
  terms_of h c i (gone ss) = and term.done (terms_of h c (suc i) ss)
  terms_of h c i (more s ss) = and (term_of (inner_clock h i c) s) (terms_of h c (suc i) ss)

-- no node, where there is none
abbrev pub term_of_option : ℕ → Option Shape → Term
term_of_option c None = term.done
term_of_option c (Some s) = term_of c s

-- nothing that it keeps is ahead of its clock, and a clock runs or stands still as its form wants
abbrev pub HeadFits : Head → ℕ → Type 0
HeadFits (wait due at) c = c ≤ due
HeadFits (guarded e at s) c = ShiftFits s c
HeadFits (idle again s) c = ShiftFits s c × (is_running s ≡ true)
HeadFits (handling again s) c = ShiftFits s c × (is_running s ≡ false)
HeadFits (shifted s) c = ShiftFits s c × (is_running s ≡ true)
HeadFits h c = Unit {0}

abbrev mutual
  pub Fits : ℕ → Shape → Type 0
  Fits c (node k x ss) = HeadFits x.head c × FitAll x.head c 0 ss

  pub FitAll : Head → ℕ → ℕ → Shapes → Type 0
  FitAll h c i none = Unit {0}
  FitAll h c i (gone ss) = FitAll h c (suc i) ss
  FitAll h c i (more s ss) = Fits (inner_clock h i c) s × FitAll h c (suc i) ss

abbrev pub FitsOption : ℕ → Option Shape → Type 0
FitsOption c None = Unit {0}
FitsOption c (Some s) = Fits c s
