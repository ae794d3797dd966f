-- Shapes of which each node, active or not, keeps the right summary unless something below it is asked.
use Rattle.std.specs.Prelude.{◌≡◌, ℕ, suc, false, Option, Some, None}
use Rattle.pz_nodes_shapes.specs.Rose.{node, none, gone, more}
use Rattle.pz_rules.specs.Settings.{Context}
use Rattle.pz_tree_standing.specs.Summaries.{summary_of}
use Rattle.pz_tree_standing.specs.Asked.{asks}
use Rattle.pz_tree_standing.specs.Heads.{Head, Shape, Shapes, inner_clock, inner_frame}
use Rattle.pz_tree_standing.specs.Standing.{term_of}

abbrev mutual
  -- in frame f, where its clock shows c: right by its own clock, whatever the state and the clock of the process
  pub Rests : ℕ → ℕ → Shape → Type 0
  Rests f c (node k x ss) = (asks (term_of c (node k x ss)) ≡ false → (a : Context) → x.kept ≡ summary_of a c f (term_of c (node k x ss))) × RestAll (inner_frame x.head f) x.head c 0 ss

  pub RestAll : ℕ → Head → ℕ → ℕ → Shapes → Type 0
  RestAll f h c i none = Unit {0}
  RestAll f h c i (gone ss) = RestAll f h c (suc i) ss
  RestAll f h c i (more s ss) = Rests f (inner_clock h i c) s × RestAll f h c (suc i) ss

abbrev pub RestsOption : ℕ → ℕ → Option Shape → Type 0
RestsOption f c None = Unit {0}
RestsOption f c (Some s) = Rests f c s
