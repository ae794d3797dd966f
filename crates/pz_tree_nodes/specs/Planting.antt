-- What becomes of a term that is planted.
use Rattle.std.specs.Prelude.{◌≡◌, ◌<◌, ◌+◌, ◌^◌, ℕ, suc, Option, Some, None}
use Rattle.pz_nodes_shapes.specs.Rose.{Map, root, size}
use Rattle.pz_nodes_shapes.specs.Change.{no_key, BecomesOption}
use Rattle.pz_rules.specs.Terms.{Term, done, leaf, wait, sequence, parallel, select, guarded, frame, abort, idle, handling, Terms, no_terms, and}
use Rattle.pz_tree_nodes.specs.declared.node.What.{What}
use Rattle.pz_tree_nodes.specs.View.{Plant, term_in_option}
use Rattle.pz_tree_nodes.specs.Tended.{TendedOption}

abbrev mutual
  -- each delay that has begun is over at a moment of 128 bits, where the clock shows c
  pub EndsInTime : ℕ → Term → Type 0
  EndsInTime c done = Unit {0}
  EndsInTime c (leaf s) = Unit {0}
  EndsInTime c (wait left at) = c + left < 2 ^ 128
  EndsInTime c (sequence t rest) = EndsInTime c t
  EndsInTime c (parallel ts) = EndInTime c ts
  EndsInTime c (select ts) = EndInTime c ts
  EndsInTime c (guarded test at t) = EndsInTime c t
  EndsInTime c (frame number inputs results t) = EndsInTime c t
  EndsInTime c (abort t u) = EndsInTime c t × EndsInTime c u
  EndsInTime c (idle t u again) = EndsInTime c t × EndsInTime c u
  EndsInTime c (handling t u again) = EndsInTime c t × EndsInTime c u

  pub EndInTime : ℕ → Terms → Type 0
  EndInTime c no_terms = Unit {0}
  EndInTime c (and t ts) = EndsInTime c t × EndInTime c ts

abbrev mutual
  -- how many parts it has that are not done, with itself
  pub nodes_of : Term → ℕ
  nodes_of done = 0
  nodes_of (leaf s) = 1
  nodes_of (wait left at) = 1
  nodes_of (sequence t rest) = suc (nodes_of t)
  nodes_of (parallel ts) = suc (nodes_of_all ts)
  nodes_of (select ts) = suc (nodes_of_all ts)
  nodes_of (guarded test at t) = suc (nodes_of t)
  nodes_of (frame number inputs results t) = suc (nodes_of t)
  nodes_of (abort t u) = suc (nodes_of t + nodes_of u)
  nodes_of (idle t u again) = suc (nodes_of t + nodes_of u)
  nodes_of (handling t u again) = suc (nodes_of t + nodes_of u)

  pub nodes_of_all : Terms → ℕ
  nodes_of_all no_terms = 0
  nodes_of_all (and t ts) = nodes_of t + nodes_of_all ts

abbrev pub root_of : Option Plant → Option ℕ
root_of None = None
root_of (Some p) = Some (root p)

abbrev pub size_of : Option Plant → ℕ
size_of None = 0
size_of (Some p) = size p

-- Under the key stands what stands for the term, where its clock shows c, and it is tended in whatever frame it
-- stands. Its keys had no node before, and nothing else has changed.
pub record Planted (m n : Map What) (c : ℕ) (t : Term) (key : Option ℕ) : Type 0 where
  pub plant : Option Plant
  pub under : root_of plant ≡ key
  pub made : BecomesOption m n no_key plant
  pub tended : (f : ℕ) → TendedOption f c plant
  pub means : t ≡ term_in_option c plant
  pub size : size_of plant ≡ nodes_of t
