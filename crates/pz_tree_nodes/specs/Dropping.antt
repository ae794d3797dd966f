-- Parts of a tree that are dropped, with the frames that stand in them.
use Rattle.std.specs.Prelude.{◌≡◌, ◌+◌, ℕ, List, ◌++◌, map, Option}
use Rattle.pz_rules.specs.pz_state.declared.state.FrameId.{FrameId}
use Rattle.pz_nodes_shapes.specs.Rose.{Map, root, roots, size, sizes, has, has_any, Stands, StandAll}
use Rattle.pz_nodes_shapes.specs.Change.{Change, no_key}
use Rattle.pz_rules.specs.Terms.{frames_in, frames_in_all}
use Rattle.pz_tree_standing.specs.Heads.{Head}
use Rattle.pz_tree_standing.specs.Standing.{terms_of}
use Rattle.pz_tree_standing.specs.Whole.{Whole, AreWhole}
use Rattle.pz_tree_nodes.specs.declared.node.What.{What}
use Rattle.pz_tree_nodes.specs.View.{Plant, Plants, shape_of, shapes_of, term_in}

abbrev pub numbers : List FrameId → List ℕ
numbers frames = map (λ f. f.0) frames

-- Its nodes are gone, and nothing else has changed. The frames of its term, which no clock decides, come behind
-- those that were handed out before. One step a node.
pub record Dropped (m n : Map What) (p : Plant) (before after : List ℕ) (old new : ℕ) : Type 0 where
  pub gone : Change m n (has p) no_key
  pub frames : Whole (shape_of p) → (c : ℕ) → after ≡ before ++ frames_in (term_in c p)
  pub ticks : new ≡ old + size p

-- the same of parts side by side, as they stand below whatever node
pub record AllDropped (m n : Map What) (ps : Plants) (before after : List ℕ) (old new : ℕ) : Type 0 where
  pub gone : Change m n (has_any ps) no_key
  pub frames : AreWhole (shapes_of ps) → (h : Head) (c i : ℕ) → after ≡ before ++ frames_in_all (terms_of h c i (shapes_of ps))
  pub ticks : new ≡ old + sizes ps

-- whatever stands under the key
abbrev pub DropRule : Map What → Map What → ℕ → List ℕ → List ℕ → ℕ → ℕ → Type 0
DropRule m n key before after old new = (p : Plant) → Stands m p → root p ≡ key → Dropped m n p before after old new

abbrev pub DropAllRule : Map What → Map What → List (Option ℕ) → List ℕ → List ℕ → ℕ → ℕ → Type 0
DropAllRule m n keys before after old new = (ps : Plants) → StandAll m ps → roots ps ≡ keys → AllDropped m n ps before after old new
