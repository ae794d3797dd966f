-- Children of a node: which is where, what they stand for, and that what a node stands for is not done.
use Rattle.std.proofs.Common.{◌≡◌, ◌≤◌, ℕ, zero, suc, length, false, Option, Some, None, refl, ap, arith}
use Rattle.pz_nodes_shapes.specs.Rose.{node, none, gone, more, Map, roots, pick, width, StandAll}
use Rattle.pz_rules.specs.Terms.{Terms}
use Rattle.pz_rules.specs.Leaving.{is_done}
use Rattle.pz_tree_nodes.specs.pz_tree_standing.Heads.{Head, leaf, wait, sequence, parallel, select, guarded, frame, abort, idle, handling, shifted, Shapes, inner_clock, formed}
use Rattle.pz_tree_nodes.specs.pz_tree_standing.Standing.{terms_of}
use Rattle.pz_tree_nodes.specs.pz_tree_standing.Whole.{IsNoShift, HasParts, Whole, AreWhole}
use Rattle.pz_tree_nodes.specs.declared.node.What.{What}
use Rattle.pz_tree_nodes.specs.View.{Plant, Plants, head_view, shape_of, shapes_of, term_in}
use Rattle.pz_tree_nodes.specs.Tended.{AreMarked}
use Rattle.pz_tree_regrowing.specs.Regrowing.{StandsOption}
use Rattle.pz_tree_regrowing.specs.devices.Levels.{there}
use Rattle.pz_tree_regrowing.specs.devices.Reading.{IsHigh}

pub few_there : (k : Option ℕ) → there k ≤ 1
few_there None = omega arith
few_there (Some k) = omega arith

-- ------------------------------------------------------------ by number

pub picked_stands : (m : Map What) (ps : Plants) (j : ℕ) → StandAll m ps → StandsOption m (pick ps j)
picked_stands m none j s = tt
picked_stands m (gone ps) zero s = tt
picked_stands m (more p ps) zero s = s.1
picked_stands m (gone ps) (suc j) s = picked_stands m ps j s
picked_stands m (more p ps) (suc j) s = picked_stands m ps j s.2

pub picked_high : (ps : Plants) (j : ℕ) → AreWhole (shapes_of ps) → AreMarked ps → IsHigh (pick ps j)
picked_high none j w k = tt
picked_high (gone ps) zero w k = tt
picked_high (more p ps) zero w k = (w.0, k.0)
picked_high (gone ps) (suc j) w k = picked_high ps j w k
picked_high (more p ps) (suc j) w k = picked_high ps j w.1 k.1

pub width_keys : (ps : Plants) → length (roots ps) ≡ width ps
width_keys none = refl
width_keys (gone ps) = ap suc (width_keys ps)
width_keys (more p ps) = ap suc (width_keys ps)

-- ------------------------------------------------------------ not done

form_undone : (h : Head) (c : ℕ) (ts : Terms) → IsNoShift h → is_done (formed h c ts) ≡ false
form_undone (leaf s) c ts n = refl
form_undone (wait due at) c ts n = refl
form_undone (sequence rest) c ts n = refl
form_undone parallel c ts n = refl
form_undone select c ts n = refl
form_undone (guarded e at s) c ts n = refl
form_undone (frame number inputs results) c ts n = refl
form_undone abort c ts n = refl
form_undone (idle again s) c ts n = refl
form_undone (handling again s) c ts n = refl
form_undone (shifted s) c ts n = absurd n

node_undone : (h : Head) (c : ℕ) (ss : Shapes) → HasParts h ss → is_done (formed h c (terms_of h c 0 ss)) ≡ false
node_undone (leaf s) c ss p = refl
node_undone (wait due at) c ss p = refl
node_undone (sequence rest) c ss p = refl
node_undone parallel c ss p = refl
node_undone select c ss p = refl
node_undone (guarded e at s) c ss p = refl
node_undone (frame number inputs results) c ss p = refl
node_undone abort c ss p = refl
node_undone (idle again s) c ss p = refl
node_undone (handling again s) c ss p = refl
node_undone (shifted s) c none p = absurd p
node_undone (shifted s) c (gone ss) p = absurd p
node_undone (shifted s) c (more (node k y ts) none) p = form_undone y.head (inner_clock (shifted s) 0 c) (terms_of y.head (inner_clock (shifted s) 0 c) 0 ts) p
node_undone (shifted s) c (more (node k y ts) (gone ss)) p = absurd p
node_undone (shifted s) c (more (node k y ts) (more u ss)) p = absurd p

-- what a node stands for is not done
pub some_undone : (c : ℕ) (p : Plant) → Whole (shape_of p) → is_done (term_in c p) ≡ false
some_undone c (node k x ps) w = node_undone (head_view x.head) c (shapes_of ps) w.0
