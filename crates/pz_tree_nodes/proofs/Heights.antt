-- The children of a term are lower than it.
use Rattle.std.proofs.Common.{◌≡◌, ◌<◌, ◌≤◌, ℕ, zero, suc, true, sym, subst, arith}
use Rattle.pz_nodes_shapes.specs.Rose.{width}
use Rattle.pz_rules.specs.Terms.{Terms, no_terms, and, term_at, count, height, greatest_height}
use Rattle.pz_tree_standing.specs.Heads.{Head, leaf, wait, sequence, parallel, select, guarded, frame, abort, idle, handling, shifted, Shapes, formed}
use Rattle.pz_tree_standing.specs.Standing.{terms_of}
use Rattle.pz_tree_standing.specs.Reached.{reaches}
use Rattle.pz_tree_standing.specs.Whole.{IsNoShift}
use Rattle.pz_tree_nodes.proofs.Cut.{counted}

low : (ts : Terms) (j : ℕ) → j < count ts → height (term_at ts j) ≤ greatest_height ts
low no_terms j l = absurd (omega (arith, l))
low (and t ts) zero l = omega arith
low (and t ts) (suc j) l = let r = low ts j (omega (arith, l)) in omega (arith, r)

-- of those that the node reaches
pub lower : (h : Head) (c : ℕ) (ss : Shapes) (j : ℕ) → IsNoShift h → j < width ss → reaches h j ≡ true
    → height (term_at (terms_of h c 0 ss) j) < height (formed h c (terms_of h c 0 ss))
lower (leaf s) c ss j n l g = absurd cc
lower (wait due at) c ss j n l g = absurd cc
lower (sequence rest) c ss zero n l g = omega arith
lower (sequence rest) c ss (suc j) n l g = absurd cc
lower parallel c ss j n l g = let r = low (terms_of parallel c 0 ss) j (subst (λ z. j < z) (sym (counted parallel c 0 ss)) l) in omega (arith, r)
lower select c ss j n l g = let r = low (terms_of select c 0 ss) j (subst (λ z. j < z) (sym (counted select c 0 ss)) l) in omega (arith, r)
lower (guarded e at s) c ss zero n l g = omega arith
lower (guarded e at s) c ss (suc j) n l g = absurd cc
lower (frame number inputs results) c ss zero n l g = omega arith
lower (frame number inputs results) c ss (suc j) n l g = absurd cc
lower abort c ss zero n l g = omega arith
lower abort c ss (suc zero) n l g = omega arith
lower abort c ss (suc (suc j)) n l g = absurd cc
lower (idle again s) c ss zero n l g = omega arith
lower (idle again s) c ss (suc zero) n l g = omega arith
lower (idle again s) c ss (suc (suc j)) n l g = absurd cc
lower (handling again s) c ss zero n l g = absurd cc
lower (handling again s) c ss (suc zero) n l g = omega arith
lower (handling again s) c ss (suc (suc j)) n l g = absurd cc
lower (shifted s) c ss j n l g = absurd n
