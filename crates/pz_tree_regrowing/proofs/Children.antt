-- The child of a term is that of its node.
use Rattle.std.proofs.Common.{◌≡◌, ◌+◌, ◌<◌, ℕ, zero, suc, refl, sym, arith}
use Rattle.pz_nodes_shapes.specs.Rose.{none, gone, more, width}
use Rattle.pz_rules.specs.Terms.{Terms, child, term_at, frame_in}
use Rattle.pz_rules.specs.Terms as term
use Rattle.pz_tree_nodes.specs.pz_tree_standing.Heads.{Head, leaf, wait, sequence, parallel, select, guarded, frame, abort, idle, handling, shifted, Shapes, inner_frame, formed}
use Rattle.pz_tree_nodes.specs.pz_tree_standing.Standing.{terms_of}
use Rattle.pz_tree_nodes.specs.pz_tree_standing.Whole.{IsNoShift, HasParts}

past_the_last : (h : Head) (c i : ℕ) (ss : Shapes) (j : ℕ) → width ss < j + 1 → term_at (terms_of h c i ss) j ≡ term.done
past_the_last h c i none j p = refl
past_the_last h c i (gone ss) zero p = absurd (omega (arith, p))
past_the_last h c i (more s ss) zero p = absurd (omega (arith, p))
past_the_last h c i (gone ss) (suc j) p = past_the_last h c (suc i) ss j (omega (arith, p))
past_the_last h c i (more s ss) (suc j) p = past_the_last h c (suc i) ss j (omega (arith, p))

-- the child of a term is that of its node
pub form_child : (h : Head) (c : ℕ) (ss : Shapes) (j : ℕ) → HasParts h ss → IsNoShift h → child (formed h c (terms_of h c 0 ss)) j ≡ term_at (terms_of h c 0 ss) j
form_child (leaf s) c ss j p n = sym (past_the_last (leaf s) c 0 ss j (omega (arith, p)))
form_child (wait due at) c ss j p n = sym (past_the_last (wait due at) c 0 ss j (omega (arith, p)))
form_child (sequence rest) c ss zero p n = refl
form_child (sequence rest) c ss (suc zero) p n = sym (past_the_last (sequence rest) c 0 ss 1 (omega (arith, p)))
form_child (sequence rest) c ss (suc (suc j)) p n = sym (past_the_last (sequence rest) c 0 ss (suc (suc j)) (omega (arith, p)))
form_child parallel c ss j p n = refl
form_child select c ss j p n = refl
form_child (guarded e at s) c ss zero p n = refl
form_child (guarded e at s) c ss (suc zero) p n = sym (past_the_last (guarded e at s) c 0 ss 1 (omega (arith, p)))
form_child (guarded e at s) c ss (suc (suc j)) p n = sym (past_the_last (guarded e at s) c 0 ss (suc (suc j)) (omega (arith, p)))
form_child (frame number inputs results) c ss zero p n = refl
form_child (frame number inputs results) c ss (suc zero) p n = sym (past_the_last (frame number inputs results) c 0 ss 1 (omega (arith, p)))
form_child (frame number inputs results) c ss (suc (suc j)) p n = sym (past_the_last (frame number inputs results) c 0 ss (suc (suc j)) (omega (arith, p)))
form_child abort c ss zero p n = refl
form_child abort c ss (suc zero) p n = refl
form_child abort c ss (suc (suc j)) p n = sym (past_the_last abort c 0 ss (suc (suc j)) (omega (arith, p)))
form_child (idle again s) c ss zero p n = refl
form_child (idle again s) c ss (suc zero) p n = refl
form_child (idle again s) c ss (suc (suc j)) p n = sym (past_the_last (idle again s) c 0 ss (suc (suc j)) (omega (arith, p)))
form_child (handling again s) c ss zero p n = refl
form_child (handling again s) c ss (suc zero) p n = refl
form_child (handling again s) c ss (suc (suc j)) p n = sym (past_the_last (handling again s) c 0 ss (suc (suc j)) (omega (arith, p)))
form_child (shifted s) c ss j p n = absurd n

pub form_frame : (h : Head) (c : ℕ) (ts : Terms) (f : ℕ) → IsNoShift h → inner_frame h f ≡ frame_in (formed h c ts) f
form_frame (leaf s) c ts f n = refl
form_frame (wait due at) c ts f n = refl
form_frame (sequence rest) c ts f n = refl
form_frame parallel c ts f n = refl
form_frame select c ts f n = refl
form_frame (guarded e at s) c ts f n = refl
form_frame (frame number inputs results) c ts f n = refl
form_frame abort c ts f n = refl
form_frame (idle again s) c ts f n = refl
form_frame (handling again s) c ts f n = refl
form_frame (shifted s) c ts f n = absurd n
