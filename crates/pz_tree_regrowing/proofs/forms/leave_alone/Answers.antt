use Rattle.std.proofs.Common.{◌≡◌, ◌≤◌, ℕ, zero, suc, List, [], ◌∷◌, length, Option, None, refl, ap, sym, ◌∙◌, subst, arith}
use Rattle.std.specs.Prelude.{slice_set}
use Rattle.pz_nodes.specs.Arena.{find}
use Rattle.pz_tree_nodes.specs.Dropping.{numbers}
use Rattle.pz_tree_regrowing.specs.devices.Levels.{AloneRule}
use Rattle.pz_tree_regrowing.proofs.Finishing.{left_alone}
use Rattle.pz_tree_regrowing.proofs.Kids.{roots_with_kid}
use Rattle.pz_tree_regrowing.proofs.forms.leave_alone.Goals as goal
use Rattle.pz_tree_regrowing.proofs.forms.leave_alone.Goals.{then-number-as_slice, else-number-as_slice}

-- past the last nothing is set
set_past : (keys : List (Option ℕ)) (i : ℕ) (x : Option ℕ) → length keys ≤ i → slice_set keys i x ≡ keys
set_past [] i x h = refl
set_past (k ∷ ks) zero x h = absurd (omega (arith, h))
set_past (k ∷ ks) (suc i) x h = ap (λ z. k ∷ z) (set_past ks i x (omega (arith, h)))

pub returns : goal.returns
returns g c =
    let m = find c.args.nodes.now in
    let n = find c.release.new.nodes in
    let keys = c.args.kids in
    let i = c.args.number in
    let lost = numbers c.args.lost.now.items in
    let found = numbers c.drop_parts.new.frames.items in
    let kids_are : c.if-number-as_slice.kids ≡ slice_set keys i None = elim c.if-number-as_slice.branch [
      | then-number-as_slice w ↦ w.kids-is ∙ w.put.ensures
      | else-number-as_slice w ↦ w.kids-is ∙ sym (set_past keys i None (subst (λ z. length z ≤ i) c.as_slice.ensures w.if-number-as_slice.false))
    ] in
    subst (λ out. AloneRule m n c.args.key keys i out lost found c.args.steps.now c.release.new.steps) (sym c.kid_in-left.ensures)
    (left_alone m (find c.drop_parts.new.nodes) n c.args.key keys c.as_slice-2.result.now i lost found c.args.steps.now c.drop_parts.new.steps c.release.new.steps
    (λ ps e. roots_with_kid ps i None ∙ ap (λ z. slice_set z i None) e ∙ sym kids_are ∙ sym c.as_slice-2.ensures)
    c.in_ok-drop_parts.ensures.dropped c.release.ensures.free c.release.ensures.ticks)
