use Rattle.std.proofs.Common.{◌≡◌, ◌-◌, ◌∙◌, refl, sym, ap, subst, None, Option, ℕ, List, map, get_or, arith}
use Rattle.std.specs.Option.{is_none}
use Rattle.pz_classes_lineage.specs.declared.visit.Visit.{Visit}
use Rattle.pz_classes_lineage.specs.Preorder.{visited}
use Rattle.pz_classes_lineage.specs.devices.Rows.{times, as_root, among_roots, at_depth}
use Rattle.pz_classes_lineage.proofs.Filling.{fill, at_last, root_put, root_wanted, outermost_put}
use Rattle.pz_classes_lineage.proofs.walk.roots_of.Goals as goal

pub loop-class-preserved : goal.loop-class-preserved
loop-class-preserved c =
    let o : Option ℕ = get_or c.args.parents.now (c.loop-class.class - 1) None in
    record {
      filled = fill (as_root c.args.parents.now) (λ k. times k (visited c.loop-class.roots.items)) (λ k. times k (visited c.add_root.new.roots.items)) c.loop-class.class (is_none o) (omega arith)
          (ap among_roots (at_last c.args.parents.now c.loop-class.class _ (omega arith) (omega arith) refl) ∙ root_wanted o)
          (λ k. ap (λ (vs : List Visit). times k (visited vs)) c.in_ok-add_root.ensures ∙ root_put o c.loop-class.roots.items (c.loop-class.class - 1) k) c.loop-class.invariant.filled;
      outermost = subst (λ (vs : List Visit). vs ≡ map (at_depth 0) (visited vs)) (sym c.in_ok-add_root.ensures) (outermost_put o c.loop-class.roots.items (c.loop-class.class - 1) c.loop-class.invariant.outermost);
    }
