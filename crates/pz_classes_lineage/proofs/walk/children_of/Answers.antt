use Rattle.std.proofs.Common.{◌-◌, ◌∙◌, refl, ap, subst, None, get_or, IfSome, ℕ, ◌<◌, arith, sym}
use Rattle.pz_classes_lineage.specs.devices.Rows.{times, row, is_child_of, as_child, among_children}
use Rattle.pz_classes_lineage.proofs.Filling.{fill, at_last, parent_within}
use Rattle.pz_classes_lineage.proofs.walk.children_of.Goals as goal

pub add_child-requires : goal.add_child-requires
add_child-requires c = subst (λ (n : ℕ). IfSome (get_or c.args.parents.now (c.loop-class.class - 1) None) (λ p. p < n)) (sym c.loop-class.invariant.counted) (parent_within c.args.parents.now c.loop-class.class (omega arith) (omega arith) c.requires.within)

pub loop-class-preserved : goal.loop-class-preserved
loop-class-preserved c = record {
  counted = c.in_ok-add_child.ensures.counted ∙ c.loop-class.invariant.counted;
  filled = λ p. fill (as_child c.args.parents.now p) (λ k. times k (row c.loop-class.rows.items p)) (λ k. times k (row c.add_child.new.rows.items p)) c.loop-class.class (is_child_of p (get_or c.args.parents.now (c.loop-class.class - 1) None)) (omega arith)
      (ap (among_children p) (at_last c.args.parents.now c.loop-class.class _ (omega arith) (omega arith) refl)) (c.in_ok-add_child.ensures.added p) (c.loop-class.invariant.filled p);
}

pub returns-clause-exact : goal.returns-clause-exact
returns-clause-exact c = λ p k. (c.loop-class.invariant.filled p).after k (omega arith)
