use Rattle.std.proofs.Common.{map, ◌+◌, refl, subst, arith}
use Rattle.pz_classes.specs.declared.entry.Entry.{Entry}
use Rattle.pz_classes_rules.specs.Ancestors.{ancestors}
use Rattle.pz_classes.specs.devices.Inherited.{HasMembers}
use Rattle.pz_classes_code.specs.pz_syntax.ClassView.{model_view}
use Rattle.pz_classes_rules.specs.Bodies.{bodies}
use Rattle.pz_classes_rules.specs.BodyView.{body_view}
use Rattle.pz_classes_rules.proofs.FewMarks.{item_fits}
use Rattle.pz_classes.proofs.Counting.{bodies_step, has_members, is_entry}
use Rattle.pz_classes.proofs.bodies.bodies_of.Goals as goal

pub bounds-entries-number : goal.bounds-entries-number
bounds-entries-number c = is_entry (model_view c.args.model.now) c.args.entries.now c.as_slice-decl-items.result.now c.loop-decl.decl-index c.loop-decl.number c.requires.listed
    (rw c.as_slice-decl-items.ensures refl) c.loop-decl-test.true c.loop-decl.invariant.counted

pub loop-decl-preserved : goal.loop-decl-preserved
loop-decl-preserved c =
    let within = is_entry (model_view c.args.model.now) c.args.entries.now c.as_slice-decl-items.result.now c.loop-decl.decl-index c.loop-decl.number c.requires.listed
    (rw c.as_slice-decl-items.ensures refl) c.loop-decl-test.true c.loop-decl.invariant.counted in
    record {
      counted = omega arith;
      listed = bodies_step (model_view c.args.model.now) c.as_slice-decl-items.result.now c.decl-item.result (map body_view c.loop-decl.bodies) (map body_view c.push_bodies.new.bodies) (bodies (model_view c.args.model.now))
          c.loop-decl.decl-index c.loop-decl.number c.loop-decl-test.true c.decl-item.is c.loop-decl.invariant.counted
          (c.in_ok-push_bodies.ensures (model_view c.args.model.now) (c.loop-decl.number + 1) c.requires.numbered
          (subst (λ (e : Entry). HasMembers (model_view c.args.model.now) (ancestors (model_view c.args.model.now) (c.loop-decl.number + 1)) e.members) c.index-entries-number.is (has_members (model_view c.args.model.now) c.args.entries.now c.index-entries-number.result (c.loop-decl.number + 1) c.requires.listed within c.index-entries-number.is)))
          c.loop-decl.invariant.listed;
    }

pub push_bodies-requires : goal.push_bodies-requires
push_bodies-requires c =
    item_fits c.as_slice-decl-items.result.now (rw c.as_slice-decl-items.ensures c.requires.few) c.loop-decl.decl-index c.decl-item.result c.loop-decl-test.true c.decl-item.is
