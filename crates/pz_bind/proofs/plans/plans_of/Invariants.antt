use Rattle.std.proofs.Common.{◌≡◌, suc, ◌++◌, map, drop}
use Rattle.pz_bind_rules.specs.pz_syntax.ClassView.{decl_view}
use Rattle.pz_classes.specs.CheckedView.{checked_model}
use Rattle.pz_bind_levels.specs.devices.Walking.{layouts_of}
use Rattle.pz_bind_rules.specs.devices.Layouts.{layouts_from, layouts}
use Rattle.pz_bind.proofs.plans.plans_of.Given as goal

abbrev pub invariant-loop-decl : goal.invariant-loop-decl
invariant-loop-decl l = record {
  counted : l.class ≡ suc l._decl-index;
  listed : layouts_of l.plans ++ layouts_from (checked_model l.checked) (suc l._decl-index) (map decl_view (drop l._decl-index l.decls)) ≡ layouts (checked_model l.checked);
}
