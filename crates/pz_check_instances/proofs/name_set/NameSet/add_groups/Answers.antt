use Rattle.std.proofs.Common.{◌≡◌, ◌∙◌, ap, arith, List}
use Rattle.pz_classes_code.specs.pz_syntax.declared.names.Id.{Id}
use Rattle.pz_classes.specs.pz_classes_rules.Members.{spelled}
use Rattle.pz_check_instances.specs.devices.NameSets.{names_in, with_all}
use Rattle.pz_check_instances.proofs.NameLists.{groups_step}
use Rattle.pz_check_instances.proofs.name_set.NameSet.add_groups.Goals as goal

pub loop-group-preserved : goal.loop-group-preserved
loop-group-preserved c =
    let added : names_in c.add_ids.new.self ≡ with_all (names_in c.loop-group.self) (spelled c.group-item.result.names) =
    c.in_ok-add_ids.ensures ∙ ap (λ (ids : List Id). with_all (names_in c.loop-group.self) (spelled ids)) c.as_slice.ensures in
    groups_step c.args.groups.now c.group-item.result _ _ (names_in c.loop-group.self) _ _ c.loop-group-test.true c.group-item.is (omega arith) added c.loop-group.invariant
