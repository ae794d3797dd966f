use Rattle.pz_classes.proofs.pz_classes_rules_proofs.FewMarks.{item_fits}
use Rattle.pz_check_names.proofs.selectors.selectors_of.Goals as goal

pub add_declared-requires : goal.add_declared-requires
add_declared-requires c =
    item_fits c.as_slice-decl-items.result.now (rw c.as_slice-decl-items.ensures c.requires) c.loop-decl.decl-index c.decl-item.result c.loop-decl-test.true c.decl-item.is
