use Rattle.std.proofs.Common.{◌<◌, ◌∙◌, ap, subst, List, length, get_or}
use Rattle.pz_classes.specs.pz_syntax.declared.clusters.Decl.{Decl}
use Rattle.pz_classes.proofs.pz_classes_rules_proofs.FewMarks.{item_fits}
use Rattle.pz_check_openings.proofs.outline.outlines_of.Goals as goal

pub push_declared-requires : goal.push_declared-requires
push_declared-requires c =
    item_fits c.args.model.now.decls c.requires c.loop-decl.decl-index c.decl-item.result
    (subst (λ (ds : List Decl). c.loop-decl.decl-index < length ds) c.as_slice-decl-items.ensures c.loop-decl-test.true)
    (c.decl-item.is ∙ ap (λ (ds : List Decl). get_or ds c.loop-decl.decl-index c.decl-item.result) c.as_slice-decl-items.ensures)
