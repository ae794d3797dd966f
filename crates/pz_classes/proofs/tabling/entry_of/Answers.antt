use Rattle.std.proofs.Common.{◌∙◌, arith}
use Rattle.std.proofs.lemmas.List.{length-map}
use Rattle.pz_classes_code.specs.pz_syntax.ClassView.{decl_view, model_view}
use Rattle.pz_classes.proofs.Entries.{row_is}
use Rattle.pz_classes.proofs.FewMembers.{members_fit}
use Rattle.pz_classes.proofs.tabling.entry_of.Goals as goal

pub returns-clause-row : goal.returns-clause-row
returns-clause-row c =
    let same = length-map c.args.model.now.decls decl_view in
    let within = c.requires.within in
    let fits = members_fit (model_view c.args.model.now) c.requires.few c.requires.acyclic c.args.class (omega (arith, same, within)) c.args.members c.requires.inherited in
    row_is (model_view c.args.model.now) c.args.class c.parent_at-parent.result c.args.members c.in_ok-start.start c.in_ok-methods.methods
    (c.parent_at-parent.ensures ∙ c.requires.extending c.args.class) c.requires.inherited c.in_ok-start.ensures c.in_ok-methods.ensures fits

pub invariant_of-result : goal.invariant_of-result
invariant_of-result c =
    let same = length-map c.args.model.now.decls decl_view in
    let within = c.requires.within in
    let fits = members_fit (model_view c.args.model.now) c.requires.few c.requires.acyclic c.args.class (omega (arith, same, within)) c.args.members c.requires.inherited in
    record { few = fits }
