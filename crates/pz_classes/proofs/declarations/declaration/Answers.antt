use Rattle.std.proofs.Common.{◌≡◌, ap, ◌∙◌, ◌-◌, Option, slice_get}
use Rattle.std.specs.Option.{option_map, option_copied}
use Rattle.pz_classes_code.specs.pz_syntax.declared.clusters.Decl.{Decl}
use Rattle.pz_classes_code.specs.pz_syntax.ClassView.{decl_view}
use Rattle.pz_classes.proofs.Gets.{got, declared_at}
use Rattle.pz_classes.proofs.declarations.declaration.Goals as goal

pub returns : goal.returns
returns c =
    let read : option_copied c.get.result ≡ slice_get c.args.model.now.decls (c.args.number - 1) =
    rw (← c.as_slice.ensures) (got c.as_slice.result.now (c.args.number - 1) c.get.result c.get.ensures.lookup.3 c.get.ensures.lookup.1) in
    ap (λ (o : Option Decl). option_map decl_view o) read ∙ declared_at c.args.model.now.decls c.args.number c.if-number-eq0.false
