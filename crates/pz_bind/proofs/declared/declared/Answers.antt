use Rattle.std.proofs.Common.{◌≡◌, ap, ◌∙◌, ◌-◌, Option, slice_get}
use Rattle.std.specs.Option.{option_map, option_copied}
use Rattle.pz_bind_rules.specs.pz_syntax.declared.clusters.Decl.{Decl}
use Rattle.pz_bind_rules.specs.pz_syntax.Classes.{ModelTree}
use Rattle.pz_bind_rules.specs.pz_syntax.ClassView.{decl_view}
use Rattle.pz_bind_rules.specs.pz_classes_rules.Numbers.{declaration}
use Rattle.pz_bind.proofs.Gets.{got, declared_at}
use Rattle.pz_bind.proofs.declared.declared.Goals as goal

pub returns : goal.returns
returns c =
    let read : option_copied c.get.result ≡ slice_get c.model.result.now.decls (c.args.class - 1) =
    rw (← c.as_slice.ensures) (got c.as_slice.result.now (c.args.class - 1) c.get.result c.get.ensures.lookup.3 c.get.ensures.lookup.1) in
    ap (λ (o : Option Decl). option_map decl_view o) read ∙ (declared_at c.model.result.now.decls c.args.class c.if-class-eq0.false ∙ ap (λ (m : ModelTree). declaration m c.args.class) c.model.ensures.is)
