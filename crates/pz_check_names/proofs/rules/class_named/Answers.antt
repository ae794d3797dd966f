use Rattle.std.proofs.Common.{sym, option_map}
use Rattle.std.specs.Option.{option_copied}
use Rattle.pz_classes_code.specs.pz_syntax.ClassView.{decl_view, model_view}
use Rattle.pz_check_names.proofs.Classes.{named_found, none_named}
use Rattle.pz_check_names.proofs.rules.class_named.Goals as goal

pub returns-in-Some : goal.returns-in-Some
returns-in-Some c = named_found (model_view c.args.model.now) c.args.name.now c.in-Some.number (option_map decl_view (option_copied c.declaration.result))
    (sym (c.in-Some.ensures (model_view c.args.model.now) c.requires)) c.declaration.ensures

pub returns-in-None : goal.returns-in-None
returns-in-None c = none_named (model_view c.args.model.now) c.args.name.now (sym (c.in-None.ensures (model_view c.args.model.now) c.requires))
