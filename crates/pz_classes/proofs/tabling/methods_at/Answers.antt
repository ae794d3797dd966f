use Rattle.std.proofs.Common.{◌≡◌, ap, sym, subst, ℕ, [], Option, arith}
use Rattle.std.specs.Option.{option_map_or}
use Rattle.std.proofs.lemmas.Result.{IfOk-weaker}
use Rattle.pz_classes_code.specs.pz_syntax.Classes.{DeclTree}
use Rattle.pz_classes_code.specs.pz_syntax.ClassView.{decl_view, model_view}
use Rattle.pz_classes_rules.specs.Numbers.{declaration}
use Rattle.pz_classes_rules.specs.Methods.{signatures}
use Rattle.pz_classes.specs.devices.MethodIn.{HasMethods, HasMethodsOf}
use Rattle.pz_classes_rules.proofs.FewMarks.{numbers_fit, decl_fits}
use Rattle.pz_classes.proofs.Numbered.{declares}
use Rattle.pz_classes.proofs.tabling.methods_at.Goals as goal

pub returns-in-Some : goal.returns-in-Some
returns-in-Some c =
    let m = model_view c.args.model.now in
    let own = signatures (decl_view c.in-Some.decl.now) in
    let read : own ≡ option_map_or signatures (declaration m c.args.class) [] = ap (λ (o : Option DeclTree). option_map_or signatures o []) c.in-Some.ensures in
    IfOk-weaker c.methods_of.result (HasMethods c.args.first own) (HasMethodsOf m c.args.class)
    (λ methods has. declares m c.args.class own methods read (subst (λ (n : ℕ). HasMethods n own methods) c.requires.counted has)) c.methods_of.ensures

pub returns-in-None : goal.returns-in-None
returns-in-None c =
    let m = model_view c.args.model.now in
    declares m c.args.class [] c.new.result (ap (λ (o : Option DeclTree). option_map_or signatures o []) c.in-None.ensures)
    (record { each = c.new.ensures.none; next = let next = c.new.ensures.next in let first = c.requires.counted in omega arith })

pub methods_of-requires-clause-room : goal.methods_of-requires-clause-room
methods_of-requires-clause-room c = numbers_fit (model_view c.args.model.now) c.requires.few c.args.class c.args.first (signatures (decl_view c.in-Some.decl.now)) c.requires.counted
    (ap (λ (o : Option DeclTree). option_map_or signatures o []) c.in-Some.ensures)

pub methods_of-requires-clause-marks : goal.methods_of-requires-clause-marks
methods_of-requires-clause-marks c = decl_fits (model_view c.args.model.now) c.requires.few c.args.class (decl_view c.in-Some.decl.now) (sym c.in-Some.ensures)
