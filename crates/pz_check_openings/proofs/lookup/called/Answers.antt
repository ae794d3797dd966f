use Rattle.std.proofs.Common.{◌≡◌, ◌∙◌, ap, ℕ, List}
use Rattle.pz_classes.specs.CheckedView.{checked_model}
use Rattle.pz_classes.specs.pz_classes_rules.Methods.{process_method}
use Rattle.pz_check_openings.proofs.Merely.{method_merely}
use Rattle.pz_check_openings.proofs.lookup.called.Goals as goal

pub returns : goal.returns
returns c =
    let m = checked_model c.args.checked.now in
    let of_bytes : c.process_method.result ≡ process_method m c.args.class.0 c.bytes_of.result.now c.args.inputs c.args.outputs = method_merely _ _ c.classes.ensures.tabled (λ are. c.process_method.ensures.method m are) in
    of_bytes ∙ ap (λ (name : List ℕ). process_method m c.args.class.0 name c.args.inputs c.args.outputs) c.bytes_of.ensures
