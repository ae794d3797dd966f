use Rattle.std.proofs.Common.{ap, ◌∙◌}
use Rattle.std.proofs.Math.Logic.{∥∥₁_elim}
use Rattle.std.specs.Coded.{le_prop}
use Rattle.pz_classes_code.specs.pz_value.declared.value.ClassId.{ClassId}
use Rattle.pz_bind.specs.pz_classes.CheckedView.{checked_model}
use Rattle.pz_rules.specs.pz_classes_rules.Members.{variables, spelled}
use Rattle.pz_debug_replies.proofs.Searched.{names_merely}
use Rattle.pz_debug_replies.proofs.names.variables_of.Goals as goal

pub variables-requires : goal.variables-requires
variables-requires c =
    ∥∥₁_elim c.requires.of_model le_prop (λ is.
    ∥∥₁_elim c.classes.ensures.tabled le_prop (λ are. c.class.ensures.belongs (checked_model c.args.checked.now) c.classes.result.now is are))

pub returns : goal.returns
returns c = λ place at.
    let m = checked_model c.args.checked.now in
    names_merely _ _ c.requires.of_model (λ is.
    names_merely _ _ c.classes.ensures.tabled (λ are. c.variables.ensures m are ∙ ap (λ (k : ClassId). spelled (variables m k.0)) (c.class.ensures.is m place is at)))
