use Rattle.std.proofs.Common.{subst}
use Rattle.pz_bind_rules.specs.pz_syntax.ModelText.{HasFewMarks}
use Rattle.pz_classes.specs.CheckedView.{checked_model}
use Rattle.pz_bind_rules.specs.pz_classes_rules.Soundness.{IsSound}
use Rattle.pz_bind.proofs.declared.is_numbered.Goals as goal

pub returns : goal.returns
returns c =
    c.sound_numbers_fit.ensures.law (checked_model c.args.checked.now)
    (subst HasFewMarks c.model-model.ensures.is c.model-model.ensures.few)
    (subst IsSound c.model-model.ensures.is c.model-model.ensures.sound)
