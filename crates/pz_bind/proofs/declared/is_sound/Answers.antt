use Rattle.std.proofs.Common.{subst}
use Rattle.pz_classes.specs.CheckedView.{checked_model}
use Rattle.pz_bind_rules.specs.pz_classes_rules.Soundness.{IsSound}
use Rattle.pz_bind.proofs.declared.is_sound.Goals as goal

pub returns : goal.returns
returns c =
    let sound = subst IsSound c.model-model.ensures.is c.model-model.ensures.sound in
    record {
      system = c.sound_systems_fit.ensures.law (checked_model c.args.checked.now) sound;
      classes = c.sound_classes_fit.ensures.law (checked_model c.args.checked.now) sound;
    }
