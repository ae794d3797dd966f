use Rattle.pz_rules.proofs.Deep.{methods_are_shallow}
use Rattle.pz_rules.proofs.Stable as stable
use Rattle.pz_rules.proofs.Heavier.{calls_are_heavier}
use Rattle.pz_rules.proofs.laws.calls_unfold.Goals as goal

pub returns : goal.returns
returns c =
    record {
      shallow = methods_are_shallow;
      unfolds = stable.calls_unfold c.sound_bodies_fit.ensures.law;
      stands = stable.calls_stand;
      none = stable.calls_of_none_stand;
      heavier = calls_are_heavier c.sound_bodies_fit.ensures.law;
    }
