use Rattle.pz_env_same.specs.SameRules.{in_model}
use Rattle.pz_rules.specs.InternalActions.{Performs}
use Rattle.pz_rules.specs.Messages.{Hands, Takes}
use Rattle.pz_env_same.proofs.Behind.{to_there, from_there}
use Rattle.pz_env_same.proofs.Meeting.{performs_same, hands_same, takes_same, acts_meets}
use Rattle.pz_env_same.proofs.Leading.{becomes_same, more_becomes}
use Rattle.pz_env_same.proofs.laws.parts_act_the_same.Goals as goal

pub returns : goal.returns
returns k = record {
  performs = λ n g c e p same more at r of. (
    acts_meets g c (in_model n g) e Performs performs_same at r (to_there n g c e p same more at.process of),
    acts_meets (in_model n g) e g c Performs performs_same at r (from_there n g c e p same more at.process of),
  );
  hands = λ n g c e p same more parcel at r of. (
    acts_meets g c (in_model n g) e (λ a f. Hands a f parcel) (hands_same parcel) at r (to_there n g c e p same more at.process of),
    acts_meets (in_model n g) e g c (λ a f. Hands a f parcel) (hands_same parcel) at r (from_there n g c e p same more at.process of),
  );
  takes = λ n g c e p same more parcel at r of. (
    acts_meets g c (in_model n g) e (λ a f. Takes a f parcel) (takes_same parcel) at r (to_there n g c e p same more at.process of),
    acts_meets (in_model n g) e g c (λ a f. Takes a f parcel) (takes_same parcel) at r (from_there n g c e p same more at.process of),
  );
  processes = becomes_same;
  more = more_becomes;
}
