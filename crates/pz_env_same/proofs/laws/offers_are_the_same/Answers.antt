use Rattle.pz_env_same.specs.SameRules.{in_model}
use Rattle.pz_env_same.proofs.Behind.{to_there, from_there}
use Rattle.pz_env_same.proofs.Meeting.{internal_meets, pair_meets, judged_meets, communication_meets}
use Rattle.pz_env_same.proofs.laws.offers_are_the_same.Goals as goal

pub returns : goal.returns
returns k = record {
  internal = λ n g c e p same more at kind pos of. (
    internal_meets g c (in_model n g) e at kind pos (to_there n g c e p same more at.process of),
    internal_meets (in_model n g) e g c at kind pos (from_there n g c e p same more at.process of),
  );
  pairs = λ n g c e p same more wire s r message parcel of_s of_r. (
    pair_meets g c (in_model n g) e wire s r message parcel (to_there n g c e p same more s.process of_s) (to_there n g c e p same more r.process of_r),
    pair_meets (in_model n g) e g c wire s r message parcel (from_there n g c e p same more s.process of_s) (from_there n g c e p same more r.process of_r),
  );
  verdicts = λ n g c e p same more r parcel verdict of. (
    judged_meets g c (in_model n g) e r parcel verdict (to_there n g c e p same more r.process of),
    judged_meets (in_model n g) e g c r parcel verdict (from_there n g c e p same more r.process of),
  );
  communications = λ n g c e p same more wire s r message parcel of_s of_r. (
    communication_meets g c (in_model n g) e wire s r message parcel (to_there n g c e p same more s.process of_s) (to_there n g c e p same more r.process of_r),
    communication_meets (in_model n g) e g c wire s r message parcel (from_there n g c e p same more s.process of_s) (from_there n g c e p same more r.process of_r),
  );
}
