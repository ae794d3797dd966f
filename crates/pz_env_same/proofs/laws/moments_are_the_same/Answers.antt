use Rattle.pz_env_same.specs.SameRules.{in_model}
use Rattle.pz_env_same.proofs.Behind.{part_is_of, to_there, from_there}
use Rattle.pz_env_same.proofs.Meeting.{asked_meets, judged_trouble_meets, left_meets}
use Rattle.pz_env_same.proofs.Highest.{high_there, high_back, done_there, done_back}
use Rattle.pz_env_same.proofs.laws.moments_are_the_same.Goals as goal

pub returns : goal.returns
returns k = record {
  parts = λ n g c e p same more at trouble of. (
    asked_meets g c (in_model n g) e at trouble (to_there n g c e p same more at.process of),
    asked_meets (in_model n g) e g c at trouble (from_there n g c e p same more at.process of),
  );
  pairs = λ n g c e p same more wire s r trouble of_s of_r. (
    judged_trouble_meets g c (in_model n g) e wire s r trouble (to_there n g c e p same more s.process of_s) (to_there n g c e p same more r.process of_r),
    judged_trouble_meets (in_model n g) e g c wire s r trouble (from_there n g c e p same more s.process of_s) (from_there n g c e p same more r.process of_r),
  );
  left = λ n g c e p same more left. (
    λ is. left_meets g c (in_model n g) e left is (to_there n g c e p same more is.at.process (part_is_of g c is.at is.seen is.frame is.part is.active)),
    λ is of. left_meets (in_model n g) e g c left is (from_there n g c e p same more is.at.process of),
  );
  high = λ n g c e p same more trouble. (high_there n g c e p same more trouble, high_back n g c e p same more trouble);
  done = λ g c e p more. (λ both. done_there g c e p more both.0 both.1, done_back g c e p more);
}
