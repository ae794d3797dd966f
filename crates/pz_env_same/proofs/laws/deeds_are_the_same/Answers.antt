use Rattle.pz_rules.specs.InternalActions.{Performs}
use Rattle.pz_rules.specs.Messages.{Hands, Takes}
use Rattle.pz_rules.specs.Delays.{Passes}
use Rattle.pz_env_same.proofs.Openings.{settled_same}
use Rattle.pz_env_same.proofs.Parts.{in_both}
use Rattle.pz_env_same.proofs.Deeds.{performs, hands, takes, passes}
use Rattle.pz_env_same.proofs.laws.deeds_are_the_same.Goals as goal

pub returns : goal.returns
returns c = record {
  performs = λ n a f t at r same. in_both (λ b. Performs b f t at r) (λ m b is. performs m b is f t at r) n a same;
  hands = λ n a f parcel t at r same. in_both (λ b. Hands b f parcel t at r) (λ m b is. hands m b is f parcel t at r) n a same;
  takes = λ n a f parcel t at r same. in_both (λ b. Takes b f parcel t at r) (λ m b is. takes m b is f parcel t at r) n a same;
  leaves = settled_same;
  passes = λ n a d f t x same. in_both (λ b. Passes b d f t x) (λ m b is. passes m b is d f t x) n a same;
}
