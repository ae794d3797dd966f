use Rattle.pz_rules.specs.Active.{Active}
use Rattle.pz_rules.specs.InternalActions.{Can}
use Rattle.pz_rules.specs.Messages.{Sends, Judges}
use Rattle.pz_rules.specs.Delays.{Delays}
use Rattle.pz_env_same.proofs.Parts.{in_both, is_active, can, sends, judges, has_left}
use Rattle.pz_env_same.proofs.laws.parts_are_the_same.Goals as goal

pub returns : goal.returns
returns c = record {
  active = λ n a f t place g part same. in_both (λ b. Active b f t place g part) (λ m b is. is_active m b is f t place g part) n a same;
  actions = λ n a f t kind at same. in_both (λ b. Can b f t kind at) (λ m b is. can m b is f t kind at) n a same;
  sends = λ n a f t at port message parcel same. in_both (λ b. Sends b f t at port message parcel) (λ m b is. sends m b is f t at port message parcel) n a same;
  verdicts = λ n a f parcel t verdict same. in_both (λ b. Judges b f parcel t verdict) (λ m b is. judges m b is f parcel t verdict) n a same;
  delays = λ n a f t left same. in_both (λ b. Delays b f t left) (λ m b is. has_left m b is f t left) n a same;
}
