use Rattle.pz_rules.specs.Evaluations.{GivesPart, Tests, Lasts}
use Rattle.pz_rules.specs.Asking.{Asks}
use Rattle.pz_env_same.proofs.Parts.{in_both, gives_part, tests, lasts, asks}
use Rattle.pz_env_same.proofs.laws.answers_are_the_same.Goals as goal

pub returns : goal.returns
returns c = record {
  tests = λ n a f at e r same. in_both (λ b. Tests b f at e r) (λ m b is. tests m b is f at e r) n a same;
  times = λ n a f at e r same. in_both (λ b. Lasts b f at e r) (λ m b is. lasts m b is f at e r) n a same;
  parts = λ n a f at es r s same. in_both (λ b. GivesPart b f at es r s) (λ m b is. gives_part m b is f at es r s) n a same;
  asked = λ n a f t trouble same. in_both (λ b. Asks b f t trouble) (λ m b is. asks m b is f t trouble) n a same;
}
