use Rattle.pz_rules.proofs.Passings.{passes_only, passes_some}
use Rattle.pz_rules.proofs.laws.passing_is_computed.Goals as goal

pub returns : goal.returns
returns c = record {
  only = passes_only;
  some = passes_some;
}
