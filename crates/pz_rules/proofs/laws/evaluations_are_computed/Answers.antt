use Rattle.pz_rules.proofs.Found.{tests_only, lasts_only, gives_part_only}
use Rattle.pz_rules.proofs.laws.evaluations_are_computed.Goals as goal

pub returns : goal.returns
returns c = record {
  tests = tests_only;
  times = lasts_only;
  parts = gives_part_only;
}
