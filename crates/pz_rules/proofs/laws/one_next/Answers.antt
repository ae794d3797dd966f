use Rattle.pz_rules.proofs.Nexts.{next_once}
use Rattle.pz_rules.proofs.Elapsed.{passing_once, next_whole, passing_whole}
use Rattle.pz_rules.proofs.laws.one_next.Goals as goal

pub returns : goal.returns
returns c = record {
  action = next_once;
  passing = passing_once;
  whole = λ setting c next a d all. (next_whole setting c a next all, passing_whole setting c d next all);
}
