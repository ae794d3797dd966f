use Rattle.pz_parser.proofs.Parses as parses
use Rattle.pz_parser.proofs.laws.one_placed_tree.Goals as goal

pub returns : goal.returns
returns c = parses.one_placed
