use Rattle.pz_io.proofs.Pieces.{nothing, joins, halts, wants}
use Rattle.pz_io.proofs.laws.pieces_join.Goals as goal

pub returns : goal.returns
returns c = record { nothing = nothing; joins = joins; halts = halts; wants = wants }
