use Rattle.pz_bind_levels.proofs.Connected.{share}
use Rattle.pz_bind_levels.proofs.laws.ends_share_wires.Goals as goal

pub returns : goal.returns
returns c = record { law = λ layouts system. share layouts system }
