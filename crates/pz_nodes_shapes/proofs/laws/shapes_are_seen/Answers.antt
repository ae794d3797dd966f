use Rattle.pz_nodes_shapes.proofs.Seen.{stands_seen, change_seen, drop_seen}
use Rattle.pz_nodes_shapes.proofs.laws.shapes_are_seen.Goals as goal

pub returns : goal.returns
returns g c = record { stands = stands_seen; change = change_seen; drop = drop_seen }
