use Rattle.pz_nodes_shapes.proofs.Readings.{reads, depth_le}
use Rattle.pz_nodes_shapes.proofs.Sizes.{size_le_live}
use Rattle.pz_nodes_shapes.proofs.laws.shapes_are_read.Goals as goal

pub returns : goal.returns
returns g c = record { read = reads; depth = depth_le; size = size_le_live }
