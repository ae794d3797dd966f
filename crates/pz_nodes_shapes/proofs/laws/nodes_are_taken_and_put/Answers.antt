use Rattle.pz_nodes_shapes.proofs.Frames.{taken_in_hand, worked, touched, put_back, taken_away}
use Rattle.pz_nodes_shapes.proofs.laws.nodes_are_taken_and_put.Goals as goal

pub returns : goal.returns
returns g c = record { taken = taken_in_hand; child = worked; touched = touched; put_back = put_back; taken_away = taken_away }
