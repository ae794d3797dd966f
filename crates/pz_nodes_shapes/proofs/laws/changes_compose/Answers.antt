use Rattle.pz_nodes_shapes.proofs.Frames.{change_then, then_becomes, stands_kept, occupied}
use Rattle.pz_nodes_shapes.proofs.laws.changes_compose.Goals as goal

pub returns : goal.returns
returns g c = record { compose = change_then; made = then_becomes; stands = stands_kept; used = occupied }
