use Rattle.pz_format.proofs.ModelsBack.{pieces_back, model_back, layout_back}
use Rattle.pz_format.proofs.laws.models_read_back.Goals as goal

pub returns : goal.returns
returns c = record { pieces = pieces_back; model = model_back; again = layout_back }
