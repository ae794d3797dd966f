use Rattle.pz_term_residual.proofs.Acting.{active_parts_may_act}
use Rattle.pz_term_residual.proofs.laws.active_parts_may_act.Goals as goal

pub returns : goal.returns
returns c = record { law = active_parts_may_act }
