use Rattle.pz_run_output.proofs.FormatsBack.{formats_back}
use Rattle.pz_run_output.proofs.laws.formats_read_back.Goals as goal

pub returns : goal.returns
returns c = let law = c.layouts_read_back.ensures in formats_back law.tree law.pieces law.again
