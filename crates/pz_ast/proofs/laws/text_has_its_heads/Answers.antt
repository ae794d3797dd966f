use Rattle.pz_ast.proofs.ModelHeads as models
use Rattle.pz_ast.proofs.laws.text_has_its_heads.Goals as goal

pub returns : goal.returns
returns c = models.text_has_its_heads
