use Rattle.std.proofs.Common.{◌∙◌}
use Rattle.pz_check_names.proofs.Sets.{or_none}
use Rattle.pz_check_names.proofs.stretch.Stretch.has_local.Goals as goal

pub returns : goal.returns
returns c = c.has_name.ensures _ c.requires ∙ or_none _
