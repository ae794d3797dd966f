use Rattle.std.proofs.Common.{◌∙◌, false}
use Rattle.pz_classes_code.specs.pz_syntax.ClassView.{model_view}
use Rattle.pz_check_names.specs.devices.Unsized.{is_unsized}
use Rattle.pz_check_names.proofs.Told.{told_any}
use Rattle.pz_check_names.proofs.sizes.is_unsized_part.Goals as goal

pub returns : goal.returns
returns c = c.tell.ensures ∙ told_any (is_unsized (model_view c.args.model.now)) false c.args.part.now.mentions
