use Rattle.pz_classes.specs.pz_syntax.ClassView.{model_view}
use Rattle.pz_check_size.proofs.Sizes.{found_oversized}
use Rattle.pz_check_size.proofs.Sized.{none_held}
use Rattle.pz_check_size.proofs.size.oversized.Goals as goal

pub all_totals-requires : goal.all_totals-requires
all_totals-requires c = none_held (model_view c.args.model.now) _ _ c.requires.sized c.in_ok-nodes.ensures c.as_slice.ensures

pub returns : goal.returns
returns c = found_oversized (model_view c.args.model.now) _ _ _ _ _ c.requires.sized c.in_ok-nodes.ensures c.as_slice.ensures c.in_ok-totals.ensures c.as_slice-2.ensures.value c.least_oversized.ensures
