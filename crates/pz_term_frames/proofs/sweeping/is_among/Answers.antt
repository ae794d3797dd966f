use Rattle.std.proofs.Common.{◌∙◌}
use Rattle.std.proofs.lemmas.List.Sorted.{searched}
use Rattle.pz_term_frames.proofs.Standing.{found_or_not}
use Rattle.pz_term_frames.proofs.sweeping.is_among.Goals as goal

pub returns : goal.returns
returns c =
    c.is_ok.ensures.value
    ∙ found_or_not c.args.standing.now c.args.frame.0 c.binary_search.result (searched c.args.standing.now c.args.frame.0 c.binary_search.result c.binary_search.ensures.position (λ i j up within. c.requires i j 0 up within))
