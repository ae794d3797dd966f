use Rattle.pz_rules.proofs.Outlined as outlined
use Rattle.pz_rules.proofs.laws.openings_have_outlines.Goals as goal

pub returns : goal.returns
returns c =
    record {
      outlines = outlined.openings_have_outlines;
      unfolds = outlined.outlines_unfold c.calls_unfold.ensures.unfolds;
      none = outlined.outlines_of_none c.calls_unfold.ensures.none;
      one = outlined.outlines_in_one c.calls_unfold.ensures.stands;
      high = outlined.as_high;
      done = outlined.as_done;
    }
