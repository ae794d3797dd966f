use Rattle.std.proofs.Common.{ap, arith}
use Rattle.pz_rules.specs.Terms.{height}
use Rattle.pz_rules.specs.View.{term_view}
use Rattle.pz_rules.specs.Settings.{left_by}
use Rattle.pz_rules.specs.Leaving.{residual}
use Rattle.pz_term_around.specs.pz_part_opening.Homes.{home_view}
use Rattle.pz_term_outlines.specs.declared.outline.Outline.{Outline}
use Rattle.pz_term_outlines.proofs.Capping.{low_as_ever}
use Rattle.pz_term_residual.proofs.residual.stays_low.Goals as goal

pub returns : goal.returns
returns c = λ f s.
    low_as_ever (height (residual (home_view c.args.home.now) f (term_view c.args.term.now) c.args.place.now (left_by s (term_view c.args.part.now))).term) c.outline_after.result.height c.from.result c.args.limit
    (ap (λ (o : Outline). o.height) (c.outline_after.ensures f s (term_view c.args.part.now) c.outline_of.ensures)) c.from.ensures (omega arith)
