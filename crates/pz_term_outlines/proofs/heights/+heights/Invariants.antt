use Rattle.std.proofs.Common.{◌≡◌, ◌+◌, ◌*◌, max, drop}
use Rattle.pz_rules.specs.Terms.{greatest_height}
use Rattle.pz_rules.specs.View.{terms_view}
use Rattle.pz_term_outlines.specs.Capped.{capped}
use Rattle.pz_term_outlines.proofs.heights.+heights.Given as goal

abbrev pub invariant-greatest_of-loop-part : goal.invariant-greatest_of-loop-part
invariant-greatest_of-loop-part l = max l.greatest (capped (greatest_height (terms_view (drop l.part-index l.parts)))) ≡ capped (greatest_height (terms_view l.parts))

-- the depth comes first; at the same depth, parts come before one of them
abbrev pub decreases-height_of : goal.decreases-height_of
decreases-height_of l = 2 * goal.size-height_of l

abbrev pub decreases-greatest_of : goal.decreases-greatest_of
decreases-greatest_of l = 2 * goal.size-greatest_of l + 1
