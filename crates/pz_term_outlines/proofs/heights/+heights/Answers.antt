use Rattle.std.proofs.Common.{List, refl}
use Rattle.pz_rules.specs.declared.term.Term.{Term}
use Rattle.pz_rules.specs.Terms.{height, greatest_height}
use Rattle.pz_rules.specs.View.{term_view, terms_view}
use Rattle.pz_term_outlines.specs.Capped.{capped}
use Rattle.pz_term_outlines.proofs.Capping.{greatest_more}
use Rattle.pz_term_outlines.proofs.heights.+heights.Goals as goal

pub greatest_of-loop-part-preserved : goal.greatest_of-loop-part-preserved
greatest_of-loop-part-preserved t c =
    greatest_more (λ (x : Term). height (term_view x)) (λ (xs : List Term). greatest_height (terms_view xs)) (λ x xs. refl) c.args.parts.now c.loop-part.part-index c.part-item.result
    c.height_of.result c.loop-part.greatest c.max-greatest.result (capped (greatest_height (terms_view c.args.parts.now))) c.loop-part-test.true c.part-item.is c.height_of.ensures c.max-greatest.ensures c.loop-part.invariant
