use Rattle.std.proofs.Common.{List, slice_set, ap, ◌∙◌}
use Rattle.pz_rules.specs.declared.term.Term.{Term}
use Rattle.pz_rules.specs.Leaving.{joined}
use Rattle.pz_rules.specs.View.{terms_view}
use Rattle.pz_term_residual.proofs.Inward.{replaced_is}
use Rattle.pz_term_residual.proofs.levels.round_parallel.Goals as goal

pub returns : goal.returns
returns c =
    c.in_parallel.ensures
    ∙ ap (λ (ts : List Term). joined (terms_view ts)) (c.from_vec.ensures ∙ c.exchange.ensures.new ∙ ap (λ (ts : List Term). slice_set ts c.args.acting c.args.left) c.into_vec-parts.ensures)
    ∙ ap joined (replaced_is c.args.parts c.args.acting c.args.left)
