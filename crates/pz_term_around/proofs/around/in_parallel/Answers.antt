use Rattle.std.proofs.Common.{List, ap, ◌∙◌}
use Rattle.pz_rules.specs.declared.term.Term.{Term}
use Rattle.pz_rules.specs.Leaving.{all_done}
use Rattle.pz_rules.specs.View.{terms_view}
use Rattle.pz_term_around.proofs.AroundLevels.{joined_done, joined_undone}
use Rattle.pz_term_around.proofs.around.in_parallel.Goals as goal

pub returns-then-all_done : goal.returns-then-all_done
returns-then-all_done c = joined_done c.args.parts c.all_done.result (c.all_done.ensures ∙ ap (λ (l : List Term). all_done (terms_view l)) c.as_slice.ensures) c.if-all_done.true

pub returns-else-all_done : goal.returns-else-all_done
returns-else-all_done c = joined_undone c.args.parts c.all_done.result (c.all_done.ensures ∙ ap (λ (l : List Term). all_done (terms_view l)) c.as_slice.ensures) c.if-all_done.false
