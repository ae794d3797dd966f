use Rattle.pz_tree_standing.proofs.Reached.{reached_goes_on, what_goes_on}
use Rattle.pz_tree_standing.proofs.laws.reached_parts_are_active.Goals as goal

pub returns : goal.returns
returns c =
    let only = c.evaluations_are_computed.ensures.tests in
    let found = c.computed_is_found.ensures.value in
    record { law = λ a f c1 h ss i p l n g. (reached_goes_on only found a f c1 h ss i p l n g, what_goes_on only found a f c1 h ss i p l n g) }
