use Rattle.pz_tree_standing.proofs.Kids.{with_kid_terms, child_fits, child_rests, child_right, shifts_add}
use Rattle.pz_tree_standing.proofs.laws.children_are_replaced.Goals as goal

pub returns : goal.returns
returns c = record {
  terms = with_kid_terms;
  fits = λ h c1 i ss n x. child_fits h c1 i ss n x;
  rests = λ f h c1 i ss n x. child_rests f h c1 i ss n x;
  right = λ a f h c1 i ss n x. child_right a f h c1 i ss n x;
  shifts_add = shifts_add;
}
