use Rattle.pz_run_formatting.proofs.Back.{keeps_pieces, stays, keeps_tree}
use Rattle.pz_run_formatting.proofs.laws.layouts_read_back.Goals as goal

pub returns : goal.returns
returns c =
    let law = c.one_answer.ensures in
    let apart = c.models_stand_apart.ensures.apart in
    let back = c.layouts_read_back.ensures.back in
    record {
      tree = keeps_tree law.one_list law.tokens_kept apart back c.one_placed_tree.ensures c.places_alone.ensures;
      pieces = keeps_pieces law.one_list law.tokens_kept apart back;
      again = stays law.one_list law.tokens_kept apart c.layouts_read_back.ensures.again;
    }
