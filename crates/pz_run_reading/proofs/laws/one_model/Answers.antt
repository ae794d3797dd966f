use Rattle.pz_run_reading.proofs.OneModel as models
use Rattle.pz_run_reading.proofs.laws.one_model.Goals as goal

pub returns : goal.returns
returns c =
    let law = c.one_answer.ensures in
    record {
      one = models.one_model law.one_list c.one_placed_tree.ensures;
      never_refused = models.never_refused law.one_list c.one_placed_tree.ensures law.not_both;
    }
