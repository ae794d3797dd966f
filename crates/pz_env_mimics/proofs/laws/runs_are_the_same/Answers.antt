use Rattle.pz_env_mimics.proofs.Known.{Known}
use Rattle.pz_env_mimics.proofs.Telling.{closed_run, driven_run, chosen_closed_run, chosen_driven_run, same_texts}
use Rattle.pz_env_mimics.proofs.laws.runs_are_the_same.Goals as goal

pub returns : goal.returns
returns c =
    let known : Known = record {
      stays_whole = c.one_next.ensures.whole;
      sees = c.processes_see_the_same.ensures.law;
      sends = c.parts_are_the_same.ensures.sends;
      more_stands = c.processes_stand_in_both.ensures.more;
      parts_stand = c.processes_stand_in_both.ensures.parts;
      parts_of = c.processes_stand_in_both.ensures.of_model;
      internals = c.offers_are_the_same.ensures.internal;
      pairs = c.offers_are_the_same.ensures.pairs;
      verdicts = c.offers_are_the_same.ensures.verdicts;
      part_troubles = c.moments_are_the_same.ensures.parts;
      left = c.moments_are_the_same.ensures.left;
      high = c.moments_are_the_same.ensures.high;
      done = c.moments_are_the_same.ensures.done;
      hands = c.parts_act_the_same.ensures.hands;
      takes = c.parts_act_the_same.ensures.takes;
      becomes = c.parts_act_the_same.ensures.processes;
      more_becomes = c.parts_act_the_same.ensures.more;
      lead_on = c.steps_are_the_same.ensures.action;
      passes = c.steps_are_the_same.ensures.passing;
      starts = c.starts_are_the_same.ensures.some;
      starts_of = c.starts_are_the_same.ensures.only;
    } in
    record {
      driven = λ g n start end events standing closes. closed_run known g n closes start end events standing;
      closed = λ g n start last told standing closes. driven_run known g n closes start last told standing;
      chosen_driven = λ g n policy start end events ending closes. chosen_closed_run known g n closes policy start end events ending;
      chosen_closed = λ g n policy start last told ending closes. chosen_driven_run known g n closes policy start last told ending;
      texts = λ g n text closes. same_texts known g n closes text;
    }
