use Rattle.pz_tree_standing.specs.devices.Laws.{StillRightComputed, StillSoundComputed}
use Rattle.pz_tree_standing.proofs.Onward.{still_sound}
use Rattle.pz_tree_standing.proofs.Still.{still_right}
use Rattle.pz_tree_standing.proofs.laws.still_right.Goals as goal

pub returns : goal.returns
returns c =
    let timeless = c.unclocked_is_timeless.ensures.methods in
    let right : StillRightComputed = λ a d f c1 s methods.
    still_right c.steady_terms_keep_summaries.ensures.tests c.steady_terms_keep_summaries.ensures.computed a d methods f c1 s in
    let sound : StillSoundComputed = λ a d f c1 s methods.
    still_sound c.unasked_is_steady.ensures.law c.steady_terms_keep_summaries.ensures.computed c.local_clocks.ensures.fits a d methods f c1 s in
    record {
      right = λ a d f c1 s known. right a d f c1 s (timeless a.setting.model known);
      sound = λ a d f c1 s known. sound a d f c1 s (timeless a.setting.model known);
      computed = right;
      computed_sound = sound;
    }
