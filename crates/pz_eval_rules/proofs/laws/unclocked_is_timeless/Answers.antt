use Rattle.pz_eval_rules.specs.Laws.{SoundDataIsTimeless}
use Rattle.pz_eval_rules.proofs.DataMethods.{data_is_timeless}
use Rattle.pz_eval_rules.proofs.SameFound.{value_same, list_same, value_found, list_found}
use Rattle.pz_eval_rules.proofs.laws.unclocked_is_timeless.Goals as goal

pub returns : goal.returns
returns c =
    let timeless : SoundDataIsTimeless = λ model sound. data_is_timeless model (c.sound_bodies_fit.ensures.law model sound) in
    record {
      methods = timeless;
      value = λ model now later frame s t allowed o s1 sound e. value_found model now later frame s allowed (timeless model sound) t o s1 e;
      list = λ model now later frame s ts allowed o s1 sound e. list_found model now later frame s allowed (timeless model sound) ts o s1 e;
      computed = λ model now later frame s t allowed methods. value_same model now later frame s allowed methods t;
      computed_list = λ model now later frame s ts allowed methods. list_same model now later frame s allowed methods ts;
    }
