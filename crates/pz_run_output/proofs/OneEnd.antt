-- A run that is asked for has one ending.
use Rattle.std.proofs.Common.{◌≡◌, ℕ, List, Some, ap}
use Rattle.pz_bind.specs.pz_syntax.Classes.{ModelTree}
use Rattle.pz_bind.specs.pz_classes_rules.Soundness.{IsSound}
use Rattle.pz_env_closing.specs.pz_run_playing.Laws.{HasOneRun}
use Rattle.pz_run_output.specs.declared.play.Play.{Play}
use Rattle.pz_run_output.specs.declared.status.Status.{Status}
use Rattle.pz_run_output.specs.Plays.{setting_for, policy_for, RunOf}
use Rattle.pz_run_output.specs.Status.{status_of}
use Rattle.pz_run_output.specs.Output.{PrintsRun, plays}

pub some_is : {X : Type 0} (x y : X) → Some x ≡ Some y → x ≡ y
some_is x y same = cc

-- so a status that goes with what is printed of it is that of each such run
pub ends_so : HasOneRun → (p : Play) (m : ModelTree) → IsSound m → (bytes : List ℕ) (status : Status) → PrintsRun p m bytes status → (run : RunOf p m) → status ≡ status_of run.ending
ends_so one p m sound _ _ (plays run text tells) other = ap status_of (one (setting_for m p) (policy_for p) sound run other).2
