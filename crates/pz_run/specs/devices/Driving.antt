-- What is said of a run that a script drives.
use Rattle.std.specs.Prelude.{◌≡◌, ◌≤◌, ℕ, List, length}
use Rattle.pz_bind.specs.pz_syntax.Classes.{ModelTree}
use Rattle.pz_bind.specs.pz_syntax.ModelText.{text}
use Rattle.pz_bind.specs.pz_classes_rules.Soundness.{IsSound}
use Rattle.pz_run_output.specs.pz_classes_openings.OpeningRules.{Opens}
use Rattle.pz_run_output.specs.pz_env_closing.pz_env_script.declared.entry.Entry.{Entry}
use Rattle.pz_run_output.specs.pz_env_closing.pz_env_rules.Text.{drive_header}
use Rattle.pz_run_output.specs.pz_env_closing.pz_run_playing.RunText.{text_under}
use Rattle.pz_run_output.specs.Limits.{model_limit}
use Rattle.pz_run_output.specs.declared.play.Play.{Play}
use Rattle.pz_run_output.specs.declared.status.Status.{Status}
use Rattle.pz_run_output.specs.declared.status.Status.TheVariants.{ScriptRefused}
use Rattle.pz_run_output.specs.Plays.{RunOf, DrivenRunOf}
use Rattle.pz_run_output.specs.Scripts.{IsScriptFor, IsScriptRefused}
use Rattle.pz_run_output.specs.Status.{status_of}
use Rattle.pz_run_output.specs.Output.{PrintsDriven}

-- a sound model that opens, of a text within the limit
pub record IsSmallOpen (m : ModelTree) : Type 0 where
  pub sound : IsSound m
  pub opens : Opens m
  pub small : length (text m) ≤ model_limit

-- of a file that is to hold a script: what is printed, and the one status that goes with it
pub record PrintsScript (p : Play) (m : ModelTree) (file bytes : List ℕ) (status : Status) : Type 0 where
  pub prints : PrintsDriven p m file bytes status
  pub only : (script : List Entry) (run : DrivenRunOf p m script) → IsScriptFor m file script → status ≡ status_of run.ending
  pub no_script : (line : ℕ) → IsScriptRefused m file line → status ≡ ScriptRefused

-- the run of a closed model, under the first line of driven runs
pub data PrintsClosedRun (p : Play) (n : ModelTree) : List ℕ → Status → Type 0 where
  plays : (run : RunOf p n) → PrintsClosedRun p n (text_under (drive_header p.limits.units) n run.events run.end.clock run.ending) (status_of run.ending)
