-- What is said of a run that is judged.
use Rattle.std.specs.Prelude.{◌≡◌, ℕ, List}
use Rattle.pz_bind.specs.pz_syntax.Classes.{ModelTree}
use Rattle.pz_run_output.specs.pz_lines.Identifiers.{is_identifier}
use Rattle.pz_watch.specs.Files.{NamedFormula, AreWatches, IsRefusedAt}
use Rattle.pz_watch.specs.Breaking.{AreBroken}
use Rattle.pz_run_output.specs.pz_env_closing.pz_watch_points.EventPoints.{points_of}
use Rattle.pz_run_output.specs.declared.play.Play.{Play}
use Rattle.pz_run_output.specs.declared.status.Status.{Status}
use Rattle.pz_run_output.specs.declared.status.Status.TheVariants.{Done, WatchBroken, WatchRefused}
use Rattle.pz_run_output.specs.Plays.{RunOf}
use Rattle.pz_run_output.specs.Status.{status_of}
use Rattle.pz_run_output.specs.Output.{PrintsJudged}

-- what is said of a file of watches, and the one status that goes with it
pub record PrintsWatches (p : Play) (m : ModelTree) (file bytes : List ℕ) (status : Status) : Type 0 where
  pub prints : PrintsJudged p m file bytes status
  pub only : (ws : List NamedFormula) (run : RunOf p m) → AreWatches is_identifier file ws → (status_of run.ending ≡ Done → AreBroken ws (points_of m run.events) → ⊥) → status ≡ status_of run.ending
  pub breaks : (ws : List NamedFormula) (run : RunOf p m) → AreWatches is_identifier file ws → status_of run.ending ≡ Done → AreBroken ws (points_of m run.events) → status ≡ WatchBroken
  pub no_list : (line : ℕ) → IsRefusedAt is_identifier file line → status ≡ WatchRefused
