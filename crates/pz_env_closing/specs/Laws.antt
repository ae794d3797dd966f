-- The runs of a closed model are the driven runs of the system and the script: a policy chooses the same, with
-- the same ending and, behind the header of driven runs, the same text.
use Rattle.std.specs.Prelude.{◌≡◌, List}
use Rattle.pz_classes.specs.pz_syntax.Classes.{ModelTree}
use Rattle.pz_run_playing.specs.pz_rules.declared.limits.Limits.{Limits}
use Rattle.pz_run_playing.specs.pz_rules.Settings.{Setting}
use Rattle.pz_run_playing.specs.pz_rules.ChosenRuns.{Policy}
use Rattle.pz_run_playing.specs.RunText.{text_under}
use Rattle.pz_run_playing.specs.Playing.{ChosenRun}
use Rattle.pz_env_joined.specs.pz_env_script.declared.entry.Entry.{Entry}
use Rattle.pz_env_joined.specs.pz_env_script.Scripts.{IsWritten}
use Rattle.pz_env_joined.specs.pz_env_rules.Joining.{driving}
use Rattle.pz_env_joined.specs.pz_env_rules.Text.{drive_header}
use Rattle.pz_env_joined.specs.pz_env_tree.ClosedTree.{closed_tree}
use Rattle.pz_env_sound.specs.MayClose.{MayClose}
use Rattle.pz_env_joined.specs.pz_env_mimics.Closing.{MayDrive}
use Rattle.pz_env_closing.specs.DrivenRuns.{ChosenDrivenRun, driven_text}

abbrev pub closed_setting : ModelTree → List Entry → Limits → Setting
closed_setting m script limits = record { model = closed_tree m script; limits = limits }

module _ (m : ModelTree) (script : List Entry) (limits : Limits) (policy : Policy) where
  -- both end alike, and tell the same
  pub record IsSameRun (driven : ChosenDrivenRun (driving m script limits) policy) (run : ChosenRun (closed_setting m script limits) policy) : Type 0 where
    pub ending : driven.ending ≡ run.ending
    pub text : driven_text (driving m script limits) driven.events driven.end.system.clock driven.ending ≡ text_under (drive_header limits.units) (closed_tree m script) run.events run.end.clock run.ending

abbrev pub ClosedRunsAreDriven : Type 0
ClosedRunsAreDriven = (m : ModelTree) (script : List Entry) (limits : Limits) (policy : Policy) → MayClose m script → IsWritten script → MayDrive limits
    → (run : ChosenRun (closed_setting m script limits) policy)
    → (driven : ChosenDrivenRun (driving m script limits) policy) × IsSameRun m script limits policy driven run

abbrev pub DrivenRunsAreClosed : Type 0
DrivenRunsAreClosed = (m : ModelTree) (script : List Entry) (limits : Limits) (policy : Policy) → MayClose m script → IsWritten script → MayDrive limits
    → (driven : ChosenDrivenRun (driving m script limits) policy)
    → (run : ChosenRun (closed_setting m script limits) policy) × IsSameRun m script limits policy driven run

-- whichever driven run that is, it ends alike
abbrev pub OneDrivenEnding : Type 0
OneDrivenEnding = (m : ModelTree) (script : List Entry) (limits : Limits) (policy : Policy) → MayClose m script → IsWritten script → MayDrive limits
    → (x y : ChosenDrivenRun (driving m script limits) policy) → x.ending ≡ y.ending
