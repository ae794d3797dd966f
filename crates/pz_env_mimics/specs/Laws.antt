-- Laws of a driven system and of a model that closes it: their runs are the same, and so are their texts.
use Rattle.std.specs.Prelude.{◌≡◌, ◌↔◌, ℕ, List, ◌++◌}
use Rattle.std.specs.List.{flat_map}
use Rattle.pz_env_tree.specs.pz_syntax.Classes.{ModelTree}
use Rattle.pz_env_tree.specs.pz_rules.declared.moment.Moment.{Moment}
use Rattle.pz_env_tree.specs.pz_rules.Configurations.{Config}
use Rattle.pz_env_tree.specs.pz_rules.Starting.{IsStart}
use Rattle.pz_env_tree.specs.pz_rules.Moments.{IsMoment}
use Rattle.pz_env_tree.specs.pz_rules.Runs.{Event, Standing, Reaches, Ending as RunEnding, Ends}
use Rattle.pz_env_tree.specs.pz_rules.ChosenRuns.{Policy, IsChosenRun}
use Rattle.pz_env_tree.specs.pz_trace.declared.ending.Ending.{Ending}
use Rattle.pz_env_tree.specs.pz_trace.Lines as trace
use Rattle.pz_env_tree.specs.pz_trace.TraceText as trace_text
use Rattle.pz_env_tree.specs.pz_trace.TraceText.{run_ending, events_text}
use Rattle.pz_env_tree.specs.pz_env_script.declared.entry.Entry.{Entry}
use Rattle.pz_env_tree.specs.pz_env_script.Scripts.{IsWritten}
use Rattle.pz_env_tree.specs.pz_env_rules.Environment.{lines_of}
use Rattle.pz_env_tree.specs.pz_env_rules.Joining.{Driving}
use Rattle.pz_env_tree.specs.pz_env_rules.Driven.{Driven, IsDrivenStart}
use Rattle.pz_env_tree.specs.pz_env_rules.Moments.{IsDrivenMoment}
use Rattle.pz_env_tree.specs.pz_env_rules.Runs.{DrivenReaches, DrivenEnds}
use Rattle.pz_env_tree.specs.pz_env_rules.ChosenRuns.{IsChosenDrivenRun}
use Rattle.pz_env_tree.specs.pz_env_rules.Text.{drive_header, event_line, end_line, IsDriveText}
use Rattle.pz_env_mimics.specs.Environments.{ArePlain, HasEnvironment}
use Rattle.pz_env_mimics.specs.Closing.{Closes, closed, SameEvent, SameEvents}

module _ (g : Driving) (n : ModelTree) where
  -- a run of the model with the same events, which stands where this driven run does
  pub record ClosedRun (events : List Event) (end : Driven) (standing : Standing) : Type 0 where
    pub start : Config
    pub is_start : IsStart (closed g n) start
    pub told : List Event
    pub last : Config
    pub reaches : Reaches (closed g n) start told last standing
    pub same : SameEvents g events told
    pub clock : last.clock ≡ end.system.clock
    pub moments : (m : Moment) → IsDrivenMoment g end m ↔ IsMoment (closed g n) last m
    pub ends : (ending : RunEnding) → DrivenEnds g end standing ending ↔ Ends (closed g n) last standing ending

  -- a driven run with the same events, which stands where this run of the model does
  pub record DrivenRun (told : List Event) (last : Config) (standing : Standing) : Type 0 where
    pub start : Driven
    pub is_start : IsDrivenStart g start
    pub events : List Event
    pub end : Driven
    pub reaches : DrivenReaches g start events end standing
    pub same : SameEvents g events told
    pub clock : last.clock ≡ end.system.clock
    pub moments : (m : Moment) → IsDrivenMoment g end m ↔ IsMoment (closed g n) last m
    pub ends : (ending : RunEnding) → DrivenEnds g end standing ending ↔ Ends (closed g n) last standing ending

  -- the same of runs that a policy chooses
  pub record ChosenClosedRun (policy : Policy) (events : List Event) (end : Driven) (ending : RunEnding) : Type 0 where
    pub start : Config
    pub is_start : IsStart (closed g n) start
    pub told : List Event
    pub last : Config
    pub run : IsChosenRun (closed g n) policy 0 start told last ending
    pub same : SameEvents g events told
    pub clock : last.clock ≡ end.system.clock

  pub record ChosenDrivenRun (policy : Policy) (told : List Event) (last : Config) (ending : RunEnding) : Type 0 where
    pub start : Driven
    pub is_start : IsDrivenStart g start
    pub events : List Event
    pub end : Driven
    pub run : IsChosenDrivenRun g policy 0 start events end ending
    pub same : SameEvents g events told
    pub clock : last.clock ≡ end.system.clock

  -- this is the text of a run of the model, behind the header of driven runs
  pub record IsClosedText (text : List ℕ) : Type 0 where
    pub start : Config
    pub is_start : IsStart (closed g n) start
    pub events : List Event
    pub last : Config
    pub standing : Standing
    pub reaches : Reaches (closed g n) start events last standing
    pub ending : Ending
    pub ends : Ends (closed g n) last standing (run_ending ending)
    pub is_text : text ≡ drive_header g.setting.limits.units ++ (events_text n events ++ trace.end_line n last.clock ending)

-- Scripts

-- the lines of a script that a text writes are plain
abbrev pub WrittenLinesArePlain : Type 0
WrittenLinesArePlain = (script : List Entry) → IsWritten script → ArePlain (lines_of script)

-- Runs

abbrev pub DrivenRunsAreClosed : Type 0
DrivenRunsAreClosed = (g : Driving) (n : ModelTree) (start end : Driven) (events : List Event) (standing : Standing)
    → Closes g n → IsDrivenStart g start → DrivenReaches g start events end standing → ClosedRun g n events end standing

abbrev pub ClosedRunsAreDriven : Type 0
ClosedRunsAreDriven = (g : Driving) (n : ModelTree) (start last : Config) (told : List Event) (standing : Standing)
    → Closes g n → IsStart (closed g n) start → Reaches (closed g n) start told last standing → DrivenRun g n told last standing

-- Chosen runs

abbrev pub ChosenDrivenAreClosed : Type 0
ChosenDrivenAreClosed = (g : Driving) (n : ModelTree) (policy : Policy) (start end : Driven) (events : List Event) (ending : RunEnding)
    → Closes g n → IsDrivenStart g start → IsChosenDrivenRun g policy 0 start events end ending → ChosenClosedRun g n policy events end ending

abbrev pub ChosenClosedAreDriven : Type 0
ChosenClosedAreDriven = (g : Driving) (n : ModelTree) (policy : Policy) (start last : Config) (told : List Event) (ending : RunEnding)
    → Closes g n → IsStart (closed g n) start → IsChosenRun (closed g n) policy 0 start told last ending → ChosenDrivenRun g n policy told last ending

-- Lines and texts

abbrev pub EventLinesAreSame : Type 0
EventLinesAreSame = (g : Driving) (n : ModelTree) (e f : Event) → HasEnvironment g n → SameEvent g e f → event_line g e ≡ trace_text.event_line n f

abbrev pub EventTextsAreSame : Type 0
EventTextsAreSame = (g : Driving) (n : ModelTree) (es fs : List Event) → HasEnvironment g n → SameEvents g es fs → flat_map (event_line g) es ≡ events_text n fs

abbrev pub EndLinesAreSame : Type 0
EndLinesAreSame = (g : Driving) (n : ModelTree) (clock : ℕ) (ending : Ending) → HasEnvironment g n → end_line g clock ending ≡ trace.end_line n clock ending

abbrev pub TextsAreSame : Type 0
TextsAreSame = (g : Driving) (n : ModelTree) (text : List ℕ) → Closes g n → IsDriveText g text ↔ IsClosedText g n text
