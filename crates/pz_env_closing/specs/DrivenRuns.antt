-- The driven run that a policy chooses, and its text, whose last line may also tell of an entry of a list of
-- choices that is refused.
use Rattle.std.specs.Prelude.{ℕ, List, ◌++◌, codes}
use Rattle.std.specs.List.{flat_map}
use Rattle.std.specs.Fmt.{decimal}
use Rattle.pz_run_playing.specs.pz_rules.Runs.{Event, Ending, ended, deadlocked, troubled, halted, refused}
use Rattle.pz_run_playing.specs.pz_rules.ChosenRuns.{Policy}
use Rattle.pz_run_playing.specs.pz_trace.declared.ending.Ending.TheVariants.{End, Deadlock, Stop, Trouble}
use Rattle.pz_run_playing.specs.pz_trace.Lines.{newline}
use Rattle.pz_env_joined.specs.pz_env_rules.Joining.{Driving}
use Rattle.pz_env_joined.specs.pz_env_rules.Driven.{Driven, IsDrivenStart}
use Rattle.pz_env_joined.specs.pz_env_rules.ChosenRuns.{IsChosenDrivenRun}
use Rattle.pz_env_joined.specs.pz_env_rules.Text.{drive_header, event_line, end_words}

-- from the start of a system and a script on
pub record ChosenDrivenRun (g : Driving) (policy : Policy) : Type 0 where
  pub start : Driven
  pub is_start : IsDrivenStart g start
  pub events : List Event
  pub end : Driven
  pub ending : Ending
  pub is_chosen : IsChosenDrivenRun g policy 0 start events end ending

module _ (g : Driving) where
  abbrev pub ending_words : Ending → List ℕ
  ending_words ended = end_words g End
  ending_words deadlocked = end_words g Deadlock
  ending_words halted = end_words g Stop
  ending_words (troubled trouble) = end_words g (Trouble trouble)
  ending_words (refused entry count) = codes "refused " ++ (decimal entry ++ (codes " of " ++ decimal count))

  -- `clock words`
  abbrev pub last_line : ℕ → Ending → List ℕ
  last_line clock ending = decimal clock ++ (codes " " ++ (ending_words ending ++ newline))

  -- the header, a line for each event, and the line of the end
  abbrev pub driven_text : List Event → ℕ → Ending → List ℕ
  driven_text events clock ending = drive_header g.setting.limits.units ++ (flat_map (event_line g) events ++ last_line clock ending)
