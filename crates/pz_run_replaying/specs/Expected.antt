-- The line that the rules have at a stage, in the place of what is left of a trace.
use Rattle.std.specs.Prelude.{◌≡◌, ◌≢◌, ◌<◌, ℕ, List, ◌++◌, Option, Some, None}
use Rattle.pz_rules.specs.declared.action.Action.{Action}
use Rattle.pz_rules.specs.declared.moment.Moment.TheVariants.{Actions, Time}
use Rattle.pz_rules.specs.Settings.{Setting}
use Rattle.pz_rules.specs.Configurations.{Config}
use Rattle.pz_rules.specs.Moments.{IsMoment}
use Rattle.pz_rules.specs.Runs.{Standing, whole, IsChoice, Ends}
use Rattle.pz_trace.specs.declared.ending.Ending.{Ending}
use Rattle.pz_trace.specs.declared.ending.Ending.TheVariants.{Stop}
use Rattle.pz_trace.specs.declared.headings.Heading.TheVariants.{Step}
use Rattle.pz_trace.specs.Lines.{time_line, action_line, end_line}
use Rattle.pz_trace.specs.TraceText.{trace_header, run_ending}
use Rattle.pz_trace.specs.Headings.{IsHeading}
use Rattle.pz_trace.specs.Laws.{IsLine}
use Rattle.pz_run_replaying.specs.Stages.{Stage, unbegun, underway, concluded}

-- the next line of the trace has the heading of an action, with this number
pub record NamesOffer (rest : List ℕ) (k : ℕ) : Type 0 where
  pub line : List ℕ
  pub is_line : IsLine line
  pub left : List ℕ
  pub begins : rest ≡ line ++ left
  pub clock : ℕ
  pub n : ℕ
  pub heading : IsHeading line (Step clock n k)

pub data Expects (setting : Setting) (rest : List ℕ) : Stage → Option (List ℕ) → Type 0 where
  the_header : Expects setting rest unbegun (Some (trace_header setting))
  -- where there are offers, the line of the one that the trace names
  the_offer : (c : Config) (n k : ℕ) (a : Action) → IsMoment setting c (Actions n) → NamesOffer rest k → IsChoice setting c n k a
      → Expects setting rest (underway c whole) (Some (action_line setting.model c.clock n k a))
  -- if it names none of them, nothing
  no_offer : (c : Config) (n : ℕ) → IsMoment setting c (Actions n) → ((k : ℕ) → k < n → NamesOffer rest k → ⊥)
      → Expects setting rest (underway c whole) None
  the_passing : (c : Config) (d : ℕ) → IsMoment setting c (Time d) → Expects setting rest (underway c whole) (Some (time_line c.clock d))
  -- where a run ends by itself
  the_end : (c : Config) (standing : Standing) (ending : Ending) → Ends setting c standing (run_ending ending) → ending ≢ Stop
      → Expects setting rest (underway c standing) (Some (end_line setting.model c.clock ending))
  nothing_more : (c : Config) (standing : Standing) (ending : Ending) → Expects setting rest (concluded c standing ending) None
