-- The lines of runs one by one: which is taken at a stage, and to which it leads.
use Rattle.std.specs.Prelude.{◌≡◌, ◌<◌, ◌^◌, ℕ, List, [], ◌∷◌, ◌++◌, Ok, Err}
use Rattle.pz_rules.specs.pz_classes_rules.Soundness.{IsSound}
use Rattle.pz_rules.specs.pz_offer.declared.trouble.Trouble.{Trouble}
use Rattle.pz_rules.specs.declared.action.Action.{Action}
use Rattle.pz_rules.specs.declared.moment.Moment.TheVariants.{Actions, Time}
use Rattle.pz_rules.specs.Settings.{Setting}
use Rattle.pz_rules.specs.Ports.{HasWires}
use Rattle.pz_rules.specs.Configurations.{Config}
use Rattle.pz_rules.specs.Starting.{IsStart}
use Rattle.pz_rules.specs.Steps.{Next, PassesTo}
use Rattle.pz_rules.specs.Moments.{IsMoment}
use Rattle.pz_rules.specs.Runs.{Standing, whole, stopped, IsChoice, Ends}
use Rattle.pz_trace.specs.declared.ending.Ending.{Ending}
use Rattle.pz_trace.specs.Lines.{time_line, action_line, end_line}
use Rattle.pz_trace.specs.Laws.{IsLine}
use Rattle.pz_trace.specs.TraceText.{trace_header, run_ending}
use Rattle.pz_run_replaying.specs.Stages.{Stage, unbegun, underway, concluded}
use Rattle.pz_run_replaying.specs.devices.Readiness.{Ready}

-- what an action leaves: the next configuration, or the same where it has ended in a trouble
pub data After (setting : Setting) (c : Config) (a : Action) : Config → Standing → Type 0 where
  takes_place : (next : Config) → Next setting c a (Ok next) → After setting c a next whole
  fails : (trouble : Trouble) → Next setting c a (Err trouble) → After setting c a c (stopped trouble)

pub data Takes (setting : Setting) : Stage → List ℕ → Stage → Type 0 where
  header_taken : (start : Config) → IsStart setting start → Takes setting unbegun (trace_header setting) (underway start whole)
  action_taken : (c next : Config) (left : Standing) (n k : ℕ) (a : Action)
      → IsMoment setting c (Actions n) → IsChoice setting c n k a → After setting c a next left
      → Takes setting (underway c whole) (action_line setting.model c.clock n k a) (underway next left)
  passing_taken : (c next : Config) (d : ℕ) → IsMoment setting c (Time d) → PassesTo setting c d next
      → Takes setting (underway c whole) (time_line c.clock d) (underway next whole)
  end_taken : (c : Config) (standing : Standing) (e : Ending) → Ends setting c standing (run_ending e)
      → Takes setting (underway c standing) (end_line setting.model c.clock e) (concluded c standing e)

pub data Follows (setting : Setting) : Stage → List (List ℕ) → Stage → Type 0 where
  stays : (s : Stage) → Follows setting s [] s
  onward : (s t u : Stage) (line : List ℕ) (lines : List (List ℕ)) → Takes setting s line t → Follows setting t lines u → Follows setting s (line ∷ lines) u

-- the numbers of offers have a few digits
abbrev pub HasFew : Setting → Stage → Type 0
HasFew setting unbegun = Unit {0}
HasFew setting (underway c whole) = (n : ℕ) → IsMoment setting c (Actions n) → n < 2 ^ 64
HasFew setting (underway c (stopped trouble)) = Unit {0}
HasFew setting (concluded c standing e) = Unit {0}

-- what a run of a sound model keeps
abbrev pub IsKept : Setting → Stage → Type 0
IsKept setting unbegun = IsSound setting.model × HasWires setting.model
IsKept setting (underway c standing) = Ready setting c standing
IsKept setting (concluded c standing e) = Ready setting c standing

-- the same way, through stages with few offers
pub data Path (setting : Setting) : Stage → List (List ℕ) → Stage → Type 0 where
  arrived : (s : Stage) → Path setting s [] s
  further : (s t u : Stage) (line : List ℕ) (lines : List (List ℕ)) → HasFew setting s → Takes setting s line t → Path setting t lines u → Path setting s (line ∷ lines) u

-- what is left of a trace begins with no line that is taken, and is not the end of a run either
pub record Differs (setting : Setting) (s : Stage) (rest : List ℕ) : Type 0 where
  pub untaken : (line left : List ℕ) (t : Stage) → IsLine line → rest ≡ line ++ left → Takes setting s line t → ⊥
  pub unfinished : (c : Config) (standing : Standing) (e : Ending) → s ≡ concluded c standing e → rest ≡ [] → ⊥
