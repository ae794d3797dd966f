-- What is printed of a trace that is replayed, how that ends, and where it leaves a simulator.
use Rattle.std.specs.Prelude.{◌≡◌, ℕ, suc, List, ◌++◌, Option, Some, None, length, Result, IfOk, OnOk}
use Rattle.std.specs.List.{concat}
use Rattle.std.specs.Result.{result_err}
use Rattle.pz_rules.specs.pz_syntax.ModelForm.{Each}
use Rattle.pz_io.specs.Outside.{SinkState}
use Rattle.pz_io.specs.declared.writing.Halt.{Halt}
use Rattle.pz_io.specs.Writing.{Wrote}
use Rattle.pz_rules.specs.Settings.{Setting}
use Rattle.pz_rules.specs.Configurations.{Config}
use Rattle.pz_rules.specs.Starting.{IsStart}
use Rattle.pz_rules.specs.Runs.{Event, Standing, Reaches}
use Rattle.pz_trace.specs.TraceText.{event_line, IsTrace}
use Rattle.pz_trace.specs.Laws.{IsLine, HasUnbrokenNames}
use Rattle.pz_term_simulator.specs.Simulations.{Simulation, stands}
use Rattle.pz_run_replaying.specs.declared.replayed.Replayed.{Replayed}
use Rattle.pz_run_replaying.specs.declared.replayed.Replayed.TheVariants.{Ended, Refused}
use Rattle.pz_run_replaying.specs.Lines.{refused_line, expected_line}
use Rattle.pz_run_replaying.specs.Refusals.{IsRefusedAt}
use Rattle.pz_run_replaying.specs.Stages.{Stage, LeadsTo, IsAt}
use Rattle.pz_run_replaying.specs.Expected.{Expects}

-- a trace is refused at this line, where the rules have that one, if any
abbrev pub refusal_text : ℕ → Option (List ℕ) → List ℕ
refusal_text number None = refused_line number
refusal_text number (Some line) = refused_line number ++ expected_line line

-- The trace of a run is printed whole. Of another the lines are printed before the one at which it is
-- refused, and then what is said of that. The simulator stands where the lines before it lead.
pub data Replays (setting : Setting) (trace : List ℕ) : List ℕ → Replayed → Simulation → Type 0 where
  accepts : (run : IsTrace setting trace) → Replays setting trace trace (Ended run.ending) (stands setting run.last run.standing)
  refuses : (lines : List (List ℕ)) (rest : List ℕ) (stage : Stage) (expected : Option (List ℕ)) (now : Simulation)
      → IsRefusedAt setting trace (suc (length lines)) → Each IsLine lines → trace ≡ concat lines ++ rest
      → LeadsTo setting lines stage → Expects setting rest stage expected → IsAt setting stage now
      → Replays setting trace (concat lines ++ refusal_text (suc (length lines)) expected) (Refused (suc (length lines))) now

-- each event of a run of the model has a line of its own
pub record TellsLines (setting : Setting) : Type 0 where
  pub names : HasUnbrokenNames setting.model
  pub events : (start last : Config) (events : List Event) (standing : Standing)
      → IsStart setting start → Reaches setting start events last standing → Each (λ e. IsLine (event_line setting.model e)) events

-- A trace was replayed: what is to be printed was written, unless that halted; and if it did not, that is
-- how it has ended and where the simulator stands.
pub record IsReplayed (setting : Setting) (trace : List ℕ) (now : Simulation) (before after : SinkState) (result : Result Replayed Halt) : Type 0 where
  pub text : List ℕ
  pub outcome : Replayed
  pub end : Simulation
  pub replays : Replays setting trace text outcome end
  pub wrote : Wrote before after text (result_err result)
  pub is_outcome : IfOk result (λ replayed. replayed ≡ outcome)
  pub arrives : OnOk result (now ≡ end)
