-- A replay on its way.
use Rattle.std.specs.Prelude.{◌≡◌, ◌<◌, ◌+◌, ◌^◌, ℕ, suc, List, ◌++◌, length, Some, None, Result, Ok, Err}
use Rattle.std.specs.List.{concat}
use Rattle.pz_io.specs.Outside.{SinkState}
use Rattle.pz_io.specs.declared.writing.Halt.{Halt}
use Rattle.pz_io.specs.Writing.{Wrote}
use Rattle.pz_rules.specs.Settings.{Setting}
use Rattle.pz_rules.specs.Configurations.{Config}
use Rattle.pz_rules.specs.Starting.{IsStart}
use Rattle.pz_term_simulator.specs.Simulations.{Simulation, setting_in}
use Rattle.pz_run_replaying.specs.declared.replayed.Replayed.{Replayed}
use Rattle.pz_run_replaying.specs.Stages.{Stage, unbegun, LeadsTo}
use Rattle.pz_run_replaying.specs.Replays.{Replays, TellsLines}
use Rattle.pz_run_replaying.specs.devices.Readiness.{IsReady, stage_of}
use Rattle.pz_run_replaying.specs.devices.Taking.{IsKept, Path}

-- a trace begins with these lines, which lead to this stage, and the rest is left of it
pub record Progress (setting : Setting) (trace : List ℕ) (lines : List (List ℕ)) (stage : Stage) (rest : List ℕ) : Type 0 where
  pub start : Config
  pub is_start : IsStart setting start
  pub leads : LeadsTo setting lines stage
  pub path : Path setting unbegun lines stage
  pub kept : IsKept setting stage
  pub is_trace : trace ≡ concat lines ++ rest

-- what is printed behind these lines
pub record IsAnswer (setting : Setting) (trace : List ℕ) (lines : List (List ℕ)) (before now : SinkState) (end : Simulation) (replayed : Replayed) : Type 0 where
  pub text : List ℕ
  pub replays : Replays setting trace (concat lines ++ text) replayed end
  pub wrote : Wrote before now text None

pub record IsCut (lines : List (List ℕ)) (before now : SinkState) (halt : Halt) (text : List ℕ) : Type 0 where
  pub more : List ℕ
  pub is_text : text ≡ concat lines ++ more
  pub wrote : Wrote before now more (Some halt)

-- a replay that goes on behind them has ended so
abbrev pub Answers : Setting → List ℕ → List (List ℕ) → SinkState → SinkState → Simulation → Result Replayed Halt → Type 0
Answers setting trace lines before now end (Ok replayed) = IsAnswer setting trace lines before now end replayed
Answers setting trace lines before now end (Err halt) =
    (text : List ℕ) (replayed : Replayed) (last : Simulation) → Replays setting trace text replayed last → IsCut lines before now halt text

-- further lines were taken and written
pub record Since (setting : Setting) (trace : List ℕ) (lines : List (List ℕ)) (stage : Stage) (rest : List ℕ) (number : ℕ) (before now : SinkState) : Type 0 where
  pub more : List (List ℕ)
  pub progress : Progress setting trace (lines ++ more) stage rest
  pub counted : number ≡ suc (length (lines ++ more))
  pub wrote : Wrote before now (concat more) None

pub record Going (first : Simulation) (text : List ℕ) (from : ℕ) (before : SinkState) (at : Simulation) (rest : List ℕ) (number : ℕ) (now : SinkState) : Type 0 where
  pub ready : IsReady at
  pub setting : setting_in at ≡ setting_in first
  pub short : number + length rest < 2 ^ 64
  pub since : (trace : List ℕ) (lines : List (List ℕ)) → TellsLines (setting_in first)
      → Progress (setting_in first) trace lines (stage_of first) text → from ≡ suc (length lines)
      → Since (setting_in first) trace lines (stage_of at) rest number before now
