-- Which traces are refused, and at which line: those that are the text of no run, at the first line with
-- which they begin no run's text.
use Rattle.std.specs.Prelude.{◌≡◌, ◌<◌, ℕ, List, length}
use Rattle.pz_rules.specs.Settings.{Setting}
use Rattle.pz_trace.specs.TraceText.{IsTrace}
use Rattle.pz_run_replaying.specs.Fronts.{BeginsWith}

-- the trace and the text of some run begin with the same lines, so many
pub record Agrees (setting : Setting) (trace : List ℕ) (count : ℕ) : Type 0 where
  pub lines : List (List ℕ)
  pub counted : length lines ≡ count
  pub of_trace : BeginsWith trace lines
  pub text : List ℕ
  pub is_run : IsTrace setting text
  pub of_run : BeginsWith text lines

-- Lines are counted from 1. One that is missing, or has no LF, differs from any.
pub record IsRefusedAt (setting : Setting) (trace : List ℕ) (line : ℕ) : Type 0 where
  pub no_run : IsTrace setting trace → ⊥
  pub differs : Agrees setting trace line → ⊥
  pub first : (count : ℕ) → count < line → Agrees setting trace count
