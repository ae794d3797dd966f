-- What the passing of time makes of one process.
use Rattle.std.specs.Prelude.{◌≡◌, ℕ, List, Some, slice_get}
use Rattle.pz_rules.specs.Settings.{Setting}
use Rattle.pz_rules.specs.devices.Passing.{passed}
use Rattle.pz_term_processes.specs.declared.process.Process.{Process}
use Rattle.pz_term_processes.specs.Standing.{process_view}
use Rattle.pz_term_steps.specs.devices.Deeds.{seen_at}

-- of process i, at a clock: whatever its class, all active delays have so much less left, and its state
-- stays
abbrev pub HasPassed : Setting → ℕ → ℕ → ℕ → Process → Process → Type 0
HasPassed setting clock time i old new = (class : ℕ) → process_view new ≡ record { term = passed (seen_at setting i class clock old.state.held) time 0 (process_view old).term; state = old.state.held }

-- this process stands there, for the one that stood there
pub record PassedAt (setting : Setting) (clock time i : ℕ) (old : Process) (ps : List Process) : Type 0 where
  pub process : Process
  pub stands : slice_get ps i ≡ Some process
  pub passed : HasPassed setting clock time i old process
