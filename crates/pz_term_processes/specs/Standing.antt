-- The configuration that processes of the code stand for.
use Rattle.std.specs.Prelude.{ℕ, List, map}
use Rattle.pz_classes_code.specs.pz_syntax.Classes.{ModelTree}
use Rattle.pz_rules.specs.declared.limits.Limits.{Limits}
use Rattle.pz_rules.specs.View.{term_view}
use Rattle.pz_rules.specs.Settings as rules
use Rattle.pz_rules.specs.Settings.{Setting}
use Rattle.pz_rules.specs.Configurations.{Config, IsWhole}
use Rattle.pz_rules.specs.Fitting.{IsFit}
use Rattle.pz_rules.specs.Heights.{IsLow}
use Rattle.pz_term_processes.specs.declared.process.Process.{Process}

abbrev pub setting_of : ModelTree → Limits → Setting
setting_of m limits = record { model = m; limits = limits }

abbrev pub process_view : Process → rules.Process
process_view p = record { term = term_view p.term; state = p.state.held }

-- at a clock
abbrev pub config_of : ℕ → List Process → Config
config_of clock ps = record { clock = clock; processes = map process_view ps }

-- They are as many as the model has, and what is left of each fits its class and is not too high.
pub record AreProcesses (setting : Setting) (clock : ℕ) (ps : List Process) : Type 0 where
  pub whole : IsWhole setting (config_of clock ps)
  pub fit : IsFit setting (config_of clock ps)
  pub low : IsLow setting (config_of clock ps)
