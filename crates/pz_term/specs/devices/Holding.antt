-- What a plain simulator keeps.
use Rattle.std.specs.Prelude.{◌≡◌, ℕ, List}
use Rattle.pz_rules.specs.Settings.{Setting}
use Rattle.pz_rules.specs.Configurations.{IsWhole}
use Rattle.pz_rules.specs.Moments.{IsFirstHigh, IsMoment}
use Rattle.pz_rules.specs.devices.Start.{start_of}
use Rattle.pz_rules.specs.Short.{DelaysAreShort, TimesAreShort}
use Rattle.pz_term_processes.specs.declared.process.Process.{Process}
use Rattle.pz_term_processes.specs.Standing.{config_of, AreProcesses}
use Rattle.pz_term_enabled.specs.declared.looking.Outlook.{Outlook}
use Rattle.pz_term_enabled.specs.Looking.{AreActionsAt}
use Rattle.pz_term.specs.declared.standing.Standing.{Standing}
use Rattle.pz_term.specs.declared.standing.Standing.TheVariants as standing

-- The processes are those of the model, less than 2^64 clock units are left of each delay, and this is their moment with
-- its offers.
pub record IsOutlook (setting : Setting) (clock : ℕ) (processes : List Process) (outlook : Outlook) : Type 0 where
  pub are : AreProcesses setting clock processes
  pub short : DelaysAreShort (config_of clock processes)
  pub times : TimesAreShort setting (config_of clock processes)
  pub moment : IsMoment setting (config_of clock processes) outlook.moment
  pub actions : AreActionsAt setting (config_of clock processes) outlook.moment outlook.actions.items

-- where an action or memory failed, nothing goes on from there; nor from a start that is too high
abbrev pub Holds : Setting → ℕ → List Process → Standing → Type 0
Holds setting clock processes (standing.Whole outlook) = IsOutlook setting clock processes outlook
Holds setting clock processes (standing.High trouble) = (clock ≡ 0) × IsFirstHigh setting (start_of setting) trouble
Holds setting clock processes (standing.Stopped trouble) = IsWhole setting (config_of clock processes)
Holds setting clock processes standing.Broken = Unit {0}
