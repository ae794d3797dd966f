-- How a model starts, in the code's words.
use Rattle.std.specs.Prelude.{List}
use Rattle.pz_rules.specs.pz_offer.declared.trouble.Trouble.{Trouble}
use Rattle.pz_rules.specs.Settings.{Setting}
use Rattle.pz_rules.specs.Heights.{IsLow}
use Rattle.pz_rules.specs.devices.Start.{start_of}
use Rattle.pz_term_processes.specs.declared.process.Process.{Process}
use Rattle.pz_term_processes.specs.declared.starting.Started.{Started}
use Rattle.pz_term_processes.specs.declared.starting.Started.TheVariants as started

abbrev pub OnReady : (List Process → Type 0) → Started → Type 0
OnReady P (started.Ready ps) = P ps.items
OnReady P (started.TooHigh trouble) = Unit {0}

abbrev pub OnTooHigh : (Trouble → Type 0) → Started → Type 0
OnTooHigh P (started.Ready ps) = Unit {0}
OnTooHigh P (started.TooHigh trouble) = P trouble

-- no term is too high
abbrev pub StartsLow : Setting → Type 0
StartsLow setting = IsLow setting (start_of setting)
