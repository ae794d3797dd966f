-- What a step of the code has come to.
use Rattle.std.specs.Prelude.{ℕ, ⊤, List, Result, Ok, Err}
use Rattle.pz_rules.specs.pz_offer.declared.trouble.Trouble.{Trouble}
use Rattle.pz_rules.specs.Configurations.{Config}
use Rattle.pz_term_processes.specs.declared.process.Process.{Process}
use Rattle.pz_term_processes.specs.Standing.{config_of}

-- the configuration that is reached, or the trouble
abbrev pub reached : ℕ → List Process → Result ⊤ Trouble → Result Config Trouble
reached clock ps (Ok done) = Ok (config_of clock ps)
reached clock ps (Err trouble) = Err trouble
