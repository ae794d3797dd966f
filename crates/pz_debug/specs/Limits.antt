-- What a session may take.
use Rattle.std.specs.Prelude.{ℕ}
use Rattle.pz_term_processes.specs.pz_rules.declared.limits.Edition.TheVariants.{Two}
use Rattle.pz_term_processes.specs.pz_rules.declared.limits.Limits.{Limits}

-- the most bytes that a model may have, and a file of commands
abbrev pub model_limit : ℕ
model_limit = 8388608

abbrev pub command_limit : ℕ
command_limit = 1048576

-- of each evaluation the units and the depth, and of each term the height; by the second edition of the rules
abbrev pub session_limits : Limits
session_limits = record { units = 100000; depth = 20000; height = 1000; edition = Two }
