-- A process as its statements see it, for the code's standpoint.
use Rattle.std.specs.Prelude.{ℕ}
use Rattle.pz_classes_code.specs.pz_syntax.Classes.{ModelTree}
use Rattle.pz_eval.specs.pz_classes.devices.Rows.{AreClasses}
use Rattle.pz_rules.specs.pz_state.States.{StateView}
use Rattle.pz_rules.specs.Settings.{Context}
use Rattle.pz_part_queries.specs.declared.standpoint.Standpoint.{Standpoint}

-- the classes are those of the model
abbrev pub Knows : ModelTree → Standpoint → Type 0
Knows m here = ∥ AreClasses m here.classes.now ∥₁

-- in this state, of the process class of this number
abbrev pub seen_from : ModelTree → Standpoint → ℕ → StateView → Context
seen_from m here class s = record { setting = record { model = m; limits = here.limits }; process = here.process; class = class; clock = here.clock; state = s }
