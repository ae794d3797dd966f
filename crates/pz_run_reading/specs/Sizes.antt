-- How large the system of a model is, each cluster expanded, and what a check says of a text.
use Rattle.std.specs.Prelude.{◌≡◌, ℕ, List, length}
use Rattle.pz_bind_rules.specs.pz_syntax.Classes.{ModelTree}
use Rattle.pz_bind_rules.specs.Nest as nest
use Rattle.pz_bind_rules.specs.Wires as wiring
use Rattle.pz_run_reading.specs.Openings.{IsOpenModelOf}

-- the system has so many processes and so many wires
pub record HasSize (m : ModelTree) (processes wires : ℕ) : Type 0 where
  pub all_processes : length (nest.processes m) ≡ processes
  pub all_wires : length (wiring.wires m) ≡ wires

-- the text is that of a model that opens, whose system has so many processes and so many wires
pub record IsAccepted (text : List ℕ) (processes wires : ℕ) : Type 0 where
  pub model : ModelTree
  pub is_model : IsOpenModelOf text model
  pub size : HasSize model processes wires
