-- The processes and the wires that a net has.
use Rattle.std.specs.Prelude.{◌<◌, ℕ, length}
use Rattle.pz_bind.specs.declared.net.Net.{Net}

-- the process is one of these
abbrev pub HasProcess : Net → ℕ → Type 0
HasProcess net process = process < length net.nodes

-- the wire is one of these
abbrev pub IsWireOf : Net → ℕ → Type 0
IsWireOf net wire = wire < length net.wire_names
