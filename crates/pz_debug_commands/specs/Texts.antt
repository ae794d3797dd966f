-- The commands of a text: one for each of its lines.
use Rattle.std.specs.Prelude.{ℕ, List, [], ◌∷◌}
use Rattle.pz_debug_commands.specs.Lines.{BeginsWithLine}
use Rattle.pz_debug_commands.specs.Commands.{Command, IsCommand}

-- the command of the first line, and what is left behind that line
pub record BeginsWithCommand (text : List ℕ) (c : Command) (rest : List ℕ) : Type 0 where
  pub line : List ℕ
  pub begins : BeginsWithLine text line rest
  pub is_command : IsCommand line c

pub data AreCommands : List ℕ → List Command → Type 0 where
  none : AreCommands [] []
  more : (text rest : List ℕ) (c : Command) (cs : List Command) → BeginsWithCommand text c rest → AreCommands rest cs → AreCommands text (c ∷ cs)

-- what is left of a text, and the number of the line that comes next
pub record Left : Type 0 where
  pub text : List ℕ
  pub line : ℕ
