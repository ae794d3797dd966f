-- Laws of lines and commands.
use Rattle.std.specs.Prelude.{◌≡◌, ℕ, List}
use Rattle.pz_debug_commands.specs.Commands.{Command, IsCommand}
use Rattle.pz_debug_commands.specs.Texts.{AreCommands}

-- a line has one command
abbrev pub OneCommand : Type 0
OneCommand = (line : List ℕ) (c d : Command) → IsCommand line c → IsCommand line d → c ≡ d

abbrev pub EveryCommand : Type 0
EveryCommand = (line : List ℕ) → (c : Command) × IsCommand line c

-- a text has one list of commands
abbrev pub OneList : Type 0
OneList = (text : List ℕ) (cs ds : List Command) → AreCommands text cs → AreCommands text ds → cs ≡ ds

abbrev pub EveryList : Type 0
EveryList = (text : List ℕ) → (cs : List Command) × AreCommands text cs
