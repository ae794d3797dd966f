-- The commands of a stepping session, and the lines that they are written as.
use Rattle.std.specs.Prelude.{◌≡◌, ◌≢◌, ⊤, ◌≤◌, ℕ, List, [], ◌∷◌, codes}
use Rattle.std.specs.List.{join_with_byte}
use Rattle.std.specs.Fmt.{decimal}
use Rattle.pz_items.specs.Characters.{byte}
use Rattle.pz_words.specs.Numbers.{IsShort}
use Rattle.pz_debug_commands.specs.Lines.{Lacks}

-- what each does is said where sessions are
pub data Command : Type 0 where
  menu : Command
  pick : (number : ℕ) → Command
  pass : Command
  run : (most : ℕ) → Command
  until : (message : List ℕ) (most : ℕ) → Command
  back : (steps : ℕ) → Command
  show : (path name : List ℕ) → Command
  unknown : Command

-- the most steps that a command may ask for
abbrev pub step_limit : ℕ
step_limit = 1000000

-- one word: a byte or more, of which none is a blank or ends a line
pub record IsWord (word : List ℕ) : Type 0 where
  pub some : word ≢ []
  pub joined : Lacks (byte " ") word
  pub unbroken : Lacks (byte "\n") word

-- the words of a command; one that is not understood has none
abbrev pub words_of : Command → List (List ℕ)
words_of menu = codes "menu" ∷ []
words_of (pick number) = codes "pick" ∷ decimal number ∷ []
words_of pass = codes "pass" ∷ []
words_of (run most) = codes "run" ∷ decimal most ∷ []
words_of (until message most) = codes "until" ∷ message ∷ decimal most ∷ []
words_of (back steps) = codes "back" ∷ decimal steps ∷ []
words_of (show path name) = codes "show" ∷ path ∷ name ∷ []
words_of unknown = []

-- a command that can be written
abbrev pub CanBeWritten : Command → Type 0
CanBeWritten menu = ⊤
CanBeWritten (pick number) = IsShort number
CanBeWritten pass = ⊤
CanBeWritten (run most) = most ≤ step_limit
CanBeWritten (until message most) = IsWord message × (most ≤ step_limit)
CanBeWritten (back steps) = steps ≤ step_limit
CanBeWritten (show path name) = IsWord path × IsWord name
CanBeWritten unknown = ⊥

-- the words of the command are the line, with one blank between two of them and nothing more
pub record Spells (line : List ℕ) (c : Command) : Type 0 where
  pub written : CanBeWritten c
  pub is_line : line ≡ join_with_byte (byte " ") (words_of c)

-- the command of a line: the one that it spells, or it is not understood
pub data IsCommand (line : List ℕ) : Command → Type 0 where
  spelled : (c : Command) → Spells line c → IsCommand line c
  unspelled : ((c : Command) → Spells line c → ⊥) → IsCommand line unknown
