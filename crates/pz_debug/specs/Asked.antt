-- What the words of a command line ask for.
use Rattle.std.specs.Prelude.{ℕ, List, [], ◌∷◌, IsTrue, Option, Some, None, codes}
use Rattle.pz_words.specs.Jobs.{is_name}

-- a session on a model, by a file of commands
pub record Asked : Type 0 where
  pub model : List ℕ
  pub commands : List ℕ

-- They are two names, none of which is empty or begins with `-`.
pub data Asks : List (List ℕ) → Asked → Type 0 where
  session : (model commands : List ℕ) → IsTrue (is_name model) → IsTrue (is_name commands) → Asks (model ∷ commands ∷ []) (record { model = model; commands = commands })

pub data IsAsked (words : List (List ℕ)) : Option Asked → Type 0 where
  something : (a : Asked) → Asks words a → IsAsked words (Some a)
  nothing : ((a : Asked) → Asks words a → ⊥) → IsAsked words None

-- there is one such session, or there is none
abbrev pub OfAsked : List (List ℕ) → (Option Asked → Type 0) → Type 0
OfAsked words P = (a : Option Asked) → IsAsked words a → P a

-- how the program is called
abbrev pub usage_line : List ℕ
usage_line = codes "usage: poosl_debug MODEL COMMANDS\n"
