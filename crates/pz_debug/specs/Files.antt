-- The files that a session reads.
use Rattle.std.specs.Prelude.{ℕ, List, [], ◌∷◌, Option, Some, None}
use Rattle.pz_debug.specs.Limits.{model_limit, command_limit}
use Rattle.pz_debug.specs.Asked.{Asked}

-- a file, and the most bytes that it may have
pub record JobFile : Type 0 where
  pub name : List ℕ
  pub limit : ℕ

abbrev pub model_file : List ℕ → JobFile
model_file name = record { name = name; limit = model_limit }

abbrev pub command_file : List ℕ → JobFile
command_file name = record { name = name; limit = command_limit }

-- in their order: the model first; where nothing is asked for there is none
abbrev pub files_of : Option Asked → List JobFile
files_of None = []
files_of (Some a) = model_file a.model ∷ command_file a.commands ∷ []
