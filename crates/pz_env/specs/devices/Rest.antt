-- The lines of a script that are left, and the statements of lines.
use Rattle.std.specs.Prelude.{ℕ, suc, List, [], ◌∷◌, drop}
use Rattle.pz_syntax.specs.declared.names.Id.{Id}
use Rattle.pz_syntax.specs.Statements.{Statement}
use Rattle.pz_env_tree.specs.pz_env_script.declared.entry.Entry.{Entry}
use Rattle.pz_env_tree.specs.pz_env_rules.Environment.{Line, lines_from}
use Rattle.pz_env_tree.specs.EnvironmentClass.{waiting, exchange}
use Rattle.pz_env.specs.devices.Ends.{Named, is_named, end_of_entry}
use Rattle.pz_env.specs.devices.Said.{SaidSo, is_said, said_by_entry}
use Rattle.pz_env.specs.devices.Firsts.{news}

-- from the line at this index on
abbrev pub rest_from : ℕ → List Entry → List Line
rest_from i es = lines_from (suc i) (drop i es)

abbrev pub end_of : Line → Named
end_of x = end_of_entry x.entry

abbrev pub said_of : Line → SaidSo
said_of x = said_by_entry x.entry

-- of these lines those that name an end which is not among these, and which none before them names
abbrev pub new_ends : List Named → List Line → List Line
new_ends = news is_named end_of

-- the same for what they say
abbrev pub new_said : List SaidSo → List Line → List Line
new_said = news is_said said_of

-- the statements of these lines one by one
abbrev pub listed : List Line → List Line → List (Statement Id Id Id)
listed lines [] = []
listed lines (x ∷ xs) = waiting x ∷ exchange lines x x.entry.transfer ∷ listed lines xs
