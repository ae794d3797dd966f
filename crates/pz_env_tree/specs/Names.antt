-- The names of what stands for an environment in the tree of a closed system. None of them can be that of
-- something else in a model that is not refused.
use Rattle.std.specs.Prelude.{ℕ, List, ◌++◌, codes}
use Rattle.std.specs.List.{position_or_len}
use Rattle.std.specs.Fmt.{decimal}
use Rattle.pz_env_rules.specs.pz_syntax.declared.names.Id.{Id}
use Rattle.pz_env_rules.specs.Environment.{Line}
use Rattle.pz_env_rules.specs.Ends.{is_same_end, first_mentions, named_at}

abbrev pub class_name : List ℕ
class_name = codes "ScriptEnv"

abbrev pub instance_name : List ℕ
instance_name = codes "env"

-- its one method, and its one variable
abbrev pub method_name : List ℕ
method_name = codes "run"

abbrev pub variable_name : List ℕ
variable_name = codes "x"

-- the class of the variable, and of all values of its messages as far as they are declared
abbrev pub kind_name : List ℕ
kind_name = codes "Integer"

-- the number of the line's end, from 0 in the order of first mention
abbrev pub end_number : List Line → Line → ℕ
end_number lines x = position_or_len (λ y. is_same_end y x) (first_mentions lines)

-- `p0`, `p1`, ..: one port for each end
abbrev pub port_name : ℕ → List ℕ
port_name k = codes "p" ++ decimal k

-- the port of the line's end, at the line
abbrev pub port_of : List Line → Line → Id
port_of lines x = named_at x (port_name (end_number lines x))
