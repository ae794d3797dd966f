-- The ends in a set.
use Rattle.std.specs.Prelude.{ℕ, Bool, ◌&&◌, List, [], ◌∷◌, ◌++◌, map, if◌then◌else◌}
use Rattle.std.specs.List.{list_any, position_or_len}
use Rattle.std.specs.Str.{bytes_eq}
use Rattle.pz_env_tree.specs.pz_env_script.declared.entry.Entry.{Entry}
use Rattle.pz_env.specs.declared.ends.End.{End}
use Rattle.pz_env.specs.declared.ends.EndSet.{EndSet}

-- a port of an instance, by their names
pub record Named : Type 0 where
  pub instance : List ℕ
  pub port : List ℕ

abbrev pub named : List ℕ → List ℕ → Named
named instance port = record { instance = instance; port = port }

abbrev pub is_named : Named → Named → Bool
is_named e x = bytes_eq e.instance x.instance && bytes_eq e.port x.port

abbrev pub has_end : List Named → Named → Bool
has_end ends e = list_any (is_named e) ends

-- the number of an end, from 0, or that which it gets
abbrev pub number_of : List Named → Named → ℕ
number_of ends e = position_or_len (is_named e) ends

abbrev pub with_end : List Named → Named → List Named
with_end ends e = if has_end ends e then ends else ends ++ e ∷ []

abbrev pub named_by : End → Named
named_by e = named e.instance.now e.port.now

-- in the order in which they were added
abbrev pub ends_in : EndSet → List Named
ends_in s = map named_by s.set.keys

-- the end that an entry names
abbrev pub end_of_entry : Entry → Named
end_of_entry e = named e.instance e.port
