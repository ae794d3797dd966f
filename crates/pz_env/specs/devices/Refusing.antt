-- Which entries are refused, by the ends that a system has and those that are in channels.
use Rattle.std.specs.Prelude.{ℕ, suc, Bool, not, ◌||◌, if◌then◌else◌, List, [], ◌∷◌, Option, Some, None}
use Rattle.pz_env_tree.specs.pz_env_script.declared.entry.Entry.{Entry}
use Rattle.pz_env.specs.devices.Ends.{Named, named, has_end}

-- the end that an entry names
abbrev pub end_of : Entry → Named
end_of e = named e.instance e.port

module _ (ports taken : List Named) where
  abbrev pub is_refused : Entry → Bool
  is_refused e = not (has_end ports (end_of e)) || has_end taken (end_of e)

  -- the first of these entries, of which the first has line n
  abbrev pub first_refused : ℕ → List Entry → Option ℕ
  first_refused n [] = None
  first_refused n (e ∷ es) = if is_refused e then Some n else first_refused (suc n) es
