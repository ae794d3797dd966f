-- What is kept of the names of open classes. There is a scope for each of them, the innermost
-- first: the names that the class itself declares.
use Rattle.std.specs.Prelude.{◌≡◌, ℕ, List, [], ◌∷◌, ◌++◌, length}
use Rattle.pz_check_instances.specs.declared.open_names.OpenNames.{OpenNames}
use Rattle.pz_check_instances.specs.devices.NameSets.{names_in, with_all}

-- the names of all these scopes, each of them once
abbrev pub kept : List (List (List ℕ)) → List (List ℕ)
kept [] = []
kept (scope ∷ outer) = with_all (kept outer) scope

-- how many names stand outside each of these scopes, for the outermost scope first
abbrev pub starts_of : List (List (List ℕ)) → List ℕ
starts_of [] = []
starts_of (scope ∷ outer) = starts_of outer ++ length (kept outer) ∷ []

-- just these scopes are kept: their names, and where each of them starts
pub record HasOpen (scopes : List (List (List ℕ))) (opened : OpenNames) : Type 0 where
  pub names : names_in opened.names ≡ kept scopes
  pub starts : opened.starts.items ≡ starts_of scopes
