-- What is kept of scopes, so that they can be asked and left.
use Rattle.std.specs.Prelude.{◌≡◌, ℕ, Bool, List, [], ◌∷◌, ◌++◌, length}
use Rattle.std.specs.Option.{option_flatten}
use Rattle.indexmap.specs.IndexMap.{get}
use Rattle.pz_check_scopes.specs.Scopes.{Note, notes_of, latest}
use Rattle.pz_check_scopes.specs.declared.nested.Change.{Change}
use Rattle.pz_check_scopes.specs.declared.nested.Nested.{Nested}

module _ {K V : Type 0} where
  -- how many notes stand outside each of these scopes, for the outermost scope first
  abbrev pub starts_of : List (List (Note K V)) → List ℕ
  starts_of [] = []
  starts_of (scope ∷ outer) = starts_of outer ++ length (notes_of outer) ∷ []

module _ {K V : Type 0} (eq : K → K → Bool) where
  -- what each of these notes changed, that of the oldest first
  abbrev pub changes_of : List (Note K V) → List (Change K V)
  changes_of [] = []
  changes_of (n ∷ ns) = changes_of ns ++ record { key = n.key; before = latest eq ns n.key } ∷ []

  -- just these notes are kept: what they say of each key, and what each of them changed
  pub record Keeps (notes : List (Note K V)) (nested : Nested K V) : Type 0 where
    pub values : (key : K) → option_flatten (get eq nested.notes key) ≡ latest eq notes key
    pub changes : nested.changes.items ≡ changes_of notes

  -- just these scopes are kept: their notes, and where each of them starts
  pub record Holds (scopes : List (List (Note K V))) (nested : Nested K V) : Type 0 where
    pub notes : Keeps (notes_of scopes) nested
    pub starts : nested.starts.items ≡ starts_of scopes
