-- Scopes are a list of lists of notes: the innermost scope first, and in a scope the latest note first.
use Rattle.std.specs.Prelude.{ℕ, ◌-◌, Bool, List, [], ◌∷◌, length, drop, Option, None, Some, if◌then◌else◌}
use Rattle.std.specs.List.{flat_map}
use Rattle.std.specs.Option.{option_or}

-- a key and what is noted for it
pub record Note (K V : Type 0) : Type 0 where
  pub key : K
  pub value : V

-- the notes of all these scopes, the latest first
abbrev pub notes_of : {K V : Type 0} → List (List (Note K V)) → List (Note K V)
notes_of scopes = flat_map (λ scope. scope) scopes

module _ {K V : Type 0} (eq : K → K → Bool) where
  -- what the first of these notes that is for the key says
  abbrev pub latest : List (Note K V) → K → Option V
  latest [] key = None
  latest (n ∷ ns) key = if eq key n.key then Some n.value else latest ns key

  -- the latest note for the key in the first of these scopes that has one
  abbrev pub value_in : List (List (Note K V)) → K → Option V
  value_in [] key = None
  value_in (scope ∷ outer) key = option_or (latest scope key) (value_in outer key)

-- the last n of these: of scopes, the outermost n
abbrev pub outermost : {A : Type 0} → ℕ → List A → List A
outermost n xs = drop (length xs - n) xs
