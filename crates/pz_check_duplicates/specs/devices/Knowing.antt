-- The names that open classes declare, the innermost class first, and what is noted of them.
use Rattle.std.specs.Prelude.{◌≡◌, ℕ, Bool, List, [], ◌∷◌, ◌++◌, None}
use Rattle.std.specs.Borrow.{Bor}
use Rattle.std.specs.Str.{bytes_eq}
use Rattle.pz_classes.specs.pz_syntax.declared.tokens.Pos.{Pos}
use Rattle.pz_classes.specs.pz_syntax.declared.names.Id.{Id}
use Rattle.pz_check_scopes.specs.Scopes.{Note, value_in}
use Rattle.pz_check_scopes.specs.devices.Holding.{Holds}
use Rattle.pz_check_scopes.specs.declared.nested.Nested.{Nested}
use Rattle.pz_check_duplicates.specs.devices.Inheriting.{earliest}

-- the names of all these classes, those of the outermost first
abbrev pub spread : List (List Id) → List Id
spread [] = []
spread (own ∷ outer) = spread outer ++ own

abbrev pub same_bytes : Bor (List ℕ) → Bor (List ℕ) → Bool
same_bytes x y = bytes_eq x.now y.now

abbrev pub Scope : Type 0
Scope = List (Note (Bor (List ℕ)) Pos)

-- of each of these classes there is a scope, and what is noted in it and outside it are the
-- earliest places of names
abbrev pub Tells : List (List Id) → List Scope → Type 0
Tells [] [] = Unit {0}
Tells (own ∷ outer) (scope ∷ scopes) =
    ((key : Bor (List ℕ)) → value_in same_bytes (scope ∷ scopes) key ≡ earliest None key.now (spread (own ∷ outer))) × Tells outer scopes
Tells _ _ = ⊥

pub record Knows (names : List (List Id)) (known : Nested (Bor (List ℕ)) Pos) : Type 0 where
  pub scopes : List Scope
  pub holds : Holds same_bytes scopes known
  pub tells : Tells names scopes
