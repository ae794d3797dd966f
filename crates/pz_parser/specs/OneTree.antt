-- A text has one tree.
use Rattle.std.specs.Prelude.{◌≡◌, ℕ, List}
use Rattle.pz_syntax.specs.declared.tokens.Pos.{Pos}
use Rattle.pz_syntax.specs.declared.tokens.Token.{Token}
use Rattle.pz_syntax.specs.Classes.{ModelTree}
use Rattle.pz_syntax.specs.ModelText.{text}
use Rattle.pz_syntax.specs.ModelForm.{IsModel}
use Rattle.pz_syntax.specs.ModelErasure.{erase}
use Rattle.pz_parser_cursor.specs.Places.{positions}
use Rattle.pz_parser.specs.ModelPlaces.{place_model}
use Rattle.pz_parser.specs.Parsing.{IsTextOf}

-- whatever the nesting
abbrev pub HasOneTree : Type 0
HasOneTree = (t u : ModelTree) → IsModel t → IsModel u → text t ≡ text u → erase t ≡ erase u

-- a tree with the positions of tokens is that tree up to positions
abbrev pub PlacesAlone : Type 0
PlacesAlone = (at : ℕ → Pos) (n : ℕ) (t : ModelTree) → erase (place_model at n t) ≡ erase t

-- with the positions of the tokens there is one alone
abbrev pub HasOnePlacedTree : Type 0
HasOnePlacedTree = (limit : ℕ) (tokens : List Token) (t u : ModelTree) → IsTextOf limit tokens t → IsTextOf limit tokens u
    → place_model (positions tokens) 0 t ≡ place_model (positions tokens) 0 u
