-- Comments: `//` to the end of the line, and `/*` to the next `*/`.
use Rattle.std.specs.Prelude.{◌≡◌, ℕ, List, [], ◌∷◌, ◌++◌, Bool, true, false, ◌||◌, ◌&&◌, ◌==◌, not}
use Rattle.std.specs.List.{list_all}
use Rattle.pz_syntax.specs.pz_items.Characters.{byte}
use Rattle.pz_lexer.specs.Bytes.{begins}

-- whether a text begins with these two bytes
abbrev pub begins_pair : ℕ → ℕ → List ℕ → Bool
begins_pair first second [] = false
begins_pair first second (b ∷ bs) = b == first && begins (λ c. c == second) bs

-- whether these two bytes stand in a text, one behind the other
abbrev pub has_pair : ℕ → ℕ → List ℕ → Bool
has_pair first second [] = false
has_pair first second (b ∷ bs) = begins_pair first second (b ∷ bs) || has_pair first second bs

-- `//` or `/*`
abbrev pub begins_comment : List ℕ → Bool
begins_comment text = begins_pair (byte "/") (byte "/") text || begins_pair (byte "/") (byte "*") text

abbrev pub is_in_line : ℕ → Bool
is_in_line b = not (b == byte "\n")

-- `//` and any bytes but LF; the comment ends before the next LF or at the end.
pub record IsLineComment (text rest : List ℕ) : Type 0 where
  pub body : List ℕ
  pub spelling : text ≡ byte "/" ∷ byte "/" ∷ body
  pub inside : list_all is_in_line body ≡ true
  pub whole : begins is_in_line rest ≡ false

-- `/*`, any bytes, and the next `*/`: no `*/` ends before it.
pub record IsBlockComment (text : List ℕ) : Type 0 where
  pub body : List ℕ
  pub spelling : text ≡ byte "/" ∷ byte "*" ∷ body ++ byte "*" ∷ byte "/" ∷ []
  pub first : has_pair (byte "*") (byte "/") (body ++ byte "*" ∷ []) ≡ false
