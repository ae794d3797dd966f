-- Which tokens of a list are heads.
use Rattle.std.specs.Prelude.{ℕ, zero, suc, Bool, true, false, List, [], ◌∷◌, map}
use Rattle.pz_syntax.specs.declared.tokens.Symbol.TheVariants as s
use Rattle.pz_syntax.specs.declared.tokens.Keyword.TheVariants as k
use Rattle.pz_syntax.specs.declared.tokens.TokenKind.{TokenKind}
use Rattle.pz_syntax.specs.declared.tokens.TokenKind.TheVariants as kind

-- what a token is to the rule for heads; `init` is a name
pub data Role : Type 0 where
  name : Role
  colon : Role
  opening : Role
  closing : Role
  other : Role

abbrev pub role : TokenKind → Role
role (kind.Ident x) = name
role (kind.Key k.Init) = name
role (kind.Sym s.Colon) = colon
role (kind.Sym s.LeftParen) = opening
role (kind.Sym s.RightParen) = closing
role _ = other

-- what stands behind the `)` that matches, where so many more `(` are open; nothing without a match
abbrev pub behind_match : ℕ → List Role → List Role
behind_match more [] = []
behind_match more (opening ∷ xs) = behind_match (suc more) xs
behind_match zero (closing ∷ xs) = xs
behind_match (suc more) (closing ∷ xs) = behind_match more xs
behind_match more (name ∷ xs) = behind_match more xs
behind_match more (colon ∷ xs) = behind_match more xs
behind_match more (other ∷ xs) = behind_match more xs

-- it begins with `:` or `(`
abbrev pub goes_on : List Role → Bool
goes_on (colon ∷ xs) = true
goes_on (opening ∷ xs) = true
goes_on _ = false

-- a name before it is a head: `:` comes next, or brackets that `:` or `(` follows
abbrev pub makes_head : List Role → Bool
makes_head (colon ∷ xs) = true
makes_head (opening ∷ xs) = goes_on (behind_match 0 xs)
makes_head _ = false

-- it is a head before the others
abbrev pub is_head : Role → List Role → Bool
is_head name xs = makes_head xs
is_head _ xs = false

abbrev pub role_heads : List Role → List Bool
role_heads [] = []
role_heads (x ∷ xs) = is_head x xs ∷ role_heads xs

-- for each token, whether it is a head
abbrev pub heads : List TokenKind → List Bool
heads kinds = role_heads (map role kinds)
