-- For private functions: tokens are marked as heads after they are made, from the last to the first.
use Rattle.std.specs.Prelude.{◌≡◌, List, [], ◌∷◌, ◌++◌, Bool}
use Rattle.pz_syntax.specs.Heads.{Role, role, name, colon, opening, closing, other, goes_on, makes_head, is_head}
use Rattle.pz_lexer.specs.declared.kept.Piece.{Piece as Kept}
use Rattle.pz_lexer.specs.declared.heads.Role.{Role as Seen}
use Rattle.pz_lexer.specs.declared.heads.Following.{Following}

-- the role that a function of the code gives
abbrev pub role_of : Seen → Role
role_of Seen.Name = name
role_of Seen.Colon = colon
role_of Seen.Opening = opening
role_of Seen.Closing = closing
role_of Seen.Other = other

-- the roles of tokens and comments; comments have none
abbrev pub role_before : Kept → List Role → List Role
role_before (Kept.Token t) roles = role t.mark.kind ∷ roles
role_before (Kept.Line text) roles = roles
role_before (Kept.Block text) roles = roles

abbrev pub roles_of : List Kept → List Role
roles_of [] = []
roles_of (x ∷ xs) = role_before x (roles_of xs)

-- a token marked as a head, or not, before tokens with these roles
abbrev pub marked_before : Kept → List Role → Kept
marked_before (Kept.Token t) roles = Kept.Token (record t { mark = record (t.mark) { head = is_head (role t.mark.kind) roles } })
marked_before (Kept.Line text) roles = Kept.Line text
marked_before (Kept.Block text) roles = Kept.Block text

abbrev pub with_heads : List Kept → List Kept
with_heads [] = []
with_heads (x ∷ xs) = marked_before x (roles_of xs) ∷ with_heads xs

-- all but the first
abbrev pub rest_of : List Bool → List Bool
rest_of [] = []
rest_of (x ∷ xs) = xs

-- for each `)` that has no match before it, whether `:` or `(` follows it
abbrev pub closings : List Role → List Bool
closings [] = []
closings (opening ∷ xs) = rest_of (closings xs)
closings (closing ∷ xs) = goes_on xs ∷ closings xs
closings (name ∷ xs) = closings xs
closings (colon ∷ xs) = closings xs
closings (other ∷ xs) = closings xs

-- the last first
abbrev pub backwards : List Bool → List Bool
backwards [] = []
backwards (x ∷ xs) = backwards xs ++ x ∷ []

-- what is known is so of the tokens with these roles
pub record Follows (following : Following) (roles : List Role) : Type 0 where
  pub next : following.goes_on ≡ goes_on roles
  pub head : following.makes_head ≡ makes_head roles
  pub stack : following.closings.items ≡ backwards (closings roles)

-- a token with this role is taken in before the others
abbrev pub TakesIn : Following → Following → Seen → Type 0
TakesIn old new seen = (roles : List Role) → Follows old roles → Follows new (role_of seen ∷ roles)

-- it is said whether a token with this role is a head before the others
abbrev pub Judges : Following → Seen → Bool → Type 0
Judges following seen head = (roles : List Role) → Follows following roles → head ≡ is_head (role_of seen) roles

-- a token is marked, or a comment left as it is, and taken in before the others
abbrev pub Marks : Following → Following → Kept → Kept → Type 0
Marks old new piece marked = (roles : List Role) → Follows old roles → (marked ≡ marked_before piece roles) × Follows new (role_before piece roles)
