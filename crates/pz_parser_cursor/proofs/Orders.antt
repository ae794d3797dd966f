-- In what order the parts of a declaration stand.
use Rattle.std.proofs.Common.{◌≡◌, ◌≢◌, ℕ, suc, ◌+◌, ◌≤◌, ◌<◌, List, ◌∷◌, ◌++◌, length, Option, Some, None, sym, ap, subst, arith}
use Rattle.pz_syntax.specs.declared.tokens.Pos.{Pos}
use Rattle.pz_syntax.specs.declared.tokens.Keyword.{Keyword}
use Rattle.pz_syntax.specs.declared.tokens.TokenKind.TheVariants as kind
use Rattle.pz_syntax.specs.declared.tokens.Mark.{Mark}
use Rattle.pz_syntax.specs.Marks.{section as section_text}
use Rattle.pz_parser_cursor.specs.declared.ahead.Next.{Next}
use Rattle.pz_parser_cursor.specs.declared.ahead.Next.TheVariants as n
use Rattle.pz_parser_cursor.specs.devices.LookAhead.{next}
use Rattle.pz_parser_cursor.specs.devices.Input.{Tokens}
use Rattle.pz_parser_cursor.specs.Places.{located}
use Rattle.pz_parser_cursor.proofs.Reading.{split_located}
use Rattle.pz_parser_cursor.proofs.Joined.{token}

-- The place of the part that begins so. The end and the next declaration come last, and what begins
-- no part of a declaration first.
abbrev pub order : Next → ℕ
order n.Extends = 1
order n.Ports = 2
order n.Messages = 3
order n.Variables = 4
order n.Init = 5
order n.Methods = 6
order n.Instances = 7
order n.Channels = 8
order n.Other = 9
order n.Data = 9
order n.Process = 9
order n.Cluster = 9
order n.System = 9
order _ = 0

-- a later part
abbrev pub Behind : ℕ → Next → Type 0
Behind m x = m < order x

-- the end, or the keyword of the next declaration
abbrev pub Ends : Next → Type 0
Ends x = Behind 8 x

-- a later part is something else
pub behind_not : (m : ℕ) (x y : Next) → Behind m x → order y ≤ m → x ≢ y
behind_not m x y lt le e = let f : order x ≡ order y = ap order e in absurd (omega (arith, lt, le, f))

-- what stands next where a part may have been left out
pub section_behind : {A : Type 0} (m : ℕ) (word : Next) (key : Keyword) (text : A → List Mark) → ((p : Pos) (i : Tokens) → next (token (kind.Key key) p ∷ i) ≡ word) → m < order word
    → (at : ℕ → Pos) (k : ℕ) (o : Option A) (j : Tokens) → Behind m (next j) → Behind m (next (located at k (section_text key text o) ++ j))
section_behind m word key text shown lt at k None j h = h
section_behind m word key text shown lt at k (Some x) j h = let e : order (next (located at k (section_text key text (Some x)) ++ j)) ≡ order word = ap order (shown (at k) (located at (suc k) (text x) ++ j)) in omega (arith, lt, e)

-- the same where more parts follow
pub sections_behind : {A : Type 0} (m : ℕ) (word : Next) (key : Keyword) (text : A → List Mark) → ((p : Pos) (i : Tokens) → next (token (kind.Key key) p ∷ i) ≡ word) → m < order word
    → (at : ℕ → Pos) (k : ℕ) (o : Option A) (rest : List Mark) (j : Tokens) → Behind m (next (located at (k + length (section_text key text o)) rest ++ j)) → Behind m (next (located at k (section_text key text o ++ rest) ++ j))
sections_behind m word key text shown lt at k o rest j h = subst (λ i. Behind m (next i)) (sym (split_located at k (section_text key text o) rest j)) (section_behind m word key text shown lt at k o (located at (k + length (section_text key text o)) rest ++ j) h)
