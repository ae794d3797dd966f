-- What does not go on with a statement, or with a body, that stands before it.
use Rattle.std.proofs.Common.{◌≡◌, ◌≢◌, ◌<◌, Bool, true, false, ◌∷◌, refl, arith}
use Rattle.pz_syntax.specs.declared.tokens.Pos.{Pos}
use Rattle.pz_syntax.specs.declared.tokens.Keyword.TheVariants as k
use Rattle.pz_syntax.specs.declared.tokens.TokenKind.TheVariants as kind
use Rattle.pz_parser_cursor.specs.declared.ahead.Next.{Next}
use Rattle.pz_parser_cursor.specs.declared.ahead.Next.TheVariants as n
use Rattle.pz_parser_cursor.specs.devices.LookAhead.{next, same}
use Rattle.pz_parser_cursor.specs.devices.Input.{Tokens, sees}
use Rattle.pz_parser_cursor.proofs.Joined.{token}
use Rattle.pz_parser_expressions.proofs.Operators.{binding}

abbrev pub EndsStatement : Next → Type 0
EndsStatement x = (binding x < 1) × (x ≢ n.Bang) × (x ≢ n.Query) × (x ≢ n.LeftBrace)

abbrev pub EndsBody : Next → Type 0
EndsBody x = EndsStatement x × (x ≢ n.Semicolon)

abbrev pub ends : Next → Bool
ends n.Bar = false
ends n.Ampersand = false
ends n.Equal = false
ends n.Same = false
ends n.Unequal = false
ends n.Distinct = false
ends n.Less = false
ends n.LessEqual = false
ends n.Greater = false
ends n.GreaterEqual = false
ends n.Plus = false
ends n.Minus = false
ends n.Star = false
ends n.Slash = false
ends n.Word = false
ends n.Init = false
ends n.LeftParen = false
ends n.Assign = false
ends n.Bang = false
ends n.Query = false
ends n.LeftBrace = false
ends n.Semicolon = false
ends _ = true

-- the rest ends a body
pub ends_body : (x : Next) → ends x ≡ true → EndsBody x
ends_body n.Bar e = absurd cc
ends_body n.Ampersand e = absurd cc
ends_body n.Equal e = absurd cc
ends_body n.Same e = absurd cc
ends_body n.Unequal e = absurd cc
ends_body n.Distinct e = absurd cc
ends_body n.Less e = absurd cc
ends_body n.LessEqual e = absurd cc
ends_body n.Greater e = absurd cc
ends_body n.GreaterEqual e = absurd cc
ends_body n.Plus e = absurd cc
ends_body n.Minus e = absurd cc
ends_body n.Star e = absurd cc
ends_body n.Slash e = absurd cc
ends_body n.Word e = absurd cc
ends_body n.Init e = absurd cc
ends_body n.LeftParen e = absurd cc
ends_body n.Assign e = absurd cc
ends_body n.Bang e = absurd cc
ends_body n.Query e = absurd cc
ends_body n.LeftBrace e = absurd cc
ends_body n.Semicolon e = absurd cc
ends_body _ e = ((omega arith, (λ h. absurd cc), (λ h. absurd cc), (λ h. absurd cc)), λ h. absurd cc)

pub semicolon_ends : EndsStatement n.Semicolon
semicolon_ends = (omega arith, (λ h. absurd cc), (λ h. absurd cc), (λ h. absurd cc))

-- ---- the words between branches

pub and_is : (p : Pos) (i : Tokens) → next (token (kind.Key k.And) p ∷ i) ≡ n.And
unfolding next
and_is p i = refl

pub and_seen : (p : Pos) (i : Tokens) → sees n.And (token (kind.Key k.And) p ∷ i) ≡ true
unfolding sees same next
and_seen p i = refl

pub or_is : (p : Pos) (i : Tokens) → next (token (kind.Key k.Or) p ∷ i) ≡ n.Or
unfolding next
or_is p i = refl

pub or_seen : (p : Pos) (i : Tokens) → sees n.Or (token (kind.Key k.Or) p ∷ i) ≡ true
unfolding sees same next
or_seen p i = refl
