-- The steps that every rule of the grammar is made of, as functions on the tokens that are left.
-- A device of the proofs: the code is held against these functions, and the functions against the
-- text of well-formed trees.
use Rattle.std.specs.Prelude.{◌≡◌, ◌≢◌, ℕ, ℤ, zero, suc, Bool, if◌then◌else◌, List, [], length, Option, Some, None, Result, Ok, Err}
use Rattle.pz_syntax.specs.declared.names.Id.{Id}
use Rattle.pz_syntax.specs.declared.exprs.Literal.{Literal}
use Rattle.pz_parser_cursor.specs.declared.ahead.Next.{Next}
use Rattle.pz_parser_cursor.specs.declared.refusal.Refusal.{Refusal}
use Rattle.pz_parser_cursor.specs.declared.refusal.Refusal.TheVariants.{NoMemory, Syntax, TooNested}
use Rattle.pz_parser_cursor.specs.devices.LookAhead.{next}
use Rattle.pz_parser_cursor.specs.devices.Input.{Tokens, after, identifier, literal, number, sees}

abbrev pub Outcome : Type 0 → Type 0
Outcome A = Result (A × Tokens) Refusal

abbrev pub Parser : Type 0 → Type 0
Parser A = Tokens → Outcome A

abbrev pub and_then : {A B : Type 0} → Outcome A → (A → Parser B) → Outcome B
and_then (Ok p) f = f p.0 p.1
and_then (Err e) f = Err e

infixl 10 ◌>>=◌
abbrev pub ◌>>=◌ : {A B : Type 0} → Parser A → (A → Parser B) → Parser B
p >>= f = λ i. and_then (p i) f

infixl 10 ◌>>◌
abbrev pub ◌>>◌ : {A B : Type 0} → Parser A → Parser B → Parser B
p >> q = p >>= (λ _. q)

abbrev pub pure : {A : Type 0} → A → Parser A
pure a = λ i. Ok (a, i)

infixr 11 ◌<$>◌
abbrev pub ◌<$>◌ : {A B : Type 0} → (A → B) → Parser A → Parser B
f <$> p = p >>= (λ x. pure (f x))

abbrev pub refuse : {A : Type 0} → Parser A
refuse = λ i. Err (Syntax (length i))

abbrev pub peek : Parser Next
peek = λ i. Ok (next i, i)

-- asks without taking anything
abbrev pub ask : {A : Type 0} → (Tokens → A) → Parser A
ask question = λ i. Ok (question i, i)

abbrev pub skip : Parser (Unit {0})
skip = λ i. Ok (tt, after i)

-- a token that stands as a name
abbrev pub take_id : Parser Id
take_id = λ i. Ok (identifier i, after i)

abbrev pub take_literal : Parser Literal
take_literal = λ i. Ok (literal i, after i)

abbrev pub take_number : Parser ℤ
take_number = λ i. Ok (number i, after i)

unfoldable pub past : Next → Tokens → Tokens
past x i = if sees x i then after i else i

-- takes the token, if it comes next
abbrev pub eat : Next → Parser Bool
eat x = λ i. Ok (sees x i, past x i)

unfoldable pub expect : Next → Parser (Unit {0})
expect x = λ i. if sees x i then Ok (tt, after i) else Err (Syntax (length i))

-- a name that stands so
unfoldable pub expect_id : Next → Parser Id
expect_id x = λ i. if sees x i then Ok (identifier i, after i) else Err (Syntax (length i))

-- takes the token that opens one more construct, if so many may nest
unfoldable pub deepen : ℕ → Parser (Unit {0})
deepen zero = λ i. Err (TooNested (length i))
deepen (suc d) = λ i. Ok (tt, after i)

-- what is there only where it begins so
abbrev pub optional : {A : Type 0} → (Tokens → Bool) → Parser A → Parser (Option A)
optional begins p = λ i. if begins i then (Some <$> p) i else Ok (None, i)

-- what stands behind this token
abbrev pub behind : {A : Type 0} → Next → Parser A → Parser A
behind word p = expect word >> p

-- what stands behind a keyword, where that comes next
abbrev pub section : {A : Type 0} → Next → Parser A → Parser (Option A)
section word p = optional (sees word) (behind word p)

-- a list that is empty where it does not begin so
abbrev pub or_none : {A : Type 0} → (Tokens → Bool) → Parser (List A) → Parser (List A)
or_none begins p = λ i. if begins i then p i else Ok ([], i)

-- What a function that parses ensures: this outcome, unless memory fails.
abbrev pub Reads : {X A : Type 0} → (X → A) → Outcome A → Result X Refusal → Tokens → Type 0
Reads view outcome (Ok x) left = outcome ≡ Ok (view x, left)
Reads view outcome (Err e) left = e ≢ NoMemory → outcome ≡ Err e

-- a value that meets P, unless memory fails
abbrev pub MakesOr : {X : Type 0} → (X → Type 0) → Result X Refusal → Type 0
MakesOr P (Ok x) = P x
MakesOr P (Err e) = e ≡ NoMemory
