-- Lists, as devices of the proofs. A number bounds the turns; each turn takes a token.
use Rattle.std.specs.Prelude.{ℕ, zero, suc, Bool, if◌then◌else◌, List, [], ◌∷◌, ◌++◌, length, Ok, Err}
use Rattle.pz_parser_cursor.specs.declared.ahead.Next.{Next}
use Rattle.pz_parser_cursor.specs.devices.Input.{Tokens}
use Rattle.pz_parser_cursor.specs.devices.Device.{Outcome, Parser, ◌>>=◌, pure, eat}

abbrev pub turns : Tokens → ℕ
turns i = length i

-- goes on with what was read before
abbrev pub with_front : {A : Type 0} → List A → Outcome (List A) → Outcome (List A)
with_front front (Ok p) = Ok (front ++ p.0, p.1)
with_front front (Err e) = Err e

-- each behind a separator
unfoldable pub tail_of : {A : Type 0} → Parser A → Next → ℕ → Parser (List A)
tail_of item separator zero = pure []
tail_of item separator (suc turn) = do
  again ← eat separator
  if again then (do x ← item; xs ← tail_of item separator turn; pure (x ∷ xs)) else pure []

-- the list that begins so
unfoldable pub more_of : {A : Type 0} → Parser A → Next → List A → Parser (List A)
more_of item separator front = λ i. with_front front (tail_of item separator (turns i) i)

-- one or more, with the separator between them
unfoldable pub list_of : {A : Type 0} → Parser A → Next → Parser (List A)
list_of item separator = do
  x ← item
  more_of item separator (x ∷ [])

-- as long as one begins
unfoldable pub repeat : {A : Type 0} → (Tokens → Bool) → Parser A → ℕ → Parser (List A)
repeat begins item zero = pure []
repeat begins item (suc turn) = λ i. if begins i then (do x ← item; xs ← repeat begins item turn; pure (x ∷ xs)) i else Ok ([], i)

-- none or more, without separators
unfoldable pub each_of : {A : Type 0} → (Tokens → Bool) → Parser A → Parser (List A)
each_of begins item = λ i. repeat begins item (turns i) i
