-- Where the parts of a text stand. `at` gives the position of each token by its number.
use Rattle.std.specs.Prelude.{ℕ, zero, suc, ◌+◌, List, [], ◌∷◌, length, Option, Some, None}
use Rattle.pz_syntax.specs.declared.tokens.Pos.{Pos}
use Rattle.pz_syntax.specs.declared.tokens.Mark.{Mark}
use Rattle.pz_syntax.specs.declared.tokens.Token.{Token}
use Rattle.pz_syntax.specs.declared.names.Id.{Id}
use Rattle.pz_syntax.specs.declared.classes.VarGroup.{VarGroup}
use Rattle.pz_syntax.specs.ExpressionErasure.{origin}
use Rattle.pz_syntax.specs.Marks.{word_text}
use Rattle.pz_syntax.specs.ClassText.{group_names, group_text}

-- the tokens of a text that begins at token n
abbrev pub located : (ℕ → Pos) → ℕ → List Mark → List Token
located at n [] = []
located at n (m ∷ ms) = record { mark = m; pos = at n } ∷ located at (suc n) ms

-- the position of the token with this number; behind the end any
abbrev pub positions : List Token → ℕ → Pos
positions [] n = origin
positions (t ∷ ts) zero = t.pos
positions (t ∷ ts) (suc n) = positions ts n

-- what the parts of a tree whose text begins at token n become with the positions of its tokens
abbrev pub Placing : Type 0 → Type 0
Placing A = (ℕ → Pos) → ℕ → A → A

abbrev pub place_id : Placing Id
place_id at n x = record { name = x.name; pos = at n }

-- ---- walking over a text

-- from the number of the token at which something begins to that of the token behind it
abbrev pub Step : Type 0
Step = ℕ → ℕ

-- one token
abbrev pub token : Step
token n = suc n

-- a part with this text
abbrev pub over : List Mark → Step
over text n = n + length text

-- nothing
abbrev pub here : Step
here n = n

-- what stands behind may be told at which number the step begins
infixl 10 ◌>>=◌
abbrev pub ◌>>=◌ : {A : Type 0} → Step → (ℕ → ℕ → A) → ℕ → A
step >>= behind = λ n. behind n (step n)

infixl 10 ◌>>◌
abbrev pub ◌>>◌ : {A : Type 0} → Step → (ℕ → A) → ℕ → A
step >> behind = λ n. behind (step n)

-- at the end of the walk
abbrev pub made : {A : Type 0} → A → ℕ → A
made x n = x

abbrev pub from : {A : Type 0} → ℕ → (ℕ → A) → A
from n walk = walk n

-- ---- names, lists, and what may be left out

module _ {A : Type 0} (text_of : A → List Mark) (place : Placing A) where
  -- each behind a separator
  abbrev pub place_tail : Placing (List A)
  place_tail at n [] = []
  place_tail at n (x ∷ xs) = from n do token; made (place at (← over (text_of x)) x ∷ place_tail at (← here) xs)

  -- with separators between them
  abbrev pub place_separated : Placing (List A)
  place_separated at n [] = []
  place_separated at n (x ∷ xs) = from n do made (place at (← over (text_of x)) x ∷ place_tail at (← here) xs)

  -- one after the other
  abbrev pub place_each : Placing (List A)
  place_each at n [] = []
  place_each at n (x ∷ xs) = from n do made (place at (← over (text_of x)) x ∷ place_each at (← here) xs)

-- what may be left out
abbrev pub place_optional : {A : Type 0} → Placing A → Placing (Option A)
place_optional place at n None = None
place_optional place at n (Some x) = Some (place at n x)

-- behind a keyword
abbrev pub place_section : {A : Type 0} → Placing A → Placing (Option A)
place_section place = place_optional (λ at n x. place at (suc n) x)

abbrev pub place_names : Placing (List Id)
place_names = place_separated word_text place_id

abbrev pub place_group : Placing VarGroup
place_group at n g = from n do names_at ← over (group_names g.names); token; made (record { names = place_names at names_at g.names; kind = place_id at (← here) g.kind })

abbrev pub place_variables : Placing (List VarGroup)
place_variables = place_separated group_text place_group

-- behind the `(` or the `|`
abbrev pub place_enclosed : Placing (List VarGroup)
place_enclosed at n gs = place_variables at (suc n) gs
