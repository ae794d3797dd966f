-- What a quote begins, computed.
use Rattle.std.specs.Prelude.{ℕ, ◌+◌, ◌*◌, List, [], ◌∷◌, ◌++◌, Bool, true, false, ◌==◌, Option, None, Some, if◌then◌else◌, drop}
use Rattle.pz_syntax.specs.declared.tokens.TokenKind.{TokenKind}
use Rattle.pz_lexer.specs.Bytes.{begins}
use Rattle.pz_lexer.specs.Quoted.{escaped, hex_value}
use Rattle.pz_lexer.specs.declared.sorts.Sort.{Sort}
use Rattle.pz_lexer.specs.declared.sorts.Reason.{Reason}
use Rattle.pz_lexer.specs.devices.Step.{piece, stop, Step}

-- what stands in quotes at some place: an item and the rest, a `\` of no escape, the closing quote, or
-- an LF or the end
pub data Inside : Type 0 where
  item : List ℕ → ℕ → List ℕ → Inside
  no_escape : Inside
  closing : Inside
  cut_off : Inside

abbrev pub hex_by : Option ℕ → Option ℕ → ℕ → ℕ → List ℕ → Inside
hex_by (Some m) (Some n) h l rest = item (92 ∷ 120 ∷ h ∷ l ∷ []) (16 * m + n) rest
hex_by _ _ h l rest = no_escape

abbrev pub hex_at : List ℕ → Inside
hex_at (h ∷ l ∷ rest) = hex_by (hex_value h) (hex_value l) h l rest
hex_at _ = no_escape

abbrev pub escape_by : Option ℕ → ℕ → List ℕ → Inside
escape_by (Some v) e rest = item (92 ∷ e ∷ []) v rest
escape_by None e rest = elim (e == 120) [ true ↦ hex_at rest | false ↦ no_escape ]

abbrev pub escape_at : List ℕ → Inside
escape_at [] = no_escape
escape_at (e ∷ rest) = escape_by (escaped e) e rest

abbrev pub inside_at : ℕ → List ℕ → Inside
inside_at quote [] = cut_off
inside_at quote (b ∷ bs) =
    if b == 10 then cut_off
    else (if b == 92 then escape_at bs
    else (if b == quote then closing
    else item (b ∷ []) b bs))

-- all items at the front, their bytes, and what follows them
pub data Items : Type 0 where
  items : List ℕ → List ℕ → List ℕ → Items

abbrev pub more_items : List ℕ → ℕ → Items → Items
more_items text v (items others vs rest) = items (text ++ others) (v ∷ vs) rest

abbrev pub items_by : Inside → List ℕ → (List ℕ → Items) → Items
items_by (item text v rest) bs go = more_items text v (go rest)
items_by _ bs go = items [] [] bs

-- the first list bounds how many there may be
abbrev pub items_at : List ℕ → ℕ → List ℕ → Items
items_at [] quote bs = items [] [] bs
items_at (_ ∷ bound) quote bs = items_by (inside_at quote bs) bs (items_at bound quote)

abbrev pub string_end : Inside → List ℕ → List ℕ → List ℕ → Step
string_end closing text vs rest = piece (34 ∷ text ++ 34 ∷ []) (Sort.Token (TokenKind.Str vs)) (drop 1 rest)
string_end no_escape text vs rest = stop (34 ∷ text) rest Reason.BadByte
string_end _ text vs rest = stop [] (34 ∷ text ++ rest) Reason.OpenString

abbrev pub string_by : Items → Step
string_by (items text vs rest) = string_end (inside_at 34 rest) text vs rest

-- what a `"` begins, given what follows it
abbrev pub string_step : List ℕ → Step
string_step bs = string_by (items_at bs 34 bs)

abbrev pub character_end : Bool → List ℕ → ℕ → List ℕ → Step
character_end true text v rest = piece (39 ∷ text ++ 39 ∷ []) (Sort.Token (TokenKind.Char v)) (drop 1 rest)
character_end false text v rest = stop [] (39 ∷ text ++ rest) Reason.OpenString

abbrev pub character_by : Inside → List ℕ → Step
character_by (item text v rest) bs = character_end (begins (λ b. b == 39) rest) text v rest
character_by no_escape bs = stop (39 ∷ []) bs Reason.BadByte
character_by _ bs = stop [] (39 ∷ bs) Reason.OpenString

-- what a `'` begins, given what follows it
abbrev pub character_step : List ℕ → Step
character_step bs = character_by (inside_at 39 bs) bs
