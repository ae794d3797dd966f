-- The text of values and of parcels.
use Rattle.std.specs.Prelude.{ℕ, ◌+◌, ◌-◌, ◌/◌, ◌%◌, ◌||◌, ◌&&◌, nat_eq, nat_le, nat_lt, if◌then◌else◌, List, [], ◌∷◌, ◌++◌, map, codes, unwrap_or, slice_get}
use Rattle.std.specs.List.{flat_map}
use Rattle.std.specs.Fmt.{decimal, signed_decimal}
use Rattle.pz_items.specs.Characters.{byte}
use Rattle.pz_state.specs.pz_value.declared.value.ClassId.{ClassId}
use Rattle.pz_state.specs.pz_value.declared.value.Value.{Value}
use Rattle.pz_state.specs.pz_value.declared.value.Value.TheVariants as value
use Rattle.pz_state.specs.Objects.{ObjectView}
use Rattle.pz_copy.specs.Parcels.{ParcelView}

-- lower case hexadecimal
abbrev pub hex_digit : ℕ → ℕ
hex_digit d = if nat_lt d 10 then byte "0" + d else (byte "a" - 10) + d

-- an item between these quotes: a backslash or a quote after a backslash, a byte from 32 to 126 as it
-- is, and any other as `\x` with two digits
abbrev pub item_text : ℕ → ℕ → List ℕ
item_text quote b =
    if nat_eq b (byte "\\") || nat_eq b quote then byte "\\" ∷ b ∷ []
    else (if nat_le (byte " ") b && nat_le b (byte "~") then b ∷ []
    else byte "\\" ∷ byte "x" ∷ hex_digit (b / 16) ∷ hex_digit (b % 16) ∷ [])

abbrev pub quoted : ℕ → List ℕ → List ℕ
quoted quote bytes = quote ∷ (flat_map (item_text quote) bytes ++ quote ∷ [])

-- a Char stands between single quotes, a String between double ones, and a reference behind a `#`
abbrev pub value_text : Value → List ℕ
value_text value.Nil = codes "nil"
value_text (value.Bool b) = if b then codes "true" else codes "false"
value_text (value.Int n) = signed_decimal n
value_text (value.Char c) = quoted (byte "'") (c ∷ [])
value_text (value.Str bytes) = quoted (byte "\"") bytes
value_text (value.Ref r) = byte "#" ∷ decimal r

-- texts with a byte between each two
abbrev pub separated : ℕ → List (List ℕ) → List ℕ
separated mark [] = []
separated mark (t ∷ ts) = t ++ flat_map (λ u. mark ∷ u) ts

-- separated by commas
abbrev pub values_text : List Value → List ℕ
values_text values = separated (byte ",") (map value_text values)

-- the name of a class by its number; nothing where it has none
abbrev pub name_of : List (List ℕ) → ClassId → List ℕ
name_of names class = unwrap_or (slice_get names class.0) []

-- `#`, the number, `=`, the class, and the items in brackets
abbrev pub object_text : List (List ℕ) → ℕ → ObjectView → List ℕ
object_text names number o = byte "#" ∷ (decimal number ++ byte "=" ∷ (name_of names o.class ++ byte "[" ∷ (values_text o.items ++ byte "]" ∷ [])))

-- the text of each of these objects, of which the first has this number
abbrev pub object_texts : List (List ℕ) → ℕ → List ObjectView → List (List ℕ)
object_texts names number [] = []
object_texts names number (o ∷ os) = object_text names number o ∷ object_texts names (number + 1) os

-- in braces and separated by semicolons; nothing where there is no object
abbrev pub objects_text : List (List ℕ) → List ObjectView → List ℕ
objects_text names [] = []
objects_text names (o ∷ os) = byte "{" ∷ (separated (byte ";") (object_texts names 0 (o ∷ os)) ++ byte "}" ∷ [])

-- the values in parentheses, then the objects
abbrev pub parcel_text : List (List ℕ) → ParcelView → List ℕ
parcel_text names p = byte "(" ∷ (values_text p.values ++ byte ")" ∷ objects_text names p.objects)
