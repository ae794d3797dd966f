-- Strings and characters: items between quotes.
use Rattle.std.specs.Prelude.{◌≡◌, ℕ, ◌+◌, ◌*◌, ◌-◌, List, [], ◌∷◌, ◌++◌, Bool, true, ◌&&◌, ◌==◌, nat_le, not, Option, Some, None, if◌then◌else◌}
use Rattle.pz_syntax.specs.pz_items.Characters.{byte}

-- a byte that stands for itself between these quotes: no LF, no `\`, and not the quote
abbrev pub is_plain : ℕ → ℕ → Bool
is_plain quote b = not (b == byte "\n") && not (b == byte "\\") && not (b == quote)

-- what `\` and this byte stand for: `\\`, `\"`, `\'`, `\n`, `\t`, `\r`
abbrev pub escaped : ℕ → Option ℕ
escaped b =
    if b == byte "\\" then Some (byte "\\")
    else (if b == byte "\"" then Some (byte "\"")
    else (if b == byte "'" then Some (byte "'")
    else (if b == byte "n" then Some (byte "\n")
    else (if b == byte "t" then Some (byte "\t")
    else (if b == byte "r" then Some (byte "\r")
    else None)))))

-- what a hexadecimal digit of either case stands for
abbrev pub hex_value : ℕ → Option ℕ
hex_value b =
    if nat_le (byte "0") b && nat_le b (byte "9") then Some (b - byte "0")
    else (if nat_le (byte "a") b && nat_le b (byte "f") then Some (b - (byte "a" - 10))
    else (if nat_le (byte "A") b && nat_le b (byte "F") then Some (b - (byte "A" - 10))
    else None))

-- the text of an item between these quotes, and the byte that it stands for
pub data IsItem (quote : ℕ) : List ℕ → ℕ → Type 0 where
  plain : {b : ℕ} → is_plain quote b ≡ true → IsItem quote (b ∷ []) b
  escape : {b v : ℕ} → escaped b ≡ Some v → IsItem quote (byte "\\" ∷ b ∷ []) v
  hex : {h l m n : ℕ} → hex_value h ≡ Some m → hex_value l ≡ Some n → IsItem quote (byte "\\" ∷ byte "x" ∷ h ∷ l ∷ []) (16 * m + n)

-- the text of items between these quotes, and the bytes that they stand for
pub data AreItems (quote : ℕ) : List ℕ → List ℕ → Type 0 where
  none : AreItems quote [] []
  more : {item text : List ℕ} {v : ℕ} {vs : List ℕ} → IsItem quote item v → AreItems quote text vs → AreItems quote (item ++ text) (v ∷ vs)

-- a string: `"`, items, `"`
pub record IsString (text values : List ℕ) : Type 0 where
  pub inside : List ℕ
  pub spelling : text ≡ byte "\"" ∷ inside ++ byte "\"" ∷ []
  pub items : AreItems (byte "\"") inside values

-- a character: `'`, one item, `'`
pub record IsCharacter (text : List ℕ) (value : ℕ) : Type 0 where
  pub inside : List ℕ
  pub spelling : text ≡ byte "'" ∷ inside ++ byte "'" ∷ []
  pub item : IsItem (byte "'") inside value
