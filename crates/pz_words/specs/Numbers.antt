-- Numbers in words: decimal digits without sign or leading zero, below 2 ^ 64.
use Rattle.std.specs.Prelude.{◌≡◌, ◌<◌, ◌^◌, ℕ, List, map, All, length}
use Rattle.std.specs.List.{join_with_byte}
use Rattle.std.specs.Fmt.{decimal}

abbrev pub IsShort : ℕ → Type 0
IsShort n = n < 2 ^ 64

-- the word has this number, and nothing else
pub record IsNumber (word : List ℕ) (n : ℕ) : Type 0 where
  pub digits : word ≡ decimal n
  pub short : IsShort n

-- the numbers, separated by single commas
abbrev pub listed : List ℕ → List ℕ
listed numbers = join_with_byte 44 (map decimal numbers)

-- one number or more
pub record AreEntries (numbers : List ℕ) : Type 0 where
  pub some : 0 < length numbers
  pub short : All IsShort numbers
