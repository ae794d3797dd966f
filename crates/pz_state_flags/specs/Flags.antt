-- Flags as the bits of words, 64 a word and the lowest bit first: a flag for each number from 0 on.
-- No flag is set past the last word.
use Rattle.std.specs.Prelude.{◌≡◌, ◌<◌, ◌*◌, ◌/◌, ◌%◌, ℕ, Bool, true, false, nat_eq, List, length, get_or}
use Rattle.std.specs.Int.{bit_at}

abbrev pub word_at : List ℕ → ℕ → ℕ
word_at words k = get_or words k 0

abbrev pub is_set : List ℕ → ℕ → Bool
is_set words i = nat_eq (bit_at (word_at words (i / 64)) (i % 64)) 1

-- each number below it has its flag in a word
abbrev pub room : List ℕ → ℕ
room words = 64 * length words

-- this flag is not set, and each before it is
pub record IsFirstClear (words : List ℕ) (number : ℕ) : Type 0 where
  pub clear : is_set words number ≡ false
  pub below : (i : ℕ) → i < number → is_set words i ≡ true
