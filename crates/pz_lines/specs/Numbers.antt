-- Numbers: decimal digits without sign or leading zero, below 2 ^ 64.
use Rattle.std.specs.Prelude.{ℕ, ◌^◌, nat_lt, Bool, ◌&&◌, if◌then◌else◌, bytes_eq, List, Option, Some, None}
use Rattle.std.specs.Fmt.{decimal}
use Rattle.std.specs.Str.Parse.{digits_value}

abbrev pub only_if : {A : Type 0} → Bool → A → Option A
only_if b x = if b then Some x else None

-- the number whose decimal is the word, if it is below 2 ^ 64
abbrev pub number_of : List ℕ → Option ℕ
number_of word = only_if (nat_lt (digits_value 10 word) (2 ^ 64) && bytes_eq word (decimal (digits_value 10 word))) (digits_value 10 word)
