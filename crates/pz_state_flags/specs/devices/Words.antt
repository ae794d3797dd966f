-- Words that are full, and the level of flags above some words.
use Rattle.std.specs.Prelude.{◌≡◌, ◌<◌, ◌≤◌, ◌*◌, ◌^◌, ℕ, Bool, true, false, nat_eq, List, length}
use Rattle.pz_state_flags.specs.Flags.{word_at, is_set}

-- all flags of a word are set
abbrev pub is_full : ℕ → Bool
is_full word = nat_eq word 18446744073709551615

-- this word is not full, and each before it is
pub record IsFirstOpen (words : List ℕ) (k : ℕ) : Type 0 where
  pub not_full : is_full (word_at words k) ≡ false
  pub below : (i : ℕ) → i < k → is_full (word_at words i) ≡ true

-- the flags of the upper words are set for the full ones of the lower words, and there are enough
pub record Tells (lower upper : List ℕ) : Type 0 where
  pub tells : (k : ℕ) → is_set upper k ≡ is_full (word_at lower k)
  pub covers : length lower ≤ 64 * length upper
  pub small : length lower ≤ 2 ^ 57
