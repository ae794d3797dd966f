-- Rows of flags, worked out.
use Rattle.std.proofs.Common.{◌≡◌, true, false, [], ◌∷◌, refl}
use Rattle.pz_state_flags.specs.Flags.{is_set}

-- 5 has its bits 0 and 2, and the second word its bit 1

lowest : is_set (5 ∷ 2 ∷ []) 0 ≡ true
lowest = refl

between : is_set (5 ∷ 2 ∷ []) 1 ≡ false
between = refl

third : is_set (5 ∷ 2 ∷ []) 2 ≡ true
third = refl

next_word : is_set (5 ∷ 2 ∷ []) 65 ≡ true
next_word = refl

past_words : is_set (5 ∷ 2 ∷ []) 128 ≡ false
past_words = refl
