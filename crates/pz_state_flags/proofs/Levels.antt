-- The first flag that is not set, from level to level, and what a change of a flag changes above it.
use Rattle.std.proofs.Common.{◌≡◌, ◌≢◌, ℕ, ◌+◌, ◌*◌, ◌/◌, ◌%◌, ◌^◌, ◌<◌, ◌≤◌, Bool, true, false, nat_eq, if◌then◌else◌, List, length, inl, inr, refl, ap, sym, ◌∙◌, arith, rules, w64}
use Rattle.std.specs.Int.{bit_at, trailing_ones}
use Rattle.std.proofs.lemmas.Bool.{cases_lt}
use Rattle.std.proofs.lemmas.List.{get_or_past}
use Rattle.std.proofs.lemmas.Nat.Bits.{bit_at_ones, bit_at-trailing_ones}
use Rattle.pz_state_flags.specs.Flags.{word_at, is_set, IsFirstClear}
use Rattle.pz_state_flags.specs.devices.Words.{is_full, IsFirstOpen, Tells}

full_is : (word : ℕ) → is_full word ≡ true → word ≡ 18446744073709551615
full_is word e = search rules

open_is : (word : ℕ) → is_full word ≡ false → word ≢ 18446744073709551615
open_is word e = search rules

is_one : (n : ℕ) → n ≡ 1 → nat_eq n 1 ≡ true
is_one n e = search rules

is_zero : (n : ℕ) → n ≡ 0 → nat_eq n 1 ≡ false
is_zero n e = search rules

-- all flags of a full word are set
pub set_in_full : (words : List ℕ) (i : ℕ) → is_full (word_at words (i / 64)) ≡ true → is_set words i ≡ true
set_in_full words i e = is_one _ (ap (λ (w : ℕ). bit_at w (i % 64)) (full_is _ e) ∙ bit_at_ones 64 (i % 64) (omega arith))

-- the first word that is not full is one of the words, or the next
pub open_within : (words : List ℕ) (k : ℕ) → IsFirstOpen words k → k ≤ length words
open_within words k first = elim (cases_lt (length words) k) [
  | inl lt ↦ let none : word_at words (length words) ≡ 0 = get_or_past words (length words) 0 (omega arith) in
      let full = full_is _ (first.below (length words) lt) in absurd (omega arith)
  | inr ge ↦ ge
]

-- the first flag that is not set is one of the first word that is not full
pub clear_in_open : (words : List ℕ) (k : ℕ) → IsFirstOpen words k → word_at words k < 2 ^ 64 → IsFirstClear words (k * 64 + trailing_ones w64 (word_at words k))
clear_in_open words k first fits = let not_full = open_is _ first.not_full in let t = bit_at-trailing_ones w64 (word_at words k) (omega arith) in let n = trailing_ones w64 (word_at words k) in
    let q : (k * 64 + n) / 64 ≡ k = omega (arith, t.0) in let r : (k * 64 + n) % 64 ≡ n = omega (arith, t.0) in record {
      clear = rw (q, r) (is_zero _ t.1);
      below = λ i lt. elim (cases_lt (i / 64) k) [
        | inl before ↦ set_in_full words i (first.below (i / 64) before)
        | inr after ↦ let same : i / 64 ≡ k = omega (arith, t.0) in rw same (is_one _ (t.2 (i % 64) (omega (arith, t.0))))
      ];
    }

-- from the first flag that is not set above to the first word that is not full below
pub opens_below : {lower upper : List ℕ} → Tells lower upper → (k : ℕ) → IsFirstClear upper k → IsFirstOpen lower k
opens_below t k first = record { not_full = sym (t.tells k) ∙ first.clear; below = λ i lt. sym (t.tells i) ∙ first.below i lt }

-- a level with further words of which no flag is set

pub longer_above : {lower upper upper1 : List ℕ} → Tells lower upper → ((k : ℕ) → word_at upper1 k ≡ word_at upper k) → length upper ≤ length upper1 → Tells lower upper1
longer_above t up grows = let c = t.covers in record { tells = λ k. rw (up (k / 64)) (t.tells k); covers = omega arith; small = t.small }

pub longer_below : {lower upper lower1 : List ℕ} (place : ℕ) → Tells lower upper → place < 2 ^ 57 → place / 64 < length upper → ((k : ℕ) → word_at lower1 k ≡ word_at lower k)
    → ((n : ℕ) → length lower ≤ n → place < n → length lower1 ≤ n) → Tells lower1 upper
longer_below {lower} {upper} place t small there low most = record {
  tells = λ k. rw (low k) (t.tells k);
  covers = most (64 * length upper) t.covers (omega (arith, there));
  small = most (2 ^ 57) t.small small;
}

-- a flag is changed below, and that of its word above
pub tells_changed : {lower upper lower1 upper1 : List ℕ} (place : ℕ) (full : Bool) → Tells lower upper → ((k : ℕ) → k ≢ place → word_at lower1 k ≡ word_at lower k) → full ≡ is_full (word_at lower1 place) → length lower1 ≡ length lower
    → ((k : ℕ) → is_set upper1 k ≡ (if nat_eq k place then full else is_set upper k)) → length upper1 ≡ length upper → Tells lower1 upper1
tells_changed {lower} {upper} {lower1} {upper1} place full t low now len up len1 = let c = t.covers in let s = t.small in record {
  tells = λ k. by k (nat_eq k place) refl;
  covers = omega arith;
  small = omega arith;
}
  where
    by : (k : ℕ) (b : Bool) → nat_eq k place ≡ b → is_set upper1 k ≡ is_full (word_at lower1 k)
    by k true e = let same : k ≡ place = search rules in up k ∙ rw (e, same) now
    by k false e = let other : k ≢ place = search rules in up k ∙ rw e (t.tells k ∙ ap is_full (sym (low k other)))
