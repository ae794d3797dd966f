-- Identifiers are words.
use Rattle.std.proofs.Common.{◌≡◌, ◌≢◌, refl, ℕ, ◌≤◌, Bool, true, false, ◌&&◌, not, List, [], ◌∷◌, arith}
use Rattle.std.specs.Prelude.{eqb}
use Rattle.std.specs.List.{list_all}
use Rattle.std.proofs.lemmas.Bool.{eqb-true}
use Rattle.std.proofs.lemmas.Bool.Decides.{nat_tests}
use Rattle.pz_lexer.specs.Bytes.{is_letter, is_word}
use Rattle.pz_lines.specs.Words.{is_inside, IsWord}
use Rattle.pz_lines.specs.Identifiers.{is_identifier, is_reserved}

word_byte : (b : ℕ) → is_word b ≡ true → 48 ≤ b
word_byte b e = grind (arith, nat_tests)

not_same : (b k : ℕ) → b ≢ k → not (eqb b k) ≡ true
not_same b k differ = by_answer (eqb b k) (eqb-true b k)
  where
    by_answer : (r : Bool) → (r ≡ true → b ≡ k) → not r ≡ true
    by_answer true same = absurd (differ (same refl))
    by_answer false same = refl

both_true : (a b : Bool) → a ≡ true → b ≡ true → a && b ≡ true
both_true true b ea eb = eb
both_true false b ea eb = ea

and_split : (a b : Bool) → a && b ≡ true → (a ≡ true) × (b ≡ true)
and_split true b e = (refl, e)
and_split false b e = absurd cc

inside : (name : List ℕ) → list_all is_word name ≡ true → list_all is_inside name ≡ true
inside [] e = refl
inside (b ∷ bs) e =
    let parts = and_split (is_word b) (list_all is_word bs) e in
    let high : 48 ≤ b = word_byte b parts.0 in
    both_true (is_inside b) (list_all is_inside bs)
    (both_true (not (eqb b 32)) (not (eqb b 10)) (not_same b 32 (λ (same : b ≡ 32). omega arith)) (not_same b 10 (λ (same : b ≡ 10). omega arith)))
    (inside bs parts.1)

pub identifiers_are_words : (name : List ℕ) → is_identifier name ≡ true → IsWord name
identifiers_are_words [] e = absurd cc
identifiers_are_words (b ∷ bs) e =
    let parts = and_split (is_letter b) (list_all is_word (b ∷ bs) && not (is_reserved (b ∷ bs))) e in
    record { some = λ (none : b ∷ bs ≡ []). cc; inside = inside (b ∷ bs) (and_split (list_all is_word (b ∷ bs)) (not (is_reserved (b ∷ bs))) parts.1).0 }
