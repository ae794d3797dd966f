-- Decimal digits, and texts that are cut at a byte which no digit is.
use Rattle.std.proofs.Common.{◌≡◌, ◌≤◌, ◌<◌, refl, sym, ap, ◌∙◌, ℕ, zero, suc, ◌+◌, ◌/◌, ◌%◌, Bool, true, false, List, [], ◌∷◌, ◌++◌, arith}
use Rattle.std.specs.Prelude.{nat_eq, nat_lt, ◌==◌, ◌||◌, if◌then◌else◌}
use Rattle.std.specs.List.{list_any}
use Rattle.std.specs.Fmt.{digits, digits_onto, digit_glyph, decimal}
use Rattle.std.proofs.lemmas.Bool.{cond-true, ne_eqb, eq-eqb, lt-ltb, false≢true}
use Rattle.pz_trace.specs.Laws.{SameFront}
use Rattle.pz_trace.specs.devices.Reading.{Lacks}

pub head_is : {x y : ℕ} {xs ys : List ℕ} → x ∷ xs ≡ y ∷ ys → x ≡ y
head_is h = cc

pub tail_is : {x y : ℕ} {xs ys : List ℕ} → x ∷ xs ≡ y ∷ ys → xs ≡ ys
tail_is h = cc

-- Lists that lack a byte

neither : (a b : Bool) → (a || b) ≡ false → (a ≡ false) × (b ≡ false)
neither false b e = (refl, e)
neither true b e = absurd (false≢true (sym e))

pub lacks_first : (x y : ℕ) (ys : List ℕ) → Lacks x (y ∷ ys) → x ≡ y → ⊥
lacks_first x y ys lacks same = false≢true (sym (neither (nat_eq x y) (list_any (nat_eq x) ys) lacks).0 ∙ eq-eqb x y same)

pub lacks_rest : (x y : ℕ) (ys : List ℕ) → Lacks x (y ∷ ys) → Lacks x ys
lacks_rest x y ys lacks = (neither (nat_eq x y) (list_any (nat_eq x) ys) lacks).1

-- the first place of a byte cuts a text in one way
pub cut_once : (x : ℕ) (a b c d : List ℕ) → Lacks x a → Lacks x c → a ++ (x ∷ b) ≡ c ++ (x ∷ d) → SameFront a c b d
cut_once x [] b [] d none other e = record { same_line = refl; same_rest = tail_is e }
cut_once x [] b (y ∷ c) d none other e = absurd (lacks_first x y c other (head_is e))
cut_once x (y ∷ a) b [] d none other e = absurd (lacks_first x y a none (sym (head_is e)))
cut_once x (y ∷ a) b (z ∷ c) d none other e =
    let same = cut_once x a b c d (lacks_rest x y a none) (lacks_rest x z c other) (tail_is e) in
    record { same_line = ap (λ (n : ℕ). n ∷ a) (head_is e) ∙ ap (λ (l : List ℕ). z ∷ l) same.same_line; same_rest = same.same_rest }

pub cancel : (a b c : List ℕ) → a ++ b ≡ a ++ c → b ≡ c
cancel [] b c e = e
cancel (x ∷ a) b c e = cancel a b c (tail_is e)

-- Digits

glyph_is : (n : ℕ) → digit_glyph false (n % 10) ≡ 48 + n % 10
glyph_is n = cond-true (nat_lt (n % 10) 10) (48 + n % 10) (87 + n % 10) (lt-ltb (n % 10) 10 (omega arith))

either_lacks : (x : ℕ) (b : Bool) (s t : List ℕ) → Lacks x s → Lacks x t → Lacks x (if b then s else t)
either_lacks x true s t one other = one
either_lacks x false s t one other = other

digits_lack : (x k n : ℕ) (acc : List ℕ) → x < 48 → Lacks x acc → Lacks x (digits_onto k 10 false n acc)
digits_lack x zero n acc small lacks = lacks
digits_lack x (suc k) n acc small lacks =
    let glyph = digit_glyph false (n % 10) in
    let apart : nat_eq x glyph ≡ false = ne_eqb x glyph (λ same. omega (arith, same, glyph_is n)) in
    let more : Lacks x (glyph ∷ acc) = rw (apart, lacks) refl in
    either_lacks x (n / 10 == 0) (glyph ∷ acc) (digits_onto k 10 false (n / 10) (glyph ∷ acc)) more (digits_lack x k (n / 10) (glyph ∷ acc) small more)

pub decimal_lacks : (x n : ℕ) → x < 48 → Lacks x (decimal n)
unfolding digits
decimal_lacks x n small = digits_lack x 64 n [] small refl

-- a digit stands first
pub record BeginsWithDigit (text : List ℕ) : Type 0 where
  pub first : ℕ
  pub rest : List ℕ
  pub low : 48 ≤ first
  pub high : first < 58
  pub is : text ≡ first ∷ rest

either_begins : (b : Bool) (s t : List ℕ) → BeginsWithDigit s → BeginsWithDigit t → BeginsWithDigit (if b then s else t)
either_begins true s t one other = one
either_begins false s t one other = other

glyph_begins : (n : ℕ) (acc : List ℕ) → BeginsWithDigit (digit_glyph false (n % 10) ∷ acc)
glyph_begins n acc = record { first = digit_glyph false (n % 10); rest = acc; low = omega (arith, glyph_is n); high = omega (arith, glyph_is n); is = refl }

digits_begin : (k n : ℕ) (acc : List ℕ) → BeginsWithDigit acc → BeginsWithDigit (digits_onto k 10 false n acc)
digits_begin zero n acc begins = begins
digits_begin (suc k) n acc begins =
    let more = digit_glyph false (n % 10) ∷ acc in
    either_begins (n / 10 == 0) more (digits_onto k 10 false (n / 10) more) (glyph_begins n acc) (digits_begin k (n / 10) more (glyph_begins n acc))

digits_some : (k n : ℕ) → BeginsWithDigit (digits_onto (suc k) 10 false n [])
digits_some k n =
    let more = digit_glyph false (n % 10) ∷ [] in
    either_begins (n / 10 == 0) more (digits_onto k 10 false (n / 10) more) (glyph_begins n []) (digits_begin k (n / 10) more (glyph_begins n []))

pub decimal_begins : (n : ℕ) → BeginsWithDigit (decimal n)
unfolding digits
decimal_begins n = digits_some 63 n
