-- The numbers of words.
use Rattle.std.proofs.Common.{◌≡◌, refl, sym, ap, subst, ◌∙◌, ℕ, zero, suc, ◌≤◌, ◌<◌, List, [], ◌∷◌, get_or, Option, Some, None, arith, lit<}
use Rattle.std.specs.Prelude.{nat_le}
use Rattle.std.specs.Fmt.{decimal}
use Rattle.std.specs.Int.{IsInRange}
use Rattle.std.specs.Str.{IsUtf8, IsAscii}
use Rattle.std.specs.Str.Parse.{AllDigits}
use Rattle.std.proofs.lemmas.Bool.{le-leb, leb-true}
use Rattle.std.proofs.lemmas.Str.{IsUtf8-from_ascii}
use Rattle.std.proofs.lemmas.Str.Parse.{digit_at}
use Rattle.std.proofs.lemmas.Fmt.{decimal_is_IsNumeral}
use Rattle.pz_words.specs.Numbers.{IsShort, IsNumber}
use Rattle.pz_words.specs.devices.Reading.{number_of, only_if, then_maybe}
use Rattle.pz_words.proofs.Outcomes.{then_some, only_if_some, only_if_true}
use Rattle.pz_words.proofs.Numerals.{is_number, found}
use Rattle.pz_debug_commands.specs.Lines.{Lacks}
use Rattle.pz_debug_commands.specs.Commands.{step_limit}
use Rattle.pz_debug_commands.specs.devices.Reading.{count_of}

digits_of : (word : List ℕ) (n : ℕ) → IsNumber word n → AllDigits 10 word
digits_of word n is = subst (AllDigits 10) (sym is.digits) (decimal_is_IsNumeral n is.short).0.1

ascii : (ds : List ℕ) → AllDigits 10 ds → IsAscii ds
ascii [] all i = lit< tt
ascii (d ∷ ds) all zero =
    let digit : IsInRange 48 57 (get_or (d ∷ ds) 0 0) = digit_at (d ∷ ds) 0 all (omega arith) in
    let high : d ≤ 57 = digit.1 in
    omega arith
ascii (d ∷ ds) all (suc i) = ascii ds all.1 i

-- what is no text is no number
pub no_text : (word : List ℕ) → ¬ (IsUtf8 word) → number_of word ≡ None
no_text word none = by (number_of word) refl
  where
    by : (o : Option ℕ) → number_of word ≡ o → o ≡ None
    by None e = refl
    by (Some n) e = absurd (none (IsUtf8-from_ascii word (ascii word (digits_of word n (is_number n word e)))))

lacks_small : (c : ℕ) (ds : List ℕ) → c < 48 → AllDigits 10 ds → Lacks c ds
lacks_small c [] small all = tt
lacks_small c (d ∷ ds) small all =
    let digit : IsInRange 48 57 (get_or (d ∷ ds) 0 0) = digit_at (d ∷ ds) 0 all (omega arith) in
    let low : 48 ≤ d = digit.0 in
    (λ (e : d ≡ c). omega arith, lacks_small c ds small all.1)

-- no blank stands in a number
pub number_lacks : (c n : ℕ) → c < 48 → IsShort n → Lacks c (decimal n)
number_lacks c n small short = lacks_small c (decimal n) small (decimal_is_IsNumeral n short).0.1

pub counted : (n : ℕ) → n ≤ step_limit → count_of (decimal n) ≡ Some n
counted n few =
    let short : IsShort n = omega arith in
    ap (λ (o : Option ℕ). then_maybe o (λ k. only_if (nat_le k step_limit) k)) (found n (decimal n) (record { digits = refl; short = short }))
    ∙ only_if_true (nat_le n step_limit) n (le-leb n step_limit few)

pub is_count : (word : List ℕ) (n : ℕ) → count_of word ≡ Some n → (word ≡ decimal n) × (n ≤ step_limit)
is_count word n e =
    let told = then_some (number_of word) (λ k. only_if (nat_le k step_limit) k) n e in
    let inner = only_if_some (nat_le told.0 step_limit) told.0 n told.2 in
    let few : told.0 ≤ step_limit = leb-true told.0 step_limit inner.0 in
    ((is_number told.0 word told.1).digits ∙ ap decimal inner.1, subst (λ (k : ℕ). k ≤ step_limit) inner.1 few)
