-- Each text has a heading: whether it begins with three numbers that fit is decided.
use Rattle.std.proofs.Common.{◌≡◌, ◌≤◌, ◌<◌, ◌^◌, ◌⊎◌, inl, inr, ⊎_elim, refl, sym, ap, subst, ◌∙◌, ℕ, List, [], ◌∷◌, ◌++◌, length, get_or, arith}
use Rattle.std.specs.Char.{digit_value}
use Rattle.std.specs.Fmt.{decimal}
use Rattle.std.specs.Str.Parse.{AllDigits, IsNumeral, digits_value}
use Rattle.std.proofs.lemmas.Bool.{cases_eq, cases_lt, ne_eqb}
use Rattle.std.proofs.lemmas.Fmt.{decimal_is_IsNumeral_wide}
use Rattle.pz_trace.specs.declared.headings.Heading.{Heading}
use Rattle.pz_trace.specs.declared.headings.Heading.TheVariants.{Step, Other}
use Rattle.pz_trace.specs.Headings.{IsHeading, step, other}
use Rattle.pz_trace.specs.Laws.{EveryHeading}
use Rattle.pz_trace.specs.devices.Reading.{Lacks, BeginsWithNumber}
use Rattle.pz_trace.proofs.Digits.{cut_once, decimal_lacks}
use Rattle.pz_trace.proofs.Numerals.{decimal_of, no_leading_zero}
use Rattle.pz_trace.proofs.Headed.{after_n, after_clock, first_number, second_number, third_number, three_numbers}
use Rattle.pz_trace.proofs.Cut.{no_number}

-- it holds, or it does not
abbrev Decided : Type 0 → Type 0
Decided P = P ⊎ (P → ⊥)

both : {P Q : Type 0} → Decided P → Decided Q → Decided (P × Q)
both (inl p) (inl q) = inl (p, q)
both (inl p) (inr none) = inr (λ x. none x.1)
both (inr none) q = inr (λ x. none x.0)

follows : {P Q : Type 0} → Decided P → Decided Q → Decided (P → Q)
follows p (inl q) = inl (λ x. q)
follows (inl p) (inr none) = inr (λ f. none (f p))
follows (inr apart) (inr none) = inl (λ p. absurd (apart p))

turned : {P Q : Type 0} → (P → Q) → (Q → P) → Decided P → Decided Q
turned there back (inl p) = inl (there p)
turned there back (inr none) = inr (λ q. none (back q))

below : (m n : ℕ) → Decided (m < n)
below m n = ⊎_elim inl (λ above. inr (λ within. omega arith)) (cases_lt m n)

-- what stands before a byte and after it
record IsCut (byte : ℕ) (text : List ℕ) : Type 0 where
  front : List ℕ
  rest : List ℕ
  before : Lacks byte front
  splits : text ≡ front ++ (byte ∷ rest)

cut : (byte : ℕ) (text : List ℕ) → Lacks byte text ⊎ IsCut byte text
cut byte [] = inl refl
cut byte (x ∷ text) = by_first (cases_eq byte x) (cut byte text)
  where
    by_first : Decided (byte ≡ x) → Lacks byte text ⊎ IsCut byte text → Lacks byte (x ∷ text) ⊎ IsCut byte (x ∷ text)
    by_first (inl same) tail = inr (record { front = []; rest = text; before = refl; splits = ap (λ (b : ℕ). b ∷ text) (sym same) })
    by_first (inr apart) (inl lacks) = inl (rw (ne_eqb byte x apart) lacks)
    by_first (inr apart) (inr c) = inr (record { front = x ∷ c.front; rest = c.rest; before = rw (ne_eqb byte x apart) c.before; splits = ap (λ (l : List ℕ). x ∷ l) c.splits })

-- digits

all_digits : (ds : List ℕ) → Decided (AllDigits 10 ds)
all_digits [] = inl tt
all_digits (c ∷ cs) = both (below (digit_value c) 10) (all_digits cs)

-- the digits are those of a number below the limit
record IsWritten (limit : ℕ) (ds : List ℕ) : Type 0 where
  n : ℕ
  fits : n < limit
  is : ds ≡ decimal n

-- such a number, a blank, and then a text of which P holds
record IsBegun (limit : ℕ) (P : List ℕ → Type 0) (text : List ℕ) : Type 0 where
  n : ℕ
  rest : List ℕ
  fits : n < limit
  begins : BeginsWithNumber text n rest
  goes_on : P rest

-- what is tested of digits: that they are digits, that 0 leads only where it stands alone, and that their number is below the limit
abbrev AreFit : ℕ → List ℕ → Type 0
AreFit limit ds = IsNumeral 10 ds × ((get_or ds 0 0 ≡ 48 → length ds ≡ 1) × (digits_value 10 ds < limit))

module _ (limit : ℕ) (small : limit ≤ 2 ^ 128) where
  written : (ds : List ℕ) → Decided (IsWritten limit ds)
  written ds = turned there back (both (both (below 0 (length ds)) (all_digits ds)) (both (follows (cases_eq (get_or ds 0 0) 48) (cases_eq (length ds) 1)) (below (digits_value 10 ds) limit)))
    where
      there : AreFit limit ds → IsWritten limit ds
      there y = record { n = digits_value 10 ds; fits = y.1.1; is = decimal_of ds y.0.1 y.0.0 y.1.0 (omega (arith, y.1.1)) }

      back : IsWritten limit ds → AreFit limit ds
      back x =
          let fits : x.n < 2 ^ 128 = omega (arith, x.fits) in
          let numeral = decimal_is_IsNumeral_wide x.n (omega arith) in
          (subst (IsNumeral 10) (sym x.is) numeral.0, (no_leading_zero x.n ds fits x.is, omega (arith, x.fits, ap (digits_value 10) x.is, numeral.1)))

  number : (P : List ℕ → Type 0) → ((rest : List ℕ) → Decided (P rest)) → (text : List ℕ) → Decided (IsBegun limit P text)
  number P decide text = by_cut (cut 32 text)
    where
      there : (c : IsCut 32 text) → IsWritten limit c.front × P c.rest → IsBegun limit P text
      there c x = record { n = x.0.n; rest = c.rest; fits = x.0.fits; begins = record { fits = omega (arith, x.0.fits); is_text = c.splits ∙ ap (λ (l : List ℕ). l ++ (32 ∷ c.rest)) x.0.is }; goes_on = x.1 }

      back : (c : IsCut 32 text) → IsBegun limit P text → IsWritten limit c.front × P c.rest
      back c x =
          let same = cut_once 32 c.front c.rest (decimal x.n) x.rest c.before (decimal_lacks 32 x.n (omega arith)) (sym c.splits ∙ x.begins.is_text) in
          (record { n = x.n; fits = x.fits; is = same.same_line }, subst P (sym same.same_rest) x.goes_on)

      by_cut : Lacks 32 text ⊎ IsCut 32 text → Decided (IsBegun limit P text)
      by_cut (inl lacks) = inr (λ x. no_number text lacks x.n x.rest x.begins)
      by_cut (inr c) = turned (there c) (back c) (both (written c.front) (decide c.rest))

-- the last, the last two and all three numbers of a heading stand first

abbrev HasLast : List ℕ → Type 0
HasLast = IsBegun (2 ^ 64) (λ rest. Unit {0})

abbrev HasLastTwo : List ℕ → Type 0
HasLastTwo = IsBegun (2 ^ 64) HasLast

abbrev HasThree : List ℕ → Type 0
HasThree = IsBegun (2 ^ 128) HasLastTwo

three : (line : List ℕ) → Decided (HasThree line)
three = number (2 ^ 128) (omega arith) HasLastTwo (number (2 ^ 64) (omega arith) HasLast (number (2 ^ 64) (omega arith) (λ rest. Unit {0}) (λ rest. inl tt)))

headed : (line : List ℕ) → Decided (HasThree line) → (x : Heading) × IsHeading line x
headed line (inl x) =
    let y = x.goes_on in
    let z = y.goes_on in
    (Step x.n y.n z.n, step x.n y.n z.n (three_numbers line x.rest y.rest z.rest x.n y.n z.n x.begins y.begins z.begins y.fits z.fits))
headed line (inr none) = (
  Other,
  other (λ clock n k b.
      let last : HasLast (after_n k b.rest) = record { n = k; rest = b.rest; fits = b.k_fits; begins = third_number line clock n k b; goes_on = tt } in
      let two : HasLastTwo (after_clock n k b.rest) = record { n = n; rest = after_n k b.rest; fits = b.n_fits; begins = second_number line clock n k b; goes_on = last } in
      none (record { n = clock; rest = after_clock n k b.rest; fits = b.clock_fits; begins = first_number line clock n k b; goes_on = two })),
)

pub every_heading : EveryHeading
every_heading line = headed line (three line)
