-- A word writes a value exactly where it is read as that value.
use Rattle.std.proofs.Common.{◌≡◌, refl, ◌∙◌, sym, ap, subst, ℕ, suc, ◌+◌, ◌<◌, ◌≤◌, ◌^◌, Bool, true, false, List, [], ◌∷◌, length, get_or, Option, Some, None, arith, lit<}
use Rattle.std.specs.Prelude.{ℤ, pos, neg_ℤ, ◌==◌, if◌then◌else◌, bytes_eq, option_map, codes}
use Rattle.std.specs.Fmt.{decimal}
use Rattle.std.specs.Int.{IsInRange}
use Rattle.std.specs.Str.Parse.{AllDigits}
use Rattle.std.proofs.lemmas.Bool.{eqb-true}
use Rattle.std.proofs.lemmas.Fmt.{decimal_is_IsNumeral}
use Rattle.std.proofs.lemmas.Slice.Eq.{bytes_eq-Decides}
use Rattle.std.proofs.lemmas.Str.Parse.{digit_at}
use Rattle.pz_value.specs.declared.value.Value.{Value}
use Rattle.pz_value.specs.declared.value.Value.TheVariants.{Nil, Bool as Truth, Int}
use Rattle.pz_env_script.specs.Literals.{IsLiteral, AreLiterals, nothing, truth, falsehood, number, negative, none, more}
use Rattle.pz_env_script.specs.devices.Reading.{number_up_to, greatest, wait_in, negative_of, integer_of, literal_of, before, literals_of}
use Rattle.pz_env_script.proofs.Answering.{mapped, up_found, up_tells}

-- What a word that is read writes

pub wait_tells : (w : List ℕ) (z : ℤ) → wait_in w ≡ Some z → (n : ℕ) × (w ≡ decimal n) × (z ≡ pos n) × (n < 2 ^ 63)
wait_tells w z e =
    let at = mapped (λ (n : ℕ). pos n) (number_up_to greatest w) z e in
    let is = up_tells greatest at.0 w at.1 in
    let low : at.0 ≤ greatest = is.1 in
    let short : at.0 < 2 ^ 63 = omega arith in
    (at.0, is.0, sym at.2, short)

wait_writes : (w : List ℕ) (z : ℤ) → wait_in w ≡ Some z → IsLiteral w (Int z)
wait_writes w z e =
    let is = wait_tells w z e in
    subst (λ (v : List ℕ). IsLiteral v (Int z)) (sym is.1) (subst (λ (k : ℤ). IsLiteral (decimal is.0) (Int k)) (sym is.2) (number is.0 is.3))

negative_writes : (b : ℕ) (bs : List ℕ) (z : ℤ) → b ≡ 45 → negative_of bs ≡ Some z → IsLiteral (b ∷ bs) (Int z)
negative_writes b bs z minus e =
    let at = mapped (λ (n : ℕ). neg_ℤ (pos n)) (number_up_to (greatest + 1) bs) z e in
    let is = up_tells (greatest + 1) at.0 bs at.1 in
    let low : at.0 ≤ greatest + 1 = is.1 in
    let short : at.0 ≤ 2 ^ 63 = omega arith in
    subst
    (λ (c : ℕ). IsLiteral (c ∷ bs) (Int z))
    (sym minus)
    (subst
    (λ (v : List ℕ). IsLiteral (45 ∷ v) (Int z))
    (sym is.0)
    (subst (λ (k : ℤ). IsLiteral (45 ∷ decimal at.0) (Int k)) at.2 (negative at.0 short)))

integer_writes : (w : List ℕ) (z : ℤ) → integer_of w ≡ Some z → IsLiteral w (Int z)
integer_writes [] z e = wait_writes [] z e
integer_writes (b ∷ bs) z e = by (b == 45) (eqb-true b 45) e
  where
    by : (v : Bool) → (v ≡ true → b ≡ 45) → (if v then negative_of bs else wait_in (b ∷ bs)) ≡ Some z → IsLiteral (b ∷ bs) (Int z)
    by true same e = negative_writes b bs z (same refl) e
    by false same e = wait_writes (b ∷ bs) z e

some_same : {A : Type 0} (x y : A) → Some x ≡ Some y → x ≡ y
some_same x y e = cc

spelled_so : (w text : List ℕ) (v u : Value) → IsLiteral text v → w ≡ text → Some v ≡ Some u → IsLiteral w u
spelled_so w text v u is same e =
    subst (λ (t : List ℕ). IsLiteral t u) (sym same) (subst (IsLiteral text) (some_same v u e) is)

abbrev numbers : List ℕ → Option Value
numbers w = option_map Int (integer_of w)

number_writes : (w : List ℕ) (v : Value) → numbers w ≡ Some v → IsLiteral w v
number_writes w v e =
    let at = mapped Int (integer_of w) v e in
    subst (IsLiteral w) at.2 (integer_writes w at.0 at.1)

abbrev falses : List ℕ → Bool → Option Value
falses w b = if b then Some (Truth false) else numbers w

abbrev truths : List ℕ → Bool → Bool → Option Value
truths w a b = if a then Some (Truth true) else falses w b

pub literal_writes : (w : List ℕ) (v : Value) → literal_of w ≡ Some v → IsLiteral w v
literal_writes w v e = at_nil (bytes_eq w (codes "nil")) (bytes_eq-Decides w (codes "nil")).0 e
  where
    at_false : (b : Bool) → (b ≡ true → w ≡ codes "false") → falses w b ≡ Some v → IsLiteral w v
    at_false true same e = spelled_so w (codes "false") (Truth false) v falsehood (same refl) e
    at_false false same e = number_writes w v e

    at_true : (b : Bool) → (b ≡ true → w ≡ codes "true") → truths w b (bytes_eq w (codes "false")) ≡ Some v → IsLiteral w v
    at_true true same e = spelled_so w (codes "true") (Truth true) v truth (same refl) e
    at_true false same e = at_false (bytes_eq w (codes "false")) (bytes_eq-Decides w (codes "false")).0 e

    at_nil : (b : Bool) → (b ≡ true → w ≡ codes "nil") → (if b then Some Nil else truths w (bytes_eq w (codes "true")) (bytes_eq w (codes "false"))) ≡ Some v → IsLiteral w v
    at_nil true same e = spelled_so w (codes "nil") Nil v nothing (same refl) e
    at_nil false same e = at_true (bytes_eq w (codes "true")) (bytes_eq-Decides w (codes "true")).0 e

-- What is written is read

pub wait_found : (n : ℕ) → n < 2 ^ 63 → wait_in (decimal n) ≡ Some (pos n)
wait_found n short = ap (option_map (λ (k : ℕ). pos k)) (up_found greatest n (decimal n) (omega arith) (omega arith) refl)

-- digits only
digits_first : (b : ℕ) (bs : List ℕ) → AllDigits 10 (b ∷ bs) → (48 ≤ b) × (b ≤ 57)
digits_first b bs all =
    let digit : IsInRange 48 57 (get_or (b ∷ bs) 0 0) = digit_at (b ∷ bs) 0 all (omega arith) in
    (digit.0, digit.1)

false_true : false ≡ true → ⊥
false_true e = cc

never : (v : Bool) → (v ≡ true → ⊥) → v ≡ false
never true apart = absurd (apart refl)
never false apart = refl

no_digits : (w text : List ℕ) → AllDigits 10 w → (AllDigits 10 text → ⊥) → bytes_eq w text ≡ false
no_digits w text all apart =
    never (bytes_eq w text) (λ (e : bytes_eq w text ≡ true). apart (subst (AllDigits 10) ((bytes_eq-Decides w text).0 e) all))

no_letter : (b : ℕ) (bs : List ℕ) → 57 < b → AllDigits 10 (b ∷ bs) → ⊥
no_letter b bs high all =
    let low = digits_first b bs all in
    omega (arith, low.1)

digits_read : (w : List ℕ) → AllDigits 10 w → literal_of w ≡ option_map Int (integer_of w)
digits_read w all =
    ap
    (λ (v : Bool). if v then Some Nil else truths w (bytes_eq w (codes "true")) (bytes_eq w (codes "false")))
    (no_digits w (codes "nil") all (no_letter 110 (105 ∷ 108 ∷ []) (lit< tt)))
    ∙ ap
    (λ (v : Bool). truths w v (bytes_eq w (codes "false")))
    (no_digits w (codes "true") all (no_letter 116 (114 ∷ 117 ∷ 101 ∷ []) (lit< tt)))
    ∙ ap (λ (v : Bool). falses w v) (no_digits w (codes "false") all (no_letter 102 (97 ∷ 108 ∷ 115 ∷ 101 ∷ []) (lit< tt)))

digits_plain : (w : List ℕ) → AllDigits 10 w → integer_of w ≡ wait_in w
digits_plain [] all = refl
digits_plain (b ∷ bs) all =
    let low = digits_first b bs all in
    ap
    (λ (v : Bool). if v then negative_of bs else wait_in (b ∷ bs))
    (never (b == 45) (λ (e : b == 45 ≡ true). (let same : b ≡ 45 = eqb-true b 45 e in omega (arith, low.0))))

number_found : (n : ℕ) → n < 2 ^ 63 → literal_of (decimal n) ≡ Some (Int (pos n))
number_found n short =
    let all : AllDigits 10 (decimal n) = (decimal_is_IsNumeral n (omega arith)).0.1 in
    digits_read (decimal n) all ∙ ap (option_map Int) (digits_plain (decimal n) all ∙ wait_found n short)

negative_found : (n : ℕ) → n ≤ 2 ^ 63 → literal_of (45 ∷ decimal n) ≡ Some (Int (neg_ℤ (pos n)))
negative_found n short =
    ap (λ (o : Option ℕ). option_map Int (option_map (λ (k : ℕ). neg_ℤ (pos k)) o)) (up_found (greatest + 1) n (decimal n) (omega arith) (omega arith) refl)

pub literal_found : (w : List ℕ) (v : Value) → IsLiteral w v → literal_of w ≡ Some v
literal_found _ _ nothing = refl
literal_found _ _ truth = refl
literal_found _ _ falsehood = refl
literal_found _ _ (number n short) = number_found n short
literal_found _ _ (negative n short) = negative_found n short

-- Lists of them

pub before_tells : (o : Option Value) (os : Option (List Value)) (vs : List Value) → before o os ≡ Some vs → (v : Value) × (us : List Value) × (o ≡ Some v) × (os ≡ Some us) × (v ∷ us ≡ vs)
before_tells None os vs e = absurd cc
before_tells (Some v) None vs e = absurd cc
before_tells (Some v) (Some us) vs e = (v, us, refl, refl, some_same (v ∷ us) vs e)

pub literals_write : (ws : List (List ℕ)) (vs : List Value) → literals_of ws ≡ Some vs → AreLiterals ws vs
literals_write [] vs e = subst (AreLiterals []) (some_same [] vs e) none
literals_write (w ∷ ws) vs e =
    let at = before_tells (literal_of w) (literals_of ws) vs e in
    subst (AreLiterals (w ∷ ws)) at.4 (more w at.0 ws at.1 (literal_writes w at.0 at.2) (literals_write ws at.1 at.3))

pub literals_found : (ws : List (List ℕ)) (vs : List Value) → AreLiterals ws vs → literals_of ws ≡ Some vs
literals_found _ _ none = refl
literals_found _ _ (more w v ws vs is are) =
    ap (λ (o : Option Value). before o (literals_of ws)) (literal_found w v is) ∙ ap (before (Some v)) (literals_found ws vs are)

pub as_many : (ws : List (List ℕ)) (vs : List Value) → AreLiterals ws vs → length ws ≡ length vs
as_many _ _ none = refl
as_many _ _ (more w v ws vs is are) = ap (λ (k : ℕ). suc k) (as_many ws vs are)
