-- Answers that are put together of answers.
use Rattle.std.proofs.Common.{◌≡◌, refl, ◌∙◌, ap, subst, ℕ, ◌<◌, ◌≤◌, ◌^◌, Bool, true, false, ◌&&◌, List, Option, Some, None}
use Rattle.std.specs.Prelude.{nat_le, option_map}
use Rattle.std.specs.Fmt.{decimal}
use Rattle.std.proofs.lemmas.Bool.{leb-true, le-leb}
use Rattle.pz_lines.specs.Numbers.{only_if, number_of}
use Rattle.pz_lines.proofs.Numerals.{Tells, tells, found, only_if_true}
use Rattle.pz_env_script.specs.devices.Reading.{up_to, number_up_to}

pub mapped : {A B : Type 0} (f : A → B) (o : Option A) (z : B) → option_map f o ≡ Some z → (a : A) × (o ≡ Some a) × (f a ≡ z)
mapped f None z e = absurd cc
mapped f (Some a) z e = (a, refl, cc)

pub only_tells : {A : Type 0} (b : Bool) (x y : A) → only_if b x ≡ Some y → (b ≡ true) × (x ≡ y)
only_tells true x y e = (refl, cc)
only_tells false x y e = absurd cc

pub both : (a b : Bool) → a ≡ true → b ≡ true → a && b ≡ true
both true b ea eb = eb
both false b ea eb = ea

pub split : (a b : Bool) → a && b ≡ true → (a ≡ true) × (b ≡ true)
split true b e = (refl, e)
split false b e = absurd cc

-- Numbers up to a greatest one

pub up_found : (most n : ℕ) (w : List ℕ) → n ≤ most → n < 2 ^ 64 → w ≡ decimal n → number_up_to most w ≡ Some n
up_found most n w low short is =
    ap (up_to most) (found n w (record { digits = is; short = short })) ∙ only_if_true (nat_le n most) n (le-leb n most low)

pub up_tells : (most n : ℕ) (w : List ℕ) → number_up_to most w ≡ Some n → (w ≡ decimal n) × (n ≤ most)
up_tells most n w e = by (number_of w) (tells w) e
  where
    by : (o : Option ℕ) → Tells w o → up_to most o ≡ Some n → (w ≡ decimal n) × (n ≤ most)
    by None t e = absurd cc
    by (Some k) t e =
        let only = only_tells (nat_le k most) k n e in
        let low : k ≤ most = leb-true k most only.0 in
        (t.digits ∙ ap decimal only.1, subst (λ (i : ℕ). i ≤ most) only.1 low)
