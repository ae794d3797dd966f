-- The order of violations.
use Rattle.std.proofs.Common.{◌≡◌, refl, ℕ, ◌<◌, Bool, true, false, ◌&&◌, ◌||◌, nat_eq, nat_lt, arith, ◌⊎◌, inl, inr}
use Rattle.std.proofs.lemmas.Bool.Decides.{nat_tests}
use Rattle.pz_check_violations.specs.declared.violation.Violation.{Violation}
use Rattle.pz_check_violations.specs.Order.{is_before}

-- by three numbers in turn
abbrev before : ℕ → ℕ → ℕ → ℕ → ℕ → ℕ → Bool
before a b c x y z = (nat_lt a x || (nat_eq a x && nat_lt b y)) || ((nat_eq a x && nat_eq b y) && nat_lt c z)

abbrev Before : ℕ → ℕ → ℕ → ℕ → ℕ → ℕ → Type 0
Before a b c x y z = (a < x) ⊎ (((a ≡ x) × (b < y)) ⊎ ((a ≡ x) × (b ≡ y) × (c < z)))

means : (a b c x y z : ℕ) → before a b c x y z ≡ true → Before a b c x y z
means a b c x y z is = grind (arith, nat_tests)

tests : (a b c x y z : ℕ) → Before a b c x y z → before a b c x y z ≡ true
tests a b c x y z is = grind (arith, nat_tests)

no_test : (a b c x y z : ℕ) → (Before a b c x y z → ⊥) → before a b c x y z ≡ false
no_test a b c x y z never = by_test (before a b c x y z) refl
  where
    by_test : (t : Bool) → before a b c x y z ≡ t → before a b c x y z ≡ false
    by_test false is = is
    by_test true is = absurd (never (means a b c x y z is))

no_less : (a b c x y z : ℕ) → before a b c x y z ≡ false → Before a b c x y z → ⊥
no_less a b c x y z not_so is = let so : before a b c x y z ≡ true = tests a b c x y z is in cc

pub not_before_itself : (v : Violation) → is_before v v ≡ false
not_before_itself v = no_test v.pos.line v.pos.column v.rule v.pos.line v.pos.column v.rule never
  where
    never : Before v.pos.line v.pos.column v.rule v.pos.line v.pos.column v.rule → ⊥
    never (inl less) = omega arith
    never (inr (inl later)) = omega arith
    never (inr (inr same)) = omega arith

passes : (a b c x y z l m n : ℕ) → Before a b c x y z → Before x y z l m n → Before a b c l m n
passes a b c x y z l m n first second = grind arith

-- one that is not before the second is not before the third either, where the second is not before it
pub never_before : (u v w : Violation) → is_before u v ≡ false → is_before v w ≡ false → is_before u w ≡ false
never_before u v w first second = no_test u.pos.line u.pos.column u.rule w.pos.line w.pos.column w.rule never
  where
    apart : (a b c x y z l m n : ℕ) → (Before a b c x y z → ⊥) → (Before x y z l m n → ⊥) → Before a b c l m n → ⊥
    apart a b c x y z l m n f s is = grind arith

    never : Before u.pos.line u.pos.column u.rule w.pos.line w.pos.column w.rule → ⊥
    never = apart u.pos.line u.pos.column u.rule v.pos.line v.pos.column v.rule w.pos.line w.pos.column w.rule
        (no_less u.pos.line u.pos.column u.rule v.pos.line v.pos.column v.rule first) (no_less v.pos.line v.pos.column v.rule w.pos.line w.pos.column w.rule second)

-- one that comes before another is not behind it
pub not_behind : (u v : Violation) → is_before u v ≡ true → is_before v u ≡ false
not_behind u v first = no_test v.pos.line v.pos.column v.rule u.pos.line u.pos.column u.rule (apart (means u.pos.line u.pos.column u.rule v.pos.line v.pos.column v.rule first))
  where
    apart : Before u.pos.line u.pos.column u.rule v.pos.line v.pos.column v.rule → Before v.pos.line v.pos.column v.rule u.pos.line u.pos.column u.rule → ⊥
    apart f s = grind arith
