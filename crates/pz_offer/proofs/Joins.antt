-- How summaries join, and how they shift.
use Rattle.std.proofs.Common.{◌≡◌, ℕ, ◌+◌, min, Option, Some, None, refl, ap, arith}
use Rattle.std.specs.Prelude.{option_map}
use Rattle.std.specs.Option.{option_or}
use Rattle.pz_offer.specs.declared.summary.Summary.{Summary}
use Rattle.pz_offer.specs.declared.trouble.Trouble.{Trouble}
use Rattle.pz_offer.specs.Summaries.{nothing, least, join, shifted}

sums_join : (a b c : ℕ) → (a + b) + c ≡ a + (b + c)
sums_join a b c = omega arith

least_joins : (x y z : Option ℕ) → least (least x y) z ≡ least x (least y z)
least_joins None y z = refl
least_joins (Some a) None z = refl
least_joins (Some a) (Some b) None = refl
least_joins (Some a) (Some b) (Some c) = ap Some (let e : min (min a b) c ≡ min a (min b c) = omega arith in e)

least_none : (x : Option ℕ) → least x None ≡ x
least_none None = refl
least_none (Some a) = refl

first_joins : (x y z : Option Trouble) → option_or (option_or x y) z ≡ option_or x (option_or y z)
first_joins None y z = refl
first_joins (Some a) y z = refl

first_none : (x : Option Trouble) → option_or x None ≡ x
first_none None = refl
first_none (Some a) = refl

pub join_associative : (s t u : Summary) → join (join s t) u ≡ join s (join t u)
join_associative s t u = λ i. record {
  internal = sums_join s.internal t.internal u.internal i;
  sends = sums_join s.sends t.sends u.sends i;
  receives = sums_join s.receives t.receives u.receives i;
  due = least_joins s.due t.due u.due i;
  trouble = first_joins s.trouble t.trouble u.trouble i;
}

none_before : (a : ℕ) → 0 + a ≡ a
none_before a = omega arith

none_behind : (a : ℕ) → a + 0 ≡ a
none_behind a = omega arith

pub join_left : (s : Summary) → join nothing s ≡ s
join_left s = λ i. record {
  internal = none_before s.internal i;
  sends = none_before s.sends i;
  receives = none_before s.receives i;
  due = s.due;
  trouble = s.trouble;
}

pub join_right : (s : Summary) → join s nothing ≡ s
join_right s = λ i. record {
  internal = none_behind s.internal i;
  sends = none_behind s.sends i;
  receives = none_behind s.receives i;
  due = least_none s.due i;
  trouble = first_none s.trouble i;
}

least_shifts : (by : ℕ) (x y : Option ℕ) → option_map (λ d. d + by) (least x y) ≡ least (option_map (λ d. d + by) x) (option_map (λ d. d + by) y)
least_shifts by None y = refl
least_shifts by (Some a) None = refl
least_shifts by (Some a) (Some b) = ap Some (let e : min a b + by ≡ min (a + by) (b + by) = omega arith in e)

pub shifted_join : (by : ℕ) (s t : Summary) → shifted by (join s t) ≡ join (shifted by s) (shifted by t)
shifted_join by s t = λ i. record (join s t) { due = least_shifts by s.due t.due i }
