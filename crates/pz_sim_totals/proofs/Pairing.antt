-- Sums of neighbours: of all together, of each two, and of a list in which one is another.
use Rattle.std.proofs.Common.{◌≡◌, ℕ, zero, suc, ◌+◌, ◌-◌, ◌*◌, ◌/◌, ◌<◌, ◌≤◌, List, [], ◌∷◌, length, set, get_or, replicate, refl, ap, ◌∙◌, arith}
use Rattle.pz_offer.proofs.Joins.{join_associative, join_right}
use Rattle.pz_sim_totals.specs.declared.total.Total.{Total}
use Rattle.pz_sim_totals.specs.Sums.{none, both, all, AreNumbers}
use Rattle.pz_sim_totals.specs.devices.Levels.{pairs}

sums_join : (a b c : ℕ) → (a + b) + c ≡ a + (b + c)
sums_join a b c = omega arith

none_behind : (a : ℕ) → a + 0 ≡ a
none_behind a = omega arith

pub both_associative : (s t u : Total) → both (both s t) u ≡ both s (both t u)
both_associative s t u = λ i. record {
  summary = join_associative s.summary t.summary u.summary i;
  unfinished = sums_join s.unfinished t.unfinished u.unfinished i;
}

pub both_right : (s : Total) → both s none ≡ s
both_right s = λ i. record { summary = join_right s.summary i; unfinished = none_behind s.unfinished i }

pub pairs_all : (ts : List Total) → all (pairs ts) ≡ all ts
pairs_all [] = refl
pairs_all (s ∷ []) = refl
pairs_all (s ∷ (t ∷ ts)) = rw (pairs_all ts) (both_associative s t (all ts))

pub length_pairs : (ts : List Total) → length (pairs ts) ≡ length ts - length ts / 2
length_pairs [] = refl
length_pairs (s ∷ []) = refl
length_pairs (s ∷ (t ∷ ts)) = let rest = length_pairs ts in omega (arith, rest)

pub pairs_replicate : (n : ℕ) → pairs (replicate n none) ≡ replicate (n - n / 2) none
pairs_replicate zero = refl
pairs_replicate (suc zero) = refl
pairs_replicate (suc (suc n)) =
    let long : suc (n - n / 2) ≡ suc (suc n) - suc (suc n) / 2 = omega arith in
    ap (λ ts. none ∷ ts) (pairs_replicate n) ∙ ap (λ k. replicate k none) long

-- Twice a number, by ones

abbrev pub twice : ℕ → ℕ
twice zero = zero
twice (suc h) = suc (suc (twice h))

pub twice_is : (h : ℕ) → twice h ≡ 2 * h
twice_is zero = refl
twice_is (suc h) = let rest = twice_is h in omega (arith, rest)

pub inside : (ts : List Total) (h : ℕ) → h < length (pairs ts) → twice h < length ts
inside ts h lt = let long = length_pairs ts in let is = twice_is h in omega (arith, lt, long, is)

pub inside_twice : (ts : List Total) (h : ℕ) → h < length (pairs ts) → 2 * h < length ts
inside_twice ts h lt = let within = inside ts h lt in let is = twice_is h in omega (arith, within, is)

-- the sum of two neighbours, and one that has none
pub pair_at : (ts : List Total) (h : ℕ) (c d e : Total) → suc (twice h) < length ts → get_or (pairs ts) h c ≡ both (get_or ts (twice h) d) (get_or ts (suc (twice h)) e)
pair_at [] h c d e lt = absurd (omega (arith, lt))
pair_at (s ∷ []) h c d e lt = absurd (omega (arith, lt))
pair_at (s ∷ (t ∷ ts)) zero c d e lt = refl
pair_at (s ∷ (t ∷ ts)) (suc h) c d e lt = pair_at ts h c d e (omega (arith, lt))

pub alone_at : (ts : List Total) (h : ℕ) (c d : Total) → suc (twice h) ≡ length ts → get_or (pairs ts) h c ≡ get_or ts (twice h) d
alone_at [] h c d long = absurd (omega (arith, long))
alone_at (s ∷ []) zero c d long = refl
alone_at (s ∷ []) (suc h) c d long = absurd (omega (arith, long))
alone_at (s ∷ (t ∷ ts)) zero c d long = absurd (omega (arith, long))
alone_at (s ∷ (t ∷ ts)) (suc h) c d long = alone_at ts h c d (omega (arith, long))

-- another in place of one changes one sum
pub pairs_set : (ts : List Total) (i : ℕ) (t d : Total) → i < length ts → set (pairs ts) (i / 2) (get_or (pairs (set ts i t)) (i / 2) d) ≡ pairs (set ts i t)
pairs_set [] i t d lt = absurd (omega (arith, lt))
pairs_set (s ∷ []) zero t d lt = refl
pairs_set (s ∷ []) (suc i) t d lt = absurd (omega (arith, lt))
pairs_set (r ∷ (s ∷ ts)) zero t d lt = refl
pairs_set (r ∷ (s ∷ ts)) (suc zero) t d lt = refl
pairs_set (r ∷ (s ∷ ts)) (suc (suc i)) t d lt =
    let on : suc (suc i) / 2 ≡ suc (i / 2) = omega arith in
    rw on (ap (λ sums. both r s ∷ sums) (pairs_set ts i t d (omega (arith, lt))))

-- Numbers that are added

module _ (f : Total → ℕ) (adds : (s t : Total) → f (both s t) ≡ f s + f t) where
  pub neighbours : (ts : List Total) (j : ℕ) (d e : Total) → suc j < length ts → f (get_or ts j d) + f (get_or ts (suc j) e) ≤ f (all ts)
  neighbours [] j d e lt = absurd (omega (arith, lt))
  neighbours (s ∷ []) j d e lt = absurd (omega (arith, lt))
  neighbours (s ∷ (t ∷ ts)) zero d e lt = let one = adds s (all (t ∷ ts)) in let two = adds t (all ts) in omega (arith, one, two)
  neighbours (s ∷ (t ∷ ts)) (suc j) d e lt = let one = adds s (all (t ∷ ts)) in let rest = neighbours (t ∷ ts) j d e (omega (arith, lt)) in omega (arith, one, rest)

pub numbers_inside : (ts : List Total) (j : ℕ) (d e : Total) → suc j < length ts → AreNumbers (all ts) → AreNumbers (both (get_or ts j d) (get_or ts (suc j) e))
numbers_inside ts j d e lt are = record {
  internal = let le = neighbours (λ t. t.summary.internal) (λ s t. refl) ts j d e lt in let below = are.internal in omega (arith, le, below);
  sends = let le = neighbours (λ t. t.summary.sends) (λ s t. refl) ts j d e lt in let below = are.sends in omega (arith, le, below);
  receives = let le = neighbours (λ t. t.summary.receives) (λ s t. refl) ts j d e lt in let below = are.receives in omega (arith, le, below);
  unfinished = let le = neighbours (λ t. t.unfinished) (λ s t. refl) ts j d e lt in let below = are.unfinished in omega (arith, le, below);
}
