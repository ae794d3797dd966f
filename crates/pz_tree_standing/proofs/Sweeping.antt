-- How many open frames are left once those that do not stand are closed.
use Rattle.std.proofs.Common.{◌≡◌, ◌≤◌, ◌+◌, ℕ, Bool, true, false, cond, eqb, ◌||◌, nat_eq, List, [], ◌∷◌, map, sym, ap, ◌∙◌, refl, arith}
use Rattle.std.specs.Prelude.{if◌then◌else◌}
use Rattle.std.proofs.lemmas.Bool.{eqb-true}
use Rattle.std.specs.List.{list_any, filter}
use Rattle.pz_rules.specs.pz_state.States.{StateView, Frames}
use Rattle.pz_rules.specs.Terms.{Term, frames_in}
use Rattle.pz_rules.specs.Leaving.{only_frames}
use Rattle.pz_tree_standing.specs.FrameCounts.{count_in, times}
use Rattle.pz_tree_standing.specs.Frames.{numbers, open_as, FramesStand}

-- ------------------------------------------------------------ among numbers

one_counted : (b : Bool) (c : Bool) (k : ℕ) → (b || c) ≡ true → (c ≡ true → 1 ≤ k) → 1 ≤ (if b then 1 else 0) + k
one_counted true c k e h = omega arith
one_counted false c k e h = let g = h e in omega (arith, g)

no_counted : (b : Bool) (c : Bool) (k : ℕ) → (b || c) ≡ false → (c ≡ false → k ≡ 0) → (if b then 1 else 0) + k ≡ 0
no_counted true c k e h = absurd cc
no_counted false c k e h = let g = h e in omega (arith, g)

pub some_counted : (n : ℕ) (xs : List ℕ) → list_any (nat_eq n) xs ≡ true → 1 ≤ count_in n xs
some_counted n [] e = absurd cc
some_counted n (m ∷ ms) e = one_counted (nat_eq n m) (list_any (nat_eq n) ms) (count_in n ms) e (some_counted n ms)

pub none_counted : (n : ℕ) (xs : List ℕ) → list_any (nat_eq n) xs ≡ false → count_in n xs ≡ 0
none_counted n [] e = refl
none_counted n (m ∷ ms) e = no_counted (nat_eq n m) (list_any (nat_eq n) ms) (count_in n ms) e (none_counted n ms)

-- ------------------------------------------------------------ among open frames

abbrev pub open_numbers : Frames → List ℕ
open_numbers fs = map (λ f. f.0) fs

-- how many of a number are left
pub count_kept : (p : ℕ → Bool) (n : ℕ) (fs : Frames) → count_in n (open_numbers (filter (λ f. p f.0) fs)) ≡ (if p n then count_in n (open_numbers fs) else 0)
count_kept p n [] = by (p n)
  where
    by : (b : Bool) → ◌≡◌ {A = ℕ} 0 (if b then 0 else 0)
    by true = refl
    by false = refl
count_kept p n (f ∷ fs) = by (eqb n f.0) refl (p f.0) refl (p n) refl (count_kept p n fs)
  where
    by : (e : Bool) → eqb n f.0 ≡ e → (a : Bool) → p f.0 ≡ a → (b : Bool) → p n ≡ b
        → count_in n (open_numbers (filter (λ g. p g.0) fs)) ≡ (if b then count_in n (open_numbers fs) else 0)
        → count_in n (open_numbers (cond a (f ∷ filter (λ g. p g.0) fs) (filter (λ g. p g.0) fs))) ≡ (if b then (if eqb n f.0 then 1 else 0) + count_in n (open_numbers fs) else 0)
    by e same true here true there others = omega (arith, others)
    by e same false here false there others = others
    by true same true here false there others = absurd (let is : n ≡ f.0 = eqb-true n f.0 same in let k : p n ≡ p f.0 = ap p is in cc)
    by false same true here false there others = rw same (omega (arith, others))
    by true same false here true there others = absurd (let is : n ≡ f.0 = eqb-true n f.0 same in let k : p n ≡ p f.0 = ap p is in cc)
    by false same false here true there others = rw same (omega (arith, others))

abbrev pub stands_in : Term → ℕ → Bool
stands_in t n = list_any (nat_eq n) (frames_in t)

-- where each number is open once at most, and what stands is open, just that is left
pub still_stand : (t : Term) (s : StateView) → ((n : ℕ) → times n t ≤ open_as n s) → ((n : ℕ) → open_as n s ≤ 1) → FramesStand t (only_frames (frames_in t) s)
still_stand t s few once n = by (stands_in t n) refl
  where
    by : (b : Bool) → stands_in t n ≡ b → times n t ≡ count_in n (open_numbers (filter (λ f. stands_in t f.0) s.frames))
    by true is =
        let one = some_counted n (frames_in t) is in
        let most = once n in
        let left = count_kept (stands_in t) n s.frames ∙ ap (λ (b : Bool). if b then count_in n (open_numbers s.frames) else 0) is in
        let here = few n in
        omega (arith, one, most, left, here)
    by false is = none_counted n (frames_in t) is ∙ sym (count_kept (stands_in t) n s.frames ∙ ap (λ (b : Bool). if b then count_in n (open_numbers s.frames) else 0) is)
