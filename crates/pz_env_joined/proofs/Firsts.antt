-- The lines that name an end first: each end has one, at the number of the end.
use Rattle.std.proofs.Common.{◌≡◌, refl, sym, ap, ◌∙◌, ℕ, zero, suc, Bool, true, false, not, ◌&&◌, List, [], ◌∷◌, Some, slice_get, arith}
use Rattle.std.specs.List.{Contains, AllByRecursion, filter, position_or_len}
use Rattle.std.specs.Str.{bytes_eq}
use Rattle.std.proofs.lemmas.Slice.Eq.{bytes_eq-Decides}
use Rattle.pz_env_mimics.specs.pz_env_rules.Environment.{Line}
use Rattle.pz_env_mimics.specs.pz_env_rules.Ends.{is_same_end, first_mentions, IsEnd}
use Rattle.pz_env_mimics.specs.pz_env_tree.Names.{end_number}
use Rattle.pz_env_grown.proofs.Elements.{later_in}

-- Ends that are the same

split : (a b : Bool) → a && b ≡ true → (a ≡ true) × (b ≡ true)
split true b is = (refl, is)
split false b is = cc

record Same (x y : Line) : Type 0 where
  instance : x.entry.instance ≡ y.entry.instance
  port : x.entry.port ≡ y.entry.port

same_of : (x y : Line) → is_same_end x y ≡ true → Same x y
same_of x y is =
    let both = split (bytes_eq x.entry.instance y.entry.instance) (bytes_eq x.entry.port y.entry.port) is in
    record { instance = (bytes_eq-Decides x.entry.instance y.entry.instance).0 both.0; port = (bytes_eq-Decides x.entry.port y.entry.port).0 both.1 }

of_same : (x y : Line) → Same x y → is_same_end x y ≡ true
of_same x y s = rw ((bytes_eq-Decides x.entry.instance y.entry.instance).1 s.instance, (bytes_eq-Decides x.entry.port y.entry.port).1 s.port) refl

pub same_itself : (x : Line) → is_same_end x x ≡ true
same_itself x = of_same x x (record { instance = refl; port = refl })

same_turned : (x y : Line) → is_same_end x y ≡ true → is_same_end y x ≡ true
same_turned x y is = let s = same_of x y is in of_same y x (record { instance = sym s.instance; port = sym s.port })

same_through : (x y z : Line) → is_same_end x y ≡ true → is_same_end y z ≡ true → is_same_end x z ≡ true
same_through x y z one other = let s = same_of x y one in let t = same_of y z other in of_same x z (record { instance = s.instance ∙ t.instance; port = s.port ∙ t.port })

-- What is left of a list

filter_keeps : (p : Line → Bool) (xs : List Line) (k : ℕ) (x : Line) → slice_get xs k ≡ Some x → p x ≡ true
    → (j : ℕ) × (slice_get (filter p xs) j ≡ Some x)
filter_keeps p [] k x at passes = cc
filter_keeps p (y ∷ ys) zero x at passes = let eq : y ≡ x = cc in let does : p y ≡ true = ap p eq ∙ passes in (0, rw does at)
filter_keeps p (y ∷ ys) (suc k) x at passes = by (p y) refl (filter_keeps p ys k x at passes)
  where
    by : (b : Bool) → p y ≡ b → (j : ℕ) × (slice_get (filter p ys) j ≡ Some x) → (j : ℕ) × (slice_get (filter p (y ∷ ys)) j ≡ Some x)
    by true does r = (suc r.0, rw does r.1)
    by false does r = (r.0, rw does r.1)

filter_had : (p : Line → Bool) (xs : List Line) (k : ℕ) (x : Line) → slice_get (filter p xs) k ≡ Some x → (j : ℕ) × (slice_get xs j ≡ Some x)
filter_had p [] k x at = cc
filter_had p (y ∷ ys) k x at = by (p y) refl k at (filter_had p ys)
  where
    by : (b : Bool) → p y ≡ b → (k : ℕ) → slice_get (filter p (y ∷ ys)) k ≡ Some x
        → ((k : ℕ) (z : Line) → slice_get (filter p ys) k ≡ Some z → (j : ℕ) × (slice_get ys j ≡ Some z))
        → (j : ℕ) × (slice_get (y ∷ ys) j ≡ Some x)
    by true does zero there rest = (0, rw does at there)
    by true does (suc k) there rest = let r = rest k x (rw does at there) in (suc r.0, r.1)
    by false does k there rest = let r = rest k x (rw does at there) in (suc r.0, r.1)

-- no two of these have one end
abbrev AreApart : List Line → Type 0
AreApart [] = Unit {0}
AreApart (x ∷ xs) = AllByRecursion (λ y. is_same_end x y ≡ false) xs × AreApart xs

filter_all : (P : Line → Type 0) (p : Line → Bool) (xs : List Line) → AllByRecursion P xs → AllByRecursion P (filter p xs)
filter_all P p [] all = tt
filter_all P p (x ∷ xs) all = by (p x) refl (filter_all P p xs all.1)
  where
    by : (b : Bool) → p x ≡ b → AllByRecursion P (filter p xs) → AllByRecursion P (filter p (x ∷ xs))
    by true does rest = rw does (all.0, rest)
    by false does rest = rw does rest

filter_apart : (p : Line → Bool) (xs : List Line) → AreApart xs → AreApart (filter p xs)
filter_apart p [] apart = tt
filter_apart p (x ∷ xs) apart = by (p x) refl (filter_apart p xs apart.1)
  where
    by : (b : Bool) → p x ≡ b → AreApart (filter p xs) → AreApart (filter p (x ∷ xs))
    by true does rest = rw does (filter_all (λ y. is_same_end x y ≡ false) p xs apart.0, rest)
    by false does rest = rw does rest

filter_passes : (x : Line) (xs : List Line) → AllByRecursion (λ y. is_same_end x y ≡ false) (filter (λ y. not (is_same_end x y)) xs)
filter_passes x [] = tt
filter_passes x (y ∷ ys) = by (is_same_end x y) refl (filter_passes x ys)
  where
    by : (b : Bool) → is_same_end x y ≡ b
        → AllByRecursion (λ z. is_same_end x z ≡ false) (filter (λ z. not (is_same_end x z)) ys)
        → AllByRecursion (λ z. is_same_end x z ≡ false) (filter (λ z. not (is_same_end x z)) (y ∷ ys))
    by true does rest = rw does rest
    by false does rest = rw does (does, rest)

firsts_apart : (lines : List Line) → AreApart (first_mentions lines)
firsts_apart [] = tt
firsts_apart (x ∷ xs) = (filter_passes x (first_mentions xs), filter_apart (λ y. not (is_same_end x y)) (first_mentions xs) (firsts_apart xs))

-- each is one of the lines
pub first_is_line : (lines : List Line) (k : ℕ) (x : Line) → slice_get (first_mentions lines) k ≡ Some x → Contains lines x
first_is_line [] k x at = cc
first_is_line (y ∷ ys) zero x at = let eq : y ≡ x = cc in (0, omega arith, eq)
first_is_line (y ∷ ys) (suc k) x at =
    let r = filter_had (λ z. not (is_same_end y z)) (first_mentions ys) k x at in
    later_in y ys x (first_is_line ys r.0 x r.1)

-- and each line has one
pub has_first : (lines : List Line) (x : Line) → Contains lines x → (k : ℕ) × IsEnd lines x k
has_first [] x (i, low, is) = absurd (omega (arith, low))
has_first (y ∷ ys) x (zero, low, is) = (0, record { first = y; there = refl; same = ap (is_same_end y) (sym is) ∙ same_itself y })
has_first (y ∷ ys) x (suc i, low, is) = further (has_first ys x (i, omega (arith, low), is))
  where
    further : (k : ℕ) × IsEnd ys x k → (k : ℕ) × IsEnd (y ∷ ys) x k
    further (k, e) = by (is_same_end y e.first) refl
      where
        by : (b : Bool) → is_same_end y e.first ≡ b → (k : ℕ) × IsEnd (y ∷ ys) x k
        by true does = (0, record { first = y; there = refl; same = same_through y e.first x does e.same })
        by false does =
            let kept = filter_keeps (λ z. not (is_same_end y z)) (first_mentions ys) k e.first e.there (ap not does) in
            (suc kept.0, record { first = e.first; there = kept.1; same = e.same })

-- the place of an end
place_is : (xs : List Line) (x first : Line) (k : ℕ) → AreApart xs → slice_get xs k ≡ Some first → is_same_end first x ≡ true
    → position_or_len (λ y. is_same_end y x) xs ≡ k
place_is [] x first k apart at same = cc
place_is (y ∷ ys) x first zero apart at same = let eq : y ≡ first = cc in let does : is_same_end y x ≡ true = ap (λ (z : Line). is_same_end z x) eq ∙ same in rw does refl
place_is (y ∷ ys) x first (suc k) apart at same = by (is_same_end y x) refl (place_is ys x first k apart.1 at same)
  where
    at_place : (P : Line → Type 0) (zs : List Line) (j : ℕ) (z : Line) → AllByRecursion P zs → slice_get zs j ≡ Some z → P z
    at_place P [] j z all there = cc
    at_place P (w ∷ ws) zero z all there = let eq : w ≡ z = cc in rw (sym eq) all.0
    at_place P (w ∷ ws) (suc j) z all there = at_place P ws j z all.1 there

    by : (b : Bool) → is_same_end y x ≡ b → position_or_len (λ z. is_same_end z x) ys ≡ k → position_or_len (λ z. is_same_end z x) (y ∷ ys) ≡ suc k
    by true does rest =
        let other : is_same_end y first ≡ false = at_place (λ z. is_same_end y z ≡ false) ys k first apart.0 at in
        let wrong : true ≡ false = sym (same_through y x first does (same_turned first x same)) ∙ other in
        cc
    by false does rest = rw does (omega (arith, rest))

pub end_is : (lines : List Line) (x : Line) (k : ℕ) → IsEnd lines x k → end_number lines x ≡ k
end_is lines x k e = place_is (first_mentions lines) x e.first k (firsts_apart lines) e.there e.same
