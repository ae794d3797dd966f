-- What holds at some points and at each: the same for the same values, and the one by the other.
use Rattle.std.proofs.Common.{◌≡◌, refl, sym, ap, ◌∙◌, append-nil, append_assoc, ℕ, zero, suc, ◌<◌, ◌≤◌, Bool, true, false, ◌&&◌, ◌||◌, not, List, [], ◌∷◌, ◌++◌, length, arith}
use Rattle.pz_watch.specs.Points.{Point, clock_at}
use Rattle.pz_watch.specs.Formulas.{Formula, line, negation, both, either, before, once, always, since, says_at, at_some, at_each, holds}
use Rattle.std.specs.Prelude.{nat_le}
use Rattle.pz_watch.proofs.Points.{get_left, clock_left, length_added}

pub and_true : (a : Bool) → a && true ≡ a
and_true true = refl
and_true false = refl

pub and_false : (a : Bool) → a && false ≡ false
and_false true = refl
and_false false = refl

pub some_same : (n : ℕ) (p q : ℕ → Bool) → ((j : ℕ) → j ≤ n → p j ≡ q j) → at_some n p ≡ at_some n q
some_same zero p q h = h zero (omega arith)
some_same (suc n) p q h =
    let here : p (suc n) ≡ q (suc n) = h (suc n) (omega arith) in
    let rest : at_some n p ≡ at_some n q = some_same n p q (λ j le. h j (omega arith)) in
    rw (here, rest) refl

pub each_same : (n : ℕ) (p q : ℕ → Bool) → ((j : ℕ) → j ≤ n → p j ≡ q j) → at_each n p ≡ at_each n q
each_same zero p q h = h zero (omega arith)
each_same (suc n) p q h =
    let here : p (suc n) ≡ q (suc n) = h (suc n) (omega arith) in
    let rest : at_each n p ≡ at_each n q = each_same n p q (λ j le. h j (omega arith)) in
    rw (here, rest) refl

pub none_of : (n : ℕ) (p : ℕ → Bool) → ((j : ℕ) → j ≤ n → p j ≡ false) → at_some n p ≡ false
none_of zero p h = h zero (omega arith)
none_of (suc n) p h =
    let here : p (suc n) ≡ false = h (suc n) (omega arith) in
    let rest : at_some n p ≡ false = none_of n p (λ j le. h j (omega arith)) in
    rw (here, rest) refl

not_or : (a b c : Bool) → a ≡ not b → (not c || a) ≡ (not c || not b)
not_or a b c h = ap (λ (v : Bool). not c || v) h

over : (a c s : Bool) → (not a || c) && not s ≡ not ((a && not c) || s)
over true true s = refl
over true false s = refl
over false c s = refl

one_over : (a c : Bool) → (not a || c) ≡ not (a && not c)
one_over true true = refl
one_over true false = refl
one_over false c = refl

-- at each point, unless at some point not
pub each_is : (n : ℕ) (near p : ℕ → Bool) → at_each n (λ j. not (near j) || p j) ≡ not (at_some n (λ j. near j && not (p j)))
each_is zero near p = one_over (near zero) (p zero)
each_is (suc n) near p =
    ap (λ (v : Bool). (not (near (suc n)) || p (suc n)) && v) (each_is n near p)
    ∙ over (near (suc n)) (p (suc n)) (at_some n (λ j. near j && not (p j)))

-- what holds at a point stays when another is added
pub stays : (f : Formula) (ps : List Point) (x : Point) (i : ℕ) → i < length ps → holds f (ps ++ x ∷ []) i ≡ holds f ps i
stays (line atom) ps x i h = ap (says_at atom) (get_left ps x i h)
stays (negation f) ps x i h = ap not (stays f ps x i h)
stays (both f g) ps x i h =
    let one : holds f (ps ++ x ∷ []) i ≡ holds f ps i = stays f ps x i h in
    let other : holds g (ps ++ x ∷ []) i ≡ holds g ps i = stays g ps x i h in
    rw (one, other) refl
stays (either f g) ps x i h =
    let one : holds f (ps ++ x ∷ []) i ≡ holds f ps i = stays f ps x i h in
    let other : holds g (ps ++ x ∷ []) i ≡ holds g ps i = stays g ps x i h in
    rw (one, other) refl
stays (before f) ps x zero h = refl
stays (before f) ps x (suc i) h = stays f ps x i (omega arith)
stays (once b f) ps x i h =
    some_same i _ _ (λ j le.
    let now : clock_at (ps ++ x ∷ []) i ≡ clock_at ps i = clock_left ps x i h in
    let then : clock_at (ps ++ x ∷ []) j ≡ clock_at ps j = clock_left ps x j (omega arith) in
    let part : holds f (ps ++ x ∷ []) j ≡ holds f ps j = stays f ps x j (omega arith) in
    rw (now, then, part) refl)
stays (always b f) ps x i h =
    each_same i _ _ (λ j le.
    let now : clock_at (ps ++ x ∷ []) i ≡ clock_at ps i = clock_left ps x i h in
    let then : clock_at (ps ++ x ∷ []) j ≡ clock_at ps j = clock_left ps x j (omega arith) in
    let part : holds f (ps ++ x ∷ []) j ≡ holds f ps j = stays f ps x j (omega arith) in
    rw (now, then, part) refl)
stays (since b f g) ps x i h =
    some_same i _ _ (λ j le.
    let now : clock_at (ps ++ x ∷ []) i ≡ clock_at ps i = clock_left ps x i h in
    let then : clock_at (ps ++ x ∷ []) j ≡ clock_at ps j = clock_left ps x j (omega arith) in
    let met : holds g (ps ++ x ∷ []) j ≡ holds g ps j = stays g ps x j (omega arith) in
    let kept : at_each i (λ k. nat_le k j || holds f (ps ++ x ∷ []) k) ≡ at_each i (λ k. nat_le k j || holds f ps k) =
    each_same i _ _ (λ k at. ap (λ (v : Bool). nat_le k j || v) (stays f ps x k (omega arith))) in
    rw (now, then, met, kept) refl)

-- .. and when any number of them is
pub stays_all : (f : Formula) (ps more : List Point) (i : ℕ) → i < length ps → holds f (ps ++ more) i ≡ holds f ps i
stays_all f ps [] i h = ap (λ (all : List Point). holds f all i) (append-nil ps)
stays_all f ps (x ∷ more) i h =
    ap (λ (all : List Point). holds f all i) (sym (append_assoc ps (x ∷ []) more))
    ∙ stays_all f (ps ++ x ∷ []) more i (rw length_added (omega arith))
    ∙ stays f ps x i h
