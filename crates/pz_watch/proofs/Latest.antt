-- The latest clock of the points that count is enough: one of them is near exactly where it is.
use Rattle.std.proofs.Common.{◌≡◌, refl, ap, ◌∙◌, ℕ, zero, suc, ◌-◌, ◌<◌, ◌≤◌, Bool, true, false, ◌&&◌, ◌||◌, List, Option, Some, None, arith}
use Rattle.std.specs.Prelude.{nat_le}
use Rattle.std.proofs.lemmas.Bool.{le-leb, lt-leb, leb-false}
use Rattle.pz_watch.specs.Points.{Point, clock_at}
use Rattle.pz_watch.specs.Formulas.{Bound, at_some, at_each, is_near}
use Rattle.pz_watch.specs.devices.Memory.{is_within, marked, renewed, latest_of, latest_since}
use Rattle.pz_watch.proofs.Meanings.{and_true, and_false, some_same, none_of}

-- clocks rise up to point n
pub record RiseTo (n : ℕ) (ps : List Point) : Type 0 where
  pub rising : (i k : ℕ) → i ≤ k → k ≤ n → clock_at ps i ≤ clock_at ps k

fewer : (n : ℕ) (ps : List Point) → RiseTo (suc n) ps → RiseTo n ps
fewer n ps h = record { rising = λ i k le last. h.rising i k le (omega arith) }

-- what is earlier than what is too far is too far
further : (b : Bound) (now then earlier : ℕ) → earlier ≤ then → is_near b now then ≡ false → is_near b now earlier ≡ false
further None now then earlier le h = h
further (Some bound) now then earlier le h =
    let far : bound < now - then = leb-false (now - then) bound h in
    lt-leb (now - earlier) bound (omega arith)

far : (n : ℕ) (b : Bound) (now then : ℕ) (q : ℕ → Bool) (ps : List Point) → ((j : ℕ) → j ≤ n → clock_at ps j ≤ then) → is_near b now then ≡ false → at_some n (λ j. is_near b now (clock_at ps j) && q j) ≡ false
far n b now then q ps early h =
    none_of n (λ j. is_near b now (clock_at ps j) && q j) (λ j le.
    ap (λ (v : Bool). v && q j) (further b now then (clock_at ps j) (early j le) h))

pick : (near s : Bool) → (near ≡ false → s ≡ false) → near || s ≡ near
pick true s h = refl
pick false s h = h refl

alone : (b : Bound) (now then : ℕ) (v : Bool) → is_near b now then && v ≡ is_within b now (marked v then None)
alone b now then true = and_true (is_near b now then)
alone b now then false = and_false (is_near b now then)

joined : (b : Bound) (now then : ℕ) (v s : Bool) (latest : Option ℕ) → s ≡ is_within b now latest → (is_near b now then ≡ false → s ≡ false) → (is_near b now then && v) || s ≡ is_within b now (marked v then latest)
joined b now then true s latest e h =
    ap (λ (u : Bool). u || s) (and_true (is_near b now then)) ∙ pick (is_near b now then) s h
joined b now then false s latest e h = ap (λ (u : Bool). u || s) (and_false (is_near b now then)) ∙ e

pub nearest : (n : ℕ) (b : Bound) (now : ℕ) (p : ℕ → Bool) (ps : List Point) → RiseTo n ps → at_some n (λ j. is_near b now (clock_at ps j) && p j) ≡ is_within b now (latest_of p ps (suc n))
nearest zero b now p ps h = alone b now (clock_at ps zero) (p zero)
nearest (suc n) b now p ps h =
    joined
    b
    now
    (clock_at ps (suc n))
    (p (suc n))
    (at_some n (λ j. is_near b now (clock_at ps j) && p j))
    (latest_of p ps (suc n))
    (nearest n b now p ps (fewer n ps h))
    (far n b now (clock_at ps (suc n)) p ps (λ j le. h.rising j (suc n) (omega arith) (omega arith)))

-- the same of `since`: what is behind a point and fails there takes away all points before
all_up : (n m : ℕ) (f : ℕ → Bool) → n ≤ m → at_each n (λ k. nat_le k m || f k) ≡ true
all_up zero m f le = ap (λ (v : Bool). v || f zero) (le-leb zero m (omega arith))
all_up (suc n) m f le =
    let here : nat_le (suc n) m ≡ true = le-leb (suc n) m (omega arith) in
    let rest : at_each n (λ k. nat_le k m || f k) ≡ true = all_up n m f (omega arith) in
    rw (here, rest) refl

under : (n : ℕ) (v : Bool) (a g e : ℕ → Bool) → at_some n (λ j. a j && (g j && (v && e j))) ≡ v && at_some n (λ j. a j && (g j && e j))
under n true a g e = refl
under n false a g e =
    none_of n (λ j. a j && (g j && (false && e j))) (λ j le.
    ap (λ (v : Bool). a j && v) (and_false (g j)) ∙ and_false (a j))

first : (b : Bound) (now then : ℕ) (f g : Bool) → is_near b now then && (g && true) ≡ is_within b now (renewed f g then None)
first b now then f true = and_true (is_near b now then)
first b now then true false = and_false (is_near b now then)
first b now then false false = and_false (is_near b now then)

next : (b : Bound) (now then : ℕ) (f g s : Bool) (latest : Option ℕ) → s ≡ is_within b now latest → (is_near b now then ≡ false → s ≡ false) → (is_near b now then && (g && true)) || (f && s) ≡ is_within b now (renewed f g then latest)
next b now then true true s latest e h =
    ap (λ (u : Bool). u || s) (and_true (is_near b now then)) ∙ pick (is_near b now then) s h
next b now then false true s latest e h =
    ap (λ (u : Bool). u || false) (and_true (is_near b now then)) ∙ pick (is_near b now then) false (λ far. refl)
next b now then true false s latest e h = ap (λ (u : Bool). u || s) (and_false (is_near b now then)) ∙ e
next b now then false false s latest e h = ap (λ (u : Bool). u || false) (and_false (is_near b now then))

-- f is true behind point j, up to point n
abbrev kept_from : (ℕ → Bool) → ℕ → ℕ → Bool
kept_from f n j = at_each n (λ k. nat_le k j || f k)

abbrev counts : Bound → ℕ → (ℕ → Bool) → (ℕ → Bool) → List Point → ℕ → ℕ → Bool
counts b now f g ps n j = is_near b now (clock_at ps j) && (g j && kept_from f n j)

earlier_points : (n : ℕ) (b : Bound) (now : ℕ) (f g : ℕ → Bool) (ps : List Point) → at_some n (counts b now f g ps (suc n)) ≡ f (suc n) && at_some n (counts b now f g ps n)
earlier_points n b now f g ps =
    some_same n (counts b now f g ps (suc n)) (λ j. is_near b now (clock_at ps j) && (g j && (f (suc n) && kept_from f n j))) (λ j le.
    ap
    (λ (v : Bool). is_near b now (clock_at ps j) && (g j && ((v || f (suc n)) && kept_from f n j)))
    (lt-leb (suc n) j (omega arith)))
    ∙ under n (f (suc n)) (λ j. is_near b now (clock_at ps j)) g (kept_from f n)

pub nearest_since : (n : ℕ) (b : Bound) (now : ℕ) (f g : ℕ → Bool) (ps : List Point) → RiseTo n ps → at_some n (counts b now f g ps n) ≡ is_within b now (latest_since f g ps (suc n))
nearest_since zero b now f g ps h =
    ap (λ (v : Bool). is_near b now (clock_at ps zero) && (g zero && v)) (all_up zero zero f (omega arith))
    ∙ first b now (clock_at ps zero) (f zero) (g zero)
nearest_since (suc n) b now f g ps h =
    ap
    (λ (v : Bool). (is_near b now (clock_at ps (suc n)) && (g (suc n) && v)) || at_some n (counts b now f g ps (suc n)))
    (all_up (suc n) (suc n) f (omega arith))
    ∙ ap
    (λ (v : Bool). (is_near b now (clock_at ps (suc n)) && (g (suc n) && true)) || v)
    (earlier_points n b now f g ps)
    ∙ next
    b
    now
    (clock_at ps (suc n))
    (f (suc n))
    (g (suc n))
    (at_some n (counts b now f g ps n))
    (latest_since f g ps (suc n))
    (nearest_since n b now f g ps (fewer n ps h))
    (far n b now (clock_at ps (suc n)) (λ j. g j && kept_from f n j) ps (λ j le. h.rising j (suc n) (omega arith) (omega arith)))
