-- A line is cut at its end, and into words at its blanks, in one way.
use Rattle.std.proofs.Common.{◌≡◌, ◌≢◌, refl, sym, ap, subst, ◌∙◌, ℕ, ◌≤◌, Bool, true, false, ◌&&◌, not, ◌==◌, List, [], ◌∷◌, ◌++◌, length, eq-eqb, arith}
use Rattle.std.specs.List.{list_all, join_with_byte}
use Rattle.std.specs.Str.Parse.{AllDigits}
use Rattle.std.specs.Int.{IsInRange}
use Rattle.std.proofs.lemmas.Bool.{eqb-true}
use Rattle.std.proofs.lemmas.Str.Parse.{digit_at}
use Rattle.pz_lines.specs.Words.{is_inside}
use Rattle.pz_lines.specs.devices.Lacking.{Lacks, EachLacks}

pub lacks_both : (c : ℕ) (a b : List ℕ) → Lacks c a → Lacks c b → Lacks c (a ++ b)
lacks_both c [] b la lb = lb
lacks_both c (x ∷ a) b la lb = (la.0, lacks_both c a b la.1 lb)

pub lacks_not : (c : ℕ) (a r : List ℕ) → Lacks c (a ++ (c ∷ r)) → ⊥
lacks_not c [] r l = l.0 refl
lacks_not c (x ∷ a) r l = lacks_not c a r l.1

tail_of : List ℕ → List ℕ
tail_of [] = []
tail_of (x ∷ xs) = xs

head_of : List ℕ → ℕ
head_of [] = 0
head_of (x ∷ xs) = x

pub tails : (x y : ℕ) (a b : List ℕ) → x ∷ a ≡ y ∷ b → a ≡ b
unfolding tail_of
tails x y a b e = ap tail_of e

heads : (x y : ℕ) (a b : List ℕ) → x ∷ a ≡ y ∷ b → x ≡ y
unfolding head_of
heads x y a b e = ap head_of e

pub cut : (c : ℕ) (a b r s : List ℕ) → Lacks c a → Lacks c b → a ++ (c ∷ r) ≡ b ++ (c ∷ s) → (a ≡ b) × (r ≡ s)
cut c [] [] r s la lb e = (refl, tails c c r s e)
cut c [] (y ∷ b) r s la lb e = absurd (lb.0 (sym (heads c y r (b ++ (c ∷ s)) e)))
cut c (x ∷ a) [] r s la lb e = absurd (la.0 (heads x c (a ++ (c ∷ r)) s e))
cut c (x ∷ a) (y ∷ b) r s la lb e =
    let rest = cut c a b r s la.1 lb.1 (tails x y (a ++ (c ∷ r)) (b ++ (c ∷ s)) e) in
    let first : x ≡ y = heads x y (a ++ (c ∷ r)) (b ++ (c ∷ s)) e in
    (ap (λ (k : ℕ). k ∷ a) first ∙ ap (λ (l : List ℕ). y ∷ l) rest.0, rest.1)

-- bytes of one word

and_split : (a b : Bool) → a && b ≡ true → (a ≡ true) × (b ≡ true)
and_split true b e = (refl, e)
and_split false b e = absurd cc

other : (b c : ℕ) → not (b == c) ≡ true → b ≢ c
other b c h = λ (same : b ≡ c).
    (let yes : not (b == c) ≡ false = ap not (eq-eqb b c same) in
    let no : false ≡ true = sym yes ∙ h in cc)

pub lacks_blank : (w : List ℕ) → list_all is_inside w ≡ true → Lacks 32 w
lacks_blank [] e = tt
lacks_blank (b ∷ bs) e =
    let parts = and_split (is_inside b) (list_all is_inside bs) e in
    let here = and_split (not (b == 32)) (not (b == 10)) parts.0 in
    (other b 32 here.0, lacks_blank bs parts.1)

pub lacks_end : (w : List ℕ) → list_all is_inside w ≡ true → Lacks 10 w
lacks_end [] e = tt
lacks_end (b ∷ bs) e =
    let parts = and_split (is_inside b) (list_all is_inside bs) e in
    let here = and_split (not (b == 32)) (not (b == 10)) parts.0 in
    (other b 10 here.1, lacks_end bs parts.1)

-- no end of a word stands in any of them

abbrev pub EachInside : List (List ℕ) → Type 0
EachInside [] = Unit {0}
EachInside (w ∷ ws) = (list_all is_inside w ≡ true) × EachInside ws

pub inside_both : (a b : List (List ℕ)) → EachInside a → EachInside b → EachInside (a ++ b)
inside_both [] b ia ib = ib
inside_both (w ∷ a) b ia ib = (ia.0, inside_both a b ia.1 ib)

not_same : (b k : ℕ) → b ≢ k → not (b == k) ≡ true
not_same b k differ = by_answer (b == k) (eqb-true b k)
  where
    by_answer : (r : Bool) → (r ≡ true → b ≡ k) → not r ≡ true
    by_answer true same = absurd (differ (same refl))
    by_answer false same = refl

both_true : (a b : Bool) → a ≡ true → b ≡ true → a && b ≡ true
both_true true b ea eb = eb
both_true false b ea eb = ea

pub digits_inside : (ds : List ℕ) → AllDigits 10 ds → list_all is_inside ds ≡ true
digits_inside [] all = refl
digits_inside (d ∷ ds) all =
    let digit : IsInRange 48 57 d = digit_at (d ∷ ds) 0 all (omega arith) in
    let low : 48 ≤ d = digit.0 in
    both_true
    (is_inside d)
    (list_all is_inside ds)
    (both_true (not (d == 32)) (not (d == 10)) (not_same d 32 (λ (e : d ≡ 32). omega arith)) (not_same d 10 (λ (e : d ≡ 10). omega arith)))
    (digits_inside ds all.1)

-- the words, joined by blanks

pub joined_lacks_end : (ws : List (List ℕ)) → EachInside ws → Lacks 10 (join_with_byte 32 ws)
joined_lacks_end [] is = tt
joined_lacks_end (w ∷ []) is = lacks_end w is.0
joined_lacks_end (w ∷ u ∷ ws) is =
    lacks_both 10 w (32 ∷ join_with_byte 32 (u ∷ ws)) (lacks_end w is.0) (λ (e : 32 ≡ 10). omega arith, joined_lacks_end (u ∷ ws) is.1)

pub each_lacks_blank : (ws : List (List ℕ)) → EachInside ws → EachLacks 32 ws
each_lacks_blank [] is = tt
each_lacks_blank (w ∷ ws) is = (lacks_blank w is.0, each_lacks_blank ws is.1)

pub joins : (ws vs : List (List ℕ)) → 1 ≤ length ws → 1 ≤ length vs → EachLacks 32 ws → EachLacks 32 vs → join_with_byte 32 ws ≡ join_with_byte 32 vs → ws ≡ vs
joins [] vs some more is are e = absurd (omega arith)
joins (w ∷ ws) [] some more is are e = absurd (omega arith)
joins (w ∷ []) (v ∷ []) some more is are e = ap (λ (u : List ℕ). u ∷ []) e
joins (w ∷ []) (v ∷ u ∷ vs) some more is are e =
    absurd (lacks_not 32 v (join_with_byte 32 (u ∷ vs)) (subst (Lacks 32) e is.0))
joins (w ∷ t ∷ ws) (v ∷ []) some more is are e =
    absurd (lacks_not 32 w (join_with_byte 32 (t ∷ ws)) (subst (Lacks 32) (sym e) are.0))
joins (w ∷ t ∷ ws) (v ∷ u ∷ vs) some more is are e =
    let parts = cut 32 w v (join_with_byte 32 (t ∷ ws)) (join_with_byte 32 (u ∷ vs)) is.0 are.0 e in
    let rest : t ∷ ws ≡ u ∷ vs = joins (t ∷ ws) (u ∷ vs) (omega arith) (omega arith) is.1 are.1 parts.1 in
    ap (λ (x : List ℕ). x ∷ t ∷ ws) parts.0 ∙ ap (λ (xs : List (List ℕ)). v ∷ xs) rest
