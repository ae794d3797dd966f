-- The ancestors of a class are the classes that parents reach: a way that visits no class twice is
-- no longer than there are classes.
use Rattle.std.proofs.Common.{◌≡◌, refl, sym, subst, ℕ, zero, suc, ◌<◌, ◌≤◌, Bool, true, false, List, [], ◌∷◌, length, Option, Some, None, eqb, arith}
use Rattle.std.specs.List.{Contains, IsDistinct, AllByRecursion, list_any}
use Rattle.std.specs.Option.{option_map_or}
use Rattle.std.proofs.lemmas.Bool.{eqb-true}
use Rattle.std.proofs.lemmas.Bool.Decides.{nat_tests}
use Rattle.std.proofs.lemmas.Cmp.{nat_eq_equiv}
use Rattle.std.proofs.lemmas.Map.Keys.{IsDistinct-cons, IsDistinct-tail}
use Rattle.std.proofs.lemmas.Map.Steps.{length-le_from_distinct_below}
use Rattle.std.proofs.lemmas.Map.Views.{Contains-from_any, list_any-from_Contains}
use Rattle.std.proofs.lemmas.Option.{slice_get_within}
use Rattle.pz_classes_code.specs.pz_syntax.Classes.{ModelTree}
use Rattle.pz_classes_rules.specs.Ancestors.{parent, ancestors, followed}
use Rattle.pz_classes_lineage.specs.Reached.{Reaches, itself, further}
use Rattle.pz_classes_rules.specs.Reached.{AncestorsAreReached}
use Rattle.pz_classes_rules.proofs.Within.{parent_within, parent_positive}

-- a way from one class to another, and the classes on it
data Walk (m : ModelTree) : ℕ → ℕ → List ℕ → Type 0 where
  stay : (c : ℕ) → Walk m c c (c ∷ [])
  go : (c p k : ℕ) (xs : List ℕ) → parent m c ≡ Some p → Walk m p k xs → Walk m c k (c ∷ xs)

-- one that visits no class twice
record Straight (m : ModelTree) (c k : ℕ) : Type 0 where
  classes : List ℕ
  walk : Walk m c k classes
  distinct : IsDistinct eqb classes

same_number : (n : ℕ) → eqb n n ≡ true
same_number n = grind (arith, nat_tests)

pub apart : (c : ℕ) (xs : List ℕ) → list_any (eqb c) xs ≡ false → AllByRecursion (λ y. eqb c y ≡ false) xs
apart c [] none = tt
apart c (x ∷ xs) none = by_test (eqb c x) refl (apart c xs)
  where
    by_test : (b : Bool) → eqb c x ≡ b → (list_any (eqb c) xs ≡ false → AllByRecursion (λ y. eqb c y ≡ false) xs) → AllByRecursion (λ y. eqb c y ≡ false) (x ∷ xs)
    by_test true is rest = let wrong : true ≡ false = rw is at none in cc
    by_test false is rest = (is, rest (rw is at none))

module _ (m : ModelTree) where
  -- the part of a way from a class on it
  cut : (p k c : ℕ) (xs : List ℕ) → Walk m p k xs → IsDistinct eqb xs → list_any (eqb c) xs ≡ true → Straight m c k
  cut _ _ c _ (stay p) once here = by_test (eqb c p) refl
    where
      by_test : (b : Bool) → eqb c p ≡ b → Straight m c p
      by_test true is = subst (λ (x : ℕ). Straight m x p) (sym (eqb-true c p is)) (record { classes = p ∷ []; walk = stay p; distinct = once })
      by_test false is = let wrong : false ≡ true = rw is at here in cc
  cut _ _ c _ (go p q k ys up rest) once here = by_test (eqb c p) refl (cut q k c ys rest (IsDistinct-tail eqb p ys once))
    where
      by_test : (b : Bool) → eqb c p ≡ b → (list_any (eqb c) ys ≡ true → Straight m c k) → Straight m c k
      by_test true is later = subst (λ (x : ℕ). Straight m x k) (sym (eqb-true c p is)) (record { classes = p ∷ ys; walk = go p q k ys up rest; distinct = once })
      by_test false is later = later (rw is at here)

  straight : (c k : ℕ) → Reaches (parent m) c k → Straight m c k
  unfolding IsDistinct
  straight _ _ (itself c) = record { classes = c ∷ []; walk = stay c; distinct = IsDistinct-cons eqb c [] tt tt }
  straight _ _ (further c p k up rest) = by_way (straight p k rest)
    where
      by_way : Straight m p k → Straight m c k
      by_way way = by_test (list_any (eqb c) way.classes) refl
        where
          by_test : (b : Bool) → list_any (eqb c) way.classes ≡ b → Straight m c k
          by_test true is = cut p k c way.classes way.walk way.distinct is
          by_test false is = record {
            classes = c ∷ way.classes;
            walk = go c p k way.classes up way.walk;
            distinct = IsDistinct-cons eqb c way.classes (apart c way.classes is) way.distinct;
          }

  -- on a way from a class that is declared there are only such classes
  on_way : (c k : ℕ) (xs : List ℕ) → 0 < c → c < suc (length m.decls) → Walk m c k xs → (q : ℕ) → list_any (eqb q) xs ≡ true → (0 < q) × (q < suc (length m.decls))
  on_way _ _ _ some below (stay c) q here = by_test (eqb q c) refl
    where
      by_test : (b : Bool) → eqb q c ≡ b → (0 < q) × (q < suc (length m.decls))
      by_test true is = let same : q ≡ c = eqb-true q c is in rw same (some, below)
      by_test false is = let wrong : false ≡ true = rw is at here in cc
  on_way _ _ _ some below (go c p k xs up rest) q here = by_test (eqb q c) refl (on_way p k xs (parent_positive m c p up) (parent_within m c p up) rest q)
    where
      by_test : (b : Bool) → eqb q c ≡ b → (list_any (eqb q) xs ≡ true → (0 < q) × (q < suc (length m.decls))) → (0 < q) × (q < suc (length m.decls))
      by_test true is later = let same : q ≡ c = eqb-true q c is in rw same (some, below)
      by_test false is later = later (rw is at here)

  short : (c k : ℕ) → 0 < c → c < suc (length m.decls) → (way : Straight m c k) → length way.classes ≤ length m.decls
  short c k some below way = let all : suc (length way.classes) ≤ suc (length m.decls) = length-le_from_distinct_below (0 ∷ way.classes) (suc (length m.decls)) distinct inside in omega arith
    where
      on : (q : ℕ) → list_any (eqb q) way.classes ≡ true → (0 < q) × (q < suc (length m.decls))
      on = on_way c k way.classes some below way.walk

      none : (b : Bool) → list_any (eqb 0) way.classes ≡ b → list_any (eqb 0) way.classes ≡ false
      none true is = let wrong : 0 < 0 = (on 0 is).0 in absurd (omega arith)
      none false is = is

      distinct : IsDistinct eqb (0 ∷ way.classes)
      distinct = IsDistinct-cons eqb 0 way.classes (apart 0 way.classes (none (list_any (eqb 0) way.classes) refl)) way.distinct

      inside : (q : ℕ) → list_any (eqb q) (0 ∷ way.classes) ≡ true → q < suc (length m.decls)
      inside zero is = omega arith
      inside (suc q) is = by_test (eqb (suc q) 0) refl
        where
          by_test : (b : Bool) → eqb (suc q) 0 ≡ b → suc q < suc (length m.decls)
          by_test true same = let wrong : suc q ≡ 0 = eqb-true (suc q) 0 same in absurd (omega arith)
          by_test false other = (on (suc q) (rw other at is)).1

  -- a way that is not too long is followed
  followed_to : (c k : ℕ) (xs : List ℕ) (n : ℕ) → Walk m c k xs → length xs ≤ n → list_any (eqb k) (followed (parent m) n c) ≡ true
  followed_to _ _ _ zero (stay c) fits = absurd (omega arith)
  followed_to _ _ _ (suc n) (stay c) fits = rw (same_number c) refl
  followed_to _ _ _ zero (go c p k xs up rest) fits = absurd (omega arith)
  followed_to _ _ _ (suc n) (go c p k xs up rest) fits = by_test (eqb k c) refl (followed_to p k xs n rest (omega arith))
    where
      by_test : (b : Bool) → eqb k c ≡ b → list_any (eqb k) (followed (parent m) n p) ≡ true → list_any (eqb k) (followed (parent m) (suc n) c) ≡ true
      by_test true is later = rw is refl
      by_test false is later = rw (is, up) later

  pub followed_from : (n c k : ℕ) → list_any (eqb k) (followed (parent m) n c) ≡ true → Reaches (parent m) c k
  followed_from zero c k is = cc
  followed_from (suc n) c k is = by_test (followed_from n) (eqb k c) refl
    where
      by_parent : ((p q : ℕ) → list_any (eqb q) (followed (parent m) n p) ≡ true → Reaches (parent m) p q) → (o : Option ℕ) → parent m c ≡ o → list_any (eqb k) (option_map_or (followed (parent m) n) o []) ≡ true → Reaches (parent m) c k
      by_parent from None up at = cc
      by_parent from (Some p) up at = further c p k up (from p k at)

      by_test : ((p q : ℕ) → list_any (eqb q) (followed (parent m) n p) ≡ true → Reaches (parent m) p q) → (b : Bool) → eqb k c ≡ b → Reaches (parent m) c k
      by_test from true here = subst (λ (x : ℕ). Reaches (parent m) c x) (sym (eqb-true k c here)) (itself c)
      by_test from false other = by_parent from (parent m c) refl (rw other at is)

pub reached : AncestorsAreReached
reached m zero d here k = cc
reached m (suc i) d here k =
    let below : i < length m.decls = slice_get_within m.decls i d here in (
      λ among. followed_from m (suc (length m.decls)) (suc i) k (list_any-from_Contains nat_eq_equiv k (ancestors m (suc i)) among),
      λ reach. to_list (straight m (suc i) k reach) (short m (suc i) k (omega arith) (omega arith) (straight m (suc i) k reach)),
    )
  where
    to_list : (way : Straight m (suc i) k) → length way.classes ≤ length m.decls → Contains (ancestors m (suc i)) k
    to_list way fits = Contains-from_any (λ x y. eqb-true x y) k (ancestors m (suc i)) (followed_to m (suc i) k way.classes (suc (length m.decls)) way.walk (omega arith))
