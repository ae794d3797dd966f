-- The orders of places, ends, pairs, actions and sources are strict, and a configuration has one list
-- of offers.
use Rattle.std.proofs.Common.{◌≡◌, ◌<◌, ◌≤◌, ◌⊎◌, inl, inr, ℕ, List, [], ◌∷◌, refl, sym, subst, ap, ◌∙◌, arith}
use Rattle.std.proofs.lemmas.Bool.{cases_lt}
use Rattle.std.proofs.lemmas.List.Elements.{All-contains}
use Rattle.pz_offer.specs.declared.end.End.{End}
use Rattle.pz_offer.specs.PlaceOrder.{Place, PlaceBefore, EndBefore}
use Rattle.pz_rules.specs.declared.action.Action.{Action}
use Rattle.pz_rules.specs.declared.action.Action.TheVariants.{Internal, Comm}
use Rattle.pz_rules.specs.Settings.{Setting}
use Rattle.pz_rules.specs.Configurations.{Config}
use Rattle.pz_rules.specs.Offers.{Offers, PairBefore, Before, IsOffers}
use Rattle.pz_rules.specs.Moments.{Source, part, pair, SourceBefore}
use Rattle.pz_rules.proofs.Lists.{one_increasing}

place_irreflexive : (p : Place) → PlaceBefore p p → ⊥
place_irreflexive [] h = h
place_irreflexive (i ∷ p) (inl less) = omega (arith, less)
place_irreflexive (i ∷ p) (inr (same, h)) = place_irreflexive p h

pub place_transitive : (p q r : Place) → PlaceBefore p q → PlaceBefore q r → PlaceBefore p r
place_transitive p [] r a b = absurd a
place_transitive p (j ∷ q) [] a b = absurd b
place_transitive [] (j ∷ q) (k ∷ r) a b = tt
place_transitive (i ∷ p) (j ∷ q) (k ∷ r) (inl a) (inl b) = inl (omega (arith, a, b))
place_transitive (i ∷ p) (j ∷ q) (k ∷ r) (inl a) (inr (e, b)) = inl (omega (arith, a, e))
place_transitive (i ∷ p) (j ∷ q) (k ∷ r) (inr (e, a)) (inl b) = inl (omega (arith, e, b))
place_transitive (i ∷ p) (j ∷ q) (k ∷ r) (inr (e, a)) (inr (f, b)) = inr (e ∙ f, place_transitive p q r a b)

pub end_irreflexive : (a : End) → EndBefore a a → ⊥
end_irreflexive a (inl less) = omega (arith, less)
end_irreflexive a (inr (same, h)) = place_irreflexive a.place h

pub end_transitive : (a b c : End) → EndBefore a b → EndBefore b c → EndBefore a c
end_transitive a b c (inl x) (inl y) = inl (omega (arith, x, y))
end_transitive a b c (inl x) (inr (e, y)) = inl (omega (arith, x, e))
end_transitive a b c (inr (e, x)) (inl y) = inl (omega (arith, e, y))
end_transitive a b c (inr (e, x)) (inr (f, y)) = inr (e ∙ f, place_transitive a.place b.place c.place x y)

-- by one thing, and where that is the same by another
module _ {A B : Type 0} (R : A → A → Type 0) (S : B → B → Type 0)
    (r_transitive : (a b c : A) → R a b → R b c → R a c) (s_transitive : (a b c : B) → S a b → S b c → S a c) where
  both_transitive : (a b c : A) (x y z : B) → R a b ⊎ ((a ≡ b) × S x y) → R b c ⊎ ((b ≡ c) × S y z) → R a c ⊎ ((a ≡ c) × S x z)
  both_transitive a b c x y z (inl h) (inl k) = inl (r_transitive a b c h k)
  both_transitive a b c x y z (inl h) (inr (e, k)) = inl (subst (λ (w : A). R a w) e h)
  both_transitive a b c x y z (inr (e, h)) (inl k) = inl (subst (λ (w : A). R w c) (sym e) k)
  both_transitive a b c x y z (inr (e, h)) (inr (f, k)) = inr (e ∙ f, s_transitive x y z h k)

pub number_transitive : (a b c : ℕ) → a < b → b < c → a < c
number_transitive a b c h k = omega (arith, h, k)

-- of two ends, by the first and then the second
abbrev EndsBefore : End × End → End × End → Type 0
EndsBefore x y = EndBefore x.0 y.0 ⊎ ((x.0 ≡ y.0) × EndBefore x.1 y.1)

ends_transitive : (x y z : End × End) → EndsBefore x y → EndsBefore y z → EndsBefore x z
ends_transitive x y z h k = both_transitive EndBefore EndBefore end_transitive end_transitive x.0 y.0 z.0 x.1 y.1 z.1 h k

pub pair_transitive : (w v u : ℕ) (s s' s'' r r' r'' : End) → PairBefore w s r v s' r' → PairBefore v s' r' u s'' r'' → PairBefore w s r u s'' r''
pair_transitive w v u s s' s'' r r' r'' h k = both_transitive (λ (a b : ℕ). a < b) EndsBefore number_transitive ends_transitive w v u (s, r) (s', r') (s'', r'') h k

pub pair_irreflexive : (w : ℕ) (s r : End) → PairBefore w s r w s r → ⊥
pair_irreflexive w s r (inl less) = omega (arith, less)
pair_irreflexive w s r (inr (same, inl h)) = end_irreflexive s h
pair_irreflexive w s r (inr (same, inr (again, h))) = end_irreflexive r h

irreflexive : (a : Action) → Before a a → ⊥
irreflexive (Internal at kind pos) h = end_irreflexive at h
irreflexive (Comm w s r message parcel) h = pair_irreflexive w s r h

pub transitive : (a b c : Action) → Before a b → Before b c → Before a c
transitive (Internal x k p) (Internal y l q) (Internal z m r) h i = end_transitive x y z h i
transitive (Internal x k p) (Internal y l q) (Comm w s r message parcel) h i = tt
transitive (Internal x k p) (Comm w s r message parcel) (Internal z m q) h i = absurd i
transitive (Internal x k p) (Comm w s r message parcel) (Comm w' s' r' message' parcel') h i = tt
transitive (Comm w s r message parcel) (Internal y l q) c h i = absurd h
transitive (Comm w s r message parcel) (Comm w' s' r' message' parcel') (Internal z m q) h i = absurd i
transitive (Comm w s r message parcel) (Comm w' s' r' message' parcel') (Comm w'' s'' r'' message'' parcel'') h i = pair_transitive w w' w'' s s' s'' r r' r'' h i

pub one_list : (setting : Setting) (c : Config) (xs ys : List Action) → IsOffers setting c xs → IsOffers setting c ys → xs ≡ ys
one_list setting c xs ys first second =
    one_increasing Before irreflexive transitive xs ys first.ordered second.ordered
    (λ a within. second.every a (All-contains (Offers setting c) xs a first.derivable within))
    (λ a within. first.every a (All-contains (Offers setting c) ys a second.derivable within))

-- the order of sources of troubles

pub source_irreflexive : (x : Source) → SourceBefore x x → ⊥
source_irreflexive (part a) h = end_irreflexive a h
source_irreflexive (pair w s r) h = pair_irreflexive w s r h

-- each of these orders has one before the other, unless they are the same

abbrev pub Either : {A : Type 0} → (A → A → Type 0) → A → A → Type 0
Either R a b = R a b ⊎ ((a ≡ b) ⊎ R b a)

pub number_order : (m n : ℕ) → Either (λ (a b : ℕ). a < b) m n
number_order m n = by (cases_lt m n) (cases_lt n m)
  where
    by : (m < n) ⊎ (n ≤ m) → (n < m) ⊎ (m ≤ n) → Either (λ (a b : ℕ). a < b) m n
    by (inl less) other = inl less
    by (inr more) (inl after) = inr (inr after)
    by (inr more) (inr less) = inr (inl (omega (arith, more, less)))

module _ {A B : Type 0} (R : A → A → Type 0) (S : B → B → Type 0) where
  abbrev First : A × B → A × B → Type 0
  First x y = R x.0 y.0 ⊎ ((x.0 ≡ y.0) × S x.1 y.1)

  both_order : (a b : A) (x y : B) → Either R a b → Either S x y → Either First (a, x) (b, y)
  both_order a b x y (inl h) k = inl (inl h)
  both_order a b x y (inr (inr h)) k = inr (inr (inl h))
  both_order a b x y (inr (inl e)) (inl k) = inl (inr (e, k))
  both_order a b x y (inr (inl e)) (inr (inl d)) = inr (inl (ap (λ (c : A). let p : A × B = (c, x) in p) e ∙ ap (λ (z : B). let p : A × B = (b, z) in p) d))
  both_order a b x y (inr (inl e)) (inr (inr k)) = inr (inr (inr (sym e, k)))

seen_as : {A B : Type 0} (R : A → A → Type 0) (S : B → B → Type 0) (f : A → B) (a b : A) → ((x y : A) → R x y → S (f x) (f y)) → Either R a b → Either S (f a) (f b)
seen_as R S f a b along (inl h) = inl (along a b h)
seen_as R S f a b along (inr (inl e)) = inr (inl (ap f e))
seen_as R S f a b along (inr (inr h)) = inr (inr (along b a h))

pub place_order : (p q : Place) → Either PlaceBefore p q
place_order [] [] = inr (inl refl)
place_order [] (j ∷ q) = inl tt
place_order (i ∷ p) [] = inr (inr tt)
place_order (i ∷ p) (j ∷ q) =
    seen_as (First (λ (a b : ℕ). a < b) PlaceBefore) PlaceBefore (λ (x : ℕ × Place). x.0 ∷ x.1) (i, p) (j, q) (λ x y h. h)
    (both_order (λ (a b : ℕ). a < b) PlaceBefore i j p q (number_order i j) (place_order p q))

pub end_order : (a b : End) → Either EndBefore a b
end_order a b =
    seen_as (First (λ (m n : ℕ). m < n) PlaceBefore) EndBefore (λ (x : ℕ × Place). let e : End = record { process = x.0; place = x.1 } in e) (a.process, a.place) (b.process, b.place) (λ x y h. h)
    (both_order (λ (m n : ℕ). m < n) PlaceBefore a.process b.process a.place b.place (number_order a.process b.process) (place_order a.place b.place))

abbrev pub ThreeBefore : ℕ × (End × End) → ℕ × (End × End) → Type 0
ThreeBefore x y = PairBefore x.0 x.1.0 x.1.1 y.0 y.1.0 y.1.1

pub three_order : (w : ℕ) (s r : End) (w' : ℕ) (s' r' : End) → Either ThreeBefore (w, (s, r)) (w', (s', r'))
three_order w s r w' s' r' =
    both_order (λ (a b : ℕ). a < b) (First EndBefore EndBefore) w w' (s, r) (s', r') (number_order w w')
    (both_order EndBefore EndBefore s s' r r' (end_order s s') (end_order r r'))

pub source_order : (x y : Source) → Either SourceBefore x y
source_order (part a) (part b) = seen_as EndBefore SourceBefore (λ e. part e) a b (λ x y h. h) (end_order a b)
source_order (part a) (pair w s r) = inl tt
source_order (pair w s r) (part b) = inr (inr tt)
source_order (pair w s r) (pair w' s' r') =
    seen_as ThreeBefore SourceBefore (λ (x : ℕ × (End × End)). pair x.0 x.1.0 x.1.1) (w, (s, r)) (w', (s', r')) (λ x y h. h) (three_order w s r w' s' r')

pub source_transitive : (x y z : Source) → SourceBefore x y → SourceBefore y z → SourceBefore x z
source_transitive (part a) (part b) (part d) h k = end_transitive a b d h k
source_transitive (part a) (part b) (pair w s r) h k = tt
source_transitive (part a) (pair w s r) (part d) h k = absurd k
source_transitive (part a) (pair w s r) (pair w' s' r') h k = tt
source_transitive (pair w s r) (part b) z h k = absurd h
source_transitive (pair w s r) (pair w' s' r') (part d) h k = absurd k
source_transitive (pair w s r) (pair w' s' r') (pair w'' s'' r'') h k = pair_transitive w w' w'' s s' s'' r r' r'' h k
