-- Gathering keeps each number where it occurs first.
use Rattle.std.proofs.Common.{◌≡◌, refl, sym, ◌∙◌, ap, subst, ℕ, zero, suc, ◌⊎◌, inl, inr, Bool, true, false, not, ◌&&◌, ◌||◌, cond, if◌then◌else◌, List, [], ◌∷◌, ◌++◌, Some}
use Rattle.std.specs.Prelude.{nat_eq, filter, slice_get}
use Rattle.std.specs.List.{list_any, IsDistinct, AllByRecursion}
use Rattle.std.proofs.lemmas.Bool.{eqb-true, eq-eqb}
use Rattle.std.proofs.lemmas.Cmp.{nat_eq_equiv}
use Rattle.std.proofs.lemmas.List.{append-nil, append_assoc}
use Rattle.std.proofs.lemmas.List.Folds.{list_any-append}
use Rattle.std.proofs.lemmas.Map.Keys.{IsDistinct-push}
use Rattle.indexmap.specs.IndexSet.{insert_key}
use Rattle.pz_copy.specs.References.{IsIn}
use Rattle.pz_copy.specs.Packing.{firsts}
use Rattle.pz_copy.specs.devices.Gathering.{gathered}

-- Numbers among others

or_right : (a b : Bool) → b ≡ true → (a || b) ≡ true
or_right true b e = refl
or_right false b e = e

or_left : (a b : Bool) → a ≡ true → (a || b) ≡ true
or_left true b e = refl
or_left false b e = cc

or_cases : (a b : Bool) → (a || b) ≡ true → (a ≡ true) ⊎ (b ≡ true)
or_cases true b e = inl refl
or_cases false b e = inr e

pub in_left : (r : ℕ) (xs ys : List ℕ) → IsIn r xs → IsIn r (xs ++ ys)
in_left r xs ys h = list_any-append (nat_eq r) xs ys ∙ or_left (list_any (nat_eq r) xs) (list_any (nat_eq r) ys) h

pub in_right : (r : ℕ) (xs ys : List ℕ) → IsIn r ys → IsIn r (xs ++ ys)
in_right r xs ys h = list_any-append (nat_eq r) xs ys ∙ or_right (list_any (nat_eq r) xs) (list_any (nat_eq r) ys) h

pub in_cases : (r : ℕ) (xs ys : List ℕ) → IsIn r (xs ++ ys) → IsIn r xs ⊎ IsIn r ys
in_cases r xs ys h = or_cases (list_any (nat_eq r) xs) (list_any (nat_eq r) ys) (sym (list_any-append (nat_eq r) xs ys) ∙ h)

pub in_here : (r : ℕ) (xs : List ℕ) → IsIn r (r ∷ xs)
in_here r xs = or_left (nat_eq r r) (list_any (nat_eq r) xs) (eq-eqb r r refl)

pub in_head_cases : (r x : ℕ) (xs : List ℕ) → IsIn r (x ∷ xs) → (r ≡ x) ⊎ IsIn r xs
in_head_cases r x xs h = elim (or_cases (nat_eq r x) (list_any (nat_eq r) xs) h) [ inl e ↦ inl (eqb-true r x e) | inr e ↦ inr e ]

pub in_at : (xs : List ℕ) (i r : ℕ) → slice_get xs i ≡ Some r → IsIn r xs
in_at [] i r h = cc
in_at (x ∷ xs) zero r h = let same : x ≡ r = cc in subst (λ (y : ℕ). IsIn r (y ∷ xs)) (sym same) (in_here r xs)
in_at (x ∷ xs) (suc i) r h = or_right (nat_eq r x) (list_any (nat_eq r) xs) (in_at xs i r h)

-- Filters one after the other

filter_and : (p q r : ℕ → Bool) → ((y : ℕ) → r y ≡ (p y && q y)) → (ys : List ℕ) → filter r ys ≡ filter p (filter q ys)
filter_and p q r both [] = refl
filter_and p q r both (y ∷ ys) = rw (both y) (by (p y) (q y) refl (filter_and p q r both ys))
  where
    by : (a b : Bool) → p y ≡ a → filter r ys ≡ filter p (filter q ys) → cond (a && b) (y ∷ filter r ys) (filter r ys) ≡ filter p (cond b (y ∷ filter q ys) (filter q ys))
    by true true e rest = rw e (ap (λ l. y ∷ l) rest)
    by false true e rest = rw e rest
    by true false e rest = rest
    by false false e rest = rest

filter_true : (ys : List ℕ) → filter (λ _. true) ys ≡ ys
filter_true [] = refl
filter_true (y ∷ ys) = ap (λ l. y ∷ l) (filter_true ys)

-- it is not there
abbrev pub fresh : List ℕ → ℕ → Bool
fresh listed y = not (list_any (nat_eq y) listed)

fresh_stays : (listed : List ℕ) (x : ℕ) → list_any (nat_eq x) listed ≡ true → (y : ℕ) → fresh listed y ≡ (fresh listed y && not (nat_eq x y))
fresh_stays listed x there y = by (nat_eq x y) refl
  where
    by : (b : Bool) → nat_eq x y ≡ b → fresh listed y ≡ (fresh listed y && not b)
    by false e = elim (fresh listed y) as (λ f. f ≡ (f && true)) [ true ↦ refl | false ↦ refl ]
    by true e =
        let same : x ≡ y = eqb-true x y e in
        let in_it : list_any (nat_eq y) listed ≡ true = subst (λ (z : ℕ). list_any (nat_eq z) listed ≡ true) same there in
        let old : fresh listed y ≡ false = ap not in_it in
        rw old refl

fresh_push : (listed : List ℕ) (x y : ℕ) → fresh (listed ++ x ∷ []) y ≡ (fresh listed y && not (nat_eq x y))
fresh_push listed x y = ap not (list_any-append (nat_eq y) listed (x ∷ [])) ∙ by (list_any (nat_eq y) listed) (nat_eq y x) (nat_eq x y) (nat_eq_equiv.symm y x)
  where
    by : (a b c : Bool) → b ≡ c → not (a || (b || false)) ≡ (not a && not c)
    by true b c e = refl
    by false true true e = refl
    by false true false e = cc
    by false false true e = cc
    by false false false e = refl

gathered_step : (listed : List ℕ) (x : ℕ) (xs : List ℕ) → ((l : List ℕ) → gathered l xs ≡ l ++ filter (fresh l) (firsts xs)) → gathered listed (x ∷ xs) ≡ listed ++ filter (fresh listed) (firsts (x ∷ xs))
gathered_step listed x xs rest = by (list_any (nat_eq x) listed) refl
  where
    later : List ℕ
    later = filter (λ m. not (nat_eq x m)) (firsts xs)

    by : (b : Bool) → list_any (nat_eq x) listed ≡ b → gathered (if b then listed else listed ++ x ∷ []) xs ≡ listed ++ cond (not b) (x ∷ filter (fresh listed) (filter (λ m. not (nat_eq x m)) (firsts xs))) (filter (fresh listed) (filter (λ m. not (nat_eq x m)) (firsts xs)))
    by true e = rest listed ∙ ap (λ l. listed ++ l) (filter_and (fresh listed) (λ m. not (nat_eq x m)) (fresh listed) (fresh_stays listed x e) (firsts xs))
    by false e =
        rest (listed ++ x ∷ [])
        ∙ append_assoc listed (x ∷ []) (filter (fresh (listed ++ x ∷ [])) (firsts xs))
        ∙ ap (λ l. listed ++ x ∷ l) (filter_and (fresh listed) (λ m. not (nat_eq x m)) (fresh (listed ++ x ∷ [])) (fresh_push listed x) (firsts xs))

gathered_is : (xs listed : List ℕ) → gathered listed xs ≡ listed ++ filter (fresh listed) (firsts xs)
gathered_is [] listed = sym (append-nil listed)
gathered_is (x ∷ xs) listed = gathered_step listed x xs (gathered_is xs)

pub gathered_firsts : (xs : List ℕ) → gathered [] xs ≡ firsts xs
gathered_firsts xs = gathered_is xs [] ∙ filter_true (firsts xs)

-- What is gathered

pub gathered_more : (listed xs : List ℕ) → (more : List ℕ) × (gathered listed xs ≡ listed ++ more)
gathered_more listed xs = (filter (fresh listed) (firsts xs), gathered_is xs listed)

pub gathered_append : (listed xs ys : List ℕ) → gathered listed (xs ++ ys) ≡ gathered (gathered listed xs) ys
gathered_append listed [] ys = refl
gathered_append listed (x ∷ xs) ys = gathered_append (insert_key nat_eq listed x) xs ys

pub stays_in : (listed xs : List ℕ) (r : ℕ) → IsIn r listed → IsIn r (gathered listed xs)
stays_in listed xs r h = let more = gathered_more listed xs in subst (IsIn r) (sym more.1) (in_left r listed more.0 h)

inserted_in : (listed : List ℕ) (x : ℕ) → IsIn x (insert_key nat_eq listed x)
inserted_in listed x = by (list_any (nat_eq x) listed) refl
  where
    by : (b : Bool) → list_any (nat_eq x) listed ≡ b → IsIn x (if b then listed else listed ++ x ∷ [])
    by true e = e
    by false e = in_right x listed (x ∷ []) (in_here x [])

pub gathers : (xs listed : List ℕ) (r : ℕ) → IsIn r xs → IsIn r (gathered listed xs)
gathers [] listed r h = cc
gathers (x ∷ xs) listed r h =
    elim (in_head_cases r x xs h) [
      | inl e ↦ stays_in (insert_key nat_eq listed x) xs r (subst (λ (y : ℕ). IsIn y (insert_key nat_eq listed x)) (sym e) (inserted_in listed x))
      | inr rest ↦ gathers xs (insert_key nat_eq listed x) r rest
    ]

inserted_only : (listed : List ℕ) (x r : ℕ) → IsIn r (insert_key nat_eq listed x) → IsIn r listed ⊎ (r ≡ x)
inserted_only listed x r = by (list_any (nat_eq x) listed)
  where
    by : (b : Bool) → IsIn r (if b then listed else listed ++ x ∷ []) → IsIn r listed ⊎ (r ≡ x)
    by true h = inl h
    by false h = elim (in_cases r listed (x ∷ []) h) [ inl old ↦ inl old | inr new ↦ elim (in_head_cases r x [] new) [ inl e ↦ inr e | inr none ↦ cc ] ]

pub gathers_only : (xs listed : List ℕ) (r : ℕ) → IsIn r (gathered listed xs) → IsIn r listed ⊎ IsIn r xs
gathers_only [] listed r h = inl h
gathers_only (x ∷ xs) listed r h =
    elim (gathers_only xs (insert_key nat_eq listed x) r h) [
      | inl before ↦ elim (inserted_only listed x r before) [ inl old ↦ inl old | inr e ↦ inr (subst (λ (y : ℕ). IsIn r (y ∷ xs)) e (in_here r xs)) ]
      | inr rest ↦ inr (or_right (nat_eq r x) (list_any (nat_eq r) xs) rest)
    ]

-- no number is gathered twice
pub gathered_distinct : (xs listed : List ℕ) → IsDistinct nat_eq listed → IsDistinct nat_eq (gathered listed xs)
gathered_distinct [] listed d = d
gathered_distinct (x ∷ xs) listed d = gathered_distinct xs (insert_key nat_eq listed x) (by (list_any (nat_eq x) listed) refl)
  where
    by : (b : Bool) → list_any (nat_eq x) listed ≡ b → IsDistinct nat_eq (if b then listed else listed ++ x ∷ [])
    by true e = d
    by false e = IsDistinct-push nat_eq_equiv listed x d e

pub nothing_distinct : IsDistinct nat_eq []
unfolding IsDistinct
nothing_distinct = tt

all_differ : (x r : ℕ) (xs ys : List ℕ) → AllByRecursion (λ y. nat_eq x y ≡ false) (xs ++ r ∷ ys) → nat_eq x r ≡ false
all_differ x r [] ys h = h.0
all_differ x r (z ∷ xs) ys h = all_differ x r xs ys h.1

pub seam_distinct : (xs : List ℕ) (r : ℕ) (ys : List ℕ) → IsDistinct nat_eq (xs ++ r ∷ ys) → IsIn r xs → ⊥
unfolding IsDistinct
seam_distinct [] r ys d h = cc
seam_distinct (x ∷ xs) r ys d h =
    elim (in_head_cases r x xs h) [
      | inl e ↦ let differ : nat_eq x r ≡ false = all_differ x r xs ys d.0 in let same : nat_eq x r ≡ true = eq-eqb x r (sym e) in cc
      | inr later ↦ seam_distinct xs r ys d.1 later
    ]
