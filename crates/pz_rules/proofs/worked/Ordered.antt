-- Tests of lists: that actions stand in their order, and which number is the least.
use Rattle.std.proofs.Common.{◌≡◌, ◌<◌, ◌≤◌, ◌⊎◌, inl, inr, ℕ, Bool, true, false, List, [], ◌∷◌}
use Rattle.std.specs.Prelude.{nat_eq, nat_lt, nat_le, ◌&&◌, ◌||◌}
use Rattle.std.specs.List.{All, AllPairs, Contains, list_all, list_any}
use Rattle.std.proofs.lemmas.Bool.{and_parts, or_cases, eqb-true, ltb-true, leb-true}
use Rattle.std.proofs.lemmas.List.Elements.{All-nil, All-cons}
use Rattle.std.proofs.lemmas.List.Kept.{AllPairs-cons}
use Rattle.pz_offer.specs.declared.end.End.{End}
use Rattle.pz_offer.specs.PlaceOrder.{Place, PlaceBefore, EndBefore}
use Rattle.pz_rules.specs.declared.action.Action.{Action}
use Rattle.pz_rules.specs.declared.action.Action.TheVariants.{Internal, Comm}
use Rattle.pz_rules.specs.Offers.{Before}
use Rattle.pz_rules.proofs.Lists.{AllPairs-nil, Contains-first, Contains-later}
use Rattle.pz_rules.proofs.worked.Wiring.{no_true}

-- Lists

pub all_of : {X : Type 0} (test : X → Bool) (P : X → Type 0) → ((x : X) → test x ≡ true → P x) → (xs : List X) → list_all test xs ≡ true → All P xs
all_of test P each [] all = All-nil P
all_of test P each (x ∷ xs) all = let parts = and_parts (test x) (list_all test xs) all in All-cons P x xs (each x parts.0) (all_of test P each xs parts.1)

-- each before all that follow it
abbrev increasing : {X : Type 0} → (X → X → Bool) → List X → Bool
increasing before [] = true
increasing before (x ∷ xs) = list_all (before x) xs && increasing before xs

pairs_of : {X : Type 0} (before : X → X → Bool) (R : X → X → Type 0) → ((x y : X) → before x y ≡ true → R x y) → (xs : List X) → increasing before xs ≡ true → AllPairs R xs
pairs_of before R each [] all = AllPairs-nil R
pairs_of before R each (x ∷ xs) all =
    let parts = and_parts (list_all (before x) xs) (increasing before xs) all in
    AllPairs-cons R x xs (all_of (before x) (R x) (each x) xs parts.0) (pairs_of before R each xs parts.1)

-- Actions

abbrev place_before : Place → Place → Bool
place_before p [] = false
place_before [] (j ∷ q) = true
place_before (i ∷ p) (j ∷ q) = nat_lt i j || (nat_eq i j && place_before p q)

place_is_before : (p q : Place) → place_before p q ≡ true → PlaceBefore p q
place_is_before [] [] is = no_true is
place_is_before (i ∷ p) [] is = no_true is
place_is_before [] (j ∷ q) is = tt
place_is_before (i ∷ p) (j ∷ q) is = by (or_cases (nat_lt i j) (nat_eq i j && place_before p q) is) (λ later. place_is_before p q later)
  where
    by : (nat_lt i j ≡ true) ⊎ ((nat_eq i j && place_before p q) ≡ true) → (place_before p q ≡ true → PlaceBefore p q) → (i < j) ⊎ ((i ≡ j) × PlaceBefore p q)
    by (inl less) further = inl (ltb-true i j less)
    by (inr same) further = let parts = and_parts (nat_eq i j) (place_before p q) same in inr (eqb-true i j parts.0, further parts.1)

abbrev end_before : End → End → Bool
end_before a b = nat_lt a.process b.process || (nat_eq a.process b.process && place_before a.place b.place)

end_is_before : (a b : End) → end_before a b ≡ true → EndBefore a b
end_is_before a b is = by (or_cases (nat_lt a.process b.process) (nat_eq a.process b.process && place_before a.place b.place) is)
  where
    by : (nat_lt a.process b.process ≡ true) ⊎ ((nat_eq a.process b.process && place_before a.place b.place) ≡ true) → EndBefore a b
    by (inl less) = inl (ltb-true a.process b.process less)
    by (inr same) =
        let parts = and_parts (nat_eq a.process b.process) (place_before a.place b.place) same in
        inr (eqb-true a.process b.process parts.0, place_is_before a.place b.place parts.1)

-- internal actions by their ends, before communications; of these one, or those of growing wires
abbrev before : Action → Action → Bool
before (Internal a kind pos) (Internal b kind' pos') = end_before a b
before (Internal a kind pos) (Comm w s r message parcel) = true
before (Comm w s r message parcel) (Internal b kind pos) = false
before (Comm w s r message parcel) (Comm w' s' r' message' parcel') = nat_lt w w'

is_before : (a b : Action) → before a b ≡ true → Before a b
is_before (Internal a kind pos) (Internal b kind' pos') is = end_is_before a b is
is_before (Internal a kind pos) (Comm w s r message parcel) is = tt
is_before (Comm w s r message parcel) (Internal b kind pos) is = no_true is
is_before (Comm w s r message parcel) (Comm w' s' r' message' parcel') is = inl (ltb-true w w' is)

abbrev pub ordered : List Action → Bool
ordered = increasing before

pub is_ordered : (actions : List Action) → ordered actions ≡ true → AllPairs Before actions
is_ordered actions is = pairs_of before Before is_before actions is

-- Numbers

pub contains_number : (n : ℕ) (ns : List ℕ) → list_any (nat_eq n) ns ≡ true → Contains ns n
contains_number n [] is = no_true is
contains_number n (k ∷ ns) is = by (or_cases (nat_eq n k) (list_any (nat_eq n) ns) is) (λ later. contains_number n ns later)
  where
    by : (nat_eq n k ≡ true) ⊎ (list_any (nat_eq n) ns ≡ true) → (list_any (nat_eq n) ns ≡ true → Contains ns n) → Contains (k ∷ ns) n
    by (inl same) go = let e : n ≡ k = eqb-true n k same in rw e (Contains-first k ns)
    by (inr later) go = Contains-later k ns n (go later)

-- it is one of these numbers, and none is less
abbrev pub is_least : ℕ → List ℕ → Bool
is_least n ns = list_any (nat_eq n) ns && list_all (nat_le n) ns

pub at_least : (n : ℕ) (ns : List ℕ) → list_all (nat_le n) ns ≡ true → All (λ k. n ≤ k) ns
at_least n ns is = all_of (nat_le n) (λ k. n ≤ k) (λ k less. leb-true n k less) ns is
