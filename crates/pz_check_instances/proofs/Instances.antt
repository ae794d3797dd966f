-- The class of an instance, and which instance has a name.
use Rattle.std.proofs.Common.{◌≡◌, refl, sym, ap, ◌∙◌, ℕ, suc, ◌<◌, ◌≤◌, Bool, true, false, List, [], ◌∷◌, length, Option, Some, None, slice_get, get_or, Bor, if◌then◌else◌}
use Rattle.std.specs.List.{HoldsAt, find}
use Rattle.std.specs.Str.{bytes_eq}
use Rattle.std.specs.Option.{option_map, option_and_then, option_copied, MatchOption, IfSome}
use Rattle.std.proofs.lemmas.Option.{slice_get_past, slice_get-get_or}
use Rattle.pz_classes_code.specs.pz_syntax.declared.clusters.Instance.{Instance}
use Rattle.pz_classes_code.specs.pz_value.declared.value.ClassId.{ClassId}
use Rattle.pz_classes.specs.pz_classes_rules.ClassNames.{class_id}
use Rattle.pz_check_instances.specs.devices.Ends.{place_named}

-- what `get` reads of a list
pub got : {X : Type 0} (xs : List X) (i : ℕ) (r : Option (Bor X)) → MatchOption r (length xs ≤ i) (λ x. (i < length xs) × HoldsAt {X = X} (λ y. x.now ≡ y) xs i)
    → IfSome r (λ x. x.now ≡ get_or xs i x.now) → option_copied r ≡ slice_get xs i
got xs i None past here = sym (slice_get_past xs i past)
got xs i (Some x) within here = ap Some here ∙ sym (slice_get-get_or xs i x.now within.0)

-- the number that the table gives
pub opened : (o : Option ℕ) (found : Option ClassId) (k : ClassId) → found ≡ option_map class_id o → found ≡ Some k → o ≡ Some k.0
opened None found k is here = cc
opened (Some c) found k is here = let same : class_id c ≡ k = cc in ap (λ (j : ClassId). Some j.0) same

pub none_of : (o : Option ℕ) (found : Option ClassId) → found ≡ option_map class_id o → found ≡ None → o ≡ None
none_of None found is here = refl
none_of (Some c) found is here = cc

-- the place of a name, one further
place_later : (n : ℕ) (xs : List Instance) (q : List ℕ) → place_named (suc n) xs q ≡ option_map (λ p. suc p) (place_named n xs q)
place_later n [] q = refl
place_later n (x ∷ xs) q = by_test (bytes_eq q x.name.name) (place_later (suc n) xs q)
  where
    by_test : (b : Bool) → place_named (suc (suc n)) xs q ≡ option_map (λ p. suc p) (place_named (suc n) xs q)
        → (if b then Some (suc n) else place_named (suc (suc n)) xs q) ≡ option_map (λ p. suc p) (if b then Some n else place_named (suc n) xs q)
    by_test true later = refl
    by_test false later = later

-- what stands at the place of a name is the first instance of that name
pub found_at : (xs : List Instance) (q : List ℕ) → option_and_then (slice_get xs) (place_named 0 xs q) ≡ find (λ i. bytes_eq q i.name.name) xs
found_at [] q = refl
found_at (x ∷ xs) q = by_test (bytes_eq q x.name.name) (found_at xs q)
  where
    further : (o : Option ℕ) → option_and_then (slice_get (x ∷ xs)) (option_map (λ p. suc p) o) ≡ option_and_then (slice_get xs) o
    further None = refl
    further (Some p) = refl

    by_test : (b : Bool) → option_and_then (slice_get xs) (place_named 0 xs q) ≡ find (λ i. bytes_eq q i.name.name) xs
        → option_and_then (slice_get (x ∷ xs)) (if b then Some 0 else place_named 1 xs q) ≡ (if b then Some x else find (λ i. bytes_eq q i.name.name) xs)
    by_test true later = refl
    by_test false later = ap (λ (o : Option ℕ). option_and_then (slice_get (x ∷ xs)) o) (place_later 0 xs q) ∙ further (place_named 0 xs q) ∙ later

-- the look-up by place
pub named_is : (xs : List Instance) (q : List ℕ) (place : Option ℕ) (p : ℕ) → place ≡ place_named 0 xs q → place ≡ Some p → slice_get xs p ≡ find (λ i. bytes_eq q i.name.name) xs
named_is xs q place p is here =
    let at : place_named 0 xs q ≡ Some p = cc in
    ap (λ (o : Option ℕ). option_and_then (slice_get xs) o) (sym at) ∙ found_at xs q

pub named_none : (xs : List Instance) (q : List ℕ) (place : Option ℕ) → place ≡ place_named 0 xs q → place ≡ None → None ≡ find (λ i. bytes_eq q i.name.name) xs
named_none xs q place is here =
    let at : place_named 0 xs q ≡ None = cc in
    ap (λ (o : Option ℕ). option_and_then (slice_get xs) o) (sym at) ∙ found_at xs q
