-- Lists of names as sets.
use Rattle.std.proofs.Common.{◌≡◌, refl, sym, ap, ◌∙◌, ℕ, suc, ◌<◌, Bool, Bor, true, false, ◌&&◌, ◌||◌, List, [], ◌∷◌, ◌++◌, map, length, get_or, drop, drop-cons, if◌then◌else◌}
use Rattle.std.specs.List.{list_any, list_all}
use Rattle.std.specs.Str.{bytes_eq}
use Rattle.std.proofs.lemmas.Slice.Eq.{bytes_eq-Decides}
use Rattle.std.proofs.lemmas.List.Folds.{list_any-append}
use Rattle.std.proofs.lemmas.List.{map-append}
use Rattle.indexmap.specs.IndexSet.{insert_key}
use Rattle.pz_classes_code.specs.pz_syntax.declared.names.Id.{Id}
use Rattle.pz_classes_code.specs.pz_syntax.declared.classes.VarGroup.{VarGroup}
use Rattle.pz_classes.specs.pz_classes_rules.Members.{spelled, grouped}
use Rattle.pz_check_instances.specs.devices.NameSets.{has_name, with_name, with_all, SameNames}

pub any_map : {A B : Type 0} (p : B → Bool) (f : A → B) (xs : List A) → list_any (λ x. p (f x)) xs ≡ list_any p (map f xs)
any_map p f [] = refl
any_map p f (x ∷ xs) = ap (λ (b : Bool). p (f x) || b) (any_map p f xs)

-- a key that is inserted, as a name
pub added_is : (ks : List (Bor (List ℕ))) (k : Bor (List ℕ)) → map (λ v. v.now) (insert_key (λ a b. bytes_eq a.now b.now) ks k) ≡ with_name (map (λ v. v.now) ks) k.now
added_is ks k = by_test (list_any (λ v. bytes_eq k.now v.now) ks) (any_map (bytes_eq k.now) (λ (v : Bor (List ℕ)). v.now) ks)
  where
    by_test : (b : Bool) → b ≡ has_name (map (λ v. v.now) ks) k.now
        → map (λ v. v.now) (if b then ks else ks ++ k ∷ []) ≡ with_name (map (λ v. v.now) ks) k.now
    by_test true is = rw (← is) refl
    by_test false is = rw (← is) (map-append (λ (v : Bor (List ℕ)). v.now) ks (k ∷ []))

-- a test of a name that is there
pub all_false : (p : List ℕ → Bool) (xs : List (List ℕ)) (q : List ℕ) → has_name xs q ≡ true → p q ≡ false → list_all p xs ≡ false
all_false p [] q there fails = cc
all_false p (x ∷ xs) q there fails = by_first (λ later. all_false p xs q later fails) (bytes_eq q x) refl
  where
    by_first : (has_name xs q ≡ true → list_all p xs ≡ false) → (b : Bool) → bytes_eq q x ≡ b → list_all p (x ∷ xs) ≡ false
    by_first rest true is =
        let same : q ≡ x = (bytes_eq-Decides q x).0 is in
        let fails_here : p x ≡ false = cc in
        rw fails_here refl
    by_first rest false is =
        let later : has_name xs q ≡ true = rw is at there in
        by_test (p x) (rest later)
      where
        by_test : (t : Bool) → list_all p xs ≡ false → (t && list_all p xs) ≡ false
        by_test true fails_later = fails_later
        by_test false fails_later = refl

-- what stands first, or later, is there
pub has_first : (x : List ℕ) (xs : List (List ℕ)) → has_name (x ∷ xs) x ≡ true
has_first x xs = let same : bytes_eq x x ≡ true = (bytes_eq-Decides x x).1 refl in rw same refl

pub has_later : (x : List ℕ) (xs : List (List ℕ)) (q : List ℕ) → has_name xs q ≡ true → has_name (x ∷ xs) q ≡ true
has_later x xs q is = rw is (by_first (bytes_eq q x))
  where
    by_first : (b : Bool) → (b || true) ≡ true
    by_first true = refl
    by_first false = refl

-- where not all pass a test, one fails
pub some_false : (p : List ℕ → Bool) (xs : List (List ℕ)) → list_all p xs ≡ false → (q : List ℕ) × (has_name xs q ≡ true) × (p q ≡ false)
some_false p [] fails = cc
some_false p (x ∷ xs) fails = by_test (some_false p xs) (p x) refl
  where
    by_test : (list_all p xs ≡ false → (q : List ℕ) × (has_name xs q ≡ true) × (p q ≡ false)) → (t : Bool) → p x ≡ t → (q : List ℕ) × (has_name (x ∷ xs) q ≡ true) × (p q ≡ false)
    by_test rest true is =
        let fails_later : list_all p xs ≡ false = rw is at fails in
        let later = rest fails_later in
        (later.0, has_later x xs later.0 later.1, later.2)
    by_test rest false is = (x, has_first x xs, is)

-- the same names pass the same tests
pub all_same : (p : List ℕ → Bool) (xs ys : List (List ℕ)) → SameNames xs ys → list_all p xs ≡ list_all p ys
all_same p xs ys same = by_tests (list_all p xs) (list_all p ys) refl refl
  where
    by_tests : (a b : Bool) → list_all p xs ≡ a → list_all p ys ≡ b → list_all p xs ≡ list_all p ys
    by_tests true true is are = is ∙ sym are
    by_tests false false is are = is ∙ sym are
    by_tests true false is are =
        let one = some_false p ys are in
        let fails : list_all p xs ≡ false = all_false p xs one.0 (same one.0 ∙ one.1) one.2 in
        cc
    by_tests false true is are =
        let one = some_false p xs is in
        let fails : list_all p ys ≡ false = all_false p ys one.0 (sym (same one.0) ∙ one.1) one.2 in
        cc

or_assoc : (a b c : Bool) → ((a || b) || c) ≡ (a || (b || c))
or_assoc true b c = refl
or_assoc false b c = refl

-- what is added is there
has_with_name : (names : List (List ℕ)) (x q : List ℕ) → has_name (with_name names x) q ≡ (has_name names q || bytes_eq q x)
has_with_name names x q = by_test (has_name names x) refl
  where
    or_none : (b : Bool) → (b || false) ≡ b
    or_none true = refl
    or_none false = refl

    same : has_name names x ≡ true → (b : Bool) → bytes_eq q x ≡ b → has_name names q ≡ (has_name names q || b)
    same there true is =
        let equal : q ≡ x = (bytes_eq-Decides q x).0 is in
        let here : has_name names q ≡ true = cc in
        rw here refl
    same there false is = sym (or_none (has_name names q))

    by_test : (b : Bool) → has_name names x ≡ b → has_name (if b then names else names ++ x ∷ []) q ≡ (has_name names q || bytes_eq q x)
    by_test true there = same there (bytes_eq q x) refl
    by_test false absent = list_any-append (bytes_eq q) names (x ∷ []) ∙ ap (λ (b : Bool). has_name names q || b) (or_none (bytes_eq q x))

pub has_with_all : (names xs : List (List ℕ)) (q : List ℕ) → has_name (with_all names xs) q ≡ (has_name names q || has_name xs q)
has_with_all names [] q = or_none (has_name names q)
  where
    or_none : (b : Bool) → b ≡ (b || false)
    or_none true = refl
    or_none false = refl
has_with_all names (x ∷ xs) q =
    has_with_all (with_name names x) xs q
    ∙ ap (λ (b : Bool). b || has_name xs q) (has_with_name names x q)
    ∙ or_assoc (has_name names q) (bytes_eq q x) (has_name xs q)

pub with_all_append : (names xs ys : List (List ℕ)) → with_all names (xs ++ ys) ≡ with_all (with_all names xs) ys
with_all_append names [] ys = refl
with_all_append names (x ∷ xs) ys = with_all_append (with_name names x) xs ys

pub spelled_append : (xs ys : List Id) → spelled (xs ++ ys) ≡ spelled xs ++ spelled ys
spelled_append [] ys = refl
spelled_append (x ∷ xs) ys = ap (λ (l : List (List ℕ)). x.name ∷ l) (spelled_append xs ys)

-- what is added in two parts
pub with_ids_append : (names : List (List ℕ)) (xs ys : List Id) → with_all names (spelled (xs ++ ys)) ≡ with_all (with_all names (spelled xs)) (spelled ys)
with_ids_append names xs ys = ap (λ (l : List (List ℕ)). with_all names l) (spelled_append xs ys) ∙ with_all_append names (spelled xs) (spelled ys)

-- one group further
pub groups_step : (groups : List VarGroup) (g : VarGroup) (i j : ℕ) (old new whole : List (List ℕ)) → i < length groups → g ≡ get_or groups i g → j ≡ suc i
    → new ≡ with_all old (spelled g.names) → with_all old (spelled (grouped (drop i groups))) ≡ whole → with_all new (spelled (grouped (drop j groups))) ≡ whole
groups_step groups g i j old new whole within here after added before =
    let first : drop i groups ≡ g ∷ drop (suc i) groups = drop-cons groups i g within ∙ ap (λ (x : VarGroup). x ∷ drop (suc i) groups) (sym here) in
    let joined : with_all old (spelled (g.names ++ grouped (drop (suc i) groups))) ≡ whole = rw first at before in
    rw (added, after) (sym (with_ids_append old g.names (grouped (drop (suc i) groups))) ∙ joined)
