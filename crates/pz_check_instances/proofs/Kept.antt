-- The names of open classes: none stands there twice, and those of the outer classes come first.
use Rattle.std.proofs.Common.{◌≡◌, refl, sym, ap, ◌∙◌, ℕ, zero, suc, ◌-◌, ◌<◌, ◌≤◌, min, Bool, true, false, ◌⊎◌, inl, inr, List, [], ◌∷◌, ◌++◌, length, map, take, drop, get_or, append_assoc, if◌then◌else◌, arith}
use Rattle.std.specs.List.{IsDistinct}
use Rattle.std.specs.Str.{bytes_eq}
use Rattle.std.proofs.lemmas.Bool.{cases_lt}
use Rattle.std.proofs.lemmas.Cmp.{lists_equiv, nat_eq_equiv}
use Rattle.std.proofs.lemmas.List.{length_push, length-take, length-map, take-append-le, take_all, get_or_append_left, get_or_push, drop-map}
use Rattle.std.proofs.lemmas.Map.Keys.{IsDistinct-push}
use Rattle.pz_classes_lineage.specs.Preorder.{outermost}
use Rattle.pz_check_instances.specs.devices.NameSets.{has_name, with_name, with_all}
use Rattle.pz_check_instances.specs.devices.Open.{kept, starts_of}

module _ {A : Type 0} where
  -- a list has no more than all its elements
  pub outermost_all : (n : ℕ) (xs : List A) → length xs ≤ n → outermost n xs ≡ xs
  outermost_all n xs within =
      let none : length xs - n ≡ 0 = omega (arith, within) in
      rw none refl

  -- the innermost is not among fewer than all
  outermost_rest : (n : ℕ) (x : A) (xs : List A) → n ≤ length xs → outermost n (x ∷ xs) ≡ outermost n xs
  outermost_rest n x xs within =
      let more : suc (length xs) - n ≡ suc (length xs - n) = omega (arith, within) in
      rw more refl

-- of what each of a list has, the outermost
pub outermost_map : {A B : Type 0} (f : A → B) (n : ℕ) (xs : List A) → outermost n (map f xs) ≡ map f (outermost n xs)
outermost_map f n xs = rw (length-map xs f) (drop-map f (length xs - n) xs)

append_none : {A : Type 0} (xs : List A) → xs ≡ xs ++ []
append_none [] = refl
append_none {A} (x ∷ xs) = ap (λ (l : List A). x ∷ l) (append_none xs)

-- what is added comes behind
with_all_more : (names xs : List (List ℕ)) → (more : List (List ℕ)) × (with_all names xs ≡ names ++ more)
with_all_more names [] = ([], append_none names)
with_all_more names (x ∷ xs) = by_test (has_name names x) (with_all_more names xs) (with_all_more (names ++ x ∷ []) xs)
  where
    by_test : (b : Bool) → (more : List (List ℕ)) × (with_all names xs ≡ names ++ more) → (more : List (List ℕ)) × (with_all (names ++ x ∷ []) xs ≡ (names ++ x ∷ []) ++ more)
        → (more : List (List ℕ)) × (with_all (if b then names else names ++ x ∷ []) xs ≡ names ++ more)
    by_test true there absent = there
    by_test false there absent = (x ∷ absent.0, absent.1 ∙ append_assoc names (x ∷ []) absent.0)

-- without the innermost classes, the names of the others
kept_outer : (n : ℕ) (scopes : List (List (List ℕ))) → take (length (kept (drop n scopes))) (kept scopes) ≡ kept (drop n scopes)
kept_outer zero scopes = take_all (length (kept scopes)) (kept scopes) (omega arith)
kept_outer (suc n) [] = refl
kept_outer (suc n) (scope ∷ outer) =
    let rest = kept_outer n outer in
    let count = length (kept (drop n outer)) in
    let many : min count (length (kept outer)) ≡ count = sym (length-take count (kept outer)) ∙ ap length rest in
    let more = with_all_more (kept outer) scope in
    rw more.1 (take-append-le count (kept outer) more.0 (omega (arith, many)) ∙ rest)

pub outermost_names : (depth : ℕ) (scopes : List (List (List ℕ))) → take (length (kept (outermost depth scopes))) (kept scopes) ≡ kept (outermost depth scopes)
outermost_names depth scopes = kept_outer (length scopes - depth) scopes

pub length_starts : (scopes : List (List (List ℕ))) → length (starts_of scopes) ≡ length scopes
length_starts [] = refl
length_starts (scope ∷ outer) = rw (length_push (starts_of outer) (length (kept outer)), length_starts outer) omega arith

-- where the class begins that is the first to be left
pub start_of : (depth : ℕ) (scopes : List (List (List ℕ))) → depth < length scopes → (d : ℕ) → get_or (starts_of scopes) depth d ≡ length (kept (outermost depth scopes))
start_of depth [] within d = absurd (omega (arith, within))
start_of depth (scope ∷ outer) within d = by_cases (start_of depth outer) (cases_lt depth (length outer))
  where
    by_cases : (depth < length outer → (e : ℕ) → get_or (starts_of outer) depth e ≡ length (kept (outermost depth outer)))
        → (depth < length outer) ⊎ (length outer ≤ depth) → get_or (starts_of (scope ∷ outer)) depth d ≡ length (kept (outermost depth (scope ∷ outer)))
    by_cases later (inl inner) =
        let starts = length_starts outer in
        rw (outermost_rest depth scope outer (omega (arith, inner)), get_or_append_left (starts_of outer) (length (kept outer) ∷ []) d depth (omega (arith, inner, starts))) (later inner d)
    by_cases later (inr least) =
        let starts = length_starts outer in
        rw (outermost_rest depth scope outer (omega (arith, least, within)), outermost_all depth outer least)
        (get_or_push (starts_of outer) (length (kept outer)) d depth (omega (arith, least, within, starts)))

-- the starts of the classes that stay open
pub outermost_starts : (depth : ℕ) (scopes : List (List (List ℕ))) → take depth (starts_of scopes) ≡ starts_of (outermost depth scopes)
outermost_starts depth [] =
    let none : List (List (List ℕ)) = [] in
    let all : outermost depth none ≡ none = outermost_all depth none (omega arith) in
    rw all (take_all depth [] (omega arith))
outermost_starts depth (scope ∷ outer) = by_cases (outermost_starts depth outer) (cases_lt (length outer) depth)
  where
    by_cases : take depth (starts_of outer) ≡ starts_of (outermost depth outer)
        → (length outer < depth) ⊎ (depth ≤ length outer) → take depth (starts_of (scope ∷ outer)) ≡ starts_of (outermost depth (scope ∷ outer))
    by_cases later (inl more) =
        let starts = length_starts (scope ∷ outer) in
        rw (outermost_all depth (scope ∷ outer) (omega (arith, more))) (take_all depth (starts_of (scope ∷ outer)) (omega (arith, more, starts)))
    by_cases later (inr within) =
        let starts = length_starts outer in
        rw (outermost_rest depth scope outer within, take-append-le depth (starts_of outer) (length (kept outer) ∷ []) (omega (arith, within, starts))) later

with_all_distinct : (names xs : List (List ℕ)) → IsDistinct bytes_eq names → IsDistinct bytes_eq (with_all names xs)
with_all_distinct names [] distinct = distinct
with_all_distinct names (x ∷ xs) distinct = with_all_distinct (with_name names x) xs (by_test (has_name names x) refl)
  where
    by_test : (b : Bool) → has_name names x ≡ b → IsDistinct bytes_eq (if b then names else names ++ x ∷ [])
    by_test true there = distinct
    by_test false absent = IsDistinct-push (lists_equiv nat_eq_equiv) names x distinct absent

-- no name is kept twice
pub kept_distinct : (scopes : List (List (List ℕ))) → IsDistinct bytes_eq (kept scopes)
unfolding IsDistinct
kept_distinct [] = tt
kept_distinct (scope ∷ outer) = with_all_distinct (kept outer) scope (kept_distinct outer)
