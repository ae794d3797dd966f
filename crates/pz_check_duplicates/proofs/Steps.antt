-- One thing further in a list.
use Rattle.std.proofs.Common.{◌≡◌, refl, sym, ap, ◌∙◌, ℕ, suc, ◌+◌, ◌<◌, Bool, List, [], ◌∷◌, ◌++◌, map, take, drop, length, get_or, drop-cons, Option, None, if◌then◌else◌, arith}
use Rattle.std.proofs.lemmas.List.{take_more}
use Rattle.std.specs.List.{flat_map}
use Rattle.pz_classes.specs.pz_syntax.declared.tokens.Pos.{Pos}
use Rattle.pz_check_violations.specs.declared.violation.Violation.{Violation}
use Rattle.pz_check_violations.specs.Least.{least_from}
use Rattle.pz_check_duplicates.specs.devices.Earlier.{earlier, earliest_of}
use Rattle.pz_check_duplicates.specs.devices.Again.{later_of, found_in}
use Rattle.pz_check_duplicates.proofs.EarliestPlaces.{earliest_append}
use Rattle.pz_check_violations.proofs.Leasts.{least_from_append}

-- one thing further, held against the earliest that is the same of those before it
pub found_step : {A : Type 0} (same : A → A → Bool) (place : A → Pos) (rule : ℕ) (xs : List A) (y : A) (i j : ℕ) (first : Option Pos) (least now whole : Option Violation)
    → i < length xs → y ≡ get_or xs i y → j ≡ i + 1 → first ≡ earliest_of place (same y) None (take i xs)
    → now ≡ least_from least (later_of rule first (place y))
    → least_from least (found_in same place rule (take i xs) (drop i xs)) ≡ whole
    → least_from now (found_in same place rule (take j xs) (drop j xs)) ≡ whole
found_step {A} same place rule xs y i j first least now whole within here after is found before =
    let behind : drop i xs ≡ y ∷ drop (suc i) xs = drop-cons xs i y within ∙ ap (λ (x : A). x ∷ drop (suc i) xs) (sym here) in
    let grown : take (i + 1) xs ≡ take i xs ++ (y ∷ []) = take_more xs i y within ∙ ap (λ (x : A). take i xs ++ (x ∷ [])) (sym here) in
    let next : i + 1 ≡ suc i = omega arith in
    let left : drop (i + 1) xs ≡ drop (suc i) xs = ap (λ (n : ℕ). drop n xs) next in
    let at_y = later_of rule (earliest_of place (same y) None (take i xs)) (place y) in
    let rest = found_in same place rule (take i xs ++ (y ∷ [])) (drop (suc i) xs) in
    let split : least_from least (at_y ++ rest) ≡ whole = rw behind at before in
    rw (found, is, after, grown, left) (sym (least_from_append least at_y rest) ∙ split)

-- the earliest place of each mark, one thing further
pub earliest_step : {A : Type 0} (place : A → Pos) (alike : A → Bool) (xs : List A) (y : A) (i j : ℕ) → i < length xs → y ≡ get_or xs i y → j ≡ i + 1
    → earliest_of place alike None (take j xs) ≡ (if alike y then earlier (earliest_of place alike None (take i xs)) (place y) else earliest_of place alike None (take i xs))
earliest_step {A} place alike xs y i j within here after =
    let grown : take (i + 1) xs ≡ take i xs ++ (y ∷ []) = take_more xs i y within ∙ ap (λ (x : A). take i xs ++ (x ∷ [])) (sym here) in
    rw (after, grown) (earliest_append place alike None (take i xs) (y ∷ []))

-- the violations of each in turn
pub flat_step : {A : Type 0} (f : A → List Violation) (xs : List A) (x : A) (i j : ℕ) (least now whole : Option Violation)
    → i < length xs → x ≡ get_or xs i x → j ≡ suc i → now ≡ least_from least (f x)
    → least_from least (flat_map f (drop i xs)) ≡ whole → least_from now (flat_map f (drop j xs)) ≡ whole
flat_step {A} f xs x i j least now whole within here after found before =
    let first : drop i xs ≡ x ∷ drop (suc i) xs = drop-cons xs i x within ∙ ap (λ (y : A). y ∷ drop (suc i) xs) (sym here) in
    let split : least_from least (f x ++ flat_map f (drop (suc i) xs)) ≡ whole = rw first at before in
    rw (found, after) (sym (least_from_append least (f x) (flat_map f (drop (suc i) xs))) ∙ split)

pub flat_view : {A B : Type 0} (view : A → B) (f : B → List Violation) (xs : List A) → flat_map f (map view xs) ≡ flat_map (λ x. f (view x)) xs
flat_view view f [] = refl
flat_view view f (x ∷ xs) = ap (λ (vs : List Violation). f (view x) ++ vs) (flat_view view f xs)

-- four searches after one another
pub searched : (a b c e : List Violation) (before first second third : Option Violation) → first ≡ least_from before a → second ≡ least_from first b → third ≡ least_from second c
    → least_from third e ≡ least_from before (a ++ (b ++ (c ++ e)))
searched a b c e before first second third one two three =
    rw (three, two, one) (sym (least_from_append (least_from (least_from before a) b) c e)
    ∙ (sym (least_from_append (least_from before a) b (c ++ e)) ∙ sym (least_from_append before a (b ++ (c ++ e)))))
