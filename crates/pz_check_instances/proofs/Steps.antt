-- Lists that grow and least violations, one step further.
use Rattle.std.proofs.Common.{◌≡◌, refl, sym, ap, ◌∙◌, ℕ, zero, suc, ◌<◌, ◌≤◌, List, [], ◌∷◌, ◌++◌, map, drop, length, get_or, drop-cons, Option, append_assoc, arith}
use Rattle.std.specs.List.{flat_map}
use Rattle.std.proofs.lemmas.List.Concat.{flat_map-append}
use Rattle.std.proofs.lemmas.List.Folds.{flat_map-map}
use Rattle.pz_classes_code.specs.pz_syntax.declared.clusters.ChannelEnd.{ChannelEnd}
use Rattle.pz_classes_code.specs.pz_syntax.declared.clusters.Decl.{Decl}
use Rattle.pz_classes_code.specs.pz_syntax.Classes.{DeclTree, ModelTree}
use Rattle.pz_classes_code.specs.pz_syntax.ClassView.{decl_view}
use Rattle.pz_classes.specs.pz_check_violations.declared.violation.Violation.{Violation}
use Rattle.pz_classes.specs.pz_check_violations.Least.{least_from}
use Rattle.pz_classes.proofs.pz_check_violations_proofs.Leasts.{least_from_append}
use Rattle.pz_classes.specs.pz_classes_rules.Instances.{instances}
use Rattle.pz_classes.specs.pz_classes_rules.ChannelRules.{ends}
use Rattle.pz_check_instances.specs.devices.Given.{of_class, if_of_class}
use Rattle.pz_check_instances.specs.devices.Ends.{over}
use Rattle.pz_check_instances.proofs.ClassLists.{added_none}

module _ {A : Type 0} where
  pub first_here : (xs : List A) (x : A) (i : ℕ) → i < length xs → x ≡ get_or xs i x → drop i xs ≡ x ∷ drop (suc i) xs
  first_here xs x i within here = drop-cons xs i x within ∙ ap (λ (y : A). y ∷ drop (suc i) xs) (sym here)

  -- the least violation, one element further
  pub least_step : (f : A → List Violation) (xs : List A) (x : A) (i j : ℕ) (least now whole : Option Violation) → i < length xs → x ≡ get_or xs i x → j ≡ suc i
      → now ≡ least_from least (f x) → least_from least (flat_map f (drop i xs)) ≡ whole → least_from now (flat_map f (drop j xs)) ≡ whole
  least_step f xs x i j least now whole within here after found before =
      let split : least_from least (f x ++ flat_map f (drop (suc i) xs)) ≡ whole = rw (first_here xs x i within here) at before in
      rw (found, after) (sym (least_from_append least (f x) (flat_map f (drop (suc i) xs))) ∙ split)

  -- a list that grows by what an element gives
  pub list_step : {B : Type 0} (f : A → List B) (xs : List A) (x : A) (i j : ℕ) (old new whole : List B) → i < length xs → x ≡ get_or xs i x → j ≡ suc i
      → new ≡ old ++ f x → old ++ flat_map f (drop i xs) ≡ whole → new ++ flat_map f (drop j xs) ≡ whole
  list_step f xs x i j old new whole within here after added before =
      let split : old ++ (f x ++ flat_map f (drop (suc i) xs)) ≡ whole = rw (first_here xs x i within here) at before in
      rw (added, after, append_assoc old (f x) (flat_map f (drop (suc i) xs))) split

  drop_end : (i : ℕ) (xs : List A) → length xs ≤ i → drop i xs ≡ []
  drop_end zero [] past = refl
  drop_end zero (x ∷ xs) past = absurd (omega (arith, past))
  drop_end (suc i) [] past = refl
  drop_end (suc i) (x ∷ xs) past = drop_end i xs (omega (arith, past))

  -- a list that has all that the elements give
  pub list_done : {B : Type 0} (f : A → List B) (xs : List A) (i : ℕ) (list whole : List B) → length xs ≤ i → list ++ flat_map f (drop i xs) ≡ whole → list ≡ whole
  list_done f xs i list whole past before =
      let all : list ++ [] ≡ whole = rw (drop_end i xs past) at before in
      added_none list ∙ all

-- what the elements of joined lists give
pub joined_each : {A B C : Type 0} (f : B → List C) (g : A → List B) (xs : List A) → flat_map (λ x. flat_map f (g x)) xs ≡ flat_map f (flat_map g xs)
joined_each f g [] = refl
joined_each f g (x ∷ xs) = rw (joined_each f g xs) (sym (flat_map-append f (g x) (flat_map g xs)))

-- the instances of a class, declaration by declaration
pub class_by_decl : (m : ModelTree) (k : ℕ) (ds : List Decl) → flat_map (λ d. of_class m k (instances (decl_view d))) ds ≡ of_class m k (flat_map instances (map decl_view ds))
class_by_decl m k ds =
    joined_each (if_of_class m k) (λ (d : Decl). instances (decl_view d)) ds
    ∙ ap (of_class m k) (sym (flat_map-map instances decl_view ds))

module _ {X : Type 0} (f : ℕ → DeclTree → ChannelEnd → List X) where
  over_here : (ds : List Decl) (d : Decl) (i n : ℕ) → i < length ds → d ≡ get_or ds i d
      → over f n (map decl_view (drop i ds)) ≡ flat_map (f n (decl_view d)) (ends (decl_view d)) ++ over f (suc n) (map decl_view (drop (suc i) ds))
  over_here ds d i n within here = rw (first_here ds d i within here) refl

  -- what ends give, one declaration with its number further
  pub over_step : (ds : List Decl) (d : Decl) (i j n next : ℕ) (old new whole : List X) → i < length ds → d ≡ get_or ds i d → j ≡ suc i → next ≡ suc n
      → new ≡ old ++ flat_map (f next (decl_view d)) (ends (decl_view d)) → old ++ over f (suc n) (map decl_view (drop i ds)) ≡ whole
      → new ++ over f (suc next) (map decl_view (drop j ds)) ≡ whole
  over_step ds d i j n next old new whole within here after counted added before =
      let this = flat_map (f (suc n) (decl_view d)) (ends (decl_view d)) in
      let later = over f (suc (suc n)) (map decl_view (drop (suc i) ds)) in
      let split : old ++ (this ++ later) ≡ whole = rw (over_here ds d i (suc n) within here) at before in
      rw (added, counted, after, append_assoc old this later) split

-- the least violation, one declaration with its number further
pub over_least_step : (f : ℕ → DeclTree → ChannelEnd → List Violation) (ds : List Decl) (d : Decl) (i j n next : ℕ) (least now whole : Option Violation)
    → i < length ds → d ≡ get_or ds i d → j ≡ suc i → next ≡ suc n
    → now ≡ least_from least (flat_map (f next (decl_view d)) (ends (decl_view d))) → least_from least (over f (suc n) (map decl_view (drop i ds))) ≡ whole
    → least_from now (over f (suc next) (map decl_view (drop j ds))) ≡ whole
over_least_step f ds d i j n next least now whole within here after counted found before =
    let this = flat_map (f (suc n) (decl_view d)) (ends (decl_view d)) in
    let later = over f (suc (suc n)) (map decl_view (drop (suc i) ds)) in
    let split : least_from least (this ++ later) ≡ whole = rw (over_here f ds d i (suc n) within here) at before in
    rw (found, counted, after) (sym (least_from_append least this later) ∙ split)
