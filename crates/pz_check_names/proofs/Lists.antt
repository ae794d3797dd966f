-- Violations in lists that are joined, and loops over them.
use Rattle.std.proofs.Common.{◌≡◌, refl, sym, ap, subst, ◌∙◌, ℕ, suc, ◌<◌, Bool, true, false, IsTrue, List, [], ◌∷◌, ◌++◌, drop, length, get_or, drop-cons, Option, arith, ◌⊎◌, inl, inr}
use Rattle.std.specs.List.{Contains, flat_map}
use Rattle.std.proofs.lemmas.List.Elements.{Contains-append_cases, Contains-append_right, Contains-get_or, Contains-push_cases}
use Rattle.pz_check_violations.specs.declared.violation.Violation.{Violation}
use Rattle.pz_check_violations.specs.Least.{listed, least_from, Member}
use Rattle.pz_check_violations.proofs.Leasts.{least_from_append}
use Rattle.pz_check_violations.proofs.Members.{member_left, member_right, member_cases}

-- what holds of the violation, if it is there, and of those that follow
pub first_or : (P : Violation → Type 0) (b : Bool) (u v : Violation) (rest : List Violation) → (IsTrue b → P u) → (Member v rest → P v) → Member v (listed b u ++ rest) → P v
first_or P true u v rest does later (inl same) = subst P same (does refl)
first_or P true u v rest does later (inr there) = later there
first_or P false u v rest does later there = later there

pub only : (P : Violation → Type 0) (b : Bool) (u v : Violation) → (IsTrue b → P u) → Member v (listed b u) → P v
only P true u v does (inl same) = subst P same (does refl)
only P true u v does (inr there) = absurd there
only P false u v does there = absurd there

pub is_first : (b : Bool) (u : Violation) (rest : List Violation) → IsTrue b → Member u (listed b u ++ rest)
is_first b u rest does = subst (λ (t : Bool). Member u (listed t u ++ rest)) (sym does) (inl refl)

module _ {X : Type 0} where
  pub none_in : (x : X) → Contains [] x → ⊥
  none_in x (k, less, is) = omega arith

  pub contained_cases : (y : X) (ys : List X) (x : X) → Contains (y ∷ ys) x → (y ≡ x) ⊎ Contains ys x
  contained_cases y ys x here = by_part (Contains-append_cases (y ∷ []) ys x here)
    where
      by_one : Contains [] x ⊎ (y ≡ x) → (y ≡ x) ⊎ Contains ys x
      by_one (inl never) = absurd (none_in x never)
      by_one (inr is) = inl is

      by_part : Contains (y ∷ []) x ⊎ Contains ys x → (y ≡ x) ⊎ Contains ys x
      by_part (inl one) = by_one (Contains-push_cases [] y x one)
      by_part (inr later) = inr later

  pub contained_first : (x : X) (xs : List X) → Contains (x ∷ xs) x
  contained_first x xs = Contains-get_or (x ∷ xs) 0 x (omega arith)

  pub contained_later : (y : X) (ys : List X) (x : X) → Contains ys x → Contains (y ∷ ys) x
  contained_later y ys x later = Contains-append_right (y ∷ []) ys x later

  pub in_flat : (f : X → List Violation) (xs : List X) (x : X) (v : Violation) → Contains xs x → Member v (f x) → Member v (flat_map f xs)
  in_flat f [] x v here found = absurd (none_in x here)
  in_flat f (y ∷ ys) x v here found = by_part (λ later. in_flat f ys x v later found) (contained_cases y ys x here)
    where
      by_part : (Contains ys x → Member v (flat_map f ys)) → (y ≡ x) ⊎ Contains ys x → Member v (flat_map f (y ∷ ys))
      by_part rest (inl is) = member_left v (f y) (flat_map f ys) (subst (λ (z : X). Member v (f z)) (sym is) found)
      by_part rest (inr later) = member_right v (f y) (flat_map f ys) (rest later)

  -- what holds of the violations of each element holds of those of all
  pub of_flat : (P : Violation → Type 0) (f : X → List Violation) (xs : List X) (v : Violation) → ((x : X) → Contains xs x → Member v (f x) → P v) → Member v (flat_map f xs) → P v
  of_flat P f [] v each found = absurd found
  of_flat P f (y ∷ ys) v each found =
      by_part (λ later. of_flat P f ys v (λ x there. each x (contained_later y ys x there)) later) (member_cases v (f y) (flat_map f ys) found)
    where
      by_part : (Member v (flat_map f ys) → P v) → Member v (f y) ⊎ Member v (flat_map f ys) → P v
      by_part rest (inl here) = each y (contained_first y ys) here
      by_part rest (inr later) = rest later

  -- one element further
  pub flat_step : (f : X → List Violation) (xs : List X) (x : X) (i j : ℕ) (least now whole : Option Violation) → i < length xs → x ≡ get_or xs i x → j ≡ suc i
      → now ≡ least_from least (f x)
      → least_from least (flat_map f (drop i xs)) ≡ whole → least_from now (flat_map f (drop j xs)) ≡ whole
  flat_step f xs x i j least now whole within here after found before =
      let first : drop i xs ≡ x ∷ drop (suc i) xs = drop-cons xs i x within ∙ ap (λ (y : X). y ∷ drop (suc i) xs) (sym here) in
      let split : least_from least (f x ++ flat_map f (drop (suc i) xs)) ≡ whole = rw first at before in
      rw (found, after) (sym (least_from_append least (f x) (flat_map f (drop (suc i) xs))) ∙ split)
