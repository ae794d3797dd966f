-- Members of lists of violations.
use Rattle.std.proofs.Common.{◌≡◌, refl, sym, subst, Bool, true, false, IsTrue, List, [], ◌∷◌, ◌++◌, ◌⊎◌, inl, inr}
use Rattle.pz_check_violations.specs.declared.violation.Violation.{Violation}
use Rattle.pz_check_violations.specs.Least.{listed, Member}

pub member_left : (v : Violation) (xs ys : List Violation) → Member v xs → Member v (xs ++ ys)
member_left v [] ys here = absurd here
member_left v (x ∷ xs) ys (inl is) = inl is
member_left v (x ∷ xs) ys (inr later) = inr (member_left v xs ys later)

pub member_right : (v : Violation) (xs ys : List Violation) → Member v ys → Member v (xs ++ ys)
member_right v [] ys here = here
member_right v (x ∷ xs) ys here = inr (member_right v xs ys here)

pub member_cases : (v : Violation) (xs ys : List Violation) → Member v (xs ++ ys) → Member v xs ⊎ Member v ys
member_cases v [] ys here = inr here
member_cases v (x ∷ xs) ys (inl is) = inl (inl is)
member_cases v (x ∷ xs) ys (inr later) = by_part (member_cases v xs ys later)
  where
    by_part : Member v xs ⊎ Member v ys → Member v (x ∷ xs) ⊎ Member v ys
    by_part (inl here) = inl (inr here)
    by_part (inr there) = inr there

pub listed_is : (b : Bool) (u v : Violation) → Member v (listed b u) → IsTrue b × (u ≡ v)
listed_is true u v (inl is) = (refl, is)
listed_is true u v (inr later) = absurd later
listed_is false u v here = absurd here

pub is_listed : (b : Bool) (u : Violation) → IsTrue b → Member u (listed b u)
is_listed b u does = subst (λ (t : Bool). Member u (listed t u)) (sym does) (inl refl)
