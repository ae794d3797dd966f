-- The least of a list of violations.
use Rattle.std.proofs.Common.{◌≡◌, refl, subst, true, false, Bool, List, [], ◌∷◌, ◌++◌, Option, Some, None, ◌⊎◌, inl, inr}
use Rattle.pz_check_violations.specs.declared.violation.Violation.{Violation}
use Rattle.pz_check_violations.specs.Order.{is_before, IsLeast}
use Rattle.pz_check_violations.specs.Least.{LeastOf, lesser, least_from, Member}
use Rattle.pz_check_violations.proofs.Order.{not_before_itself, never_before, not_behind}

pub least_from_append : (least : Option Violation) (vs ws : List Violation) → least_from least (vs ++ ws) ≡ least_from (least_from least vs) ws
least_from_append least [] ws = refl
least_from_append least (v ∷ vs) ws = least_from_append (lesser least v) vs ws

-- the least of a list and of one before it
pub record Least (u : Violation) (vs : List Violation) : Type 0 where
  pub least : Violation
  pub is : least_from (Some u) vs ≡ Some least
  pub member : (u ≡ least) ⊎ Member least vs
  pub first : is_before u least ≡ false
  pub others : (w : Violation) → Member w vs → is_before w least ≡ false

pub least_of : (u : Violation) (vs : List Violation) → Least u vs
least_of u [] = record { least = u; is = refl; member = inl refl; first = not_before_itself u; others = λ w none. absurd none }
least_of u (x ∷ xs) = by_test (is_before x u) refl (least_of u xs) (least_of x xs)
  where
    by_test : (t : Bool) → is_before x u ≡ t → Least u xs → Least x xs → Least u (x ∷ xs)
    by_test true is old new = record {
      least = new.least;
      is = rw is new.is;
      member = inr (elim new.member [ inl e ↦ inl e | inr later ↦ inr later ]);
      first = never_before u x new.least (not_behind x u is) new.first;
      others = λ w among. elim among [ inl e ↦ subst (λ (y : Violation). is_before y new.least ≡ false) e new.first | inr later ↦ new.others w later ];
    }
    by_test false is old new = record {
      least = old.least;
      is = rw is old.is;
      member = elim old.member [ inl e ↦ inl e | inr later ↦ inr (inr later) ];
      first = old.first;
      others = λ w among. elim among [ inl e ↦ subst (λ (y : Violation). is_before y old.least ≡ false) e (never_before x u old.least is old.first) | inr later ↦ old.others w later ];
    }

-- the search finds the least of what the list has
pub least_found : (Violated : Violation → Type 0) (vs : List Violation) → ((v : Violation) → Member v vs → Violated v) → ((v : Violation) → Violated v → Member v vs) → LeastOf Violated (least_from None vs)
least_found Violated [] sounds completes = completes
least_found Violated (u ∷ vs) sounds completes =
    let l = least_of u vs in
    rw l.is (record {
      violated = sounds l.least l.member;
      least = λ w wrong. elim (completes w wrong) [ inl e ↦ subst (λ (y : Violation). is_before y l.least ≡ false) e l.first | inr later ↦ l.others w later ];
    })

pub least_at_some : (Violated : Violation → Type 0) (found : Option Violation) (v : Violation) → found ≡ Some v → LeastOf Violated found → IsLeast Violated v
least_at_some Violated found v is least = subst (LeastOf Violated) is least

pub least_at_none : (Violated : Violation → Type 0) (found : Option Violation) → found ≡ None → LeastOf Violated found → (v : Violation) → Violated v → ⊥
least_at_none Violated found is none = subst (LeastOf Violated) is none
