-- The least of a list such that no violation comes before all of it.
use Rattle.std.proofs.Common.{◌≡◌, subst, false, List, [], ◌∷◌, None, inl, inr}
use Rattle.pz_check_violations.specs.declared.violation.Violation.{Violation}
use Rattle.pz_check_violations.specs.Order.{is_before}
use Rattle.pz_check_violations.specs.Least.{LeastOf, least_from, Member}
use Rattle.pz_check_violations.proofs.Order.{never_before}
use Rattle.pz_check_violations.proofs.Leasts.{least_of}

-- one of these is not behind the violation
pub record NotBehind (vs : List Violation) (v : Violation) : Type 0 where
  pub found : Violation
  pub member : Member found vs
  pub sooner : is_before v found ≡ false

-- it is the least of all violations
pub least_covering : (Violated : Violation → Type 0) (vs : List Violation) → ((v : Violation) → Member v vs → Violated v) → ((v : Violation) → Violated v → NotBehind vs v) → LeastOf Violated (least_from None vs)
least_covering Violated [] sounds covers = λ v wrong. (covers v wrong).member
least_covering Violated (u ∷ vs) sounds covers =
    let l = least_of u vs in
    rw l.is (record {
      violated = sounds l.least l.member;
      least = λ w wrong. let n = covers w wrong in never_before w n.found l.least n.sooner (elim n.member [ inl e ↦ subst (λ (y : Violation). is_before y l.least ≡ false) e l.first | inr later ↦ l.others n.found later ]);
    })
