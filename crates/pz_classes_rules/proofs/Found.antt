-- The list of violations has those of the rules and no others, and the least of the list is the
-- least of them.
use Rattle.std.proofs.Common.{◌≡◌, refl, ap, subst, ◌∙◌, ℕ, zero, suc, ◌+◌, true, false, IsTrue, List, [], ◌∷◌, Option, Some, None, slice_get, arith, ◌⊎◌, inl, inr}
use Rattle.std.specs.List.{Contains}
use Rattle.std.specs.Option.{option_map_or}
use Rattle.std.proofs.lemmas.Bool.{eqb-true}
use Rattle.std.proofs.lemmas.Cmp.{nat_eq_equiv}
use Rattle.std.proofs.lemmas.Map.Views.{Contains-from_any, list_any-from_Contains}
use Rattle.pz_classes_code.specs.pz_syntax.declared.names.Id.{Id}
use Rattle.pz_classes_code.specs.pz_syntax.Classes.{DeclTree, ModelTree}
use Rattle.pz_check_violations.specs.declared.violation.Violation.{Violation}
use Rattle.pz_classes_rules.specs.Numbers.{declared_name, declaration}
use Rattle.pz_classes_rules.specs.Ancestors.{extended, parent, ancestors}
use Rattle.pz_check_violations.specs.Order.{violation}
use Rattle.pz_check_violations.specs.Least.{LeastOf, listed, least_from, Member}
use Rattle.pz_classes_rules.specs.Violations.{breaks_c1, breaks_c2, Violates, c1, c2, c3}
use Rattle.pz_classes_rules.specs.devices.ViolationList.{breaks_c3, of_name, of_parent, of_class, among, violations}
use Rattle.pz_check_violations.proofs.Members.{member_left, member_right, member_cases, listed_is, is_listed}
use Rattle.pz_check_violations.proofs.Leasts as leasts

module _ (m : ModelTree) where
  -- the class and its parent's ancestors agree with the test
  pub open_c3 : (c : ℕ) → IsTrue (breaks_c3 m c) → (p : ℕ) × (parent m c ≡ Some p) × Contains (ancestors m p) c
  open_c3 c does = by_parent (parent m c) refl
    where
      by_parent : (o : Option ℕ) → parent m c ≡ o → (p : ℕ) × (parent m c ≡ Some p) × Contains (ancestors m p) c
      by_parent None is = let wrong : false ≡ true = rw is at does in cc
      by_parent (Some p) is = (p, is, Contains-from_any (λ x y. eqb-true x y) c (ancestors m p) (rw is at does))

  pub close_c3 : (c p : ℕ) → parent m c ≡ Some p → Contains (ancestors m p) c → IsTrue (breaks_c3 m c)
  close_c3 c p is above = rw is (list_any-from_Contains nat_eq_equiv c (ancestors m p) above)

  name_sound : (c : ℕ) (d : DeclTree) (name : Id) (v : Violation) → declaration m c ≡ Some d → declared_name d ≡ Some name → Member v (of_name m c name) → Violates m v
  name_sound c d name v here named found = by_rule (member_cases v (listed (breaks_c1 m c name.name) (violation 1 name.pos)) (listed (breaks_c3 m c) (violation 3 name.pos)) found)
    where
      by_rule : Member v (listed (breaks_c1 m c name.name) (violation 1 name.pos)) ⊎ Member v (listed (breaks_c3 m c) (violation 3 name.pos)) → Violates m v
      by_rule (inl first) = let r = listed_is (breaks_c1 m c name.name) (violation 1 name.pos) v first in subst (Violates m) r.1 (c1 c d name here named r.0)
      by_rule (inr third) =
          let r = listed_is (breaks_c3 m c) (violation 3 name.pos) v third in
          let round = open_c3 c r.0 in
          subst (Violates m) r.1 (c3 c round.0 d name here named round.1 round.2)

  parent_sound : (c : ℕ) (d : DeclTree) (name : Id) (v : Violation) → declaration m c ≡ Some d → extended d ≡ Some name → Member v (of_parent m d name) → Violates m v
  parent_sound c d name v here named found = let r = listed_is (breaks_c2 m d name.name) (violation 2 name.pos) v found in subst (Violates m) r.1 (c2 c d name here named r.0)

  class_sound : (c : ℕ) (d : DeclTree) (v : Violation) → declaration m c ≡ Some d → Member v (of_class m c d) → Violates m v
  class_sound c d v here found = by_part (member_cases v (option_map_or (of_name m c) (declared_name d) []) (option_map_or (of_parent m d) (extended d) []) found)
    where
      by_name : (o : Option Id) → declared_name d ≡ o → Member v (option_map_or (of_name m c) o []) → Violates m v
      by_name None is at = absurd at
      by_name (Some name) is at = name_sound c d name v here is at

      by_parent : (o : Option Id) → extended d ≡ o → Member v (option_map_or (of_parent m d) o []) → Violates m v
      by_parent None is at = absurd at
      by_parent (Some name) is at = parent_sound c d name v here is at

      by_part : Member v (option_map_or (of_name m c) (declared_name d) []) ⊎ Member v (option_map_or (of_parent m d) (extended d) []) → Violates m v
      by_part (inl at) = by_name (declared_name d) refl at
      by_part (inr at) = by_parent (extended d) refl at

  -- the declarations from number n on
  abbrev From : ℕ → List DeclTree → Type 0
  From n ds = (i : ℕ) → declaration m (i + n) ≡ slice_get ds i

  from_next : (n : ℕ) (d : DeclTree) (ds : List DeclTree) → From n (d ∷ ds) → From (suc n) ds
  from_next n d ds from i = let same : i + suc n ≡ suc i + n = omega arith in ap (λ (k : ℕ). declaration m k) same ∙ from (suc i)

  from_first : (n : ℕ) (d : DeclTree) (ds : List DeclTree) → From n (d ∷ ds) → declaration m n ≡ Some d
  from_first n d ds from = let same : n ≡ 0 + n = omega arith in ap (λ (k : ℕ). declaration m k) same ∙ from 0

  among_sound : (n : ℕ) (ds : List DeclTree) (v : Violation) → From n ds → Member v (among m n ds) → Violates m v
  among_sound n [] v from found = absurd found
  among_sound n (d ∷ ds) v from found = by_part (λ later. among_sound (suc n) ds v (from_next n d ds from) later) (member_cases v (of_class m n d) (among m (suc n) ds) found)
    where
      by_part : (Member v (among m (suc n) ds) → Violates m v) → Member v (of_class m n d) ⊎ Member v (among m (suc n) ds) → Violates m v
      by_part rest (inl here) = class_sound n d v (from_first n d ds from) here
      by_part rest (inr later) = rest later

  among_complete : (n : ℕ) (ds : List DeclTree) (v : Violation) → From n ds → (i : ℕ) (d : DeclTree) → slice_get ds i ≡ Some d → Member v (of_class m (i + n) d) → Member v (among m n ds)
  among_complete n [] v from i d here found = cc
  among_complete n (e ∷ ds) v from zero d here found =
      let same : 0 + n ≡ n = omega arith in
      let is : e ≡ d = cc in
      let first : Member v (of_class m n e) = rw (is, ← same) found in
      member_left v (of_class m n e) (among m (suc n) ds) first
  among_complete n (e ∷ ds) v from (suc i) d here found =
      let same : suc i + n ≡ i + suc n = omega arith in
      let next : Member v (of_class m (i + suc n) d) = rw same at found in
      member_right v (of_class m n e) (among m (suc n) ds) (among_complete (suc n) ds v (from_next n e ds from) i d here next)

  from_one : From 1 m.decls
  from_one i = let same : i + 1 ≡ suc i = omega arith in ap (λ (k : ℕ). declaration m k) same

  -- a class that has a declaration is among them
  at_class : (c : ℕ) (d : DeclTree) (v : Violation) → declaration m c ≡ Some d → Member v (of_class m c d) → Member v (violations m)
  at_class zero d v here found = cc
  at_class (suc i) d v here found =
      let same : suc i ≡ i + 1 = omega arith in
      among_complete 1 m.decls v from_one i d here (rw same at found)

  complete : (v : Violation) → Violates m v → Member v (violations m)
  complete _ (c1 c d name here named does) =
      let found : Member (violation 1 name.pos) (of_name m c name) = member_left (violation 1 name.pos) _ _ (is_listed (breaks_c1 m c name.name) (violation 1 name.pos) does) in
      at_class c d (violation 1 name.pos) here (member_left (violation 1 name.pos) (option_map_or (of_name m c) (declared_name d) []) (option_map_or (of_parent m d) (extended d) []) (rw named found))
  complete _ (c2 c d name here named does) =
      let found : Member (violation 2 name.pos) (of_parent m d name) = is_listed (breaks_c2 m d name.name) (violation 2 name.pos) does in
      at_class c d (violation 2 name.pos) here (member_right (violation 2 name.pos) (option_map_or (of_name m c) (declared_name d) []) (option_map_or (of_parent m d) (extended d) []) (rw named found))
  complete _ (c3 c p d name here named is above) =
      let found : Member (violation 3 name.pos) (of_name m c name) = member_right (violation 3 name.pos) (listed (breaks_c1 m c name.name) (violation 1 name.pos)) _ (is_listed (breaks_c3 m c) (violation 3 name.pos) (close_c3 c p is above)) in
      at_class c d (violation 3 name.pos) here (member_left (violation 3 name.pos) (option_map_or (of_name m c) (declared_name d) []) (option_map_or (of_parent m d) (extended d) []) (rw named found))

  sound : (v : Violation) → Member v (violations m) → Violates m v
  sound v found = among_sound 1 m.decls v from_one found

-- what the search for the least finds
pub least_found : (m : ModelTree) → LeastOf (Violates m) (least_from None (violations m))
least_found m = leasts.least_found (Violates m) (violations m) (sound m) (complete m)
