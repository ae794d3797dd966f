-- The list of violations of C14 has those of the rule and no others.
use Rattle.std.proofs.Common.{◌≡◌, refl, sym, ap, subst, ℕ, arith, Bool, true, false, not, nat_eq, IsTrue, List, [], ◌∷◌, Option, Some, None}
use Rattle.std.specs.List.{Contains}
use Rattle.std.proofs.lemmas.Bool.{not-true}
use Rattle.std.proofs.lemmas.Bool.Decides.{nat_tests}
use Rattle.pz_classes_code.specs.pz_syntax.declared.clusters.Instance.{Instance}
use Rattle.pz_classes_code.specs.pz_syntax.Classes.{ModelTree}
use Rattle.pz_classes_lineage.specs.declared.visit.Visit.{Visit}
use Rattle.pz_classes.specs.pz_check_violations.declared.violation.Violation.{Violation}
use Rattle.pz_classes.specs.pz_check_violations.Order.{violation}
use Rattle.pz_classes.specs.pz_check_violations.Least.{LeastOf, least_from, Member}
use Rattle.pz_classes.proofs.pz_check_violations_proofs.Members.{listed_is, is_listed}
use Rattle.pz_classes.proofs.pz_check_violations_proofs.Leasts as leasts
use Rattle.pz_classes.specs.pz_classes_rules.Members.{spelled}
use Rattle.pz_classes.specs.pz_classes_rules.Instances.{instances, instance_class, parameters}
use Rattle.pz_classes.specs.pz_classes_rules.InstanceRules.{given_names, gives_each, BreaksC14, ill_given}
use Rattle.pz_classes.specs.pz_classes_rules.Preorder.{IsPreorderOf}
use Rattle.pz_check_instances.specs.devices.Given.{is_number, if_of_class, of_class, all_instances, ill_given_of, ill_given_in, all_given}
use Rattle.pz_check_instances.proofs.Contained.{holder, held, only_one, first_of, in_none, member_contained, contained_member}
use Rattle.pz_check_instances.proofs.Numbered.{numbered, declared, instance_class_within, visit_of}

module _ (m : ModelTree) where
  number_is : (o : Option ℕ) (k : ℕ) → is_number o k ≡ true → o ≡ Some k
  number_is None k is = cc
  number_is (Some c) k is = let same : c ≡ k = grind (arith, nat_tests) in ap (λ (n : ℕ). Some n) same

  is_it : (k : ℕ) → nat_eq k k ≡ true
  is_it k = grind (arith, nat_tests)

  if_class_is : (k : ℕ) (i j : Instance) → Contains (if_of_class m k i) j → (i ≡ j) × (instance_class m i.class.name ≡ Some k)
  if_class_is k i j found = by_test (is_number (instance_class m i.class.name) k) refl
    where
      by_test : (b : Bool) → is_number (instance_class m i.class.name) k ≡ b → (i ≡ j) × (instance_class m i.class.name ≡ Some k)
      by_test true is = let here : Contains (i ∷ []) j = rw is at found in (only_one i j here, number_is (instance_class m i.class.name) k is)
      by_test false is = let none : Contains {X = Instance} [] j = rw is at found in absurd (in_none j none)

  is_of_class : (k : ℕ) (i : Instance) → instance_class m i.class.name ≡ Some k → Contains (if_of_class m k i) i
  is_of_class k i is = rw (is, is_it k) (first_of i [])

  sound : (visits : List Visit) (v : Violation) → Member v (all_given m visits) → BreaksC14 m v
  sound visits v found =
      let at = holder (λ (w : Visit). ill_given_in m w.class) visits v (member_contained v (all_given m visits) found) in
      let k = at.element.class in
      let listed = holder (ill_given_of m k) (of_class m k (all_instances m)) v at.its in
      let one = holder (if_of_class m k) (all_instances m) listed.element listed.among in
      let is = if_class_is k one.element listed.element one.its in
      let i = one.element in
      let d = holder instances m.decls i one.among in
      let number = numbered m d.element d.among in
      let wrong = listed_is (not (gives_each (given_names i) (spelled (parameters m k)))) (violation 14 i.name.pos) v
      (contained_member v (ill_given_of m k i) (subst (λ (j : Instance). Contains (ill_given_of m k j) v) (sym is.0) listed.its)) in
      subst (BreaksC14 m) wrong.1 (ill_given number.0 k d.element i number.1 d.its is.1 (not-true (gives_each (given_names i) (spelled (parameters m k))) wrong.0))

  complete : (visits : List Visit) (v : Violation) → IsPreorderOf m visits → BreaksC14 m v → Member v (all_given m visits)
  complete visits _ preorder (ill_given c k d i here among is fails) =
      let v = violation 14 i.name.pos in
      let wrong : IsTrue (not (gives_each (given_names i) (spelled (parameters m k)))) = rw fails refl in
      let all : Contains (all_instances m) i = held instances m.decls d i (declared m c d here) among in
      let mine : Contains (of_class m k (all_instances m)) i = held (if_of_class m k) (all_instances m) i i all (is_of_class k i is) in
      let ill : Contains (ill_given_of m k i) v = member_contained v (ill_given_of m k i) (is_listed (not (gives_each (given_names i) (spelled (parameters m k)))) v wrong) in
      let at = visit_of m visits k preorder (instance_class_within m i.class.name k is) in
      let there : Contains (ill_given_in m at.0.class) v = rw at.2 (held (ill_given_of m k) (of_class m k (all_instances m)) i v mine ill) in
      contained_member v (all_given m visits) (held (λ (w : Visit). ill_given_in m w.class) visits at.0 v at.1 there)

  -- what the search finds
  pub least_ill_given : (visits : List Visit) → IsPreorderOf m visits → LeastOf (BreaksC14 m) (least_from None (all_given m visits))
  least_ill_given visits preorder = leasts.least_found (BreaksC14 m) (all_given m visits) (sound visits) (λ v. complete visits v preorder)
