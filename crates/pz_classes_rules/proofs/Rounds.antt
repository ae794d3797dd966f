-- The test for C3, and what it says of a model that meets the rules C1 to C3.
use Rattle.std.proofs.Common.{◌≡◌, refl, sym, ◌∙◌, ℕ, zero, suc, ◌<◌, Bool, true, false, List, Option, Some, None, slice_get, get_or, length, ◌≤◌, arith, ◌⊎◌, inl, inr}
use Rattle.std.specs.Option.{option_and_then, unwrap_or}
use Rattle.std.proofs.lemmas.Option.{slice_get_cases}
use Rattle.pz_classes_code.specs.pz_syntax.declared.names.Id.{Id}
use Rattle.pz_classes_code.specs.pz_syntax.Classes.{DeclTree, data_class, process_class, cluster_class, system, ModelTree}
use Rattle.pz_check_violations.specs.declared.violation.Violation.{Violation}
use Rattle.pz_check_violations.specs.Order.{violation}
use Rattle.pz_classes_lineage.specs.Parents.{parent_in}
use Rattle.pz_classes_lineage.specs.Reached.{GoesRound, round}
use Rattle.pz_classes_rules.specs.Numbers.{declaration, declared_name}
use Rattle.pz_classes_rules.specs.Ancestors.{extended, parent_named, parent}
use Rattle.pz_classes_rules.specs.Violations.{Violates, c3}
use Rattle.pz_classes_rules.specs.devices.ViolationList.{breaks_c3}
use Rattle.pz_classes_rules.specs.devices.Rounds.{AreRound}
use Rattle.pz_classes_rules.proofs.Agreeing.{agreeing}
use Rattle.pz_classes_rules.proofs.Within.{parent_within, parent_positive}
use Rattle.pz_classes_rules.proofs.Found.{open_c3, close_c3}
use Rattle.pz_classes_rules.proofs.Reaching.{reached}

same_bools : (a b : Bool) → (a ≡ true → b ≡ true) → (b ≡ true → a ≡ true) → a ≡ b
same_bools true true to from = refl
same_bools false false to from = refl
same_bools true false to from = sym (to refl)
same_bools false true to from = from refl

module _ (m : ModelTree) where
  -- a parent is declared
  parent_declared : (c p : ℕ) → parent m c ≡ Some p → (d : DeclTree) × (declaration m p ≡ Some d)
  parent_declared c zero up = let wrong : 0 < 0 = parent_positive m c 0 up in absurd (omega arith)
  parent_declared c (suc i) up = by_cases (slice_get_cases m.decls i).1
    where
      by_cases : ((d : DeclTree) × (i < length m.decls) × (slice_get m.decls i ≡ Some d) × (get_or m.decls i d ≡ d)) ⊎ ((length m.decls ≤ i) × (slice_get m.decls i ≡ None))
          → (d : DeclTree) × (slice_get m.decls i ≡ Some d)
      by_cases (inl at) = (at.0, at.2)
      by_cases (inr past) = let within : suc i < suc (length m.decls) = parent_within m c (suc i) up in let beyond = past.0 in absurd (omega arith)

  pub to_test : (c : ℕ) → GoesRound (parent m) c → breaks_c3 m c ≡ true
  to_test _ (round c p up way) = let at = parent_declared c p up in close_c3 m c p up ((reached m p at.0 at.1 c).1 way)

  pub of_test : (c : ℕ) → breaks_c3 m c ≡ true → GoesRound (parent m) c
  of_test c does = let at = open_c3 m c does in let above = parent_declared c at.0 at.1 in round c at.0 at.1 ((reached m at.0 above.0 above.1 c).0 at.2)

  pub marked : (c : ℕ) (marks : List Bool) → AreRound m marks → unwrap_or (slice_get marks c) false ≡ breaks_c3 m c
  marked c marks are = by_mark (slice_get marks c) refl
    where
      by_mark : (o : Option Bool) → slice_get marks c ≡ o → unwrap_or o false ≡ breaks_c3 m c
      by_mark None at = same_bools false (breaks_c3 m c) (λ wrong. cc) (λ does. let wrong : None ≡ Some true = sym at ∙ (are c).1 (of_test c does) in cc)
      by_mark (Some true) at = sym (to_test c ((are c).0 at))
      by_mark (Some false) at = same_bools false (breaks_c3 m c) (λ wrong. cc) (λ does. let wrong : Some false ≡ Some true = sym at ∙ (are c).1 (of_test c does) in cc)

  -- a class that extends another has a name
  named : (d : DeclTree) (x : Id) → extended d ≡ Some x → (name : Id) × (declared_name d ≡ Some name)
  named (data_class d) x is = (d.name, refl)
  named (process_class d) x is = (d.name, refl)
  named (cluster_class d) x none = cc
  named (system d) x none = cc

  extends : (c p : ℕ) → parent m c ≡ Some p → (d : DeclTree) × (declaration m c ≡ Some d) × ((name : Id) × (declared_name d ≡ Some name))
  extends c p up = by_decl (declaration m c) refl
    where
      by_name : (d : DeclTree) → declaration m c ≡ Some d → (o : Option Id) → extended d ≡ o → option_and_then (λ x. parent_named m x.name) o ≡ Some p
          → (e : DeclTree) × (declaration m c ≡ Some e) × ((name : Id) × (declared_name e ≡ Some name))
      by_name d here None is none = cc
      by_name d here (Some x) is some = (d, here, named d x is)

      by_decl : (o : Option DeclTree) → declaration m c ≡ o → (d : DeclTree) × (declaration m c ≡ Some d) × ((name : Id) × (declared_name d ≡ Some name))
      by_decl None here = let none : None ≡ Some p = rw here at up in cc
      by_decl (Some d) here = by_name d here (extended d) refl (rw here at up)

  -- where C3 holds, no class goes round
  pub nobody_goes_round : ((v : Violation) → Violates m v → ⊥) → (c : ℕ) → GoesRound (parent m) c → ⊥
  nobody_goes_round sound _ (round c p up way) =
      let is = extends c p up in
      let above = parent_declared c p up in
      sound (violation 3 is.2.0.pos) (c3 c p is.0 is.2.0 is.1 is.2.1 up ((reached m p above.0 above.1 c).1 way))

-- what is said of parents in a list holds of the model's
pub parents_agree : (m : ModelTree) (parents : List (Option ℕ)) → ((c : ℕ) → parent_in parents c ≡ parent m c) → parent_in parents ≡ parent m
parents_agree m parents agree = agreeing (parent_in parents) (parent m) agree
