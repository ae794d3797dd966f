-- Parents of classes: in a sound model no class comes round to itself by them.
use Rattle.std.proofs.Common.{◌≡◌, refl, ap, ℕ, suc, ◌<◌, ◌≤◌, Bool, true, false, List, length, Option, Some, None, if◌then◌else◌, ◌⊎◌, inl, inr}
use Rattle.std.specs.Option.{option_and_then}
use Rattle.pz_bind_rules.specs.pz_syntax.declared.names.Id.{Id}
use Rattle.pz_bind_rules.specs.pz_syntax.Classes.{DeclTree, data_class, process_class, cluster_class, system, ModelTree}
use Rattle.pz_bind_rules.specs.pz_check_violations.Order.{violation}
use Rattle.pz_bind_rules.specs.pz_classes_code.ReservedNames.{is_primitive, is_unsupported}
use Rattle.pz_bind_rules.specs.pz_classes_rules.Numbers.{declared_name, declaration, class}
use Rattle.pz_bind_rules.specs.pz_classes_rules.Ancestors.{extended, parent_named, parent_of, parent, followed, ancestors}
use Rattle.pz_bind_rules.specs.pz_classes_rules.Reached.{AncestorsAreReached}
use Rattle.pz_bind_rules.specs.pz_classes_rules.Violations.{c3}
use Rattle.pz_bind_rules.specs.pz_classes_rules.Soundness.{IsSound}
use Rattle.pz_env_grown.proofs.Numbers.{none_some, class_within, class_declared}
use Rattle.pz_env_grown.proofs.WaysUp.{More, one_more, ComesRound, round, last_reached, stays}

-- what extends has a name
named_of : (d : DeclTree) (x : Id) → extended d ≡ Some x → (name : Id) × (declared_name d ≡ Some name)
named_of (data_class c) x is = (c.name, refl)
named_of (process_class c) x is = (c.name, refl)
named_of (cluster_class c) x is = absurd (none_some x is)
named_of (system s) x is = absurd (none_some x is)

module _ (m : ModelTree) where
  -- what has a parent is declared, and extends
  pub record HasParent (c p : ℕ) : Type 0 where
    pub decl : DeclTree
    pub declared : declaration m c ≡ Some decl
    pub name : Id
    pub extends : extended decl ≡ Some name
    pub is_class : class m name.name ≡ Some p

  named_class : (name : List ℕ) (p : ℕ) → parent_named m name ≡ Some p → class m name ≡ Some p
  named_class name p is = by_unsupported (is_unsupported name) is
    where
      by_primitive : (b : Bool) → (if b then None else class m name) ≡ Some p → class m name ≡ Some p
      by_primitive true has = absurd (none_some p has)
      by_primitive false has = has

      by_unsupported : (b : Bool) → (if b then None else if is_primitive name then None else class m name) ≡ Some p → class m name ≡ Some p
      by_unsupported true has = absurd (none_some p has)
      by_unsupported false has = by_primitive (is_primitive name) has

  pub has_parent : (c p : ℕ) → parent m c ≡ Some p → HasParent c p
  has_parent c p is = by_decl (declaration m c) refl is
    where
      by_name : (d : DeclTree) → declaration m c ≡ Some d → (o : Option Id) → extended d ≡ o
          → option_and_then (λ x. parent_named m x.name) o ≡ Some p → HasParent c p
      by_name d at None ext has = absurd (none_some p has)
      by_name d at (Some x) ext has = record { decl = d; declared = at; name = x; extends = ext; is_class = named_class x.name p has }

      by_decl : (o : Option DeclTree) → declaration m c ≡ o → option_and_then (parent_of m) o ≡ Some p → HasParent c p
      by_decl None at has = absurd (none_some p has)
      by_decl (Some d) at has = by_name d at (extended d) refl has

  pub parent_within : (c p : ℕ) → parent m c ≡ Some p → p < suc (length m.decls)
  parent_within c p is = let has = has_parent c p is in class_within m has.name.name p has.is_class

  pub parent_declared : (c p : ℕ) → parent m c ≡ Some p → (d : DeclTree) × (declaration m p ≡ Some d)
  parent_declared c p is = let has = has_parent c p is in class_declared m has.name.name p has.is_class

module _ (m : ModelTree) (sound : IsSound m) (reached : AncestorsAreReached) where
  no_round : (c : ℕ) → ComesRound (parent m) c → ⊥
  no_round c around =
      let has = has_parent m c around.above around.is_above in
      let name = named_of has.decl has.name has.extends in
      let over = parent_declared m c around.above around.is_above in
      sound.classes (violation 3 name.0.pos) (c3 c around.above has.decl name.0 has.declared name.1 around.is_above ((reached m around.above over.0 over.1 c).1 around.back))

  ends : (c : ℕ) → followed (parent m) (suc (suc (length m.decls))) c ≡ ancestors m c
  ends c = by_decl (declaration m c) refl
    where
      by_decl : (o : Option DeclTree) → declaration m c ≡ o → followed (parent m) (suc (suc (length m.decls))) c ≡ ancestors m c
      by_decl None at = let alone : parent m c ≡ None = ap (option_and_then (parent_of m)) at in rw alone refl
      by_decl (Some d) at = by_more (one_more (parent m) (suc (length m.decls)) c)
        where
          by_more : (followed (parent m) (suc (suc (length m.decls))) c ≡ followed (parent m) (suc (length m.decls)) c) ⊎ More (parent m) (suc (length m.decls)) c
              → followed (parent m) (suc (suc (length m.decls))) c ≡ ancestors m c
          by_more (inl same) = same
          by_more (inr more) =
              absurd (no_round more.last (round (parent m) (suc (length m.decls)) c more ((reached m c d at more.last).1 (last_reached (parent m) (suc (length m.decls)) c more))))

  -- more steps than there are classes come to nothing new
  pub no_further : (c k : ℕ) → suc (length m.decls) ≤ k → followed (parent m) k c ≡ ancestors m c
  no_further c k low = stays (parent m) (suc (length m.decls)) k c low (ends c)
