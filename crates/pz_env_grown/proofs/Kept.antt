-- Where names stand for the classes that they stood for, classes of a sound model have the parents that they
-- had, and in what has grown out of it the same ancestors.
use Rattle.std.proofs.Common.{◌≡◌, refl, sym, ap, ◌∙◌, ℕ, suc, Bool, true, false, List, length, Option, Some, None, arith}
use Rattle.std.specs.Option.{option_map_or, option_and_then}
use Rattle.pz_bind_rules.specs.pz_syntax.declared.names.Id.{Id}
use Rattle.pz_bind_rules.specs.pz_syntax.Classes.{DeclTree, ModelTree}
use Rattle.pz_bind_rules.specs.pz_check_violations.Order.{violation}
use Rattle.pz_bind_rules.specs.pz_classes_code.ReservedNames.{is_primitive, is_unsupported}
use Rattle.pz_bind_rules.specs.pz_classes_rules.Numbers.{declaration, class}
use Rattle.pz_bind_rules.specs.pz_classes_rules.Ancestors.{extended, parent_named, parent_of, parent, ancestors}
use Rattle.pz_bind_rules.specs.pz_classes_rules.Reached.{AncestorsAreReached}
use Rattle.pz_bind_rules.specs.pz_classes_rules.Violations.{is_of_sort, same_sort, breaks_c2, c2}
use Rattle.pz_bind_rules.specs.pz_classes_rules.Soundness.{IsSound}
use Rattle.pz_env_grown.specs.Growth.{Both, old, nothing, new, Grown}
use Rattle.pz_env_grown.proofs.Alike.{of_alike}
use Rattle.pz_env_grown.proofs.WaysUp.{followed_same}
use Rattle.pz_env_grown.proofs.Parents.{no_further}

module _ (m n : ModelTree) (sound : IsSound m) (classes : (name : List ℕ) (k : ℕ) → class m name ≡ Some k → class n name ≡ Some k) where
  named_same : (c : ℕ) (d : DeclTree) (x : Id) → declaration m c ≡ Some d → extended d ≡ Some x
      → parent_named n x.name ≡ parent_named m x.name
  named_same c d x at ext = by_unsupported (is_unsupported x.name) refl
    where
      by_class : is_unsupported x.name ≡ false → is_primitive x.name ≡ false → (o : Option ℕ) → class m x.name ≡ o
          → class n x.name ≡ class m x.name
      by_class known other (Some k) named = classes x.name k named ∙ sym named
      by_class known other None named = absurd (sound.classes (violation 2 x.pos) (c2 c d x at ext breaks))
        where
          unknown : is_of_sort m d x.name ≡ false
          unknown = ap (λ (o : Option ℕ). option_map_or (same_sort d) (option_and_then (declaration m) o) false) named

          breaks : breaks_c2 m d x.name ≡ true
          breaks = rw (known, other, unknown) refl

      by_primitive : is_unsupported x.name ≡ false → (b : Bool) → is_primitive x.name ≡ b
          → parent_named n x.name ≡ parent_named m x.name
      by_primitive known true is = rw (known, is) refl
      by_primitive known false is = rw (known, is) (by_class known is (class m x.name) refl)

      by_unsupported : (b : Bool) → is_unsupported x.name ≡ b → parent_named n x.name ≡ parent_named m x.name
      by_unsupported true is = rw is refl
      by_unsupported false is = by_primitive is (is_primitive x.name) refl

  -- a declaration that extends what one of the model extends has its parent
  pub parent_of_same : (c : ℕ) (d e : DeclTree) → declaration m c ≡ Some d → extended e ≡ extended d → parent_of n e ≡ parent_of m d
  parent_of_same c d e at ext = ap (option_and_then (λ (x : Id). parent_named n x.name)) ext ∙ by_name (extended d) refl
    where
      by_name : (o : Option Id) → extended d ≡ o → option_and_then (λ x. parent_named n x.name) o ≡ option_and_then (λ x. parent_named m x.name) o
      by_name None is = refl
      by_name (Some x) is = named_same c d x at is

module _ (m n : ModelTree) (sound : IsSound m) (grown : Grown m n) where
  pub parent_same : (c : ℕ) → parent n c ≡ parent m c
  parent_same c = by (declaration m c) (declaration n c) refl (grown.at c)
    where
      by : (o q : Option DeclTree) → declaration m c ≡ o → Both o q → option_and_then (parent_of n) q ≡ option_and_then (parent_of m) o
      by _ _ at (old d e like) = parent_of_same m n sound grown.classes c d e at (sym (of_alike extended (λ s t. refl) d e like))
      by _ _ at nothing = refl
      by _ _ at (new p root) = ap (option_and_then (λ (x : Id). parent_named n x.name)) root

-- in what has grown each class has the ancestors that it had
pub ancestors_same : (m n : ModelTree) → IsSound m → AncestorsAreReached → Grown m n → (c : ℕ) → ancestors m c ≡ ancestors n c
ancestors_same m n sound reached grown c =
    let eq = grown.longer in
    sym (no_further m sound reached c (suc (length n.decls)) (omega (arith, eq)))
    ∙ sym (followed_same (parent m) (parent n) (λ k. Unit {0}) (λ k known. parent_same m n sound grown k) (λ k p is. tt) (suc (length n.decls)) c tt)
