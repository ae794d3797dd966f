-- The classes and methods that names and numbers stand for are those of the model.
use Rattle.std.proofs.Common.{◌≡◌, refl, sym, ap, ◌∙◌, ℕ, zero, suc, ◌+◌, ◌-◌, ◌<◌, ◌≤◌, Bool, true, false, List, [], ◌∷◌, ◌++◌, length, take, Option, Some, None, slice_get, get_or, arith}
use Rattle.std.specs.Option.{option_map, option_and_then, unwrap_or}
use Rattle.std.specs.List.{sum_by}
use Rattle.std.proofs.lemmas.List.{length-map, length-append}
use Rattle.std.proofs.lemmas.List.Sums.{sum_by_more_le, sum_by-cons}
use Rattle.std.proofs.lemmas.Option.{slice_get_within, get_or_from_slice_get}
use Rattle.pz_classes_code.specs.pz_syntax.declared.names.Id.{Id}
use Rattle.pz_classes_code.specs.pz_syntax.Classes.{DeclTree, data_class, process_class, cluster_class, system, ModelTree}
use Rattle.pz_classes_code.specs.ReservedNames.{is_primitive, is_unsupported}
use Rattle.pz_classes_rules.specs.declared.method_id.MethodId.{MethodId}
use Rattle.pz_classes_rules.specs.Numbers.{is_named, declaration, first_named, class}
use Rattle.pz_classes_rules.specs.Ancestors.{extended, parent_named, parent, ancestors}
use Rattle.pz_classes_rules.specs.Methods.{Signature, signatures, same_signature, methods_before, first_with, method_id, own_method, nearest, method_with}
use Rattle.pz_classes_rules.specs.Bodies.{own_bodies, bodies_from, bodies, data_body_in, process_body_in, data_scope, process_scope}

some_is : {A : Type 0} (x y : A) → Some x ≡ Some y → x ≡ y
some_is x y same = cc

named_within : (ds : List DeclTree) (n c : ℕ) (name : List ℕ) → first_named ds n name ≡ Some c → c < n + length ds
named_within [] n c name is = cc
named_within (d ∷ ds) n c name is = by_test (is_named name d) refl (named_within ds (suc n) c name)
  where
    by_test : (b : Bool) → is_named name d ≡ b → (first_named ds (suc n) name ≡ Some c → c < suc n + length ds) → c < n + length (d ∷ ds)
    by_test true here later = let first : n ≡ c = some_is n c (rw here at is) in omega arith
    by_test false here later = let rest : c < suc n + length ds = later (rw here at is) in omega arith

pub class_within : (m : ModelTree) (c : ℕ) (name : List ℕ) → class m name ≡ Some c → c < suc (length m.decls)
class_within m c name is = let within : c < 1 + length m.decls = named_within m.decls 1 c name is in omega arith

named_positive : (ds : List DeclTree) (n c : ℕ) (name : List ℕ) → 0 < n → first_named ds n name ≡ Some c → 0 < c
named_positive [] n c name some is = cc
named_positive (d ∷ ds) n c name some is = by_test (is_named name d) refl (named_positive ds (suc n) c name (omega arith))
  where
    by_test : (b : Bool) → is_named name d ≡ b → (first_named ds (suc n) name ≡ Some c → 0 < c) → 0 < c
    by_test true here later = let first : n ≡ c = some_is n c (rw here at is) in omega arith
    by_test false here later = later (rw here at is)

-- what holds of each class that has a name holds of each parent
module _ (m : ModelTree) (P : ℕ → Type 0) (named : (c : ℕ) (name : List ℕ) → class m name ≡ Some c → P c) where
  of_parent_named : (p : ℕ) (name : List ℕ) → parent_named m name ≡ Some p → P p
  of_parent_named p name is = by_tests (is_unsupported name) (is_primitive name) refl refl
    where
      by_tests : (u r : Bool) → is_unsupported name ≡ u → is_primitive name ≡ r → P p
      by_tests true r left_out primitive = let none : None ≡ Some p = rw left_out at is in cc
      by_tests false true left_out primitive = let none : None ≡ Some p = rw (left_out, primitive) at is in cc
      by_tests false false left_out primitive = named p name (rw (left_out, primitive) at is)

  of_parent : (c p : ℕ) → parent m c ≡ Some p → P p
  of_parent c p is = by_decl (declaration m c) refl
    where
      by_name : (o : Option Id) → option_and_then (λ x. parent_named m x.name) o ≡ Some p → P p
      by_name None none = cc
      by_name (Some x) called = of_parent_named p x.name called

      by_decl : (o : Option DeclTree) → declaration m c ≡ o → P p
      by_decl None here = let none : None ≡ Some p = rw here at is in cc
      by_decl (Some d) here = by_name (extended d) (rw here at is)

pub parent_within : (m : ModelTree) (c p : ℕ) → parent m c ≡ Some p → p < suc (length m.decls)
parent_within m c p is = of_parent m (λ q. q < suc (length m.decls)) (class_within m) c p is

pub parent_positive : (m : ModelTree) (c p : ℕ) → parent m c ≡ Some p → 0 < p
parent_positive m c p is = of_parent m (λ q. 0 < q) (λ q name called. named_positive m.decls 1 q name (omega arith) called) c p is

with_within : (s : Signature) (ss : List Signature) (n i : ℕ) → first_with n s ss ≡ Some i → i < n + length ss
with_within s [] n i is = cc
with_within s (t ∷ ts) n i is = by_test (same_signature s t) refl (with_within s ts (suc n) i)
  where
    by_test : (b : Bool) → same_signature s t ≡ b → (first_with (suc n) s ts ≡ Some i → i < suc n + length ts) → i < n + length (t ∷ ts)
    by_test true here later = let first : n ≡ i = some_is n i (rw here at is) in omega arith
    by_test false here later = let rest : i < suc n + length ts = later (rw here at is) in omega arith

-- how many methods a class itself declares
abbrev pub methods : DeclTree → ℕ
methods d = length (signatures d)

module _ (m : ModelTree) where
  pub own_length : (c : ℕ) (d : DeclTree) → length (own_bodies m c d) ≡ methods d
  own_length c (data_class d) = length-map (unwrap_or d.methods []) (data_body_in (data_scope m c)) ∙ sym (length-map (unwrap_or d.methods []) _)
  own_length c (process_class d) = length-map (unwrap_or d.methods []) (process_body_in (process_scope m c)) ∙ sym (length-map (unwrap_or d.methods []) _)
  own_length c (cluster_class d) = refl
  own_length c (system d) = refl

  pub bodies_length : (n : ℕ) (ds : List DeclTree) → length (bodies_from m n ds) ≡ sum_by methods ds
  bodies_length n [] = refl
  bodies_length n (d ∷ ds) =
      let rest : length (bodies_from m (suc n) ds) ≡ sum_by methods ds = bodies_length (suc n) ds in
      let first : length (own_bodies m n d) ≡ methods d = own_length n d in
      let both : length (own_bodies m n d ++ bodies_from m (suc n) ds) ≡ length (own_bodies m n d) + length (bodies_from m (suc n) ds) = length-append (own_bodies m n d) (bodies_from m (suc n) ds) in
      let sum : sum_by methods (d ∷ ds) ≡ methods d + sum_by methods ds = sum_by-cons methods d ds in
      both ∙ (rw (first, rest) (sym sum))

  own_within : (s : Signature) (c : ℕ) (r : MethodId) → own_method m s c ≡ Some r → r.0 < length (bodies m)
  own_within s zero r is = cc
  own_within s (suc i) r is = by_decl (slice_get m.decls i) refl
    where
      by_place : (d : DeclTree) → slice_get m.decls i ≡ Some d → (o : Option ℕ) → first_with (methods_before m (suc i)) s (signatures d) ≡ o → option_map method_id o ≡ Some r → r.0 < length (bodies m)
      by_place d here None at none = cc
      by_place d here (Some k) at some =
          let last : k < methods_before m (suc i) + methods d = with_within s (signatures d) (methods_before m (suc i)) k at in
          let same : get_or m.decls i d ≡ d = get_or_from_slice_get m.decls i d d here in
          let fits : sum_by methods (take i m.decls) + methods (get_or m.decls i d) ≤ sum_by methods m.decls = sum_by_more_le methods m.decls i d (slice_get_within m.decls i d here) in
          let enough : sum_by methods (take i m.decls) + methods d ≤ sum_by methods m.decls = rw same at fits in
          let all : length (bodies m) ≡ sum_by methods m.decls = bodies_length 1 m.decls in
          let number : k ≡ r.0 = cc in
          let skipped : suc i - 1 ≡ i = omega arith in
          let before : methods_before m (suc i) ≡ sum_by methods (take i m.decls) = ap (λ (j : ℕ). sum_by methods (take j m.decls)) skipped in
          omega arith

      by_decl : (o : Option DeclTree) → slice_get m.decls i ≡ o → r.0 < length (bodies m)
      by_decl None here = let none : None ≡ Some r = rw here at is in cc
      by_decl (Some d) here = by_place d here (first_with (methods_before m (suc i)) s (signatures d)) refl (rw here at is)

  nearest_within : (s : Signature) (line : List ℕ) (r : MethodId) → nearest (own_method m s) line ≡ Some r → r.0 < length (bodies m)
  nearest_within s [] r is = cc
  nearest_within s (c ∷ line) r is = by_own (own_method m s c) refl (nearest_within s line r)
    where
      by_own : (o : Option MethodId) → own_method m s c ≡ o → (nearest (own_method m s) line ≡ Some r → r.0 < length (bodies m)) → r.0 < length (bodies m)
      by_own None none further = further (rw none at is)
      by_own (Some q) some further = own_within s c r (some ∙ (rw some at is))

  pub method_within : (s : Signature) (c : ℕ) (r : MethodId) → method_with m c s ≡ Some r → r.0 < length (bodies m)
  method_within s c r is = nearest_within s (ancestors m c) r is
