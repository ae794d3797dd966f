-- The numbers of the methods of a model, and of a grown one.
use Rattle.std.proofs.Common.{◌≡◌, refl, sym, ap, ap₂, subst, ◌∙◌, ℕ, zero, suc, ◌+◌, ◌-◌, ◌<◌, ◌≤◌, Bool, true, false, List, [], ◌∷◌, ◌++◌, append_assoc, append-nil, map, length, length-append, take, Option, Some, None, if◌then◌else◌, slice_get, arith}
use Rattle.std.specs.List.{flat_map, sum_by}
use Rattle.std.specs.Option.{unwrap_or, option_map, option_map_or, option_or}
use Rattle.std.proofs.lemmas.List.{length-map}
use Rattle.std.proofs.lemmas.List.Sums.{sum_by-cons}
use Rattle.pz_env_tree.specs.pz_syntax.declared.clusters.SystemDecl.{SystemDecl}
use Rattle.pz_env_tree.specs.pz_syntax.Classes.{DeclTree, DataMethodTree, ProcessMethodTree, ProcessClassTree, data_class, process_class, cluster_class, system, ModelTree}
use Rattle.pz_env_tree.specs.pz_classes_rules.declared.method_id.MethodId.{MethodId}
use Rattle.pz_env_tree.specs.pz_classes_rules.Numbers.{declaration}
use Rattle.pz_env_tree.specs.pz_classes_rules.Ancestors.{ancestors}
use Rattle.pz_env_tree.specs.pz_classes_rules.Methods.{Signature, same_signature, data_signature, process_signature, signatures, methods_before, first_with, method_id, own_method, nearest, method_with}
use Rattle.pz_classes_openings.specs.Methods.{declared_methods, methods}
use Rattle.pz_env_grown.proofs.Numbers.{none_some, some_same}
use Rattle.pz_env_sound.proofs.Grown.{grown_decl}

abbrev pub many : DeclTree → ℕ
many d = length (signatures d)

as_many : (d : DeclTree) → length (declared_methods d) ≡ many d
as_many (data_class c) = length-map (unwrap_or c.methods []) (λ (r : DataMethodTree). None) ∙ sym (length-map (unwrap_or c.methods []) data_signature)
as_many (process_class c) = length-map (unwrap_or c.methods []) Some ∙ sym (length-map (unwrap_or c.methods []) process_signature)
as_many (cluster_class c) = refl
as_many (system s) = refl

pub methods_counted : (ds : List DeclTree) → length (flat_map declared_methods ds) ≡ sum_by many ds
methods_counted [] = refl
methods_counted (d ∷ ds) =
    length-append (declared_methods d) (flat_map declared_methods ds)
    ∙ ap₂ (λ (a b : ℕ). a + b) (as_many d) (methods_counted ds)
    ∙ sym (sum_by-cons many d ds)

-- the first of these that is asked for is one of them
pub first_within : (n : ℕ) (s : Signature) (ts : List Signature) (k : ℕ) → first_with n s ts ≡ Some k → (n ≤ k) × (k < n + length ts)
first_within n s [] k is = absurd (none_some k is)
first_within n s (t ∷ ts) k is = by (same_signature s t) is (first_within (suc n) s ts k)
  where
    by : (b : Bool) → (if b then Some n else first_with (suc n) s ts) ≡ Some k
        → (first_with (suc n) s ts ≡ Some k → (suc n ≤ k) × (k < suc n + length ts)) → (n ≤ k) × (k < n + suc (length ts))
    by true has rest = let this : n ≡ k = some_same n k has in (omega arith, omega arith)
    by false has rest = let later = rest has in (omega (arith, later.0), omega (arith, later.1))

pub number_of : (o : Option ℕ) (k : ℕ) → option_map method_id o ≡ Some (method_id k) → o ≡ Some k
number_of None k is = absurd (none_some (method_id k) is)
number_of (Some n) k is = ap (λ (r : MethodId). Some r.0) (some_same (method_id n) (method_id k) is)

before_all : (ds : List DeclTree) (i : ℕ) (d : DeclTree) → slice_get ds i ≡ Some d → sum_by many (take i ds) + many d ≤ sum_by many ds
before_all [] i d is = absurd (none_some d is)
before_all (x ∷ ds) zero d is =
    let this : many x ≡ many d = ap many (some_same x d is) in
    let all : sum_by many (x ∷ ds) ≡ many x + sum_by many ds = sum_by-cons many x ds in
    omega (arith, this, all)
before_all (x ∷ ds) (suc i) d is =
    let rest = before_all ds i d is in
    let all : sum_by many (x ∷ ds) ≡ many x + sum_by many ds = sum_by-cons many x ds in
    let front : sum_by many (x ∷ take i ds) ≡ many x + sum_by many (take i ds) = sum_by-cons many x (take i ds) in
    omega (arith, rest, all, front)

module _ (m : ModelTree) where
  own_within : (s : Signature) (c k : ℕ) → own_method m s c ≡ Some (method_id k) → k < length (methods m)
  own_within s c k is = by c (declaration m c) refl (number_of (first_with (methods_before m c) s (option_map_or signatures (declaration m c) [])) k is)
    where
      at : (c : ℕ) (d : DeclTree) → declaration m c ≡ Some d → methods_before m c + many d ≤ sum_by many m.decls
      at zero d there = absurd (none_some d there)
      at (suc i) d there =
          let number : suc i - 1 ≡ i =
          omega arith in subst (λ (j : ℕ). sum_by many (take j m.decls) + many d ≤ sum_by many m.decls) (sym number) (before_all m.decls i d there)

      by : (c : ℕ) (o : Option DeclTree) → declaration m c ≡ o
          → first_with (methods_before m c) s (option_map_or signatures (declaration m c) []) ≡ Some k → k < length (methods m)
      by c None there has =
          absurd (none_some k (sym (ap (λ (p : Option DeclTree). first_with (methods_before m c) s (option_map_or signatures p [])) there) ∙ has))
      by c (Some d) there has =
          let low =
          first_within (methods_before m c) s (signatures d) k (sym (ap (λ (p : Option DeclTree). first_with (methods_before m c) s (option_map_or signatures p [])) there) ∙ has) in
          let most = at c d there in
          let all = methods_counted m.decls in
          omega (arith, low.1, most, all)

  nearest_within : (s : Signature) (line : List ℕ) (k : ℕ) → nearest (own_method m s) line ≡ Some (method_id k) → k < length (methods m)
  nearest_within s [] k is = absurd (none_some (method_id k) is)
  nearest_within s (c ∷ line) k is = by (own_method m s c) refl is (nearest_within s line k)
    where
      by : (o : Option MethodId) → own_method m s c ≡ o → option_or o (nearest (own_method m s) line) ≡ Some (method_id k)
          → (nearest (own_method m s) line ≡ Some (method_id k) → k < length (methods m)) → k < length (methods m)
      by None at has rest = rest has
      by (Some r) at has rest = own_within s c k (at ∙ has)

  pub method_within : (c : ℕ) (s : Signature) (k : ℕ) → method_with m c s ≡ Some (method_id k) → k < length (methods m)
  method_within c s k = nearest_within s (ancestors m c) k

pub in_front : {A : Type 0} (xs ys : List A) (k : ℕ) → k < length xs → slice_get (xs ++ ys) k ≡ slice_get xs k
in_front [] ys k low = absurd (omega (arith, low))
in_front (x ∷ xs) ys zero low = refl
in_front (x ∷ xs) ys (suc k) low = in_front xs ys k (omega (arith, low))

pub at_seam : {A : Type 0} (xs : List A) (y : A) → slice_get (xs ++ y ∷ []) (length xs) ≡ Some y
at_seam [] y = refl
at_seam (x ∷ xs) y = at_seam xs y

pub methods_kept : (f : SystemDecl → SystemDecl) (d : DeclTree) → declared_methods (grown_decl f d) ≡ declared_methods d
methods_kept f (data_class c) = refl
methods_kept f (process_class c) = refl
methods_kept f (cluster_class c) = refl
methods_kept f (system s) = refl

pub methods_in : (f : SystemDecl → SystemDecl) (e : ProcessClassTree) (ds : List DeclTree)
    → flat_map declared_methods (map (grown_decl f) ds ++ process_class e ∷ []) ≡ flat_map declared_methods ds ++ declared_methods (process_class e)
methods_in f e [] = append-nil (declared_methods (process_class e))
methods_in f e (d ∷ ds) =
    ap₂ (λ (a b : List (Option ProcessMethodTree)). a ++ b) (methods_kept f d) (methods_in f e ds)
    ∙ sym (append_assoc (declared_methods d) (flat_map declared_methods ds) (declared_methods (process_class e)))
