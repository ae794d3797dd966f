-- The body of a method stands at its number.
use Rattle.std.proofs.Common.{◌≡◌, refl, sym, ap, ◌∙◌, ℕ, zero, suc, ◌+◌, ◌-◌, Bool, true, false, List, [], ◌∷◌, ◌++◌, map, length, take, drop, Option, Some, None, IsSome, slice_get, arith}
use Rattle.std.specs.Option.{option_map, option_and_then, option_or, unwrap_or}
use Rattle.std.specs.List.{sum_by}
use Rattle.std.proofs.lemmas.List.Sums.{sum_by-cons}
use Rattle.std.proofs.Math.Seq.{drop-append-add}
use Rattle.pz_classes_code.specs.pz_syntax.Classes.{DeclTree, data_class, process_class, cluster_class, system, ModelTree}
use Rattle.pz_classes_rules.specs.declared.method_id.MethodId.{MethodId}
use Rattle.pz_classes_rules.specs.Ancestors.{ancestors}
use Rattle.pz_classes_rules.specs.Methods.{Signature, signatures, data_signature, process_signature, same_signature, methods_before, first_with, method_id, own_method, nearest, method_with}
use Rattle.pz_classes_rules.specs.Bodies.{BodyTree, data_scope, process_scope, data_body_in, process_body_in, own_bodies, bodies_from, bodies}
use Rattle.pz_classes_rules.specs.MethodBodies.{Method, data_method_in, process_method_in, own_methods, first_body, own_body, body_with, HasBody}
use Rattle.pz_classes_rules.proofs.Within.{methods, own_length}
use Rattle.pz_classes_rules.proofs.Further.{further}

-- a number with the body that stands there, or neither
data Stands (all : List BodyTree) : Option MethodId → Option BodyTree → Type 0 where
  neither : Stands all None None
  both : (n : ℕ) (b : BodyTree) → slice_get all n ≡ Some b → Stands all (Some (method_id n)) (Some b)

map_twice : {A B C : Type 0} (f : B → C) (g : A → B) (h : A → C) → ((x : A) → f (g x) ≡ h x) → (xs : List A) → map f (map g xs) ≡ map h xs
map_twice f g h same [] = refl
map_twice f g h same (x ∷ xs) = rw (same x, map_twice f g h same xs) refl

first_stands : (all : List BodyTree) (s : Signature) (xs : List Method) (rest : List BodyTree) (n : ℕ) → drop n all ≡ map (λ x. x.body) xs ++ rest
    → Stands all (option_map method_id (first_with n s (map (λ x. x.signature) xs))) (first_body s xs)
first_stands all s [] rest n are = neither
first_stands all s (x ∷ xs) rest n are =
    let at = further all n x.body (map (λ y. y.body) xs ++ rest) are in
    by_test at.0 (first_stands all s xs rest (suc n) at.1) (same_signature s x.signature) refl
  where
    by_test : slice_get all n ≡ Some x.body → Stands all (option_map method_id (first_with (suc n) s (map (λ y. y.signature) xs))) (first_body s xs)
        → (b : Bool) → same_signature s x.signature ≡ b → Stands all (option_map method_id (first_with n s (map (λ y. y.signature) (x ∷ xs)))) (first_body s (x ∷ xs))
    by_test here later true is = rw is (both n x.body here)
    by_test here later false is = rw is later

-- behind so many of these stand the bodies of a class
record Behind (m : ModelTree) (c : ℕ) (d : DeclTree) (before : ℕ) (all : List BodyTree) : Type 0 where
  rest : List BodyTree
  is : drop before all ≡ own_bodies m c d ++ rest

module _ (m : ModelTree) where
  pub bodies_are : (c : ℕ) (d : DeclTree) → map (λ x. x.body) (own_methods m c d) ≡ own_bodies m c d
  bodies_are c (data_class d) = map_twice (λ (x : Method). x.body) (data_method_in (data_scope m c)) (data_body_in (data_scope m c)) (λ r. refl) (unwrap_or d.methods [])
  bodies_are c (process_class d) = map_twice (λ (x : Method). x.body) (process_method_in (process_scope m c)) (process_body_in (process_scope m c)) (λ r. refl) (unwrap_or d.methods [])
  bodies_are c (cluster_class d) = refl
  bodies_are c (system d) = refl

  signatures_are : (c : ℕ) (d : DeclTree) → map (λ x. x.signature) (own_methods m c d) ≡ signatures d
  signatures_are c (data_class d) = map_twice (λ (x : Method). x.signature) (data_method_in (data_scope m c)) data_signature (λ r. refl) (unwrap_or d.methods [])
  signatures_are c (process_class d) = map_twice (λ (x : Method). x.signature) (process_method_in (process_scope m c)) process_signature (λ r. refl) (unwrap_or d.methods [])
  signatures_are c (cluster_class d) = refl
  signatures_are c (system d) = refl

  behind : (n i c : ℕ) (ds : List DeclTree) (d : DeclTree) → c ≡ i + n → slice_get ds i ≡ Some d → Behind m c d (sum_by methods (take i ds)) (bodies_from m n ds)
  behind n i c [] d at here = cc
  behind n zero c (e ∷ ds) d at here =
      let same : e ≡ d = cc in
      let first : c ≡ n = omega arith in
      record { rest = bodies_from m (suc n) ds; is = rw (first, ← same) refl }
  behind n (suc i) c (e ∷ ds) d at here =
      let later = behind (suc n) i c ds d (omega arith) here in
      let before : sum_by methods (take (suc i) (e ∷ ds)) ≡ length (own_bodies m n e) + sum_by methods (take i ds) = sum_by-cons methods e (take i ds) ∙ ap (λ (k : ℕ). k + sum_by methods (take i ds)) (sym (own_length m n e)) in
      record {
        rest = later.rest;
        is = ap (λ (k : ℕ). drop k (own_bodies m n e ++ bodies_from m (suc n) ds)) before ∙ drop-append-add (own_bodies m n e) (bodies_from m (suc n) ds) (sum_by methods (take i ds)) ∙ later.is;
      }

  own_stands : (s : Signature) (c : ℕ) → Stands (bodies m) (own_method m s c) (own_body m s c)
  own_stands s zero = neither
  own_stands s (suc i) = by_decl (slice_get m.decls i) refl
    where
      by_decl : (o : Option DeclTree) → slice_get m.decls i ≡ o → Stands (bodies m) (own_method m s (suc i)) (own_body m s (suc i))
      by_decl None here = rw here neither
      by_decl (Some d) here =
          let c : ℕ = suc i in
          let b = behind 1 i c m.decls d (omega arith) here in
          let skipped : c - 1 ≡ i = omega arith in
          let before : methods_before m c ≡ sum_by methods (take i m.decls) = ap (λ (j : ℕ). sum_by methods (take j m.decls)) skipped in
          let are : drop (methods_before m c) (bodies m) ≡ map (λ x. x.body) (own_methods m c d) ++ b.rest =
          ap (λ (k : ℕ). drop k (bodies m)) before ∙ b.is ∙ ap (λ (bs : List BodyTree). bs ++ b.rest) (sym (bodies_are c d)) in
          rw (here, ← signatures_are c d) (first_stands (bodies m) s (own_methods m c d) b.rest (methods_before m c) are)

  nearest_stands : (s : Signature) (line : List ℕ) → Stands (bodies m) (nearest (own_method m s) line) (nearest (own_body m s) line)
  nearest_stands s [] = neither
  nearest_stands s (c ∷ line) = by_first (own_method m s c) (own_body m s c) (own_stands s c) (nearest_stands s line)
    where
      by_first : (o : Option MethodId) (p : Option BodyTree) → Stands (bodies m) o p → Stands (bodies m) (nearest (own_method m s) line) (nearest (own_body m s) line)
          → Stands (bodies m) (option_or o (nearest (own_method m s) line)) (option_or p (nearest (own_body m s) line))
      by_first _ _ neither rest = rest
      by_first _ _ (both n b is) rest = both n b is

  stands : (s : Signature) (c : ℕ) → Stands (bodies m) (method_with m c s) (body_with m c s)
  stands s c = nearest_stands s (ancestors m c)

  at_number : (o : Option MethodId) (p : Option BodyTree) → Stands (bodies m) o p → option_and_then (λ n. slice_get (bodies m) n.0) o ≡ p
  at_number _ _ neither = refl
  at_number _ _ (both n b is) = is

  -- the body at the number of a method is the method's; where there is none, there is no method
  pub body_is : (s : Signature) (c : ℕ) → option_and_then (λ n. slice_get (bodies m) n.0) (method_with m c s) ≡ body_with m c s
  body_is s c = at_number (method_with m c s) (body_with m c s) (stands s c)

  pub has_body : (s : Signature) (c : ℕ) → IsSome (method_with m c s) → HasBody m c s
  has_body s c some = by_both (method_with m c s) (body_with m c s) (stands s c) refl refl some
    where
      by_both : (o : Option MethodId) (p : Option BodyTree) → Stands (bodies m) o p → method_with m c s ≡ o → body_with m c s ≡ p → IsSome o → HasBody m c s
      by_both _ _ neither number body there = cc
      by_both _ _ (both n b is) number body there = record { number = method_id n; found = number; body = b; is = body; there = is }
