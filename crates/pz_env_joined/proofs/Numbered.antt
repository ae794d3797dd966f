-- The method that a name and its counts mean has a number where it has a body, and the body stands there.
use Rattle.std.proofs.Common.{◌≡◌, refl, sym, ap, ◌∙◌, ℕ, zero, suc, ◌+◌, ◌-◌, Bool, true, false, List, [], ◌∷◌, ◌++◌, map, length, take, Option, Some, None, slice_get, arith}
use Rattle.std.specs.Option.{option_map, option_or, unwrap_or}
use Rattle.std.specs.List.{sum_by}
use Rattle.std.proofs.lemmas.List.{length-map}
use Rattle.std.proofs.lemmas.List.Sums.{sum_by-cons}
use Rattle.pz_env_mimics.specs.pz_syntax.Classes.{DeclTree, data_class, process_class, cluster_class, system, ModelTree}
use Rattle.pz_env_mimics.specs.pz_classes_rules.declared.method_id.MethodId.{MethodId}
use Rattle.pz_env_mimics.specs.pz_classes_rules.Ancestors.{ancestors}
use Rattle.pz_env_mimics.specs.pz_classes_rules.Methods.{Signature, signatures, data_signature, process_signature, same_signature, methods_before, first_with, method_id, own_method, nearest, method_with}
use Rattle.pz_env_mimics.specs.pz_classes_rules.Bodies.{BodyTree, data_scope, process_scope, data_body_in, process_body_in, own_bodies, bodies_from, bodies}
use Rattle.pz_env_mimics.specs.pz_classes_rules.MethodBodies.{Method, data_method_in, process_method_in, own_methods, first_body, own_body, body_with, HasBody}
use Rattle.pz_env_joined.proofs.Places.{got_first}

map_twice : {A B C : Type 0} (f : B → C) (g : A → B) (h : A → C) → ((x : A) → f (g x) ≡ h x) → (xs : List A) → map f (map g xs) ≡ map h xs
map_twice f g h same [] = refl
map_twice f g h same (x ∷ xs) = rw (same x, map_twice f g h same xs) refl

pub got_later : {A : Type 0} (xs ys : List A) (k : ℕ) → slice_get (xs ++ ys) (length xs + k) ≡ slice_get ys k
got_later [] ys k = let eq : 0 + k ≡ k = omega arith in ap (slice_get ys) eq
got_later (x ∷ xs) ys k = let eq : suc (length xs) + k ≡ suc (length xs + k) = omega arith in rw eq (got_later xs ys k)

-- a number of a method with the body that stands there, or neither
data Stands (all : List BodyTree) : Option MethodId → Option BodyTree → Type 0 where
  neither : Stands all None None
  both : (k : ℕ) (b : BodyTree) → slice_get all k ≡ Some b → Stands all (Some (method_id k)) (Some b)

module _ (m : ModelTree) where
  bodies_are : (c : ℕ) (d : DeclTree) → map (λ x. x.body) (own_methods m c d) ≡ own_bodies m c d
  bodies_are c (data_class d) = map_twice (λ (x : Method). x.body) (data_method_in (data_scope m c)) (data_body_in (data_scope m c)) (λ r. refl) (unwrap_or d.methods [])
  bodies_are c (process_class d) = map_twice (λ (x : Method). x.body) (process_method_in (process_scope m c)) (process_body_in (process_scope m c)) (λ r. refl) (unwrap_or d.methods [])
  bodies_are c (cluster_class d) = refl
  bodies_are c (system d) = refl

  signatures_are : (c : ℕ) (d : DeclTree) → map (λ x. x.signature) (own_methods m c d) ≡ signatures d
  signatures_are c (data_class d) = map_twice (λ (x : Method). x.signature) (data_method_in (data_scope m c)) data_signature (λ r. refl) (unwrap_or d.methods [])
  signatures_are c (process_class d) = map_twice (λ (x : Method). x.signature) (process_method_in (process_scope m c)) process_signature (λ r. refl) (unwrap_or d.methods [])
  signatures_are c (cluster_class d) = refl
  signatures_are c (system d) = refl

  as_many : (c : ℕ) (d : DeclTree) → length (signatures d) ≡ length (own_bodies m c d)
  as_many c d =
      ap (λ (ss : List Signature). length ss) (sym (signatures_are c d))
      ∙ length-map (own_methods m c d) (λ (x : Method). x.signature)
      ∙ sym (length-map (own_methods m c d) (λ (x : Method). x.body))
      ∙ ap (λ (bs : List BodyTree). length bs) (bodies_are c d)

  abbrev before : ℕ → List DeclTree → ℕ
  before i ds = sum_by (λ d. length (signatures d)) (take i ds)

  there : (n i : ℕ) (ds : List DeclTree) (d : DeclTree) → slice_get ds i ≡ Some d → (k : ℕ) (b : BodyTree)
      → slice_get (own_bodies m (n + i) d) k ≡ Some b → slice_get (bodies_from m n ds) (before i ds + k) ≡ Some b
  there n i [] d is k b at = cc
  there n zero (e ∷ ds) d is k b at =
      let eq : e ≡ d = cc in
      let number : n + 0 ≡ n = omega arith in
      let none : 0 + k ≡ k = omega arith in
      ap (slice_get (own_bodies m n e ++ bodies_from m (suc n) ds)) none
      ∙ got_first (own_bodies m n e) (bodies_from m (suc n) ds) k b (ap (λ (f : DeclTree). slice_get (own_bodies m n f) k) eq ∙ ap (λ (c : ℕ). slice_get (own_bodies m c d) k) (sym number) ∙ at)
  there n (suc i) (e ∷ ds) d is k b at =
      let first = as_many n e in
      let all : before (suc i) (e ∷ ds) ≡ length (signatures e) + before i ds = sum_by-cons (λ (f : DeclTree). length (signatures f)) e (take i ds) in
      let number : n + suc i ≡ suc n + i = omega arith in
      let place : before (suc i) (e ∷ ds) + k ≡ length (own_bodies m n e) + (before i ds + k) = omega (arith, first, all) in
      ap (slice_get (own_bodies m n e ++ bodies_from m (suc n) ds)) place
      ∙ got_later (own_bodies m n e) (bodies_from m (suc n) ds) (before i ds + k)
      ∙ there (suc n) i ds d is k b (ap (λ (c : ℕ). slice_get (own_bodies m c d) k) (sym number) ∙ at)

  first_stands : (s : Signature) (n : ℕ) (xs : List Method)
      → ((k : ℕ) (b : BodyTree) → slice_get (map (λ x. x.body) xs) k ≡ Some b → slice_get (bodies m) (n + k) ≡ Some b)
      → Stands (bodies m) (option_map method_id (first_with n s (map (λ x. x.signature) xs))) (first_body s xs)
  first_stands s n [] each = neither
  first_stands s n (x ∷ xs) each = by (same_signature s x.signature) refl (first_stands s (suc n) xs (λ k b is. (let eq : suc n + k ≡ n + suc k = omega arith in ap (slice_get (bodies m)) eq ∙ each (suc k) b is)))
    where
      by : (t : Bool) → same_signature s x.signature ≡ t
          → Stands (bodies m) (option_map method_id (first_with (suc n) s (map (λ y. y.signature) xs))) (first_body s xs)
          → Stands (bodies m) (option_map method_id (first_with n s (map (λ y. y.signature) (x ∷ xs)))) (first_body s (x ∷ xs))
      by true is later = let eq : n ≡ n + 0 = omega arith in rw is (both n x.body (ap (slice_get (bodies m)) eq ∙ each 0 x.body refl))
      by false is later = rw is later

  own_stands : (s : Signature) (c : ℕ) → Stands (bodies m) (own_method m s c) (own_body m s c)
  own_stands s zero = neither
  own_stands s (suc i) = by (slice_get m.decls i) refl
    where
      by : (o : Option DeclTree) → slice_get m.decls i ≡ o → Stands (bodies m) (own_method m s (suc i)) (own_body m s (suc i))
      by None is = rw is neither
      by (Some d) is =
          let skipped : suc i - 1 ≡ i = omega arith in
          let number : 1 + i ≡ suc i = omega arith in
          rw (is, ← signatures_are (suc i) d)
          (first_stands s (methods_before m (suc i)) (own_methods m (suc i) d)
          (λ k b at. (ap (λ (j : ℕ). slice_get (bodies m) (before j m.decls + k)) skipped
          ∙ there 1 i m.decls d is k b (ap (λ (c : ℕ). slice_get (own_bodies m c d) k) number ∙ ap (λ (bs : List BodyTree). slice_get bs k) (sym (bodies_are (suc i) d)) ∙ at))))

  nearest_stands : (s : Signature) (line : List ℕ) → Stands (bodies m) (nearest (own_method m s) line) (nearest (own_body m s) line)
  nearest_stands s [] = neither
  nearest_stands s (c ∷ line) = by (own_method m s c) (own_body m s c) (own_stands s c) (nearest_stands s line)
    where
      by : (o : Option MethodId) (p : Option BodyTree) → Stands (bodies m) o p
          → Stands (bodies m) (nearest (own_method m s) line) (nearest (own_body m s) line)
          → Stands (bodies m) (option_or o (nearest (own_method m s) line)) (option_or p (nearest (own_body m s) line))
      by _ _ neither rest = rest
      by _ _ (both k b is) rest = both k b is

  pub has_body : (c : ℕ) (s : Signature) (b : BodyTree) → body_with m c s ≡ Some b → HasBody m c s
  has_body c s b is = by (method_with m c s) (body_with m c s) (nearest_stands s (ancestors m c)) refl is refl
    where
      by : (o : Option MethodId) (p : Option BodyTree) → Stands (bodies m) o p → method_with m c s ≡ o → p ≡ Some b
          → body_with m c s ≡ p → HasBody m c s
      by _ _ neither found has eq = cc
      by _ _ (both k a at) found has eq = record { number = method_id k; found = found; body = a; is = eq; there = at }
