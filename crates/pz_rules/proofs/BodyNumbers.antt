-- A body that look-up finds is that of the method at the number that look-up finds, with its names
-- resolved.
use Rattle.std.proofs.Common.{◌≡◌, refl, sym, ap, ◌∙◌, ℕ, zero, suc, ◌+◌, ◌-◌, Bool, true, false, List, [], ◌∷◌, ◌++◌, map, length, take, drop, Option, Some, None, slice_get, arith}
use Rattle.std.specs.List.{sum_by, flat_map}
use Rattle.std.specs.Option.{unwrap_or, option_map, option_map_or, option_or}
use Rattle.std.proofs.lemmas.List.Sums.{sum_by-cons}
use Rattle.std.proofs.Math.Seq.{drop-append-add}
use Rattle.pz_bind_rules.specs.pz_syntax.declared.names.Id.{Id}
use Rattle.pz_bind_rules.specs.pz_syntax.Statements.{no_statements}
use Rattle.pz_bind_rules.specs.pz_syntax.Classes.{DeclTree, data_class, process_class, cluster_class, system, DataMethodTree, ProcessMethodTree, ModelTree}
use Rattle.pz_bind_rules.specs.pz_classes_code.Resolution.{Scope, resolved_statements}
use Rattle.pz_bind_rules.specs.pz_classes_rules.declared.method_id.MethodId.{MethodId}
use Rattle.pz_bind_rules.specs.pz_classes_rules.Ancestors.{ancestors}
use Rattle.pz_bind_rules.specs.pz_classes_rules.Methods.{Signature, same_signature, data_signature, process_signature, signatures, methods_before, first_with, method_id, own_method, nearest, method_with}
use Rattle.pz_bind_rules.specs.pz_classes_rules.Bodies.{BodyTree, process_body, data_scope, process_scope, data_body_in, process_body_in, process_locals}
use Rattle.pz_bind_rules.specs.pz_classes_rules.MethodBodies.{Method, data_method_in, process_method_in, own_methods, first_body, own_body, body_with}
use Rattle.pz_classes_openings.specs.Methods.{declared_methods, methods, method_at, body_at}
use Rattle.pz_rules.specs.Terms.{Steps}

-- a method and its body
data Resolves : Option ProcessMethodTree → BodyTree → Type 0 where
  of_process : (scope : List Id → Scope) (r : ProcessMethodTree) → Resolves (Some r) (process_body_in scope r)
  of_data : (scope : List Id → Scope) (r : DataMethodTree) → Resolves None (data_body_in scope r)

-- methods, signatures and bodies in the same order
data Alike : List (Option ProcessMethodTree) → List Signature → List Method → Type 0 where
  none : Alike [] [] []
  more : (x : Option ProcessMethodTree) (y : Method) (xs : List (Option ProcessMethodTree)) (ss : List Signature) (ys : List Method) → Resolves x y.body → Alike xs ss ys → Alike (x ∷ xs) (y.signature ∷ ss) (y ∷ ys)

-- a method that stands at a number, and its body; or neither
data Stands (all : List (Option ProcessMethodTree)) : Option MethodId → Option BodyTree → Type 0 where
  neither : Stands all None None
  both : (k : ℕ) (x : Option ProcessMethodTree) (b : BodyTree) → slice_get all k ≡ Some x → Resolves x b → Stands all (Some (method_id k)) (Some b)

-- the first of what stands behind so many, and the others
further : {A : Type 0} (all : List A) (n : ℕ) (x : A) (rest : List A) → drop n all ≡ x ∷ rest → (slice_get all n ≡ Some x) × (drop (suc n) all ≡ rest)
further [] zero x rest e = absurd cc
further [] (suc n) x rest e = absurd cc
further (y ∷ ys) zero x rest e = (cc, cc)
further (y ∷ ys) (suc n) x rest e = further ys n x rest e

first_stands : (all : List (Option ProcessMethodTree)) (s : Signature) (xs : List (Option ProcessMethodTree)) (ss : List Signature) (ys : List Method) (rest : List (Option ProcessMethodTree)) (n : ℕ)
    → Alike xs ss ys → drop n all ≡ xs ++ rest → Stands all (option_map method_id (first_with n s ss)) (first_body s ys)
first_stands all s _ _ _ rest n none are = neither
first_stands all s _ _ _ rest n (more x y xs ss ys resolves alike) are =
    let at = further all n x (xs ++ rest) are in
    by_test at.0 (first_stands all s xs ss ys rest (suc n) alike at.1) (same_signature s y.signature) refl
  where
    by_test : slice_get all n ≡ Some x → Stands all (option_map method_id (first_with (suc n) s ss)) (first_body s ys)
        → (b : Bool) → same_signature s y.signature ≡ b → Stands all (option_map method_id (first_with n s (y.signature ∷ ss))) (first_body s (y ∷ ys))
    by_test here later true is = rw is (both n x y.body here resolves)
    by_test here later false is = rw is later

data_alike : (scope : List Id → Scope) (rs : List DataMethodTree) → Alike (map (λ r. None) rs) (map data_signature rs) (map (data_method_in scope) rs)
data_alike scope [] = none
data_alike scope (r ∷ rs) = more None (data_method_in scope r) (map (λ q. None) rs) (map data_signature rs) (map (data_method_in scope) rs) (of_data scope r) (data_alike scope rs)

process_alike : (scope : List Id → Scope) (rs : List ProcessMethodTree) → Alike (map Some rs) (map process_signature rs) (map (process_method_in scope) rs)
process_alike scope [] = none
process_alike scope (r ∷ rs) = more (Some r) (process_method_in scope r) (map Some rs) (map process_signature rs) (map (process_method_in scope) rs) (of_process scope r) (process_alike scope rs)

same_length : (xs : List (Option ProcessMethodTree)) (ss : List Signature) (ys : List Method) → Alike xs ss ys → length ss ≡ length xs
same_length _ _ _ none = refl
same_length _ _ _ (more x y xs ss ys resolves alike) = ap suc (same_length xs ss ys alike)

-- behind so many of all methods stand those of a declaration
record Behind (ds : List DeclTree) (i : ℕ) (d : DeclTree) : Type 0 where
  rest : List (Option ProcessMethodTree)
  is : drop (sum_by (λ x. length (signatures x)) (take i ds)) (flat_map declared_methods ds) ≡ declared_methods d ++ rest

module _ (m : ModelTree) where
  all_alike : (c : ℕ) (d : DeclTree) → Alike (declared_methods d) (signatures d) (own_methods m c d)
  all_alike c (data_class d) = data_alike (data_scope m c) (unwrap_or d.methods [])
  all_alike c (process_class p) = process_alike (process_scope m c) (unwrap_or p.methods [])
  all_alike c (cluster_class d) = none
  all_alike c (system s) = none

  behind : (ds : List DeclTree) (i : ℕ) (d : DeclTree) → slice_get ds i ≡ Some d → Behind ds i d
  behind [] i d here = absurd cc
  behind (e ∷ ds) zero d here =
      let same : e ≡ d = cc in
      record { rest = flat_map declared_methods ds; is = ap (λ (x : DeclTree). declared_methods x ++ flat_map declared_methods ds) same }
  behind (e ∷ ds) (suc i) d here =
      let later = behind ds i d here in
      let before : sum_by (λ x. length (signatures x)) (e ∷ take i ds) ≡ length (declared_methods e) + sum_by (λ x. length (signatures x)) (take i ds) =
      sum_by-cons (λ (x : DeclTree). length (signatures x)) e (take i ds)
      ∙ ap (λ (n : ℕ). n + sum_by (λ x. length (signatures x)) (take i ds)) (same_length (declared_methods e) (signatures e) (own_methods m 0 e) (all_alike 0 e)) in
      record {
        rest = later.rest;
        is = ap (λ (n : ℕ). drop n (declared_methods e ++ flat_map declared_methods ds)) before
            ∙ drop-append-add (declared_methods e) (flat_map declared_methods ds) (sum_by (λ x. length (signatures x)) (take i ds)) ∙ later.is;
      }

  own_stands : (s : Signature) (c : ℕ) → Stands (methods m) (own_method m s c) (own_body m s c)
  own_stands s zero = neither
  own_stands s (suc i) = by_decl (slice_get m.decls i) refl
    where
      by_decl : (o : Option DeclTree) → slice_get m.decls i ≡ o → Stands (methods m) (own_method m s (suc i)) (own_body m s (suc i))
      by_decl None here = rw here neither
      by_decl (Some d) here =
          let b = behind m.decls i d here in
          let skipped : suc i - 1 ≡ i = omega arith in
          let before : methods_before m (suc i) ≡ sum_by (λ x. length (signatures x)) (take i m.decls) = ap (λ (j : ℕ). sum_by (λ x. length (signatures x)) (take j m.decls)) skipped in
          let are : drop (methods_before m (suc i)) (methods m) ≡ declared_methods d ++ b.rest = ap (λ (n : ℕ). drop n (methods m)) before ∙ b.is in
          rw here (first_stands (methods m) s (declared_methods d) (signatures d) (own_methods m (suc i) d) b.rest (methods_before m (suc i)) (all_alike (suc i) d) are)

  nearest_stands : (s : Signature) (line : List ℕ) → Stands (methods m) (nearest (own_method m s) line) (nearest (own_body m s) line)
  nearest_stands s [] = neither
  nearest_stands s (c ∷ line) = by_first (own_method m s c) (own_body m s c) (own_stands s c) (nearest_stands s line)
    where
      by_first : (o : Option MethodId) (p : Option BodyTree) → Stands (methods m) o p → Stands (methods m) (nearest (own_method m s) line) (nearest (own_body m s) line)
          → Stands (methods m) (option_or o (nearest (own_method m s) line)) (option_or p (nearest (own_body m s) line))
      by_first _ _ neither later = later
      by_first _ _ (both k x b here resolves) later = both k x b here resolves

-- the method of a body, and what names stand for in it
pub record IsBodyOf (m : ModelTree) (c : ℕ) (s : Signature) (body : Steps) : Type 0 where
  pub number : ℕ
  pub found : method_with m c s ≡ Some (method_id number)
  pub scope : Scope
  pub resolved : body ≡ resolved_statements scope (body_at m number)

pub body_of : (m : ModelTree) (c : ℕ) (s : Signature) (locals : ℕ) (body : Steps) → body_with m c s ≡ Some (process_body locals body) → IsBodyOf m c s body
body_of m c s locals body is = by_both (method_with m c s) (body_with m c s) (nearest_stands m s (ancestors m c)) refl is
  where
    by_method : (k : ℕ) (x : Option ProcessMethodTree) (b : BodyTree) → Resolves x b → method_with m c s ≡ Some (method_id k) → method_at m k ≡ x → b ≡ process_body locals body → IsBodyOf m c s body
    by_method k _ _ (of_process scope r) found at same =
        let inner : resolved_statements (scope (process_locals r)) r.body ≡ body = cc in
        record {
          number = k;
          found = found;
          scope = scope (process_locals r);
          resolved = sym inner ∙ ap (λ (o : Option ProcessMethodTree). resolved_statements (scope (process_locals r)) (option_map_or (λ q. q.body) o no_statements)) (sym at);
        }
    by_method k _ _ (of_data scope r) found at same = absurd cc

    by_both : (o : Option MethodId) (p : Option BodyTree) → Stands (methods m) o p → method_with m c s ≡ o → p ≡ Some (process_body locals body) → IsBodyOf m c s body
    by_both _ _ neither found e = absurd cc
    by_both _ _ (both k x b here resolves) found e =
        let same : b ≡ process_body locals body = cc in
        by_method k x b resolves found (ap (λ (y : Option (Option ProcessMethodTree)). unwrap_or y None) here) same
