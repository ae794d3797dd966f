-- The body that a plain call means stands at the number of its method, and begins with the same plain calls.
use Rattle.std.proofs.Common.{◌≡◌, refl, sym, subst, ap, ◌∙◌, ℕ, zero, suc, ◌+◌, ◌-◌, Bool, true, false, List, [], ◌∷◌, ◌++◌, map, length, take, Option, Some, None, slice_get, arith}
use Rattle.std.specs.Option.{option_map, option_map_or, option_or, unwrap_or}
use Rattle.std.specs.List.{sum_by, flat_map}
use Rattle.std.proofs.lemmas.List.{length-map}
use Rattle.std.proofs.lemmas.List.Sums.{sum_by-cons}
use Rattle.pz_rules.specs.pz_syntax.declared.names.Id.{Id}
use Rattle.pz_rules.specs.pz_syntax.Statements.{no_statements}
use Rattle.pz_rules.specs.pz_syntax.Classes.{DeclTree, data_class, process_class, cluster_class, system, DataMethodTree, ProcessMethodTree, ModelTree}
use Rattle.pz_rules.specs.pz_classes_code.Resolution.{Scope, resolved_statements}
use Rattle.pz_rules.specs.pz_classes_rules.declared.method_id.Counts.TheVariants.{Process}
use Rattle.pz_rules.specs.pz_classes_rules.declared.method_id.MethodId.{MethodId}
use Rattle.pz_rules.specs.pz_classes_rules.Ancestors.{ancestors}
use Rattle.pz_rules.specs.pz_classes_rules.Methods.{Signature, signatures, data_signature, process_signature, same_signature, methods_before, first_with, method_id, own_method, nearest}
use Rattle.pz_rules.specs.pz_classes_rules.Bodies.{BodyTree, process_body, data_scope, process_scope, data_body_in, process_body_in, process_locals}
use Rattle.pz_rules.specs.pz_classes_rules.MethodBodies.{data_method_in, process_method_in, first_body, own_body, process_method_body}
use Rattle.pz_classes_beginnings.specs.Beginning.{begun_all}
use Rattle.pz_classes_openings.specs.Methods.{declared_methods, methods}
use Rattle.pz_classes_openings.specs.Openings.{begun_at, called}
use Rattle.pz_env_same.proofs.Resolved.{begun_all_same}
use Rattle.pz_rules.specs.Terms.{Steps}

abbrev Row : Type 0
Row = Option ProcessMethodTree

-- what stands at a place of lists that are joined
got_front : (xs ys : List Row) (j : ℕ) (x : Row) → slice_get xs j ≡ Some x → slice_get (xs ++ ys) j ≡ Some x
got_front [] ys j x is = cc
got_front (z ∷ zs) ys zero x is = is
got_front (z ∷ zs) ys (suc j) x is = got_front zs ys j x is

got_back : (xs ys : List Row) (j k : ℕ) → k ≡ length xs + j → slice_get (xs ++ ys) k ≡ slice_get ys j
got_back [] ys j k is = ap (slice_get ys) (omega (arith, is))
got_back (z ∷ zs) ys j zero is = absurd (omega (arith, is))
got_back (z ∷ zs) ys j (suc k) is = got_back zs ys j k (omega (arith, is))

-- from a number on these stand
abbrev StandAt : List Row → ℕ → List Row → Type 0
StandAt all n xs = (j : ℕ) (x : Row) → slice_get xs j ≡ Some x → slice_get all (n + j) ≡ Some x

first_at : (all : List Row) (n : ℕ) (x : Row) (xs : List Row) → StandAt all n (x ∷ xs) → slice_get all n ≡ Some x
first_at all n x xs at =
    let same : n + 0 ≡ n = omega arith in
    subst (λ (k : ℕ). slice_get all k ≡ Some x) same (at 0 x refl)

others_at : (all : List Row) (n : ℕ) (x : Row) (xs : List Row) → StandAt all n (x ∷ xs) → StandAt all (suc n) xs
others_at all n x xs at j y is =
    let same : n + suc j ≡ suc n + j = omega arith in
    subst (λ (k : ℕ). slice_get all k ≡ Some y) same (at (suc j) y is)

-- the body begins with what the method of this number does, if it is one of a process
abbrev Begins : List Row → ℕ → BodyTree → Type 0
Begins all k b = (locals : ℕ) (body : Steps) → b ≡ process_body locals body → begun_all body ≡ begun_all (option_map_or (λ r. r.body) (unwrap_or (slice_get all k) None) no_statements)

-- a number with the body of the method there, or neither
data Meant (all : List Row) : Option MethodId → Option BodyTree → Type 0 where
  neither : Meant all None None
  both : (k : ℕ) (b : BodyTree) → Begins all k b → Meant all (Some (method_id k)) (Some b)

begins_there : (all : List Row) (k : ℕ) (scope : List Id → Scope) (r : ProcessMethodTree) → slice_get all k ≡ Some (Some r) → Begins all k (process_body_in scope r)
begins_there all k scope r there locals body is =
    let same : resolved_statements (scope (process_locals r)) r.body ≡ body = cc in
    ap begun_all (sym same) ∙ begun_all_same (scope (process_locals r)) r.body
    ∙ ap (λ (o : Option Row). begun_all (option_map_or (λ q. q.body) (unwrap_or o None) no_statements)) (sym there)

module _ (all : List Row) (s : Signature) (scope : List Id → Scope) where
  of_process : (rs : List ProcessMethodTree) (n : ℕ) → StandAt all n (map Some rs)
      → Meant all (option_map method_id (first_with n s (map process_signature rs))) (first_body s (map (process_method_in scope) rs))
  of_process [] n at = neither
  of_process (r ∷ rs) n at = by_test (first_at all n (Some r) (map Some rs) at) (of_process rs (suc n) (others_at all n (Some r) (map Some rs) at)) (same_signature s (process_signature r)) refl
    where
      by_test : slice_get all n ≡ Some (Some r) → Meant all (option_map method_id (first_with (suc n) s (map process_signature rs))) (first_body s (map (process_method_in scope) rs))
          → (b : Bool) → same_signature s (process_signature r) ≡ b
          → Meant all (option_map method_id (first_with n s (map process_signature (r ∷ rs)))) (first_body s (map (process_method_in scope) (r ∷ rs)))
      by_test there later true is = rw is (both n (process_body_in scope r) (begins_there all n scope r there))
      by_test there later false is = rw is later

  -- a body of a data class is none of a process
  of_data : (rs : List DataMethodTree) (n : ℕ) → Meant all (option_map method_id (first_with n s (map data_signature rs))) (first_body s (map (data_method_in scope) rs))
  of_data [] n = neither
  of_data (r ∷ rs) n = by_test (of_data rs (suc n)) (same_signature s (data_signature r)) refl
    where
      by_test : Meant all (option_map method_id (first_with (suc n) s (map data_signature rs))) (first_body s (map (data_method_in scope) rs))
          → (b : Bool) → same_signature s (data_signature r) ≡ b
          → Meant all (option_map method_id (first_with n s (map data_signature (r ∷ rs)))) (first_body s (map (data_method_in scope) (r ∷ rs)))
      by_test later true is = rw is (both n (data_body_in scope r) (λ locals body e. cc))
      by_test later false is = rw is later

-- behind so many stand those of a class
abbrev many : DeclTree → ℕ
many d = length (signatures d)

many_rows : (d : DeclTree) → length (declared_methods d) ≡ many d
many_rows (data_class d) = length-map (unwrap_or d.methods []) (λ r. None) ∙ sym (length-map (unwrap_or d.methods []) data_signature)
many_rows (process_class d) = length-map (unwrap_or d.methods []) Some ∙ sym (length-map (unwrap_or d.methods []) process_signature)
many_rows (cluster_class d) = refl
many_rows (system d) = refl

rows_at : (ds : List DeclTree) (i : ℕ) (d : DeclTree) → slice_get ds i ≡ Some d → StandAt (flat_map declared_methods ds) (sum_by many (take i ds)) (declared_methods d)
rows_at [] i d is j x there = cc
rows_at (e ∷ ds) zero d is j x there =
    let same : e ≡ d = cc in
    let first : 0 + j ≡ j = omega arith in
    ap (slice_get (declared_methods e ++ flat_map declared_methods ds)) first
    ∙ got_front (declared_methods e) (flat_map declared_methods ds) j x (subst (λ (q : DeclTree). slice_get (declared_methods q) j ≡ Some x) (sym same) there)
rows_at (e ∷ ds) (suc i) d is j x there =
    let k : ℕ = sum_by many (take i ds) in
    let sum : sum_by many (take (suc i) (e ∷ ds)) ≡ many e + k = sum_by-cons many e (take i ds) in
    let rows : length (declared_methods e) ≡ many e = many_rows e in
    let at : sum_by many (take (suc i) (e ∷ ds)) + j ≡ length (declared_methods e) + (k + j) = omega (arith, sum, rows) in
    got_back (declared_methods e) (flat_map declared_methods ds) (k + j) (sum_by many (take (suc i) (e ∷ ds)) + j) at ∙ rows_at ds i d is j x there

module _ (m : ModelTree) where
  own_meant : (s : Signature) (c : ℕ) → Meant (methods m) (own_method m s c) (own_body m s c)
  own_meant s zero = neither
  own_meant s (suc i) = by_decl (slice_get m.decls i) refl
    where
      at : (d : DeclTree) → slice_get m.decls i ≡ Some d → StandAt (methods m) (methods_before m (suc i)) (declared_methods d)
      at d here =
          let skipped : suc i - 1 ≡ i = omega arith in
          subst (λ (j : ℕ). StandAt (methods m) (sum_by many (take j m.decls)) (declared_methods d)) (sym skipped) (rows_at m.decls i d here)

      by_decl : (o : Option DeclTree) → slice_get m.decls i ≡ o → Meant (methods m) (own_method m s (suc i)) (own_body m s (suc i))
      by_decl None here = rw here neither
      by_decl (Some (data_class d)) here = rw here (of_data (methods m) s (data_scope m (suc i)) (unwrap_or d.methods []) (methods_before m (suc i)))
      by_decl (Some (process_class d)) here = rw here (of_process (methods m) s (process_scope m (suc i)) (unwrap_or d.methods []) (methods_before m (suc i)) (at (process_class d) here))
      by_decl (Some (cluster_class d)) here = rw here neither
      by_decl (Some (system d)) here = rw here neither

  nearest_meant : (s : Signature) (line : List ℕ) → Meant (methods m) (nearest (own_method m s) line) (nearest (own_body m s) line)
  nearest_meant s [] = neither
  nearest_meant s (c ∷ line) = by_first (own_method m s c) (own_body m s c) (own_meant s c) (nearest_meant s line)
    where
      by_first : (o : Option MethodId) (p : Option BodyTree) → Meant (methods m) o p → Meant (methods m) (nearest (own_method m s) line) (nearest (own_body m s) line)
          → Meant (methods m) (option_or o (nearest (own_method m s) line)) (option_or p (nearest (own_body m s) line))
      by_first _ _ neither rest = rest
      by_first _ _ (both k b begins) rest = both k b begins

  -- the method of such a call, and with what its body begins
  pub record Called (c : ℕ) (x : Id) (body : Steps) : Type 0 where
    pub number : ℕ
    pub is : called m c x ≡ Some (method_id number)
    pub begins : begun_all body ≡ begun_at m number

  pub called_is : (c : ℕ) (x : Id) (locals : ℕ) (body : Steps) → process_method_body m c x.name 0 0 ≡ Some (process_body locals body) → Called c x body
  called_is c x locals body is = by_both (called m c x) (process_method_body m c x.name 0 0) (nearest_meant (record { name = x.name; counts = Process 0 0 }) (ancestors m c)) refl is
    where
      by_both : (o : Option MethodId) (p : Option BodyTree) → Meant (methods m) o p → called m c x ≡ o → p ≡ Some (process_body locals body) → Called c x body
      by_both _ _ neither number there = cc
      by_both _ _ (both k b begins) number there = let same : b ≡ process_body locals body = cc in record { number = k; is = number; begins = begins locals body same }
