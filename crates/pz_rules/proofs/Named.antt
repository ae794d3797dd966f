-- A body begins with the plain calls with which the method at its number begins.
use Rattle.std.proofs.Common.{◌≡◌, refl, sym, ap, ◌∙◌, ℕ, zero, suc, List, [], ◌∷◌, ◌++◌, map, Option, Some, None, slice_get}
use Rattle.std.specs.Option.{unwrap_or, option_map_or}
use Rattle.std.specs.List.{flat_map}
use Rattle.pz_bind_rules.specs.pz_syntax.declared.names.Id.{Id}
use Rattle.pz_bind_rules.specs.pz_syntax.Statements.{no_statements}
use Rattle.pz_bind_rules.specs.pz_syntax.Classes.{DeclTree, data_class, process_class, cluster_class, system, DataMethodTree, ProcessMethodTree, ModelTree}
use Rattle.pz_bind_rules.specs.pz_classes_code.Resolution.{Scope, resolved_statements}
use Rattle.pz_bind_rules.specs.pz_classes_rules.declared.method_id.Counts.TheVariants.{Process}
use Rattle.pz_bind_rules.specs.pz_classes_rules.Methods.{Signature, method_id}
use Rattle.pz_bind_rules.specs.pz_classes_rules.Bodies.{BodyTree, process_body, data_scope, process_scope, data_body_in, process_body_in, process_locals, own_bodies, bodies_from, bodies}
use Rattle.pz_bind_rules.specs.pz_classes_rules.MethodBodies.{HasBody, process_method_body}
use Rattle.pz_classes_beginnings.specs.Beginning.{begun_all}
use Rattle.pz_classes_openings.specs.Methods.{declared_methods, methods}
use Rattle.pz_classes_openings.specs.Openings.{begun_at, called}
use Rattle.pz_classes_openings.proofs.Resolved.{begun_all_same}
use Rattle.pz_rules.specs.Terms.{Steps}

-- the signature of a plain call
abbrev pub plain : Id → Signature
plain x = record { name = x.name; counts = Process 0 0 }

-- a method and its body
data Resolves : Option ProcessMethodTree → BodyTree → Type 0 where
  of_process : (scope : List Id → Scope) (r : ProcessMethodTree) → Resolves (Some r) (process_body_in scope r)
  of_data : (scope : List Id → Scope) (r : DataMethodTree) → Resolves None (data_body_in scope r)

-- methods and bodies in the same order
data AreParallel : List (Option ProcessMethodTree) → List BodyTree → Type 0 where
  none : AreParallel [] []
  more : (x : Option ProcessMethodTree) (b : BodyTree) (xs : List (Option ProcessMethodTree)) (bs : List BodyTree) → Resolves x b → AreParallel xs bs → AreParallel (x ∷ xs) (b ∷ bs)

appended : (xs : List (Option ProcessMethodTree)) (bs : List BodyTree) (ys : List (Option ProcessMethodTree)) (cs : List BodyTree) → AreParallel xs bs → AreParallel ys cs → AreParallel (xs ++ ys) (bs ++ cs)
appended _ _ ys cs none q = q
appended _ _ ys cs (more x b xs bs r p) q = more x b (xs ++ ys) (bs ++ cs) r (appended xs bs ys cs p q)

data_parallel : (scope : List Id → Scope) (rs : List DataMethodTree) → AreParallel (map (λ r. None) rs) (map (data_body_in scope) rs)
data_parallel scope [] = none
data_parallel scope (r ∷ rs) = more None (data_body_in scope r) (map (λ r. None) rs) (map (data_body_in scope) rs) (of_data scope r) (data_parallel scope rs)

process_parallel : (scope : List Id → Scope) (rs : List ProcessMethodTree) → AreParallel (map Some rs) (map (process_body_in scope) rs)
process_parallel scope [] = none
process_parallel scope (r ∷ rs) = more (Some r) (process_body_in scope r) (map Some rs) (map (process_body_in scope) rs) (of_process scope r) (process_parallel scope rs)

module _ (m : ModelTree) where
  decl_parallel : (c : ℕ) (d : DeclTree) → AreParallel (declared_methods d) (own_bodies m c d)
  decl_parallel c (data_class d) = data_parallel (data_scope m c) (unwrap_or d.methods [])
  decl_parallel c (process_class d) = process_parallel (process_scope m c) (unwrap_or d.methods [])
  decl_parallel c (cluster_class d) = none
  decl_parallel c (system d) = none

  all_parallel : (n : ℕ) (ds : List DeclTree) → AreParallel (flat_map declared_methods ds) (bodies_from m n ds)
  all_parallel n [] = none
  all_parallel n (d ∷ ds) = appended (declared_methods d) (own_bodies m n d) (flat_map declared_methods ds) (bodies_from m (suc n) ds) (decl_parallel n d) (all_parallel (suc n) ds)

-- the method that stands where a body does
record Resolved (xs : List (Option ProcessMethodTree)) (k : ℕ) (b : BodyTree) : Type 0 where
  method : Option ProcessMethodTree
  there : slice_get xs k ≡ Some method
  resolves : Resolves method b

resolved_at : (xs : List (Option ProcessMethodTree)) (bs : List BodyTree) (k : ℕ) (b : BodyTree) → AreParallel xs bs → slice_get bs k ≡ Some b → Resolved xs k b
resolved_at _ _ k b none is = cc
resolved_at _ _ zero b (more x y xs bs r p) is =
    let same : y ≡ b = cc in
    record { method = x; there = refl; resolves = rw (← same) r }
resolved_at _ _ (suc k) b (more x y xs bs r p) is = let later = resolved_at xs bs k b p is in record { method = later.method; there = later.there; resolves = later.resolves }

begins_so : (x : Option ProcessMethodTree) (b : BodyTree) (locals : ℕ) (body : Steps) → Resolves x b → b ≡ process_body locals body → begun_all body ≡ begun_all (option_map_or (λ r. r.body) x no_statements)
begins_so _ _ locals body (of_process scope r) is =
    let same : resolved_statements (scope (process_locals r)) r.body ≡ body = cc in
    ap begun_all (sym same) ∙ begun_all_same (scope (process_locals r)) r.body
begins_so _ _ locals body (of_data scope r) is = cc

-- the method that a plain call means, and what it begins with
pub record Means (m : ModelTree) (c : ℕ) (x : Id) (body : Steps) : Type 0 where
  pub number : ℕ
  pub is : called m c x ≡ Some (method_id number)
  pub begins : begun_all body ≡ begun_at m number

some_same : (a b : BodyTree) → Some a ≡ Some b → a ≡ b
some_same a b e = cc

module _ (m : ModelTree) (c : ℕ) (x : Id) (locals : ℕ) (body : Steps) where
  stands_at : (k : ℕ) → slice_get (bodies m) k ≡ Some (process_body locals body) → begun_all body ≡ begun_at m k
  stands_at k here = by_row (resolved_at (methods m) (bodies m) k (process_body locals body) (all_parallel m 1 m.decls) here)
    where
      by_row : Resolved (methods m) k (process_body locals body) → begun_all body ≡ begun_at m k
      by_row r =
          begins_so r.method (process_body locals body) locals body r.resolves refl
          ∙ ap (λ (o : Option (Option ProcessMethodTree)). begun_all (option_map_or (λ q. q.body) (unwrap_or o None) no_statements)) (sym r.there)

  -- where the class has such a method
  pub call_means : HasBody m c (plain x) → process_method_body m c x.name 0 0 ≡ Some (process_body locals body) → Means m c x body
  call_means has is =
      let same : has.body ≡ process_body locals body = some_same has.body (process_body locals body) (sym has.is ∙ is) in
      record { number = has.number.0; is = has.found; begins = stands_at has.number.0 (has.there ∙ ap Some same) }
