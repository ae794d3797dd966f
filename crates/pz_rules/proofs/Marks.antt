-- Each body of a model has no more delays than the text of the model has marks.
use Rattle.std.proofs.Common.{◌≡◌, ◌≤◌, ℕ, Bool, true, false, List, [], ◌∷◌, map, length, length-append, Option, Some, None, refl, subst, arith}
use Rattle.std.specs.Prelude.{if◌then◌else◌}
use Rattle.std.specs.Option.{option_map_or, option_or, unwrap_or}
use Rattle.pz_bind_rules.specs.pz_syntax.declared.tokens.Keyword.{Keyword}
use Rattle.pz_bind_rules.specs.pz_syntax.declared.tokens.Keyword.TheVariants as k
use Rattle.pz_bind_rules.specs.pz_syntax.declared.names.Id.{Id}
use Rattle.pz_bind_rules.specs.pz_syntax.Marks.{each_text, section}
use Rattle.pz_bind_rules.specs.pz_syntax.Statements.{Statement, delay, bracketed, guarded, parallel, select, conditional, repeated, abort, interrupt, Statements, no_statements, then, StatementPart, not_written, otherwise, Branches, no_branches, branch}
use Rattle.pz_bind_rules.specs.pz_syntax.StatementText.{text, texts, tail_texts, otherwise_text, branches_text, tail_branches}
use Rattle.pz_bind_rules.specs.pz_syntax.ClassText.{process_method_text}
use Rattle.pz_bind_rules.specs.pz_syntax.ModelText as model
use Rattle.pz_bind_rules.specs.pz_syntax.ModelText.{decl_text, HasFewMarks}
use Rattle.pz_bind_rules.specs.pz_syntax.Classes.{DataMethodTree, ProcessMethodTree, DeclTree, data_class, process_class, cluster_class, system, ModelTree}
use Rattle.pz_bind_rules.specs.pz_classes_code.Resolution.{Scope, resolved_statement, resolved_statements, resolved_otherwise, resolved_branches}
use Rattle.pz_bind_rules.specs.pz_classes_rules.declared.method_id.Counts.TheVariants.{Process}
use Rattle.pz_bind_rules.specs.pz_classes_rules.Numbers.{declaration}
use Rattle.pz_bind_rules.specs.pz_classes_rules.Ancestors.{ancestors}
use Rattle.pz_bind_rules.specs.pz_classes_rules.Methods.{Signature, same_signature, data_signature, process_signature, nearest}
use Rattle.pz_bind_rules.specs.pz_classes_rules.Bodies.{BodyTree, data_body, process_body, data_scope, process_scope, process_locals}
use Rattle.pz_bind_rules.specs.pz_classes_rules.MethodBodies.{data_method_in, process_method_in, own_methods, first_body, own_body}
use Rattle.pz_bind_rules.proofs.pz_classes_rules_proofs.FewMarks.{decl_few}
use Rattle.pz_rules.specs.Methods.{IsMethod}
use Rattle.pz_rules.specs.Terms.{Steps}
use Rattle.pz_rules.specs.devices.Opened.{delays_in, delays_in_all, delays_in_part, delays_in_each}
use Rattle.pz_rules.specs.devices.Room.{HasFewDelays}

-- names are resolved, and delays stay

module _ (scope : Scope) where
  mutual
    as_many : (t : Statement Id Id Id) → delays_in (resolved_statement scope t) ≡ delays_in t
    as_many (bracketed at ts) = as_many_in_all ts
    as_many (guarded at e t) = as_many t
    as_many (parallel at bs) = as_many_in_each bs
    as_many (select at bs) = as_many_in_each bs
    as_many (conditional at e ts other) = omega (arith, as_many_in_all ts, as_many_in_part other)
    as_many (repeated at e ts) = as_many_in_all ts
    as_many (abort at ts t) = omega (arith, as_many_in_all ts, as_many t)
    as_many (interrupt at ts t) = omega (arith, as_many_in_all ts, as_many t)
    as_many t = refl

    as_many_in_all : (ts : Statements Id Id Id) → delays_in_all (resolved_statements scope ts) ≡ delays_in_all ts
    as_many_in_all no_statements = refl
    as_many_in_all ((then) t ts) = omega (arith, as_many t, as_many_in_all ts)

    as_many_in_part : (other : StatementPart Id Id Id) → delays_in_part (resolved_otherwise scope other) ≡ delays_in_part other
    as_many_in_part not_written = refl
    as_many_in_part (otherwise ts) = as_many_in_all ts

    as_many_in_each : (bs : Branches Id Id Id) → delays_in_each (resolved_branches scope bs) ≡ delays_in_each bs
    as_many_in_each no_branches = refl
    as_many_in_each (branch ts bs) = omega (arith, as_many_in_all ts, as_many_in_each bs)

-- each delay has a mark of its own

mutual
  marked : (t : Statement Id Id Id) → delays_in t ≤ length (text t)
  marked (delay at e) = omega arith
  marked (bracketed at ts) = simp length-append (omega (arith, all_marked ts))
  marked (guarded at e t) = simp length-append (omega (arith, marked t))
  marked (parallel at bs) = simp length-append (omega (arith, each_marked k.And bs))
  marked (select at bs) = simp length-append (omega (arith, each_marked k.Or bs))
  marked (conditional at e ts other) = simp length-append (omega (arith, all_marked ts, part_marked other))
  marked (repeated at e ts) = simp length-append (omega (arith, all_marked ts))
  marked (abort at ts t) = simp length-append (omega (arith, all_marked ts, marked t))
  marked (interrupt at ts t) = simp length-append (omega (arith, all_marked ts, marked t))
  marked t = omega arith

  all_marked : (ts : Statements Id Id Id) → delays_in_all ts ≤ length (texts ts)
  all_marked no_statements = omega arith
  all_marked ((then) t ts) = simp length-append (omega (arith, marked t, tail_marked ts))

  tail_marked : (ts : Statements Id Id Id) → delays_in_all ts ≤ length (tail_texts ts)
  tail_marked no_statements = omega arith
  tail_marked ((then) t ts) = simp length-append (omega (arith, marked t, tail_marked ts))

  part_marked : (other : StatementPart Id Id Id) → delays_in_part other ≤ length (otherwise_text other)
  part_marked not_written = omega arith
  part_marked (otherwise ts) = omega (arith, all_marked ts)

  each_marked : (separator : Keyword) (bs : Branches Id Id Id) → delays_in_each bs ≤ length (branches_text separator bs)
  each_marked separator no_branches = omega arith
  each_marked separator (branch ts bs) = simp length-append (omega (arith, all_marked ts, branches_marked separator bs))

  branches_marked : (separator : Keyword) (bs : Branches Id Id Id) → delays_in_each bs ≤ length (tail_branches separator bs)
  branches_marked separator no_branches = omega arith
  branches_marked separator (branch ts bs) = simp length-append (omega (arith, all_marked ts, branches_marked separator bs))

-- bodies

-- a body, if there is one, has at most so many delays
abbrev HasAtMost : ℕ → Option BodyTree → Type 0
HasAtMost n None = Unit {0}
HasAtMost n (Some (data_body locals body)) = Unit {0}
HasAtMost n (Some (process_body locals body)) = delays_in_all body ≤ n

more : (n k : ℕ) (o : Option BodyTree) → n ≤ k → HasAtMost n o → HasAtMost k o
more n k None less h = tt
more n k (Some (data_body locals body)) less h = tt
more n k (Some (process_body locals body)) less h = omega (arith, less, h)

first_few : (scope : List Id → Scope) (s : Signature) (rs : List ProcessMethodTree) → HasAtMost (length (each_text process_method_text rs)) (first_body s (map (process_method_in scope) rs))
first_few scope s [] = tt
first_few scope s (r ∷ rs) = by (same_signature s (process_signature r)) (first_few scope s rs)
  where
    this : delays_in_all (resolved_statements (scope (process_locals r)) r.body) ≤ length (each_text process_method_text (r ∷ rs))
    this =
        let same = as_many_in_all (scope (process_locals r)) r.body in
        let marks = all_marked r.body in
        simp length-append (omega (arith, same, marks))

    by : (b : Bool) → HasAtMost (length (each_text process_method_text rs)) (first_body s (map (process_method_in scope) rs))
        → HasAtMost (length (each_text process_method_text (r ∷ rs))) (if b then Some (process_method_in scope r).body else first_body s (map (process_method_in scope) rs))
    by true later = this
    by false later = more (length (each_text process_method_text rs)) (length (each_text process_method_text (r ∷ rs))) (first_body s (map (process_method_in scope) rs)) (simp length-append (omega arith)) later

first_of_data : (scope : List Id → Scope) (s : Signature) (n : ℕ) (rs : List DataMethodTree) → HasAtMost n (first_body s (map (data_method_in scope) rs))
first_of_data scope s n [] = tt
first_of_data scope s n (r ∷ rs) = by (same_signature s (data_signature r)) (first_of_data scope s n rs)
  where
    by : (b : Bool) → HasAtMost n (first_body s (map (data_method_in scope) rs)) → HasAtMost n (if b then Some (data_method_in scope r).body else first_body s (map (data_method_in scope) rs))
    by true later = tt
    by false later = later

in_methods : (rs : Option (List ProcessMethodTree)) → length (each_text process_method_text (unwrap_or rs [])) ≤ length (section k.Methods (each_text process_method_text) rs)
in_methods None = omega arith
in_methods (Some rs) = omega arith

module _ (m : ModelTree) (s : Signature) where
  declared_few : (c : ℕ) (d : DeclTree) → HasAtMost (length (decl_text d)) (first_body s (own_methods m c d))
  declared_few c (data_class d) = first_of_data (data_scope m c) s (length (decl_text (data_class d))) (unwrap_or d.methods [])
  declared_few c (process_class p) =
      let rs = unwrap_or p.methods [] in
      let within : length (each_text process_method_text rs) ≤ length (decl_text (process_class p)) = simp length-append (omega (arith, in_methods p.methods)) in
      more (length (each_text process_method_text rs)) (length (decl_text (process_class p))) (first_body s (map (process_method_in (process_scope m c)) rs)) within (first_few (process_scope m c) s rs)
  declared_few c (cluster_class d) = tt
  declared_few c (system d) = tt

  own_few : (c : ℕ) → HasAtMost (length (model.text m)) (own_body m s c)
  own_few c = by (declaration m c) refl
    where
      by : (o : Option DeclTree) → declaration m c ≡ o → HasAtMost (length (model.text m)) (first_body s (option_map_or (own_methods m c) o []))
      by None is = tt
      by (Some d) is = more (length (decl_text d)) (length (model.text m)) (first_body s (own_methods m c d)) (decl_few m c d is) (declared_few c d)

  nearest_few : (line : List ℕ) → HasAtMost (length (model.text m)) (nearest (own_body m s) line)
  nearest_few [] = tt
  nearest_few (c ∷ line) = by (own_body m s c) (own_few c) (nearest_few line)
    where
      by : (o : Option BodyTree) → HasAtMost (length (model.text m)) o → HasAtMost (length (model.text m)) (nearest (own_body m s) line) → HasAtMost (length (model.text m)) (option_or o (nearest (own_body m s) line))
      by None h later = later
      by (Some b) h later = h

pub bodies_few : (m : ModelTree) → HasFewMarks m → (class : ℕ) (name : List ℕ) (inputs outputs locals : ℕ) (body : Steps) → IsMethod m class name inputs outputs locals body → HasFewDelays body
bodies_few m few class name inputs outputs locals body is =
    let found : HasAtMost (length (model.text m)) (Some (process_body locals body)) =
    subst (HasAtMost (length (model.text m))) is.is_body (nearest_few m (record { name = name; counts = Process inputs outputs }) (ancestors m class)) in
    omega (arith, few, found)
