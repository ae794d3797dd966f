-- What the methods of a grown model open: those that were there open what they opened.
use Rattle.std.proofs.Common.{◌≡◌, ◌≢◌, refl, sym, ap, ap₂, subst, ◌∙◌, ℕ, zero, suc, ◌+◌, ◌-◌, ◌<◌, ◌≤◌, List, [], ◌∷◌, ◌++◌, map, length, take, Option, Some, None, slice_get, arith}
use Rattle.std.specs.List.{Contains, flat_map, sum_by}
use Rattle.std.specs.Option.{unwrap_or, option_map, option_map_or}
use Rattle.std.proofs.lemmas.List.{length-map, take-append-le}
use Rattle.pz_env_tree.specs.pz_syntax.declared.names.Id.{Id}
use Rattle.pz_env_tree.specs.pz_syntax.declared.clusters.SystemDecl.{SystemDecl}
use Rattle.pz_env_tree.specs.pz_syntax.Statements.{no_statements}
use Rattle.pz_env_tree.specs.pz_syntax.Classes.{DeclTree, ProcessMethodTree, ProcessClassTree, process_class, ModelTree}
use Rattle.pz_env_tree.specs.pz_check_violations.declared.violation.Violation.{Violation}
use Rattle.pz_env_tree.specs.pz_classes_rules.declared.method_id.MethodId.{MethodId}
use Rattle.pz_env_tree.specs.pz_classes_rules.declared.method_id.Counts.TheVariants.{Process}
use Rattle.pz_env_tree.specs.pz_classes_rules.Reached.{AncestorsAreReached}
use Rattle.pz_env_tree.specs.pz_classes_rules.Kinds.{is_process}
use Rattle.pz_env_tree.specs.pz_classes_rules.Methods.{process_signature, signatures, methods_before, first_with, method_id, method_with}
use Rattle.pz_env_tree.specs.pz_classes_rules.Soundness.{IsSound}
use Rattle.pz_classes_beginnings.specs.Beginning.{begun_all, all_plain_calls, statements_in_all}
use Rattle.pz_classes_openings.specs.Methods.{declared_methods, methods, method_at}
use Rattle.pz_classes_openings.specs.Openings.{begun_at, calls_at, statements_at, HasMethod, called, Leads, itself, further, of_called, opened_to, spread_to}
use Rattle.pz_classes_openings.specs.OpeningRules.{BreaksC23, round, BreaksC24, too_large, Opens}
use Rattle.pz_env_grown.proofs.Elements.{none_in}
use Rattle.pz_env_sound.proofs.Grown.{grown_decl, grown, IsDeclared, old, new, declared, declared_other, process_same}
use Rattle.pz_env_sound.proofs.Members.{method_same, method_new}
use Rattle.pz_env_sound.proofs.NewParts.{IsFresh}
use Rattle.pz_env_sound.proofs.MethodNumbers.{many, methods_counted, first_within, number_of, method_within, in_front, at_seam, methods_kept, methods_in}

alike : {A B : Type 0} (f g : A → B) → ((x : A) → f x ≡ g x) → f ≡ g
alike f g agree = λ i. λ x. agree x i

module _ (f : SystemDecl → SystemDecl) (e : ProcessClassTree) (m : ModelTree) (sound : IsSound m) (reached : AncestorsAreReached)
    (fresh : IsFresh m e) (opens : Opens m) where
  abbrev n : ModelTree
  n = grown m f e

  method_still : (k : ℕ) → k < length (methods m) → method_at n k ≡ method_at m k
  method_still k low =
      ap (λ (o : Option (Option ProcessMethodTree)). unwrap_or o None) (ap (λ (xs : List (Option ProcessMethodTree)). slice_get xs k) (methods_in f e m.decls) ∙ in_front (methods m) (declared_methods (process_class e)) k low)

  begun_still : (k : ℕ) → k < length (methods m) → begun_at n k ≡ begun_at m k
  begun_still k low = ap (λ (o : Option ProcessMethodTree). begun_all (option_map_or (λ r. r.body) o no_statements)) (method_still k low)

  calls_still : (k : ℕ) → k < length (methods m) → calls_at n k ≡ calls_at m k
  calls_still k low = ap (λ (o : Option ProcessMethodTree). all_plain_calls (option_map_or (λ r. r.body) o no_statements)) (method_still k low)

  statements_still : (k : ℕ) → k < length (methods m) → statements_at n k ≡ statements_at m k
  statements_still k low = ap (λ (o : Option ProcessMethodTree). statements_in_all (option_map_or (λ r. r.body) o no_statements)) (method_still k low)

  module _ (c : ℕ) (other : c ≢ suc (length m.decls)) where
    called_same : (x : Id) → called n c x ≡ called m c x
    called_same x = method_same f e m sound reached c (record { name = x.name; counts = Process 0 0 }) other

    called_within : (x : Id) (l : ℕ) → called n c x ≡ Some (method_id l) → l < length (methods m)
    called_within x l is = method_within m c (record { name = x.name; counts = Process 0 0 }) l (sym (called_same x) ∙ is)

    has_within : (k : ℕ) → HasMethod n c k → HasMethod m c k × (k < length (methods m))
    has_within k has =
        let its : method_with m c has.0 ≡ Some (method_id k) = sym (method_same f e m sound reached c has.0 other) ∙ has.1 in
        ((has.0, its), method_within m c has.0 k its)

    leads_still : (k l : ℕ) → k < length (methods m) → Leads n c k l → Leads m c k l × (l < length (methods m))
    leads_still k _ low (itself) = (itself, low)
    leads_still k l low (further p _ x before begins is) =
        let rest = leads_still k p low before in
        (further p l x rest.0 (subst (λ (xs : List Id). Contains xs x) (begun_still p rest.1) begins) (sym (called_same x) ∙ is), called_within x l is)

    of_called_same : (g h : ℕ → ℕ) → ((l : ℕ) → l < length (methods m) → g l ≡ h l) → (x : Id)
        → of_called g (called n c x) ≡ of_called h (called m c x)
    of_called_same g h same x = by (called n c x) refl ∙ ap (of_called h) (called_same x)
      where
        by : (o : Option MethodId) → called n c x ≡ o → of_called g (called n c x) ≡ of_called h (called n c x)
        by None is = rw is refl
        by (Some r) is = rw is (same r.0 (called_within x r.0 is))

    opened_same : (depth k : ℕ) → k < length (methods m) → opened_to n c depth k ≡ opened_to m c depth k
    opened_same zero k low = refl
    opened_same (suc depth) k low =
        ap₂ (λ (a b : ℕ). a + b) (statements_still k low)
        (ap₂ (λ (g : Id → ℕ) (xs : List Id). sum_by g xs)
        (alike (λ x. of_called (opened_to n c depth) (called n c x)) (λ x. of_called (opened_to m c depth) (called m c x)) (of_called_same (opened_to n c depth) (opened_to m c depth) (opened_same depth)))
        (begun_still k low))

    spread_same : (depth k : ℕ) → k < length (methods m) → spread_to n c depth k ≡ spread_to m c depth k
    spread_same depth k low =
        ap₂ (λ (a b : ℕ). a + b) (statements_still k low)
        (ap₂ (λ (g : Id → ℕ) (xs : List Id). sum_by g xs)
        (alike (λ x. of_called (opened_to n c depth) (called n c x)) (λ x. of_called (opened_to m c depth) (called m c x)) (of_called_same (opened_to n c depth) (opened_to m c depth) (opened_same depth)))
        (calls_still k low))

  -- The new class has one method, in which nothing is called
  module _ (r : ProcessMethodTree) (one : e.methods ≡ Some (r ∷ [])) where
    new_number : (k : ℕ) → HasMethod n (suc (length m.decls)) k → k ≡ length (methods m)
    new_number k has =
        let its : option_map method_id (first_with (methods_before n (suc (length m.decls))) has.0 (signatures (process_class e))) ≡ Some (method_id k) =
        sym (method_new f e m sound reached fresh.alone has.0) ∙ has.1 in
        let first : first_with (methods_before n (suc (length m.decls))) has.0 (signatures (process_class e)) ≡ Some k =
        number_of (first_with (methods_before n (suc (length m.decls))) has.0 (signatures (process_class e))) k its in
        let within = first_within (methods_before n (suc (length m.decls))) has.0 (signatures (process_class e)) k first in
        let alone : length (signatures (process_class e)) ≡ 1 =
        ap (λ (o : Option (List ProcessMethodTree)). length (map process_signature (unwrap_or o []))) one in
        let before : methods_before n (suc (length m.decls)) ≡ length (methods m) = all_before in
        omega (arith, within.0, within.1, alone, before)
      where
        kept : (ds : List DeclTree) → sum_by many (map (grown_decl f) ds) ≡ sum_by many ds
        kept ds = sym (methods_counted (map (grown_decl f) ds)) ∙ ap length (same ds) ∙ methods_counted ds
          where
            same : (xs : List DeclTree) → flat_map declared_methods (map (grown_decl f) xs) ≡ flat_map declared_methods xs
            same [] = refl
            same (d ∷ xs) = ap₂ (λ (a b : List (Option ProcessMethodTree)). a ++ b) (methods_kept f d) (same xs)

        whole : {A : Type 0} (xs : List A) (k : ℕ) → k ≡ length xs → take k xs ≡ xs
        whole [] zero is = refl
        whole [] (suc k) is = refl
        whole (x ∷ xs) zero is = absurd (omega (arith, is))
        whole (x ∷ xs) (suc k) is = ap (λ (l : List _). x ∷ l) (whole xs k (omega (arith, is)))

        all_before : methods_before n (suc (length m.decls)) ≡ length (methods m)
        all_before =
            let count : suc (length m.decls) - 1 ≡ length (map (grown_decl f) m.decls) = omega (arith, length-map m.decls (grown_decl f)) in
            ap (sum_by many)
            (take-append-le (suc (length m.decls) - 1) (map (grown_decl f) m.decls) (process_class e ∷ []) (omega (arith, count))
            ∙ whole (map (grown_decl f) m.decls) (suc (length m.decls) - 1) count)
            ∙ kept m.decls
            ∙ sym (methods_counted m.decls)

    new_method : method_at n (length (methods m)) ≡ Some r
    new_method =
        ap (λ (o : Option (Option ProcessMethodTree)). unwrap_or o None)
        (ap (λ (xs : List (Option ProcessMethodTree)). slice_get xs (length (methods m)))
        (methods_in f e m.decls ∙ ap (λ (o : Option (List ProcessMethodTree)). methods m ++ map Some (unwrap_or o [])) one)
        ∙ at_seam (methods m) (Some r))

    module _ (begins : begun_all r.body ≡ []) (calls : all_plain_calls r.body ≡ []) (short : statements_in_all r.body ≤ 1000000) where
      new_begins : (k : ℕ) → HasMethod n (suc (length m.decls)) k → begun_at n k ≡ []
      new_begins k has =
          ap (begun_at n) (new_number k has)
          ∙ ap (λ (o : Option ProcessMethodTree). begun_all (option_map_or (λ q. q.body) o no_statements)) new_method
          ∙ begins

      new_calls : (k : ℕ) → HasMethod n (suc (length m.decls)) k → calls_at n k ≡ []
      new_calls k has =
          ap (calls_at n) (new_number k has)
          ∙ ap (λ (o : Option ProcessMethodTree). all_plain_calls (option_map_or (λ q. q.body) o no_statements)) new_method
          ∙ calls

      new_statements : (k : ℕ) → HasMethod n (suc (length m.decls)) k → statements_at n k ≡ statements_in_all r.body
      new_statements k has =
          ap (statements_at n) (new_number k has)
          ∙ ap (λ (o : Option ProcessMethodTree). statements_in_all (option_map_or (λ q. q.body) o no_statements)) new_method

      rounds : (v : Violation) → BreaksC23 n v → ⊥
      rounds _ (round c k l d x at process has begun is leads) = by (declared f e m c d at)
        where
          by : IsDeclared f e m c d → ⊥
          by (old was there same) =
              let other = declared_other f e m c was there in
              let its = has_within c other k has in
              opens.rounds _
              (round c k l was x there (sym (process_same f was) ∙ ap is_process (sym same) ∙ process) its.0 (subst (λ (xs : List Id). Contains xs x) (begun_still k its.1) begun)
              (sym (called_same c other x) ∙ is) (leads_still c other l k (called_within c other x l is) leads).0)
          by (new number same) =
              none_in x (subst (λ (xs : List Id). Contains xs x) (new_begins k (subst (λ (b : ℕ). HasMethod n b k) number has)) begun)

      sizes : (v : Violation) → BreaksC24 n v → ⊥
      sizes _ (too_large c k depth d q at process has is large) = by (declared f e m c d at)
        where
          by : IsDeclared f e m c d → ⊥
          by (old was there same) =
              let other = declared_other f e m c was there in
              let its = has_within c other k has in
              opens.sizes _
              (too_large c k depth was q there (sym (process_same f was) ∙ ap is_process (sym same) ∙ process) its.0 (sym (method_still k its.1) ∙ is)
              (subst (λ (s : ℕ). 1000000 < s) (spread_same c other depth k its.1) large))
          by (new number same) =
              let its = subst (λ (b : ℕ). HasMethod n b k) number has in
              let g : Id → ℕ = λ x. of_called (opened_to n c depth) (called n c x) in
              let all : spread_to n c depth k ≡ statements_in_all r.body + sum_by g [] =
              ap₂ (λ (a : ℕ) (xs : List Id). a + sum_by g xs) (new_statements k its) (new_calls k its) in
              let none : sum_by g [] ≡ 0 = refl in
              omega (arith, large, all, none, short)

      pub grown_opens : Opens n
      grown_opens = record { rounds = rounds; sizes = sizes }
