-- What classes have in a grown model: a class that was there has what it had, and the new one has its own.
use Rattle.std.proofs.Common.{◌≡◌, ◌≢◌, refl, sym, ap, ap₂, ◌∙◌, ℕ, zero, suc, ◌+◌, ◌-◌, ◌<◌, ◌≤◌, List, [], ◌∷◌, ◌++◌, append-nil, map, length, take, Option, Some, None, arith}
use Rattle.std.specs.List.{AllByRecursion, flat_map, sum_by}
use Rattle.std.specs.Option.{option_map, option_map_or, option_or, option_and_then}
use Rattle.std.proofs.lemmas.List.{take-append-le, length-map}
use Rattle.std.proofs.lemmas.List.Sums.{sum_by-cons}
use Rattle.pz_env_tree.specs.pz_syntax.declared.names.Id.{Id}
use Rattle.pz_env_tree.specs.pz_syntax.declared.classes.Message.{Message}
use Rattle.pz_env_tree.specs.pz_syntax.declared.clusters.SystemDecl.{SystemDecl}
use Rattle.pz_env_tree.specs.pz_syntax.Classes.{DeclTree, ProcessClassTree, process_class, ModelTree}
use Rattle.pz_env_tree.specs.pz_classes_rules.Numbers.{declaration}
use Rattle.pz_env_tree.specs.pz_classes_rules.Ancestors.{ancestors}
use Rattle.pz_env_tree.specs.pz_classes_rules.Reached.{AncestorsAreReached}
use Rattle.pz_env_tree.specs.pz_classes_rules.Members.{own_fields, own_variables, own_ports, from_root, fields, variables, ports}
use Rattle.pz_env_tree.specs.pz_classes_rules.Methods.{Signature, signatures, methods_before, first_with, method_id, own_method, nearest, method_with}
use Rattle.pz_env_tree.specs.pz_classes_rules.Starts.{own_start}
use Rattle.pz_env_tree.specs.pz_classes_rules.CallRules.{own_messages, messages, start}
use Rattle.pz_env_tree.specs.pz_classes_rules.Instances.{own_parameters, parameters}
use Rattle.pz_env_tree.specs.pz_classes_rules.Soundness.{IsSound}
use Rattle.pz_env_grown.proofs.Numbers.{declared_within}
use Rattle.pz_env_sound.proofs.Grown.{grown_decl, of_grown, grown, declaration_new, declaration_other}
use Rattle.pz_env_sound.proofs.Ancestors.{ancestors_same, ancestors_other, ancestors_new}

-- A declaration has the same of its own

module _ (f : SystemDecl → SystemDecl) where
  fields_kept : (d : DeclTree) → own_fields (grown_decl f d) ≡ own_fields d
  fields_kept = of_grown own_fields (λ s t. refl) f

  variables_kept : (d : DeclTree) → own_variables (grown_decl f d) ≡ own_variables d
  variables_kept = of_grown own_variables (λ s t. refl) f

  ports_kept : (d : DeclTree) → own_ports (grown_decl f d) ≡ own_ports d
  ports_kept = of_grown own_ports (λ s t. refl) f

  parameters_kept : (d : DeclTree) → own_parameters (grown_decl f d) ≡ own_parameters d
  parameters_kept = of_grown own_parameters (λ s t. refl) f

  pub messages_kept : (d : DeclTree) → own_messages (grown_decl f d) ≡ own_messages d
  messages_kept = of_grown own_messages (λ s t. refl) f

  start_kept : (d : DeclTree) → own_start (grown_decl f d) ≡ own_start d
  start_kept = of_grown own_start (λ s t. refl) f

  pub signatures_kept : (d : DeclTree) → signatures (grown_decl f d) ≡ signatures d
  signatures_kept = of_grown signatures (λ s t. refl) f

  before_kept : (ds : List DeclTree) (k : ℕ)
      → sum_by (λ d. length (signatures d)) (take k (map (grown_decl f) ds)) ≡ sum_by (λ d. length (signatures d)) (take k ds)
  before_kept ds zero = refl
  before_kept [] (suc k) = refl
  before_kept (d ∷ ds) (suc k) =
      sum_by-cons (λ x. length (signatures x)) (grown_decl f d) (take k (map (grown_decl f) ds))
      ∙ ap₂ (λ (a b : ℕ). a + b) (ap length (signatures_kept d)) (before_kept ds k)
      ∙ sym (sum_by-cons (λ x. length (signatures x)) d (take k ds))

nearest_same : {A : Type 0} (g h : ℕ → Option A) (line : List ℕ) → AllByRecursion (λ (k : ℕ). g k ≡ h k) line
    → nearest g line ≡ nearest h line
nearest_same g h [] all = refl
nearest_same g h (k ∷ line) all = ap₂ (λ a b. option_or a b) all.0 (nearest_same g h line all.1)

each : {A : Type 0} (P Q : A → Type 0) (xs : List A) → ((x : A) → P x → Q x) → AllByRecursion P xs → AllByRecursion Q xs
each P Q [] more all = tt
each P Q (x ∷ xs) more all = (more x all.0, each P Q xs more all.1)

or_none : {A : Type 0} (o : Option A) → option_or o None ≡ o
or_none None = refl
or_none (Some x) = refl

module _ (f : SystemDecl → SystemDecl) (e : ProcessClassTree) (m : ModelTree) where
  pub at_same : {A : Type 0} (h : DeclTree → A) (z : A) → ((d : DeclTree) → h (grown_decl f d) ≡ h d) → (c : ℕ) → c ≢ suc (length m.decls)
      → option_map_or h (declaration (grown m f e) c) z ≡ option_map_or h (declaration m c) z
  at_same {A} h z kept c other = ap (λ (o : Option DeclTree). option_map_or h o z) (declaration_other f e m c other) ∙ by_decl (declaration m c)
    where
      by_decl : (o : Option DeclTree) → option_map_or h (option_map (grown_decl f) o) z ≡ option_map_or h o z
      by_decl None = refl
      by_decl (Some d) = kept d

  and_same : {A : Type 0} (h : DeclTree → Option A) → ((d : DeclTree) → h (grown_decl f d) ≡ h d) → (c : ℕ) → c ≢ suc (length m.decls)
      → option_and_then h (declaration (grown m f e) c) ≡ option_and_then h (declaration m c)
  and_same {A} h kept c other = ap (option_and_then h) (declaration_other f e m c other) ∙ by_decl (declaration m c)
    where
      by_decl : (o : Option DeclTree) → option_and_then h (option_map (grown_decl f) o) ≡ option_and_then h o
      by_decl None = refl
      by_decl (Some d) = kept d

  root_same : (own : DeclTree → List Id) → ((d : DeclTree) → own (grown_decl f d) ≡ own d) → (line : List ℕ)
      → AllByRecursion (λ (k : ℕ). k ≢ suc (length m.decls)) line → from_root own (grown m f e) line ≡ from_root own m line
  root_same own kept [] all = refl
  root_same own kept (c ∷ line) all = ap₂ (λ (a b : List Id). a ++ b) (root_same own kept line all.1) (at_same own [] kept c all.0)

  flat_same : (line : List ℕ) → AllByRecursion (λ (k : ℕ). k ≢ suc (length m.decls)) line
      → flat_map (λ a. option_map_or own_messages (declaration (grown m f e) a) []) line ≡ flat_map (λ a. option_map_or own_messages (declaration m a) []) line
  flat_same [] all = refl
  flat_same (c ∷ line) all = ap₂ (λ (a b : List Message). a ++ b) (at_same own_messages [] (messages_kept f) c all.0) (flat_same line all.1)

  before_same : (c : ℕ) → c < suc (length m.decls) → methods_before (grown m f e) c ≡ methods_before m c
  before_same c low =
      let within : c - 1 ≤ length (map (grown_decl f) m.decls) = omega (arith, low, length-map m.decls (grown_decl f)) in
      ap (sum_by (λ d. length (signatures d))) (take-append-le (c - 1) (map (grown_decl f) m.decls) (process_class e ∷ []) within)
      ∙ before_kept f m.decls (c - 1)

  pub own_method_same : (s : Signature) (c : ℕ) → c ≢ suc (length m.decls) → own_method (grown m f e) s c ≡ own_method m s c
  own_method_same s c other =
      ap (λ (o : List Signature). option_map method_id (first_with (methods_before (grown m f e) c) s o)) (at_same signatures [] (signatures_kept f) c other)
      ∙ by_decl (declaration m c) refl
    where
      by_decl : (o : Option DeclTree) → declaration m c ≡ o
          → option_map method_id (first_with (methods_before (grown m f e) c) s (option_map_or signatures o [])) ≡ option_map method_id (first_with (methods_before m c) s (option_map_or signatures o []))
      by_decl None at = refl
      by_decl (Some d) at = ap (λ (n : ℕ). option_map method_id (first_with n s (signatures d))) (before_same c (declared_within m c d at))

  module _ (sound : IsSound m) (reached : AncestorsAreReached) where
    rooted : (own : DeclTree → List Id) → ((d : DeclTree) → own (grown_decl f d) ≡ own d) → (c : ℕ) → c ≢ suc (length m.decls)
        → from_root own (grown m f e) (ancestors (grown m f e) c) ≡ from_root own m (ancestors m c)
    rooted own kept c other =
        ap (from_root own (grown m f e)) (ancestors_same f e m sound reached c other)
        ∙ root_same own kept (ancestors m c) (ancestors_other f e m sound c other)

    pub fields_same : (c : ℕ) → c ≢ suc (length m.decls) → fields (grown m f e) c ≡ fields m c
    fields_same = rooted own_fields (fields_kept f)

    pub variables_same : (c : ℕ) → c ≢ suc (length m.decls) → variables (grown m f e) c ≡ variables m c
    variables_same = rooted own_variables (variables_kept f)

    pub ports_same : (c : ℕ) → c ≢ suc (length m.decls) → ports (grown m f e) c ≡ ports m c
    ports_same = rooted own_ports (ports_kept f)

    pub parameters_same : (c : ℕ) → c ≢ suc (length m.decls) → parameters (grown m f e) c ≡ parameters m c
    parameters_same = rooted own_parameters (parameters_kept f)

    pub messages_same : (c : ℕ) → c ≢ suc (length m.decls) → messages (grown m f e) c ≡ messages m c
    messages_same c other =
        ap (flat_map (λ a. option_map_or own_messages (declaration (grown m f e) a) [])) (ancestors_same f e m sound reached c other)
        ∙ flat_same (ancestors m c) (ancestors_other f e m sound c other)

    nearest_kept : {A : Type 0} (g h : ℕ → Option A) → ((c : ℕ) → c ≢ suc (length m.decls) → g c ≡ h c) → (c : ℕ) → c ≢ suc (length m.decls)
        → nearest g (ancestors (grown m f e) c) ≡ nearest h (ancestors m c)
    nearest_kept g h kept c other =
        ap (nearest g) (ancestors_same f e m sound reached c other)
        ∙ nearest_same g h (ancestors m c) (each (λ (k : ℕ). k ≢ suc (length m.decls)) (λ (k : ℕ). g k ≡ h k) (ancestors m c) kept (ancestors_other f e m sound c other))

    pub start_same : (c : ℕ) → c ≢ suc (length m.decls) → start (grown m f e) c ≡ start m c
    start_same =
        nearest_kept (λ a. option_and_then own_start (declaration (grown m f e) a)) (λ a. option_and_then own_start (declaration m a)) (and_same own_start (start_kept f))

    pub method_same : (c : ℕ) (s : Signature) → c ≢ suc (length m.decls) → method_with (grown m f e) c s ≡ method_with m c s
    method_same c s other = nearest_kept (own_method (grown m f e) s) (own_method m s) (own_method_same s) c other

    -- The new class has what it declares

    module _ (alone : e.parent ≡ None) where
      rooted_new : (own : DeclTree → List Id)
          → from_root own (grown m f e) (ancestors (grown m f e) (suc (length m.decls))) ≡ own (process_class e)
      rooted_new own =
          ap (from_root own (grown m f e)) (ancestors_new f e m sound alone)
          ∙ ap (λ (o : Option DeclTree). option_map_or own o []) (declaration_new f e m)

      pub fields_new : fields (grown m f e) (suc (length m.decls)) ≡ []
      fields_new = rooted_new own_fields

      pub variables_new : variables (grown m f e) (suc (length m.decls)) ≡ own_variables (process_class e)
      variables_new = rooted_new own_variables

      pub ports_new : ports (grown m f e) (suc (length m.decls)) ≡ own_ports (process_class e)
      ports_new = rooted_new own_ports

      pub parameters_new : parameters (grown m f e) (suc (length m.decls)) ≡ own_parameters (process_class e)
      parameters_new = rooted_new own_parameters

      pub messages_new : messages (grown m f e) (suc (length m.decls)) ≡ own_messages (process_class e)
      messages_new =
          ap (flat_map (λ a. option_map_or own_messages (declaration (grown m f e) a) [])) (ancestors_new f e m sound alone)
          ∙ ap (λ (o : Option DeclTree). option_map_or own_messages o [] ++ []) (declaration_new f e m)
          ∙ append-nil (own_messages (process_class e))

      pub start_new : start (grown m f e) (suc (length m.decls)) ≡ e.start
      start_new =
          ap (nearest (λ a. option_and_then own_start (declaration (grown m f e) a))) (ancestors_new f e m sound alone)
          ∙ ap (λ (o : Option DeclTree). option_or (option_and_then own_start o) None) (declaration_new f e m)
          ∙ or_none e.start

      pub method_new : (s : Signature)
          → method_with (grown m f e) (suc (length m.decls)) s ≡ option_map method_id (first_with (methods_before (grown m f e) (suc (length m.decls))) s (signatures (process_class e)))
      method_new s =
          ap (nearest (own_method (grown m f e) s)) (ancestors_new f e m sound alone)
          ∙ ap (λ (o : Option DeclTree). option_or (option_map method_id (first_with (methods_before (grown m f e) (suc (length m.decls))) s (option_map_or signatures o []))) None) (declaration_new f e m)
          ∙ or_none (option_map method_id (first_with (methods_before (grown m f e) (suc (length m.decls))) s (signatures (process_class e))))
