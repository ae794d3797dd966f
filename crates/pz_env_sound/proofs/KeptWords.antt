-- A word of a class that was there breaks no rule in a grown model that it does not break before.
use Rattle.std.proofs.Common.{◌≡◌, ◌≢◌, refl, ap, ◌∙◌, ℕ, suc, Bool, true, false, not, ◌&&◌, ◌||◌, List, [], ◌∷◌, ◌++◌, map, length, Option, if◌then◌else◌}
use Rattle.std.specs.Option.{is_none}
use Rattle.std.specs.List.{list_any, AllByRecursion}
use Rattle.std.proofs.lemmas.Bool.{false≢true}
use Rattle.pz_env_tree.specs.pz_syntax.declared.names.Id.{Id}
use Rattle.pz_env_tree.specs.pz_syntax.declared.classes.Message.{Message}
use Rattle.pz_env_tree.specs.pz_syntax.declared.clusters.SystemDecl.{SystemDecl}
use Rattle.pz_env_tree.specs.pz_syntax.Classes.{DeclTree, StartTree, ProcessClassTree, data_class, process_class, cluster_class, system, ModelTree}
use Rattle.pz_classes_mentions.specs.declared.mention.Mention.{Mention}
use Rattle.pz_classes_mentions.specs.declared.mention.Mention.TheVariants.{Declared, Typed, Variable, Created, Selector, Called, Port, Sent, Received, Instantiated, Clock, Me, Return}
use Rattle.pz_env_tree.specs.pz_classes_code.ReservedNames.{is_primitive, is_unsupported, is_array}
use Rattle.pz_env_tree.specs.pz_classes_rules.declared.method_id.MethodId.{MethodId}
use Rattle.pz_env_tree.specs.pz_classes_rules.declared.method_id.Counts.TheVariants.{Data, Process}
use Rattle.pz_env_tree.specs.pz_classes_rules.Kinds.{is_data, is_process, is_cluster, is_declared_as}
use Rattle.pz_env_tree.specs.pz_classes_rules.Methods.{Signature, same_signature, signatures}
use Rattle.pz_env_tree.specs.pz_classes_rules.Reached.{AncestorsAreReached}
use Rattle.pz_env_tree.specs.pz_classes_rules.NameRules.{is_type, breaks_c5, shared, breaks_c6, may_create, breaks_c12, has_instances, breaks_c13, breaks_c18, breaks_c21, breaks_c22}
use Rattle.pz_env_tree.specs.pz_classes_rules.CallRules.{is_primitive_selector, is_declared, breaks_c7, breaks_c8, breaks_c9, is_message, breaks_c10, start, breaks_c11}
use Rattle.pz_env_tree.specs.pz_classes_rules.Words.{is_among}
use Rattle.pz_env_tree.specs.pz_classes_rules.Soundness.{IsSound}
use Rattle.pz_env_sound.proofs.Grown.{grown_decl, grown, sort_kept, data_same, process_same, cluster_same}
use Rattle.pz_env_sound.proofs.Members.{signatures_kept, fields_same, variables_same, ports_same, messages_same, start_same, method_same}
use Rattle.pz_env_sound.proofs.Tests.{fewer, either}

-- which rules a word breaks
abbrev pub broken : ModelTree → ℕ → DeclTree → List Id → Mention → List Bool
broken m c d locals x =
    breaks_c5 m x ∷ breaks_c6 m c d locals x ∷ breaks_c7 m c x ∷ breaks_c8 m x ∷ breaks_c9 m c x ∷ breaks_c10 m c x
    ∷ breaks_c11 m c d x ∷ breaks_c12 m x ∷ breaks_c13 m x ∷ breaks_c18 x ∷ breaks_c21 d x ∷ breaks_c22 d x ∷ []

abbrev pub NoneHolds : List Bool → Type 0
NoneHolds bs = AllByRecursion (λ (b : Bool). b ≡ false) bs

any_kept : (f : SystemDecl → SystemDecl) (p : DeclTree → Bool) → ((d : DeclTree) → p (grown_decl f d) ≡ p d) → (ds more : List DeclTree)
    → list_any p ds ≡ true → list_any p (map (grown_decl f) ds ++ more) ≡ true
any_kept f p same [] more is = absurd (false≢true is)
any_kept f p same (d ∷ ds) more is =
    ap (λ (b : Bool). b || list_any p (map (grown_decl f) ds ++ more)) (same d)
    ∙ either (p d) (list_any p ds) (p d) (list_any p (map (grown_decl f) ds ++ more)) (λ h. h) (any_kept f p same ds more) is

module _ (f : SystemDecl → SystemDecl) (e : ProcessClassTree) (m : ModelTree) where
  type_kept : (name : List ℕ) → is_type m name ≡ true → is_type (grown m f e) name ≡ true
  type_kept name =
      either (is_primitive name) (is_declared_as is_data m name) (is_primitive name) (is_declared_as is_data (grown m f e) name) (λ h. h) (sort_kept f e m is_data (data_same f) name)

  c5_kept : (x : Mention) → breaks_c5 m x ≡ false → breaks_c5 (grown m f e) x ≡ false
  c5_kept (Typed x) is = fewer (not (is_unsupported x.name)) (is_type m x.name) (is_type (grown m f e) x.name) (type_kept x.name) is
  c5_kept _ is = refl

  declared_kept : (s : Signature) → is_declared m s ≡ true → is_declared (grown m f e) s ≡ true
  declared_kept s =
      any_kept f (λ d. list_any (same_signature s) (signatures d)) (λ d. ap (list_any (same_signature s)) (signatures_kept f d)) m.decls (process_class e ∷ [])

  c8_kept : (x : Mention) → breaks_c8 m x ≡ false → breaks_c8 (grown m f e) x ≡ false
  c8_kept (Selector name count) is =
      fewer (not (is_primitive_selector name.name count)) (is_declared m (record { name = name.name; counts = Data count })) (is_declared (grown m f e) (record { name = name.name; counts = Data count }))
      (declared_kept (record { name = name.name; counts = Data count })) is
  c8_kept _ is = refl

  create_kept : (name : List ℕ) → may_create m name ≡ true → may_create (grown m f e) name ≡ true
  create_kept name is = by (is_primitive name) refl is
    where
      by : (b : Bool) → is_primitive name ≡ b → (if b then is_array name else is_declared_as is_data m name) ≡ true
          → may_create (grown m f e) name ≡ true
      by true prim has = rw prim has
      by false prim has = rw prim (sort_kept f e m is_data (data_same f) name has)

  c12_kept : (x : Mention) → breaks_c12 m x ≡ false → breaks_c12 (grown m f e) x ≡ false
  c12_kept (Created x) is = fewer (not (is_unsupported x.name)) (may_create m x.name) (may_create (grown m f e) x.name) (create_kept x.name) is
  c12_kept _ is = refl

  pub instances_kept : (name : List ℕ) → has_instances m name ≡ true → has_instances (grown m f e) name ≡ true
  instances_kept name is = by (is_primitive name) refl is
    where
      by : (b : Bool) → is_primitive name ≡ b → (not b && (is_declared_as is_process m name || is_declared_as is_cluster m name)) ≡ true
          → has_instances (grown m f e) name ≡ true
      by true prim has = absurd (false≢true has)
      by false prim has = rw prim (
          either (is_declared_as is_process m name) (is_declared_as is_cluster m name) (is_declared_as is_process (grown m f e) name) (is_declared_as is_cluster (grown m f e) name)
          (sort_kept f e m is_process (process_same f) name) (sort_kept f e m is_cluster (cluster_same f) name) has)

  c13_kept : (x : Mention) → breaks_c13 m x ≡ false → breaks_c13 (grown m f e) x ≡ false
  c13_kept (Instantiated x) is = fewer (not (is_unsupported x.name)) (has_instances m x.name) (has_instances (grown m f e) x.name) (instances_kept x.name) is
  c13_kept _ is = refl

  c21_kept : (was : DeclTree) (x : Mention) → breaks_c21 was x ≡ false → breaks_c21 (grown_decl f was) x ≡ false
  c21_kept was (Clock pos) is = data_same f was ∙ is
  c21_kept was _ is = refl

  c22_kept : (was : DeclTree) (x : Mention) → breaks_c22 was x ≡ false → breaks_c22 (grown_decl f was) x ≡ false
  c22_kept was (Me pos) is = ap not (data_same f was) ∙ is
  c22_kept was (Return pos) is = ap not (data_same f was) ∙ is
  c22_kept was _ is = refl

  module _ (sound : IsSound m) (reached : AncestorsAreReached) (c : ℕ) (other : c ≢ suc (length m.decls)) where
    shared_same : (was : DeclTree) → shared (grown m f e) c (grown_decl f was) ≡ shared m c was
    shared_same (data_class d) = fields_same f e m sound reached c other
    shared_same (process_class d) = variables_same f e m sound reached c other
    shared_same (cluster_class d) = refl
    shared_same (system s) = refl

    c6_kept : (was : DeclTree) (locals : List Id) (x : Mention) → breaks_c6 m c was locals x ≡ false
        → breaks_c6 (grown m f e) c (grown_decl f was) locals x ≡ false
    c6_kept was locals (Variable x) is = ap (λ (ids : List Id). not (is_among locals x.name) && not (is_among ids x.name)) (shared_same was) ∙ is
    c6_kept was locals _ is = refl

    c7_kept : (x : Mention) → breaks_c7 m c x ≡ false → breaks_c7 (grown m f e) c x ≡ false
    c7_kept (Called name inputs outputs) is =
        ap (λ (o : Option MethodId). is_none o) (method_same f e m sound reached c (record { name = name.name; counts = Process inputs outputs }) other)
        ∙ is
    c7_kept _ is = refl

    c9_kept : (x : Mention) → breaks_c9 m c x ≡ false → breaks_c9 (grown m f e) c x ≡ false
    c9_kept (Port x) is = ap (λ (ids : List Id). not (is_among ids x.name)) (ports_same f e m sound reached c other) ∙ is
    c9_kept _ is = refl

    c10_kept : (x : Mention) → breaks_c10 m c x ≡ false → breaks_c10 (grown m f e) c x ≡ false
    c10_kept (Sent port name count) is =
        ap (λ (xs : List Message). not (list_any (is_message port.name true name.name count) xs)) (messages_same f e m sound reached c other)
        ∙ is
    c10_kept (Received port name count) is =
        ap (λ (xs : List Message). not (list_any (is_message port.name false name.name count) xs)) (messages_same f e m sound reached c other)
        ∙ is
    c10_kept _ is = refl

    c11_kept : (was : DeclTree) (x : Mention) → breaks_c11 m c was x ≡ false → breaks_c11 (grown m f e) c (grown_decl f was) x ≡ false
    c11_kept was (Declared x) is =
        ap (λ (b : Bool). not (is_unsupported x.name) && b && is_none (start (grown m f e) c)) (process_same f was)
        ∙ ap (λ (o : Option StartTree). not (is_unsupported x.name) && is_process was && is_none o) (start_same f e m sound reached c other)
        ∙ is
    c11_kept was _ is = refl

    pub words_kept : (was : DeclTree) (locals : List Id) (x : Mention) → NoneHolds (broken m c was locals x)
        → NoneHolds (broken (grown m f e) c (grown_decl f was) locals x)
    words_kept was locals x (b5, (b6, (b7, (b8, (b9, (b10, (b11, (b12, (b13, (b18, (b21, (b22, _)))))))))))) = (
      c5_kept x b5,
      (
        c6_kept was locals x b6,
        (
          c7_kept x b7,
          (
            c8_kept x b8,
            (
              c9_kept x b9,
              (
                c10_kept x b10,
                (
                  c11_kept was x b11,
                  (c12_kept x b12, (c13_kept x b13, (b18, (c21_kept was x b21, (c22_kept was x b22, tt))))),
                ),
              ),
            ),
          ),
        ),
      ),
    )
