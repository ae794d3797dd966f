-- The model with the further channels, and the closed one, have grown out of the model.
use Rattle.std.proofs.Common.{◌≡◌, refl, sym, ap, ◌∙◌, ℕ, suc, ◌+◌, List, [], ◌∷◌, ◌++◌, map, length, Option, Some, None, arith}
use Rattle.std.specs.Prelude.{codes}
use Rattle.std.specs.List.{flat_map}
use Rattle.std.specs.Option.{option_map_or, unwrap_or}
use Rattle.std.proofs.lemmas.List.{length-append}
use Rattle.pz_env_mimics.specs.pz_syntax.declared.clusters.Instance.{Instance}
use Rattle.pz_env_mimics.specs.pz_syntax.declared.clusters.Channel.{Channel}
use Rattle.pz_env_mimics.specs.pz_syntax.declared.clusters.SystemDecl.{SystemDecl}
use Rattle.pz_env_mimics.specs.pz_syntax.Classes.{DeclTree, data_class, process_class, cluster_class, system, ModelTree}
use Rattle.pz_env_mimics.specs.pz_classes_rules.Numbers.{declaration, class, spelling}
use Rattle.pz_env_mimics.specs.pz_classes_rules.Instances.{instances, channels}
use Rattle.pz_env_mimics.specs.pz_classes_rules.ClassNames.{class_names}
use Rattle.pz_env_mimics.specs.pz_classes_rules.SoundSystem.{SystemFits}
use Rattle.pz_classes_openings.specs.Methods.{declared_methods, methods}
use Rattle.pz_env_mimics.specs.pz_bind_rules.Nest.{system_class, instances_in, channels_in, channels_at}
use Rattle.pz_env_mimics.specs.pz_env_rules.Environment.{Line}
use Rattle.pz_env_mimics.specs.pz_env_rules.Ends.{first_mentions, further_channels}
use Rattle.pz_env_mimics.specs.pz_env_rules.Joining.{with_channels, decl_with, joined}
use Rattle.pz_env_mimics.specs.pz_env_tree.Names.{class_name}
use Rattle.pz_env_mimics.specs.pz_env_tree.EnvironmentClass.{environment_class}
use Rattle.pz_env_mimics.specs.pz_env_tree.ClosedTree.{environment, channel_of, closed_system, closed_decl, closed_by}
use Rattle.pz_env_grown.specs.Growth.{Alike, same, systems, Grown}
use Rattle.pz_env_grown.proofs.Alike.{of_alike}
use Rattle.pz_env_grown.proofs.Behind.{no_more, one_more, grown_so, changed, behind_there, behind_named}
use Rattle.pz_env_joined.proofs.Places.{system_declared}

pub append_nil : {A : Type 0} (xs : List A) → xs ≡ xs ++ []
append_nil [] = refl
append_nil {A} (x ∷ xs) = ap (λ (ys : List A). x ∷ ys) (append_nil xs)

-- made so from a list, and something behind it
module _ (m n : ModelTree) (f : DeclTree → DeclTree) (es : List DeclTree) (is : n.decls ≡ map f m.decls ++ es) where
  changed_part : {A : Type 0} (part : DeclTree → List A) (c : ℕ) (d : DeclTree) → declaration m c ≡ Some d
      → option_map_or part (declaration n c) [] ≡ part (f d)
  changed_part part c d at = ap (λ (o : Option DeclTree). option_map_or part o []) (changed f m n es is c d at)

  methods_of : (like : (d : DeclTree) → Alike d (f d)) (ds : List DeclTree)
      → length (flat_map declared_methods (map f ds ++ es)) ≡ length (flat_map declared_methods ds) + length (flat_map declared_methods es)
  methods_of like [] = omega arith
  methods_of like (d ∷ ds) =
      let rest = methods_of like ds in
      let here : length (declared_methods (f d)) ≡ length (declared_methods d) = ap (λ (ms : List _). length ms) (sym (of_alike declared_methods (λ s t. refl) d (f d) (like d))) in
      let one = length-append (declared_methods (f d)) (flat_map declared_methods (map f ds ++ es)) in
      let other = length-append (declared_methods d) (flat_map declared_methods ds) in
      omega (arith, rest, here, one, other)

  pub as_many_methods : ((d : DeclTree) → Alike d (f d)) → length (methods n) ≡ length (methods m) + length (flat_map declared_methods es)
  as_many_methods like = ap (λ (ds : List DeclTree). length (flat_map declared_methods ds)) is ∙ methods_of like m.decls

  names_of : (like : (d : DeclTree) → Alike d (f d)) (ds : List DeclTree) → map spelling (map f ds ++ es) ≡ map spelling ds ++ map spelling es
  names_of like [] = refl
  names_of like (d ∷ ds) =
      ap (λ (name : List ℕ). name ∷ map spelling (map f ds ++ es)) (sym (of_alike spelling (λ s t. refl) d (f d) (like d)))
      ∙ ap (λ (names : List (List ℕ)). spelling d ∷ names) (names_of like ds)

  pub more_names : ((d : DeclTree) → Alike d (f d)) → class_names n ≡ class_names m ++ map spelling es
  more_names like = ap (λ (ds : List DeclTree). codes "Array" ∷ map spelling ds) is ∙ ap (λ (names : List (List ℕ)). codes "Array" ∷ names) (names_of like m.decls)

module _ (m : ModelTree) (lines : List Line) where
  abbrev j : ModelTree
  j = joined m lines

  abbrev n : ModelTree
  n = closed_by m lines

  abbrev change : DeclTree → DeclTree
  change = decl_with (further_channels lines)

  like_joined : (d : DeclTree) → Alike d (decl_with (further_channels lines) d)
  like_joined (data_class c) = same (data_class c)
  like_joined (process_class c) = same (process_class c)
  like_joined (cluster_class c) = same (cluster_class c)
  like_joined (system s) = systems s (with_channels (further_channels lines) s)

  like_closed : (d : DeclTree) → Alike d (closed_decl lines d)
  like_closed (data_class c) = same (data_class c)
  like_closed (process_class c) = same (process_class c)
  like_closed (cluster_class c) = same (cluster_class c)
  like_closed (system s) = systems s (closed_system lines s)

  joined_is : j.decls ≡ map change m.decls ++ []
  joined_is = append_nil (map change m.decls)

  pub grown_joined : Grown m (joined m lines)
  grown_joined = grown_so change like_joined m j [] joined_is no_more

  pub grown_closed : Grown m (closed_by m lines)
  grown_closed = grown_so (closed_decl lines) like_closed m n (process_class (environment_class lines) ∷ []) refl (one_more (environment_class lines) [] refl no_more)

  pub joined_methods : length (methods (joined m lines)) ≡ length (methods m)
  joined_methods = let eq = as_many_methods m j change [] joined_is like_joined in omega (arith, eq)

  pub closed_methods : length (methods (closed_by m lines)) ≡ suc (length (methods m))
  closed_methods = let eq = as_many_methods m n (closed_decl lines) (process_class (environment_class lines) ∷ []) refl like_closed in omega (arith, eq)

  pub joined_names : class_names (joined m lines) ≡ class_names m
  joined_names = more_names m j change [] joined_is like_joined ∙ sym (append_nil (class_names m))

  pub closed_names : class_names (closed_by m lines) ≡ class_names m ++ codes "ScriptEnv" ∷ []
  closed_names = more_names m n (closed_decl lines) (process_class (environment_class lines) ∷ []) refl like_closed

  -- the class of the environment
  abbrev pub env_class : ℕ
  env_class = suc (length m.decls)

  pub env_declared : declaration (closed_by m lines) env_class ≡ Some (process_class (environment_class lines))
  env_declared = behind_there (closed_decl lines) m.decls (process_class (environment_class lines))

  pub env_named : class m class_name ≡ None → class (closed_by m lines) class_name ≡ Some env_class
  env_named none = let eq : 1 + length m.decls ≡ suc (length m.decls) = omega arith in behind_named (closed_decl lines) like_closed (process_class (environment_class lines)) class_name refl m.decls 1 none ∙ ap Some eq

  -- the system
  module _ (fits : SystemFits m) where
    abbrev s : SystemDecl
    s = (system_declared m fits).0

    in_system : instances_in m (system_class m) ≡ unwrap_or s.instances []
    in_system = ap (λ (o : Option DeclTree). option_map_or instances o []) (system_declared m fits).1

    own_channels : channels_at m [] ≡ unwrap_or s.channels []
    own_channels = ap (λ (o : Option DeclTree). option_map_or channels o []) (system_declared m fits).1

    pub joined_instances : instances_in (joined m lines) (system_class m) ≡ instances_in m (system_class m) ++ []
    joined_instances =
        changed_part m j change [] joined_is instances (system_class m) (system s) (system_declared m fits).1
        ∙ sym in_system
        ∙ append_nil (instances_in m (system_class m))

    pub closed_instances : instances_in (closed_by m lines) (system_class m) ≡ instances_in m (system_class m) ++ environment ∷ []
    closed_instances =
        changed_part m n (closed_decl lines) (process_class (environment_class lines) ∷ []) refl instances (system_class m) (system s) (system_declared m fits).1
        ∙ ap (λ (xs : List Instance). xs ++ environment ∷ []) (sym in_system)

    pub joined_channels : channels_at (joined m lines) [] ≡ channels_at m [] ++ further_channels lines
    joined_channels =
        ap (channels_in j) grown_joined.system
        ∙ changed_part m j change [] joined_is channels (system_class m) (system s) (system_declared m fits).1
        ∙ ap (λ (hs : List Channel). hs ++ further_channels lines) (sym own_channels)

    pub closed_channels : channels_at (closed_by m lines) [] ≡ channels_at m [] ++ map (channel_of lines) (first_mentions lines)
    closed_channels =
        ap (channels_in n) grown_closed.system
        ∙ changed_part m n (closed_decl lines) (process_class (environment_class lines) ∷ []) refl channels (system_class m) (system s) (system_declared m fits).1
        ∙ ap (λ (hs : List Channel). hs ++ map (channel_of lines) (first_mentions lines)) (sym own_channels)
