-- The levels, the processes and the wires of the closed model are those of the one with the further channels,
-- and one process more.
use Rattle.std.proofs.Common.{◌≡◌, refl, sym, ap, ◌∙◌, subst, ℕ, zero, suc, Bool, true, false, ◌||◌, List, [], ◌∷◌, ◌++◌, length, map, Option, Some, None, slice_get, arith}
use Rattle.std.specs.Prelude.{if◌then◌else◌}
use Rattle.std.specs.List.{AllByRecursion, filter}
use Rattle.std.specs.Option.{option_map_or, option_and_then, unwrap_or}
use Rattle.std.specs.Str.{bytes_eq}
use Rattle.std.proofs.lemmas.List.{length-append, length-map}
use Rattle.std.proofs.lemmas.Option.{slice_get_within}
use Rattle.std.proofs.lemmas.Slice.Eq.{bytes_eq-Decides}
use Rattle.pz_env_mimics.specs.pz_syntax.declared.clusters.Instance.{Instance}
use Rattle.pz_env_mimics.specs.pz_syntax.declared.clusters.Channel.{Channel}
use Rattle.pz_env_mimics.specs.pz_syntax.Classes.{DeclTree, process_class, system, ModelTree}
use Rattle.pz_env_mimics.specs.pz_classes_rules.Numbers.{declaration, class}
use Rattle.pz_env_mimics.specs.pz_classes_rules.Instances.{instances, channels, instance_class}
use Rattle.pz_env_mimics.specs.pz_classes_rules.Kinds.{is_process, is_cluster}
use Rattle.pz_env_mimics.specs.pz_classes_rules.SoundSystem.{SystemFits}
use Rattle.pz_bind_levels.specs.Places.{Address}
use Rattle.pz_env_mimics.specs.pz_bind_rules.Nest.{system_class, instances_in, channels_in, class_of, class_at, instances_at, instance_at, channels_at, each_instance, with_inside, inside, places, is_level, is_process_at, levels, processes}
use Rattle.pz_env_mimics.specs.pz_bind_rules.Names.{name_at}
use Rattle.pz_env_mimics.specs.pz_bind_rules.Connections.{names_inner}
use Rattle.pz_env_mimics.specs.pz_bind_rules.Wires.{wires}
use Rattle.pz_env_mimics.specs.pz_env_script.declared.entry.Entry.{Entry}
use Rattle.pz_env_mimics.specs.pz_env_rules.Environment.{Line}
use Rattle.pz_env_mimics.specs.pz_env_rules.Ends.{first_mentions, further_channels, channel_for}
use Rattle.pz_env_mimics.specs.pz_env_rules.Joining.{decl_with, joined}
use Rattle.pz_env_mimics.specs.pz_env_tree.Names.{class_name, instance_name}
use Rattle.pz_env_mimics.specs.pz_env_tree.EnvironmentClass.{environment_class}
use Rattle.pz_env_mimics.specs.pz_env_tree.ClosedTree.{environment, channel_of, closed_decl, closed_by}
use Rattle.pz_env_mimics.specs.pz_env_tree.Refusals.{IsFirstRefused}
use Rattle.pz_env_joined.proofs.Instances.{inner_same}
use Rattle.pz_env_joined.proofs.Places.{Stands, inside_of, got_in, system_declared, inner_at, all_stand, class_at_same, added, levels_grow, processes_grow}
use Rattle.pz_env_joined.proofs.Standing.{instance_same, name_same}
use Rattle.pz_env_joined.proofs.Wiring.{AreLike, none, next, like_behind, SameWiring, wires_same}
use Rattle.pz_env_joined.proofs.Closing.{append_nil, grown_joined, grown_closed, joined_instances, closed_instances, joined_channels, closed_channels, env_class, env_declared, env_named}
use Rattle.pz_env_joined.proofs.Accepted.{not_true, no_instance}

filter_all : {A : Type 0} (P : A → Type 0) (f : A → Bool) (xs : List A) → AllByRecursion P xs → AllByRecursion P (filter f xs)
filter_all P f [] all = tt
filter_all {A} P f (x ∷ xs) all = by (f x) refl (filter_all P f xs all.1)
  where
    by : (b : Bool) → f x ≡ b → AllByRecursion P (filter f xs) → AllByRecursion P (filter f (x ∷ xs))
    by true does rest = rw does (all.0, rest)
    by false does rest = rw does rest

pub at_place : {A : Type 0} (P : A → Type 0) (xs : List A) (i : ℕ) (x : A) → AllByRecursion P xs → slice_get xs i ≡ Some x → P x
at_place P [] i x all at = cc
at_place P (y ∷ ys) zero x all at = let eq : y ≡ x = cc in subst P eq all.0
at_place P (y ∷ ys) (suc i) x all at = at_place P ys i x all.1 at

outer_stands : (m : ModelTree) (i : ℕ) (up : Address) → Stands m (i ∷ up) → Stands m up
outer_stands m _ _ (inside_of up i x s at) = s

-- the further channels name the same ends of an instance of the system, with the environment's end and without
alike_channels : (name : List ℕ) → bytes_eq name instance_name ≡ false → (lines xs : List Line)
    → AreLike name (map channel_for xs) (map (channel_of lines) xs)
alike_channels name apart lines [] = none
alike_channels name apart lines (x ∷ xs) = next (channel_for x) (channel_of lines x) (map channel_for xs) (map (channel_of lines) xs) inner (λ port. refl) (alike_channels name apart lines xs)
  where
    inner : (port : List ℕ) → names_inner name port (channel_for x) ≡ names_inner name port (channel_of lines x)
    inner port = rw apart refl

module _ (m : ModelTree) (fits : SystemFits m) (lines : List Line) where
  abbrev j : ModelTree
  j = joined m lines

  abbrev n : ModelTree
  n = closed_by m lines

  pub some_decl : (k : ℕ) × (length m.decls ≡ suc k)
  some_decl = by (system_class m) (length m.decls) (system_declared m fits).1 refl
    where
      by : (c l : ℕ) → declaration m c ≡ Some (system (system_declared m fits).0) → length m.decls ≡ l → (k : ℕ) × (length m.decls ≡ suc k)
      by zero l at is = cc
      by (suc i) zero at is = let low = slice_get_within m.decls i (system (system_declared m fits).0) at in absurd (omega (arith, low, is))
      by (suc i) (suc k) at is = (k, is)

  joined_long : length j.decls ≡ suc some_decl.0
  joined_long = length-map m.decls (decl_with (further_channels lines)) ∙ some_decl.1

  closed_long : length n.decls ≡ suc (length m.decls)
  closed_long =
      let all = length-append (map (closed_decl lines) m.decls) (process_class (environment_class lines) ∷ []) in
      let old = length-map m.decls (closed_decl lines) in
      omega (arith, all, old)

  pub levels_joined : levels m ≡ levels j
  levels_joined = append_nil (levels m) ∙ sym (levels_grow m j fits (grown_joined m lines) [] (joined_instances m lines fits) some_decl.0 joined_long)

  pub processes_joined : processes m ≡ processes j
  processes_joined = append_nil (processes m) ∙ sym (processes_grow m j fits (grown_joined m lines) [] (joined_instances m lines fits) some_decl.0 joined_long)

  -- what stands
  pub levels_stand : AllByRecursion (Stands m) (levels m)
  levels_stand = filter_all (Stands m) (is_level m) (places m) (all_stand m fits)

  pub processes_stand : AllByRecursion (Stands m) (processes m)
  processes_stand = filter_all (Stands m) (is_process_at m) (places m) (all_stand m fits)

  -- The environment

  module _ (no_env : class m class_name ≡ None) where
    -- its place
    abbrev pub env_place : Address
    env_place = length (instances_in m (system_class m)) ∷ []

    env_is_process : instance_class n class_name ≡ Some (env_class m lines)
    env_is_process =
        let named = env_named m lines no_env in
        let sort : option_map_or is_process (option_and_then (declaration n) (class n class_name)) false ≡ true =
        ap (λ (o : Option ℕ). option_map_or is_process (option_and_then (declaration n) o) false) named
        ∙ ap (λ (o : Option DeclTree). option_map_or is_process o false) (env_declared m lines)
        in
        ap (λ (b : Bool). if b || option_map_or is_cluster (option_and_then (declaration n) (class n class_name)) false then class n class_name else None) sort
        ∙ named

    env_class_is : class_of n environment ≡ env_class m lines
    env_class_is = ap (λ (o : Option ℕ). unwrap_or o 0) env_is_process

    nothing_inside : (k : ℕ) (up : Address) → inside n k (env_class m lines) up ≡ []
    nothing_inside zero up = refl
    nothing_inside (suc k) up = ap (λ (o : Option DeclTree). each_instance (with_inside n (inside n k) up) 0 (option_map_or instances o [])) (env_declared m lines)

    added_is : (k : ℕ) → added m n fits (grown_closed m lines) (environment ∷ []) (closed_instances m lines fits) k ≡ env_place ∷ []
    added_is k = ap (λ (ps : List Address). env_place ∷ (ps ++ [])) (ap (λ (c : ℕ). inside n k c env_place) env_class_is ∙ nothing_inside k env_place)

    last_instance : (xs : List Instance) (x : Instance) → slice_get (xs ++ x ∷ []) (length xs) ≡ Some x
    last_instance [] x = refl
    last_instance (y ∷ ys) x = last_instance ys x

    pub env_instance : instance_at n [] (length (instances_in m (system_class m))) ≡ Some environment
    env_instance =
        ap (λ (c : ℕ). slice_get (instances_in n c) (length (instances_in m (system_class m)))) (grown_closed m lines).system
        ∙ ap (λ (xs : List Instance). slice_get xs (length (instances_in m (system_class m)))) (closed_instances m lines fits)
        ∙ last_instance (instances_in m (system_class m)) environment

    pub env_class_at : class_at n env_place ≡ env_class m lines
    env_class_at = ap (λ (o : Option Instance). option_map_or (class_of n) o 0) env_instance ∙ env_class_is

    env_sort : (sort : DeclTree → Bool)
        → option_map_or sort (declaration n (class_at n env_place)) false ≡ sort (process_class (environment_class lines))
    env_sort sort = ap (λ (c : ℕ). option_map_or sort (declaration n c) false) env_class_at ∙ ap (λ (o : Option DeclTree). option_map_or sort o false) (env_declared m lines)

    one_passes : (f : Address → Bool) (p : Address) → f p ≡ true → filter f (p ∷ []) ≡ p ∷ []
    one_passes f p is = rw is refl

    none_passes : (f : Address → Bool) (p : Address) → f p ≡ false → filter f (p ∷ []) ≡ []
    none_passes f p is = rw is refl

    pub levels_closed : levels m ≡ levels n
    levels_closed =
        append_nil (levels m)
        ∙ ap (λ (ps : List Address). levels m ++ ps) (sym (ap (filter (is_level n)) (added_is (length m.decls)) ∙ none_passes (is_level n) env_place (env_sort is_cluster)))
        ∙ sym (levels_grow m n fits (grown_closed m lines) (environment ∷ []) (closed_instances m lines fits) (length m.decls) closed_long)

    pub processes_closed : processes n ≡ processes m ++ env_place ∷ []
    processes_closed =
        processes_grow m n fits (grown_closed m lines) (environment ∷ []) (closed_instances m lines fits) (length m.decls) closed_long
        ∙ ap (λ (ps : List Address). processes m ++ ps) (ap (filter (is_process_at n)) (added_is (length m.decls)) ∙ one_passes (is_process_at n) env_place (env_sort is_process))

    -- Wires

    module _ (apart : (i : ℕ) → Stands m (i ∷ []) → bytes_eq (name_at m [] i) instance_name ≡ false) where
      inside_alike : (i : ℕ) (up : Address) → Stands m (i ∷ up) → channels_at j (i ∷ up) ≡ channels_at n (i ∷ up)
      inside_alike i up s =
          let inner = inner_at m fits i up s in
          let before : channels_in m (class_at m (i ∷ up)) ≡ channels_at j (i ∷ up) =
          inner_same m j (grown_joined m lines) channels (class_at m (i ∷ up)) inner
          ∙ ap (channels_in j) (class_at_same m j fits (grown_joined m lines) [] (joined_instances m lines fits) (i ∷ up) s)
          in
          let behind : channels_in m (class_at m (i ∷ up)) ≡ channels_at n (i ∷ up) =
          inner_same m n (grown_closed m lines) channels (class_at m (i ∷ up)) inner
          ∙ ap (channels_in n) (class_at_same m n fits (grown_closed m lines) (environment ∷ []) (closed_instances m lines fits) (i ∷ up) s)
          in
          sym before ∙ behind

      system_alike : (i : ℕ) → Stands m (i ∷ []) → AreLike (name_at j [] i) (channels_at j []) (channels_at n [])
      system_alike i s =
          subst (λ (name : List ℕ). AreLike name (channels_at j []) (channels_at n [])) (name_same m j fits (grown_joined m lines) [] (joined_instances m lines fits) i [] s)
          (subst (λ (hs : List Channel). AreLike (name_at m [] i) hs (channels_at n [])) (sym (joined_channels m lines fits))
          (subst (λ (hs : List Channel). AreLike (name_at m [] i) (channels_at m [] ++ further_channels lines) hs) (sym (closed_channels m lines fits))
          (like_behind (name_at m [] i) (channels_at m []) (further_channels lines) (map (channel_of lines) (first_mentions lines))
          (alike_channels (name_at m [] i) (apart i s) lines (first_mentions lines)))))

      as_many_channels : length (channels_at j []) ≡ length (channels_at n [])
      as_many_channels =
          let one = ap (λ (hs : List Channel). length hs) (joined_channels m lines fits) ∙ length-append (channels_at m []) (further_channels lines) in
          let other = ap (λ (hs : List Channel). length hs) (closed_channels m lines fits) ∙ length-append (channels_at m []) (map (channel_of lines) (first_mentions lines)) in
          let a = length-map (first_mentions lines) channel_for in
          let b = length-map (first_mentions lines) (channel_of lines) in
          omega (arith, one, other, a, b)

      pub wiring : SameWiring (Stands m) (joined m lines) (closed_by m lines)
      wiring = record {
        outer = outer_stands m;
        instances = λ i up s. sym (instance_same m j fits (grown_joined m lines) [] (joined_instances m lines fits) i up s) ∙ instance_same m n fits (grown_closed m lines) (environment ∷ []) (closed_instances m lines fits) i up s;
        inside = inside_alike;
        system = system_alike;
        as_many = as_many_channels;
      }

      pub wires_are_same : wires (joined m lines) ≡ wires (closed_by m lines)
      wires_are_same = wires_same (Stands m) j n wiring (sym levels_joined ∙ levels_closed) (subst (AllByRecursion (Stands m)) levels_joined levels_stand)

-- no instance of the system has the environment's name
pub apart_names : (m : ModelTree) (script : List Entry) → ((line : ℕ) → IsFirstRefused m script line → ⊥) → (i : ℕ)
    → Stands m (i ∷ []) → bytes_eq (name_at m [] i) instance_name ≡ false
apart_names m script accepted _ (inside_of _ i x s at) =
    not_true (bytes_eq (name_at m [] i) instance_name) (λ is.
    no_instance m script accepted x (got_in (instances_at m []) i x at) (ap (λ (o : Option Instance). option_map_or (λ y. y.name.name) o []) (sym at) ∙ (bytes_eq-Decides (name_at m [] i) instance_name).0 is))
