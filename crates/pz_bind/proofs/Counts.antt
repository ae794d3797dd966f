-- How much stands in the system of a sound model.
use Rattle.std.proofs.Common.{◌≡◌, refl, sym, ap, ◌∙◌, subst, ℕ, zero, suc, ◌+◌, ◌≤◌, Bool, true, false, List, [], ◌∷◌, ◌++◌, length, length-append, Option, Some, None, slice_get, if◌then◌else◌, arith}
use Rattle.std.specs.Option.{option_map_or, unwrap_or}
use Rattle.std.specs.List.{filter, flat_map}
use Rattle.pz_bind_rules.specs.pz_syntax.declared.clusters.Instance.{Instance}
use Rattle.pz_bind_rules.specs.pz_syntax.declared.clusters.Channel.{Channel as Written}
use Rattle.pz_bind_rules.specs.pz_syntax.declared.clusters.ClusterClass.{ClusterClass}
use Rattle.pz_bind_rules.specs.pz_syntax.declared.clusters.SystemDecl.{SystemDecl}
use Rattle.pz_bind_rules.specs.pz_syntax.Classes.{DeclTree, ProcessClassTree, data_class, process_class, cluster_class, system, ModelTree}
use Rattle.pz_bind_rules.specs.pz_classes_rules.Numbers.{declaration}
use Rattle.pz_bind_rules.specs.pz_classes_rules.Instances.{instances, channels, instance_class}
use Rattle.pz_bind_rules.specs.pz_classes_rules.SizeRules.{system_of, Totals, nothing, plus, all_of, one_of, expanded, system_size}
use Rattle.pz_bind_rules.specs.pz_classes_rules.SoundSystem.{SystemFits, IsLimited}
use Rattle.pz_bind_rules.proofs.pz_classes_rules_proofs.Elements.{first_in}
use Rattle.pz_bind_levels.specs.Places.{Address}
use Rattle.pz_bind_rules.specs.Nest.{first_system, each_instance, system_class, instances_in, channels_in, class_of, class_at, instances_at, instance_at, channels_at, with_inside, inside, places, is_level, is_process_at, processes}
use Rattle.pz_bind_rules.specs.Wires.{is_joined, ending, wires_at, wires}
use Rattle.pz_bind_rules.proofs.Sorts.{Sort, of_none, a_process, a_cluster, sort}
use Rattle.pz_bind_rules.proofs.Spots.{comes_next, moved_on, one_longer}

-- the weights of these places together
abbrev total : (Address → ℕ) → List Address → ℕ
total g [] = 0
total g (p ∷ ps) = g p + total g ps

total_append : (g : Address → ℕ) (ps qs : List Address) → total g (ps ++ qs) ≡ total g ps + total g qs
total_append g [] qs = omega arith
total_append g (p ∷ ps) qs = let rest : total g (ps ++ qs) ≡ total g ps + total g qs = total_append g ps qs in omega arith

abbrev a_totals : ℕ → ℕ → ℕ → Totals
a_totals p c h = record { processes = p; clusters = c; channels = h }

module _ (m : ModelTree) (f : Totals → ℕ) (g : Address → ℕ) (f_plus : (a b : Totals) → f (plus a b) ≡ f a + f b) (f_none : f nothing ≡ 0)
    (g_none : (i : ℕ) (up : Address) → declaration m (class_at m (i ∷ up)) ≡ None → g (i ∷ up) ≡ 0)
    (g_process : (i : ℕ) (up : Address) (p : ProcessClassTree) → declaration m (class_at m (i ∷ up)) ≡ Some (process_class p) → g (i ∷ up) ≡ f (a_totals 1 0 0))
    (g_cluster : (i : ℕ) (up : Address) (c : ClusterClass) → declaration m (class_at m (i ∷ up)) ≡ Some (cluster_class c) → g (i ∷ up) ≡ f (a_totals 0 1 (length (channels (cluster_class c))))) where
  no_count : (xs : List Instance) → f (all_of m (expanded m 0) xs) ≡ 0
  no_count [] = f_none
  no_count (x ∷ xs) =
      let rest : f (all_of m (expanded m 0) xs) ≡ 0 = no_count xs in
      let this : f (option_map_or (expanded m 0) (instance_class m x.class.name) nothing) ≡ 0 = by_class (instance_class m x.class.name) in
      let sum = f_plus (option_map_or (expanded m 0) (instance_class m x.class.name) nothing) (all_of m (expanded m 0) xs) in
      omega (arith, rest, this, sum)
    where
      by_class : (o : Option ℕ) → f (option_map_or (expanded m 0) o nothing) ≡ 0
      by_class None = f_none
      by_class (Some c) = f_none

  -- what is of no class counts nothing
  by_number : (depth : ℕ) (o : Option ℕ) → option_map_or (expanded m (suc depth)) o nothing ≡ expanded m (suc depth) (unwrap_or o 0)
  by_number depth None = refl
  by_number depth (Some c) = refl

  none_inside : (depth c : ℕ) (up : Address) → instances_in m c ≡ [] → total g (inside m depth c up) ≡ 0
  none_inside zero c up none = refl
  none_inside (suc depth) c up none = ap (λ xs. total g (each_instance (with_inside m (inside m depth) up) 0 xs)) none

  one_counted : (depth i : ℕ) (up : Address) (x : Instance) → instance_at m up i ≡ Some x → total g (inside m depth (class_of m x) (i ∷ up)) ≡ f (all_of m (expanded m depth) (instances_in m (class_of m x)))
      → g (i ∷ up) + total g (inside m depth (class_of m x) (i ∷ up)) ≡ f (expanded m (suc depth) (class_of m x))
  one_counted depth i up x at within = by_sort (sort m x)
    where
      class_is : class_at m (i ∷ up) ≡ class_of m x
      class_is = ap (λ (o : Option Instance). option_map_or (class_of m) o 0) at

      also : (d : Option DeclTree) → declaration m (class_of m x) ≡ d → declaration m (class_at m (i ∷ up)) ≡ d
      also d is = ap (declaration m) class_is ∙ is

      by_sort : Sort m x → g (i ∷ up) + total g (inside m depth (class_of m x) (i ∷ up)) ≡ f (expanded m (suc depth) (class_of m x))
      by_sort (of_none is) =
          let zero_class : class_of m x ≡ 0 = ap (λ (o : Option ℕ). unwrap_or o 0) is in
          let none : declaration m (class_of m x) ≡ None = ap (declaration m) zero_class in
          let own : g (i ∷ up) ≡ 0 = g_none i up (also None none) in
          let inner : total g (inside m depth (class_of m x) (i ∷ up)) ≡ 0 = none_inside depth (class_of m x) (i ∷ up) (ap (λ (o : Option DeclTree). option_map_or instances o []) none) in
          let all : f (expanded m (suc depth) (class_of m x)) ≡ 0 = ap (λ (o : Option DeclTree). f (option_map_or (one_of m (expanded m depth)) o nothing)) none ∙ f_none in
          omega (arith, own, inner, all)
      by_sort (a_process p is) =
          let own : g (i ∷ up) ≡ f (a_totals 1 0 0) = g_process i up p (also (Some (process_class p)) is) in
          let inner : total g (inside m depth (class_of m x) (i ∷ up)) ≡ 0 = none_inside depth (class_of m x) (i ∷ up) (ap (λ (o : Option DeclTree). option_map_or instances o []) is) in
          let all : f (expanded m (suc depth) (class_of m x)) ≡ f (a_totals 1 0 0) = ap (λ (o : Option DeclTree). f (option_map_or (one_of m (expanded m depth)) o nothing)) is in
          omega (arith, own, inner, all)
      by_sort (a_cluster c is) =
          let own : g (i ∷ up) ≡ f (a_totals 0 1 (length (channels (cluster_class c)))) = g_cluster i up c (also (Some (cluster_class c)) is) in
          let its : instances_in m (class_of m x) ≡ instances (cluster_class c) = ap (λ (o : Option DeclTree). option_map_or instances o []) is in
          let inner : total g (inside m depth (class_of m x) (i ∷ up)) ≡ f (all_of m (expanded m depth) (instances (cluster_class c))) = within ∙ ap (λ (xs : List Instance). f (all_of m (expanded m depth) xs)) its in
          let all : f (expanded m (suc depth) (class_of m x)) ≡ f (plus (a_totals 0 1 (length (channels (cluster_class c)))) (all_of m (expanded m depth) (instances (cluster_class c)))) = ap (λ (o : Option DeclTree). f (option_map_or (one_of m (expanded m depth)) o nothing)) is in
          let sum = f_plus (a_totals 0 1 (length (channels (cluster_class c)))) (all_of m (expanded m depth) (instances (cluster_class c))) in
          omega (arith, own, inner, all, sum)

  parts_counted : (depth : ℕ) → ((c : ℕ) (up : Address) → class_at m up ≡ c → total g (inside m depth c up) ≡ f (all_of m (expanded m depth) (instances_in m c)))
      → (up : Address) (before : List Instance) (n : ℕ) (xs : List Instance) → n ≡ length before → instances_at m up ≡ before ++ xs
      → total g (each_instance (with_inside m (inside m depth) up) n xs) ≡ f (all_of m (expanded m (suc depth)) xs)
  parts_counted depth within up before n [] size all = sym f_none
  parts_counted depth within up before n (x ∷ xs) size all =
      let here = comes_next m up before n x xs size all in
      let class_is : class_at m (n ∷ up) ≡ class_of m x = ap (λ (o : Option Instance). option_map_or (class_of m) o 0) here in
      let this : g (n ∷ up) + total g (inside m depth (class_of m x) (n ∷ up)) ≡ f (expanded m (suc depth) (class_of m x)) = one_counted depth n up x here (within (class_of m x) (n ∷ up) class_is) in
      let rest : total g (each_instance (with_inside m (inside m depth) up) (suc n) xs) ≡ f (all_of m (expanded m (suc depth)) xs) = parts_counted depth within up (before ++ x ∷ []) (suc n) xs (one_longer m before n x size) (moved_on m up before x xs all) in
      let joined : total g (inside m depth (class_of m x) (n ∷ up) ++ each_instance (with_inside m (inside m depth) up) (suc n) xs) ≡ total g (inside m depth (class_of m x) (n ∷ up)) + total g (each_instance (with_inside m (inside m depth) up) (suc n) xs) = total_append g (inside m depth (class_of m x) (n ∷ up)) (each_instance (with_inside m (inside m depth) up) (suc n) xs) in
      let class_totals : f (option_map_or (expanded m (suc depth)) (instance_class m x.class.name) nothing) ≡ f (expanded m (suc depth) (class_of m x)) = ap f (by_number depth (instance_class m x.class.name)) in
      let sum = f_plus (option_map_or (expanded m (suc depth)) (instance_class m x.class.name) nothing) (all_of m (expanded m (suc depth)) xs) in
      omega (arith, this, rest, joined, class_totals, sum)

  pub inside_counted : (depth c : ℕ) (up : Address) → class_at m up ≡ c → total g (inside m depth c up) ≡ f (all_of m (expanded m depth) (instances_in m c))
  inside_counted zero c up is = sym (no_count (instances_in m c))
  inside_counted (suc depth) c up is = parts_counted depth (inside_counted depth) up [] 0 (instances_in m c) refl (ap (instances_in m) is)

-- ---- the system

system_at : (n : ℕ) (ds : List DeclTree) (s : SystemDecl) (rest : List SystemDecl) → flat_map system_of ds ≡ s ∷ rest → (k : ℕ) × (first_system n ds ≡ k + n) × (slice_get ds k ≡ Some (system s))
system_at n [] s rest is = cc
system_at n (data_class d ∷ ds) s rest is = let r = system_at (suc n) ds s rest is in let number : first_system (suc n) ds ≡ r.0 + suc n = r.1 in (suc r.0, omega arith, r.2)
system_at n (process_class d ∷ ds) s rest is = let r = system_at (suc n) ds s rest is in let number : first_system (suc n) ds ≡ r.0 + suc n = r.1 in (suc r.0, omega arith, r.2)
system_at n (cluster_class d ∷ ds) s rest is = let r = system_at (suc n) ds s rest is in let number : first_system (suc n) ds ≡ r.0 + suc n = r.1 in (suc r.0, omega arith, r.2)
system_at n (system t ∷ ds) s rest is = let same : t ≡ s = cc in (0, omega arith, ap (λ (x : SystemDecl). Some (system x)) same)

module _ (m : ModelTree) (fits : SystemFits m) where
  abbrev s : SystemDecl
  s = fits.one_system.the_system

  the_declaration : declaration m (system_class m) ≡ Some (system s)
  the_declaration =
      let r = system_at 1 m.decls s [] fits.one_system.only in
      let number : first_system 1 m.decls ≡ r.0 + 1 = r.1 in
      let is : system_class m ≡ suc r.0 = omega arith in
      ap (declaration m) is ∙ r.2

  limited : IsLimited (system_size m s)
  limited = fits.limited s (subst (λ (ss : List SystemDecl). Rattle.std.specs.List.Contains ss s) (sym fits.one_system.only) (first_in s []))

  instances_are : instances_in m (system_class m) ≡ instances (system s)
  instances_are = ap (λ (o : Option DeclTree). option_map_or instances o []) the_declaration

  -- ---- processes

  abbrev is_one : Address → ℕ
  is_one p = if is_process_at m p then 1 else 0

  filtered_count : (ps : List Address) → length (filter (is_process_at m) ps) ≡ total is_one ps
  filtered_count [] = refl
  filtered_count (p ∷ ps) = by_test (is_process_at m p) refl (filtered_count ps)
    where
      by_test : (b : Bool) → is_process_at m p ≡ b → length (filter (is_process_at m) ps) ≡ total is_one ps → length (filter (is_process_at m) (p ∷ ps)) ≡ is_one p + total is_one ps
      by_test true is rest = rw is (omega (arith, rest))
      by_test false is rest = rw is (omega (arith, rest))

  pub few_processes : length (processes m) ≤ 10000
  few_processes =
      let inner : total is_one (inside m (length m.decls) (system_class m) []) ≡ (all_of m (expanded m (length m.decls)) (instances_in m (system_class m))).processes =
      inside_counted m (λ t. t.processes) is_one (λ a b. refl) refl
      (λ i up none. rw none refl) (λ i up p is. rw is refl) (λ i up c is. rw is refl) (length m.decls) (system_class m) [] refl in
      let counted : length (processes m) ≡ total is_one (inside m (length m.decls) (system_class m) []) = filtered_count (inside m (length m.decls) (system_class m) []) in
      let its : (all_of m (expanded m (length m.decls)) (instances_in m (system_class m))).processes ≡ (all_of m (expanded m (length m.decls)) (instances (system s))).processes = ap (λ (xs : List Instance). (all_of m (expanded m (length m.decls)) xs).processes) instances_are in
      let limit : 0 + (all_of m (expanded m (length m.decls)) (instances (system s))).processes ≤ 10000 = limited.processes in
      omega (arith, inner, counted, its, limit)

  -- ---- wires

  abbrev channel_count : Address → ℕ
  channel_count p = if is_level m p then length (channels_at m p) else 0

  few_ending : (place : Address) (k : ℕ) (hs : List Written) → length (ending m place k hs) ≤ length hs
  few_ending place k [] = omega arith
  few_ending place k (h ∷ hs) = by_test (is_joined m place h) (few_ending place (suc k) hs)
    where
      by_test : (b : Bool) → length (ending m place (suc k) hs) ≤ length hs → length ((if b then [] else (record { place = place; number = k }) ∷ []) ++ ending m place (suc k) hs) ≤ suc (length hs)
      by_test true rest = omega arith
      by_test false rest = omega arith

  few_in : (ps : List Address) → length (flat_map (wires_at m) (filter (is_level m) ps)) ≤ total channel_count ps
  few_in [] = omega arith
  few_in (p ∷ ps) = by_test (is_level m p) refl (few_in ps)
    where
      by_test : (b : Bool) → is_level m p ≡ b → length (flat_map (wires_at m) (filter (is_level m) ps)) ≤ total channel_count ps → length (flat_map (wires_at m) (filter (is_level m) (p ∷ ps))) ≤ channel_count p + total channel_count ps
      by_test true is rest = rw is (
          let own : length (wires_at m p) ≤ length (channels_at m p) = few_ending p 0 (channels_at m p) in
          let joined : length (wires_at m p ++ flat_map (wires_at m) (filter (is_level m) ps)) ≡ length (wires_at m p) + length (flat_map (wires_at m) (filter (is_level m) ps)) = length-append (wires_at m p) (flat_map (wires_at m) (filter (is_level m) ps)) in
          omega (arith, own, joined, rest))
      by_test false is rest = rw is (omega (arith, rest))

  pub few_wires : length (wires m) ≤ 1000000
  few_wires =
      let inner : total channel_count (inside m (length m.decls) (system_class m) []) ≡ (all_of m (expanded m (length m.decls)) (instances_in m (system_class m))).channels =
      inside_counted m (λ t. t.channels) channel_count (λ a b. refl) refl
      (λ i up none. rw none refl) (λ i up p is. rw is refl) (λ i up c is. rw is refl) (length m.decls) (system_class m) [] refl in
      let counted : length (wires m) ≤ length (channels_in m (system_class m)) + total channel_count (inside m (length m.decls) (system_class m) []) = few_in (places m) in
      let its : (all_of m (expanded m (length m.decls)) (instances_in m (system_class m))).channels ≡ (all_of m (expanded m (length m.decls)) (instances (system s))).channels = ap (λ (xs : List Instance). (all_of m (expanded m (length m.decls)) xs).channels) instances_are in
      let own : length (channels_in m (system_class m)) ≡ length (channels (system s)) = ap (λ (o : Option DeclTree). length (option_map_or channels o [])) the_declaration in
      let limit : length (channels (system s)) + (all_of m (expanded m (length m.decls)) (instances (system s))).channels ≤ 1000000 = limited.channels in
      omega (arith, inner, counted, its, own, limit)
