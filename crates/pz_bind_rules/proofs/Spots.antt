-- What stands in the system, by numbers: the same, in the same order.
use Rattle.std.proofs.Common.{◌≡◌, refl, sym, ap, ◌∙◌, subst, ℕ, zero, suc, ◌+◌, ◌-◌, Bool, true, false, not, List, [], ◌∷◌, ◌++◌, append_assoc, map, length, Option, Some, None, slice_get, if◌then◌else◌, arith}
use Rattle.std.specs.Option.{option_map_or}
use Rattle.std.specs.List.{filter}
use Rattle.std.proofs.lemmas.List.{length_push, map-append}
use Rattle.pz_classes_rules.specs.pz_syntax.declared.clusters.Instance.{Instance}
use Rattle.pz_classes_rules.specs.pz_syntax.Classes.{DeclTree, ModelTree}
use Rattle.pz_classes_rules.specs.Numbers.{declaration}
use Rattle.pz_classes_rules.specs.Kinds.{is_process, is_cluster}
use Rattle.pz_classes_rules.specs.Instances.{instances}
use Rattle.pz_classes_rules.specs.SoundSystem.{SystemFits, InstanceFits}
use Rattle.pz_classes_rules.proofs.Elements.{at_place}
use Rattle.pz_bind_levels.specs.Layouts.{Layout}
use Rattle.pz_bind_levels.specs.Places.{Address, Spot, spot, the_system, each_part}
use Rattle.pz_bind_levels.specs.Places as by_number
use Rattle.pz_bind_levels.proofs.Each.{at_end}
use Rattle.pz_bind_rules.specs.Nest.{each_instance, system_class, instances_in, class_of, class_at, instances_at, instance_at, with_inside, inside, places, is_level, is_process_at, levels, processes}
use Rattle.pz_bind_rules.specs.devices.Layouts.{is_cluster_class, part_of, layouts}
use Rattle.pz_bind_rules.proofs.Layouts.{layout_is, layouts_count}
use Rattle.pz_bind_rules.proofs.Sorts.{holds_none, one_or_other}

module _ (m : ModelTree) where
  abbrev pub spot_at : Address → Spot
  spot_at place = record { place = place; class = class_at m place; is_level = is_level m place }

  -- the instance that comes behind these
  pub comes_next : (up : Address) (before : List Instance) (n : ℕ) (x : Instance) (xs : List Instance) → n ≡ length before → instances_at m up ≡ before ++ x ∷ xs → instance_at m up n ≡ Some x
  comes_next up before n x xs size all = ap (λ (ys : List Instance). slice_get ys n) all ∙ subst (λ k. slice_get (before ++ x ∷ xs) k ≡ Some x) (sym size) (at_end before x xs)

  pub moved_on : (up : Address) (before : List Instance) (x : Instance) (xs : List Instance) → instances_at m up ≡ before ++ x ∷ xs → instances_at m up ≡ (before ++ x ∷ []) ++ xs
  moved_on up before x xs all = all ∙ sym (append_assoc before (x ∷ []) xs)

  pub one_longer : (before : List Instance) (n : ℕ) (x : Instance) → n ≡ length before → suc n ≡ length (before ++ x ∷ [])
  one_longer before n x size = let more : length (before ++ x ∷ []) ≡ length before + 1 = length_push before x in omega arith

  none_inside : (depth c : ℕ) (up : Address) → instances_in m c ≡ [] → inside m depth c up ≡ []
  none_inside zero c up none = refl
  none_inside (suc depth) c up none = ap (each_instance (with_inside m (inside m depth) up) 0) none

  parts_are : (depth : ℕ) → ((c : ℕ) (up : Address) → class_at m up ≡ c → by_number.inside (layouts m) depth c up ≡ map spot_at (inside m depth c up))
      → (up : Address) (before : List Instance) (n : ℕ) (xs : List Instance) → n ≡ length before → instances_at m up ≡ before ++ xs
      → each_part (by_number.with_inside (by_number.inside (layouts m) depth) up) n (map (part_of m) xs) ≡ map spot_at (each_instance (with_inside m (inside m depth) up) n xs)
  parts_are depth within up before n [] size all = refl
  parts_are depth within up before n (x ∷ xs) size all =
      ap (λ s. s ∷ (block (is_cluster_class m (class_of m x)) ++ others)) here
      ∙ ap (λ ss. spot_at (n ∷ up) ∷ ss)
      (ap (λ ss. ss ++ others) (block_is (is_cluster_class m (class_of m x)) refl)
      ∙ (ap (λ ss. map spot_at within_x ++ ss) (parts_are depth within up (before ++ x ∷ []) (suc n) xs (one_longer before n x size) (moved_on up before x xs all))
      ∙ sym (map-append spot_at within_x (each_instance (with_inside m (inside m depth) up) (suc n) xs))))
    where
      within_x : List Address
      within_x = inside m depth (class_of m x) (n ∷ up)

      others : List Spot
      others = each_part (by_number.with_inside (by_number.inside (layouts m) depth) up) (suc n) (map (part_of m) xs)

      class_is : class_at m (n ∷ up) ≡ class_of m x
      class_is = ap (λ (o : Option Instance). option_map_or (class_of m) o 0) (comes_next up before n x xs size all)

      here : spot up n (part_of m x) ≡ spot_at (n ∷ up)
      here = ap (λ c. record { place = n ∷ up; class = c; is_level = is_cluster_class m c }) (sym class_is)

      block : Bool → List Spot
      block b = if b then by_number.inside (layouts m) depth (class_of m x) (n ∷ up) else []

      block_is : (b : Bool) → is_cluster_class m (class_of m x) ≡ b → block b ≡ map spot_at within_x
      block_is true is = within (class_of m x) (n ∷ up) class_is
      block_is false is = ap (map spot_at) (sym (none_inside depth (class_of m x) (n ∷ up) (holds_none m x is)))

  inside_is : (depth c : ℕ) (up : Address) → class_at m up ≡ c → by_number.inside (layouts m) depth c up ≡ map spot_at (inside m depth c up)
  inside_is zero c up is = refl
  inside_is (suc depth) c up is =
      ap (λ (l : Layout). each_part (by_number.with_inside (by_number.inside (layouts m) depth) up) 0 l.parts) (layout_is m c)
      ∙ parts_are depth (inside_is depth) up [] 0 (instances_in m c) refl (ap (instances_in m) is)

  pub spots_are : by_number.spots (layouts m) (system_class m) ≡ map spot_at (places m)
  spots_are =
      let count : length (layouts m) - 1 ≡ length m.decls = let n = layouts_count m in omega (arith, n) in
      ap (λ ss. the_system (system_class m) ∷ ss) (ap (λ depth. by_number.inside (layouts m) depth (system_class m) []) count ∙ inside_is (length m.decls) (system_class m) [] refl)

  filtered : (f : Spot → Bool) (g : Address → Bool) (ps : List Address) → ((n : ℕ) (p : Address) → slice_get ps n ≡ Some p → g p ≡ f (spot_at p)) → filter f (map spot_at ps) ≡ map spot_at (filter g ps)
  filtered f g [] same = refl
  filtered f g (p ∷ ps) same = by_test (f (spot_at p)) refl (filtered f g ps (λ n q at. same (suc n) q at))
    where
      by_test : (b : Bool) → f (spot_at p) ≡ b → filter f (map spot_at ps) ≡ map spot_at (filter g ps) → filter f (map spot_at (p ∷ ps)) ≡ map spot_at (filter g (p ∷ ps))
      by_test true is rest = let other : g p ≡ true = same 0 p refl ∙ is in rw (is, other) (ap (λ ss. spot_at p ∷ ss) rest)
      by_test false is rest = let other : g p ≡ false = same 0 p refl ∙ is in rw (is, other) rest

  pub levels_are : by_number.levels (layouts m) (system_class m) ≡ map spot_at (levels m)
  levels_are = ap (filter (λ (s : Spot). s.is_level)) spots_are ∙ filtered (λ s. s.is_level) (is_level m) (places m) (λ n p at. refl)

  -- ---- what holds of each instance that stands somewhere

  module _ (P : Address → Type 0) where
    abbrev pub All : List Address → Type 0
    All ps = (n : ℕ) (p : Address) → slice_get ps n ≡ Some p → P p

    pub more_stand : (p : Address) (ps : List Address) → P p → All ps → All (p ∷ ps)
    more_stand p ps is all zero q at = let same : p ≡ q = cc in subst P same is
    more_stand p ps is all (suc n) q at = all n q at

    none_stand : All []
    none_stand n p at = cc

    all_append : (ps qs : List Address) → All ps → All qs → All (ps ++ qs)
    all_append [] qs all more = more
    all_append (p ∷ ps) qs all more = more_stand p (ps ++ qs) (all 0 p refl) (all_append ps qs (λ n q at. all (suc n) q at) more)

    module _ (each : (up : Address) (n : ℕ) (x : Instance) → instance_at m up n ≡ Some x → P (n ∷ up)) where
      parts_stand : (depth : ℕ) → ((c : ℕ) (up : Address) → class_at m up ≡ c → All (inside m depth c up)) → (up : Address) (before : List Instance) (n : ℕ) (xs : List Instance) → n ≡ length before → instances_at m up ≡ before ++ xs
          → All (each_instance (with_inside m (inside m depth) up) n xs)
      parts_stand depth within up before n [] size all = none_stand
      parts_stand depth within up before n (x ∷ xs) size all =
          let here = comes_next up before n x xs size all in
          let class_is : class_at m (n ∷ up) ≡ class_of m x = ap (λ (o : Option Instance). option_map_or (class_of m) o 0) here in
          more_stand (n ∷ up) (inside m depth (class_of m x) (n ∷ up) ++ each_instance (with_inside m (inside m depth) up) (suc n) xs) (each up n x here)
          (all_append (inside m depth (class_of m x) (n ∷ up)) (each_instance (with_inside m (inside m depth) up) (suc n) xs) (within (class_of m x) (n ∷ up) class_is)
          (parts_stand depth within up (before ++ x ∷ []) (suc n) xs (one_longer before n x size) (moved_on up before x xs all)))

      pub all_stand : (depth c : ℕ) (up : Address) → class_at m up ≡ c → All (inside m depth c up)
      all_stand zero c up is = none_stand
      all_stand (suc depth) c up is = parts_stand depth (all_stand depth) up [] 0 (instances_in m c) refl (ap (instances_in m) is)

  -- ---- in a sound model all that is no level is a process

  module _ (fits : SystemFits m) where
    abbrev IsSorted : Address → Type 0
    IsSorted p = is_process_at m p ≡ not (is_level m p)

    -- an instance has its class
    has_class : (c n : ℕ) (x : Instance) → slice_get (instances_in m c) n ≡ Some x → InstanceFits m x
    has_class c n x at = by_decl (declaration m c) refl
      where
        by_decl : (o : Option DeclTree) → declaration m c ≡ o → InstanceFits m x
        by_decl None is = let wrong : None ≡ Some x = rw is at at in cc
        by_decl (Some d) is = (fits.parts_fit c d is).instances_fit x (at_place (instances d) n x (rw is at at))

    instance_sorted : (up : Address) (n : ℕ) (x : Instance) → instance_at m up n ≡ Some x → IsSorted (n ∷ up)
    instance_sorted up n x at =
        let known = has_class (class_at m up) n x at in
        let class_is : class_at m (n ∷ up) ≡ class_of m x = ap (λ (o : Option Instance). option_map_or (class_of m) o 0) at in
        subst (λ c. option_map_or is_process (declaration m c) false ≡ not (option_map_or is_cluster (declaration m c) false)) (sym class_is) (one_or_other m x known.class known.is_class)

    pub processes_are : by_number.processes (layouts m) (system_class m) ≡ map spot_at (processes m)
    processes_are = ap (filter (λ (s : Spot). not s.is_level)) spots_are ∙ filtered (λ s. not s.is_level) (is_process_at m) (places m)
        (more_stand IsSorted [] (inside m (length m.decls) (system_class m) []) refl (all_stand IsSorted instance_sorted (length m.decls) (system_class m) [] refl))
