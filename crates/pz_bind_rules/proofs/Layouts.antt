-- What stands in the levels of a model, by numbers.
use Rattle.std.proofs.Common.{◌≡◌, refl, sym, ap, ◌∙◌, subst, ℕ, zero, suc, ◌+◌, ◌<◌, List, [], ◌∷◌, map, length, Option, Some, None, slice_get, arith}
use Rattle.std.specs.Option.{option_map, option_map_or, unwrap_or}
use Rattle.std.proofs.lemmas.List.{length-map}
use Rattle.std.proofs.lemmas.Option.{slice_get-map, slice_get_within}
use Rattle.pz_classes_rules.specs.pz_syntax.declared.clusters.Instance.{Instance}
use Rattle.pz_classes_rules.specs.pz_syntax.declared.clusters.Channel.{Channel as Written}
use Rattle.pz_classes_rules.specs.pz_syntax.Classes.{DeclTree, ModelTree}
use Rattle.pz_bind_levels.specs.Layouts.{Layout, empty, layout, AreLinked}
use Rattle.pz_bind_levels.specs.Places.{Address, layout_at}
use Rattle.pz_bind_rules.specs.Nest.{system_class, instances_in, channels_in, class_of, class_at, instance_at, instances_at}
use Rattle.pz_bind_rules.specs.devices.Layouts.{part_of, outer_from, links_from, linked_by, class_layout, layouts_from, layouts}
use Rattle.pz_bind_rules.proofs.Linked.{of_channels}

module _ (m : ModelTree) where
  layouts_at : (n k : ℕ) (ds : List DeclTree) → slice_get (layouts_from m n ds) k ≡ option_map (λ d. class_layout m (k + n)) (slice_get ds k)
  layouts_at n k [] = refl
  layouts_at n zero (d ∷ ds) = let none : 0 + n ≡ n = omega arith in ap (λ c. Some (class_layout m c)) (sym none)
  layouts_at n (suc k) (d ∷ ds) = let one : suc k + n ≡ k + suc n = omega arith in layouts_at (suc n) k ds ∙ ap (λ c. option_map (λ (e : DeclTree). class_layout m c) (slice_get ds k)) (sym one)

  counted : (n : ℕ) (ds : List DeclTree) → length (layouts_from m n ds) ≡ length ds
  counted n [] = refl
  counted n (d ∷ ds) = ap suc (counted (suc n) ds)

  pub layouts_count : length (layouts m) ≡ suc (length m.decls)
  layouts_count = ap suc (counted 1 m.decls)

  pub layout_is : (c : ℕ) → layout (layouts m) c ≡ class_layout m c
  layout_is zero = refl
  layout_is (suc k) = ap (λ (o : Option Layout). unwrap_or o empty) (layouts_at 1 k m.decls) ∙ by_decl (slice_get m.decls k) refl
    where
      by_decl : (o : Option DeclTree) → slice_get m.decls k ≡ o → unwrap_or (option_map (λ d. class_layout m (k + 1)) o) empty ≡ class_layout m (suc k)
      by_decl None is = rw is refl
      by_decl (Some d) is = let one : k + 1 ≡ suc k = omega arith in ap (class_layout m) one

  pub are_linked : AreLinked (layouts m)
  are_linked class part port k = subst (λ (l : Layout). l.linked part port ≡ Some k → k < length l.outer) (sym (layout_is class)) within
    where
      within : linked_by (links_from m (instances_in m class) 0 (channels_in m class)) part port ≡ Some k → k < length (map (λ (h : Written). outer_from m class h.ends) (channels_in m class))
      within links =
          let r = of_channels m (instances_in m class) 0 (channels_in m class) part port k links in
          let number : k ≡ r.at + 0 = r.is in
          let below : r.at < length (channels_in m class) = slice_get_within (channels_in m class) r.at r.channel r.there in
          let counts : length (map (λ (h : Written). outer_from m class h.ends) (channels_in m class)) ≡ length (channels_in m class) = length-map (channels_in m class) (λ (h : Written). outer_from m class h.ends) in
          omega arith

  by_instance : (o : Option Instance) → option_map_or (λ p. layout (layouts m) p.class) (option_map (part_of m) o) empty ≡ class_layout m (option_map_or (class_of m) o 0)
  by_instance None = refl
  by_instance (Some x) = layout_is (class_of m x)

  -- the layout of the level at a place is that of its class
  pub planned : (place : Address) → layout_at (layouts m) (system_class m) place ≡ class_layout m (class_at m place)
  planned [] = layout_is (system_class m)
  planned (i ∷ up) =
      ap (λ (l : Layout). option_map_or (λ p. layout (layouts m) p.class) (slice_get l.parts i) empty) (planned up)
      ∙ (ap (λ o. option_map_or (λ p. layout (layouts m) p.class) o empty) (slice_get-map (part_of m) (instances_at m up) i)
      ∙ by_instance (instance_at m up i))
