-- The system of a grown model: one, with one process more and the channels that are new. C19 and C20.
use Rattle.std.proofs.Common.{◌≡◌, refl, sym, ap, subst, ◌∙◌, ℕ, zero, suc, ◌+◌, ◌<◌, ◌≤◌, true, false, ◌||◌, List, [], ◌∷◌, ◌++◌, map, length, length-append, Option, Some, slice_get, arith, le-ltb, ◌⊎◌, inl, inr, ⊎_elim}
use Rattle.std.specs.List.{Contains, flat_map}
use Rattle.std.specs.Option.{option_map_or}
use Rattle.std.proofs.lemmas.Bool.{both_ways, false≢true, or_from}
use Rattle.pz_env_tree.specs.pz_syntax.declared.clusters.Instance.{Instance}
use Rattle.pz_env_tree.specs.pz_syntax.declared.clusters.Channel.{Channel}
use Rattle.pz_env_tree.specs.pz_syntax.declared.clusters.SystemDecl.{SystemDecl}
use Rattle.pz_env_tree.specs.pz_syntax.Classes.{DeclTree, ProcessClassTree, data_class, process_class, cluster_class, system, ModelTree}
use Rattle.pz_env_tree.specs.pz_check_violations.declared.violation.Violation.{Violation}
use Rattle.pz_env_tree.specs.pz_classes_rules.Numbers.{declaration}
use Rattle.pz_env_tree.specs.pz_classes_rules.Kinds.{is_process, is_cluster}
use Rattle.pz_env_tree.specs.pz_classes_rules.Reached.{AncestorsAreReached}
use Rattle.pz_env_tree.specs.pz_classes_rules.Instances.{instances, channels, instance_class}
use Rattle.pz_env_tree.specs.pz_classes_rules.RepeatRules.{Repeats}
use Rattle.pz_env_tree.specs.pz_classes_rules.SizeRules.{system_of, systems, Totals, nothing, plus, all_of, one_of, expanded, system_size, is_too_large, BreaksC19, too_large, BreaksC20, again_system, no_system}
use Rattle.pz_env_tree.specs.pz_classes_rules.SoundSystem.{SoundSystemsFit, SystemFits}
use Rattle.pz_env_tree.specs.pz_classes_rules.Soundness.{IsSound}
use Rattle.pz_env_grown.proofs.Elements.{none_in, first_in, in_cases}
use Rattle.pz_env_grown.proofs.Paths.{IsPart, part_of}
use Rattle.pz_env_sound.proofs.Grown.{grown_decl, grown, decls_counted, declaration_old, declaration_new}
use Rattle.pz_env_sound.proofs.NewParts.{IsFresh, Gains}
use Rattle.pz_env_sound.proofs.RepeatsInParts.{one_repeats}
use Rattle.pz_env_sound.proofs.Instances.{has_class, class_of_new}
use Rattle.pz_env_sound.proofs.Channels.{Joins}
use Rattle.pz_env_sound.proofs.Depth.{all_alike, deep_enough}

-- a system among declarations
declared_in : (ds : List DeclTree) (s : SystemDecl) → Contains (flat_map system_of ds) s → (k : ℕ) × (slice_get ds k ≡ Some (system s))
declared_in [] s has = absurd (none_in s has)
declared_in (data_class c ∷ ds) s has = let r = declared_in ds s has in (suc r.0, r.1)
declared_in (process_class c ∷ ds) s has = let r = declared_in ds s has in (suc r.0, r.1)
declared_in (cluster_class c ∷ ds) s has = let r = declared_in ds s has in (suc r.0, r.1)
declared_in (system t ∷ ds) s has = by (in_cases t (flat_map system_of ds) s has) (declared_in ds s)
  where
    by : (t ≡ s) ⊎ Contains (flat_map system_of ds) s → (Contains (flat_map system_of ds) s → (k : ℕ) × (slice_get ds k ≡ Some (system s)))
        → (k : ℕ) × (slice_get (system t ∷ ds) k ≡ Some (system s))
    by (inl same) rest = (0, ap (λ (x : SystemDecl). Some (system x)) same)
    by (inr later) rest = let r = rest later in (suc r.0, r.1)

pub system_declared : (m : ModelTree) (s : SystemDecl) → Contains (systems m) s → (c : ℕ) × (declaration m c ≡ Some (system s))
system_declared m s has = let r = declared_in m.decls s has in (suc r.0, r.1)

module _ (f : SystemDecl → SystemDecl) (e : ProcessClassTree) where
  systems_in : (ds : List DeclTree) → flat_map system_of (map (grown_decl f) ds ++ process_class e ∷ []) ≡ map f (flat_map system_of ds)
  systems_in [] = refl
  systems_in (data_class c ∷ ds) = systems_in ds
  systems_in (process_class c ∷ ds) = systems_in ds
  systems_in (cluster_class c ∷ ds) = systems_in ds
  systems_in (system s ∷ ds) = ap (λ (xs : List SystemDecl). f s ∷ xs) (systems_in ds)

  pub systems_grown : (m : ModelTree) → systems (grown m f e) ≡ map f (systems m)
  systems_grown m = systems_in m.decls

  -- one instance more
  record OneMore (m : ModelTree) (g : ℕ → Totals) (xs : List Instance) (i : Instance) (t : Totals) : Type 0 where
    pub processes : (all_of m g (xs ++ i ∷ [])).processes ≡ (all_of m g xs).processes + t.processes
    pub clusters : (all_of m g (xs ++ i ∷ [])).clusters ≡ (all_of m g xs).clusters + t.clusters
    pub channels : (all_of m g (xs ++ i ∷ [])).channels ≡ (all_of m g xs).channels + t.channels

  one_more : (m : ModelTree) (g : ℕ → Totals) (xs : List Instance) (i : Instance) (t : Totals)
      → option_map_or g (instance_class m i.class.name) nothing ≡ t → OneMore m g xs i t
  one_more m g [] i t is =
      let p : (option_map_or g (instance_class m i.class.name) nothing).processes ≡ t.processes = ap (λ (u : Totals). u.processes) is in
      let k : (option_map_or g (instance_class m i.class.name) nothing).clusters ≡ t.clusters = ap (λ (u : Totals). u.clusters) is in
      let h : (option_map_or g (instance_class m i.class.name) nothing).channels ≡ t.channels = ap (λ (u : Totals). u.channels) is in
      record { processes = omega (arith, p); clusters = omega (arith, k); channels = omega (arith, h) }
  one_more m g (x ∷ xs) i t is =
      let rest = one_more m g xs i t is in
      let p = rest.processes in
      let k = rest.clusters in
      let h = rest.channels in
      record { processes = omega (arith, p); clusters = omega (arith, k); channels = omega (arith, h) }

module _ (f : SystemDecl → SystemDecl) (e : ProcessClassTree) (i : Instance) (more : List Channel) (m : ModelTree) (gains : Gains f e i)
    (joins : Joins f more) (sound : IsSound m) (reached : AncestorsAreReached) (fresh : IsFresh m e) (systems_fit : SoundSystemsFit) where
  fits : SystemFits m
  fits = systems_fit m sound

  -- what stands in a class is what stood in it
  counted_before : (l b : ℕ) → IsPart m b → expanded (grown m f e) l b ≡ expanded m l b
  counted_before zero b part = refl
  counted_before (suc l) b part =
      ap (λ (o : Option DeclTree). option_map_or (one_of (grown m f e) (expanded (grown m f e) l)) o nothing) (declaration_old f e m b part.decl part.declared)
      ∙ by part.decl part.declared part.sort (counted_before l)
      ∙ sym (ap (λ (o : Option DeclTree). option_map_or (one_of m (expanded m l)) o nothing) part.declared)
    where
      by : (d : DeclTree) → declaration m b ≡ Some d → is_process d || is_cluster d ≡ true
          → ((k : ℕ) → IsPart m k → expanded (grown m f e) l k ≡ expanded m l k)
          → one_of (grown m f e) (expanded (grown m f e) l) (grown_decl f d) ≡ one_of m (expanded m l) d
      by (data_class c) at sort rest = refl
      by (process_class c) at sort rest = refl
      by (cluster_class c) at sort rest =
          ap (plus (record { processes = 0; clusters = 1; channels = length (channels (cluster_class c)) }))
          (all_alike (grown m f e) m (expanded (grown m f e) l) (expanded m l) (instances (cluster_class c)) alike)
        where
          alike : (j : Instance) → Contains (instances (cluster_class c)) j
              → option_map_or (expanded (grown m f e) l) (instance_class (grown m f e) j.class.name) nothing ≡ option_map_or (expanded m l) (instance_class m j.class.name) nothing
          alike j has =
              let its = has_class f e i m gains sound reached fresh systems_fit b (cluster_class c) at j has in
              ap (λ (o : Option ℕ). option_map_or (expanded (grown m f e) l) o nothing) its.is
              ∙ rest its.number (part_of m j.class.name its.number its.was)
              ∙ sym (ap (λ (o : Option ℕ). option_map_or (expanded m l) o nothing) its.was)
      by (system s) at sort rest = absurd (false≢true sort)

  new_counted : (l : ℕ)
      → option_map_or (expanded (grown m f e) (suc l)) (instance_class (grown m f e) i.class.name) nothing ≡ record { processes = 1; clusters = 0; channels = 0 }
  new_counted l =
      ap (λ (o : Option ℕ). option_map_or (expanded (grown m f e) (suc l)) o nothing) (class_of_new f e i m gains sound reached fresh)
      ∙ ap (λ (o : Option DeclTree). option_map_or (one_of (grown m f e) (expanded (grown m f e) l)) o nothing) (declaration_new f e m)

  module _ (s : SystemDecl) (there : Contains (systems m) s) where
    -- the instances that were there
    before : all_of (grown m f e) (expanded (grown m f e) (suc (length m.decls))) (instances (system s)) ≡ all_of m (expanded m (length m.decls)) (instances (system s))
    before = all_alike (grown m f e) m (expanded (grown m f e) (suc (length m.decls))) (expanded m (length m.decls)) (instances (system s)) alike
      where
        at : (c : ℕ) × (declaration m c ≡ Some (system s))
        at = system_declared m s there

        alike : (j : Instance) → Contains (instances (system s)) j
            → option_map_or (expanded (grown m f e) (suc (length m.decls))) (instance_class (grown m f e) j.class.name) nothing ≡ option_map_or (expanded m (length m.decls)) (instance_class m j.class.name) nothing
        alike j has =
            let its = has_class f e i m gains sound reached fresh systems_fit at.0 (system s) at.1 j has in
            let part = part_of m j.class.name its.number its.was in
            ap (λ (o : Option ℕ). option_map_or (expanded (grown m f e) (suc (length m.decls))) o nothing) its.is
            ∙ counted_before (suc (length m.decls)) its.number part
            ∙ deep_enough m fits its.number part
            ∙ sym (ap (λ (o : Option ℕ). option_map_or (expanded m (length m.decls)) o nothing) its.was)

    abbrev all_now : Totals
    all_now = all_of (grown m f e) (expanded (grown m f e) (suc (length m.decls))) (instances (system (f s)))

    abbrev all_before : Totals
    all_before = all_of m (expanded m (length m.decls)) (instances (system s))

    pub record IsOneMore : Type 0 where
      pub processes : all_now.processes ≡ all_before.processes + 1
      pub clusters : all_now.clusters ≡ all_before.clusters
      pub channels : all_now.channels ≡ all_before.channels

    grown_by_one : IsOneMore
    grown_by_one =
        let added =
        one_more f e (grown m f e) (expanded (grown m f e) (suc (length m.decls))) (instances (system s)) i (record { processes = 1; clusters = 0; channels = 0 }) (new_counted (length m.decls)) in
        let all : all_now ≡ all_of (grown m f e) (expanded (grown m f e) (suc (length m.decls))) (instances (system s) ++ i ∷ []) =
        ap (all_of (grown m f e) (expanded (grown m f e) (suc (length m.decls)))) (gains.instances s) in
        let p : all_now.processes ≡ (all_of (grown m f e) (expanded (grown m f e) (suc (length m.decls))) (instances (system s))).processes + 1 =
        ap (λ (t : Totals). t.processes) all ∙ added.processes in
        let k : all_now.clusters ≡ (all_of (grown m f e) (expanded (grown m f e) (suc (length m.decls))) (instances (system s))).clusters + 0 =
        ap (λ (t : Totals). t.clusters) all ∙ added.clusters in
        let h : all_now.channels ≡ (all_of (grown m f e) (expanded (grown m f e) (suc (length m.decls))) (instances (system s))).channels + 0 =
        ap (λ (t : Totals). t.channels) all ∙ added.channels in
        let bp : (all_of (grown m f e) (expanded (grown m f e) (suc (length m.decls))) (instances (system s))).processes ≡ all_before.processes =
        ap (λ (t : Totals). t.processes) before in
        let bk : (all_of (grown m f e) (expanded (grown m f e) (suc (length m.decls))) (instances (system s))).clusters ≡ all_before.clusters =
        ap (λ (t : Totals). t.clusters) before in
        let bh : (all_of (grown m f e) (expanded (grown m f e) (suc (length m.decls))) (instances (system s))).channels ≡ all_before.channels =
        ap (λ (t : Totals). t.channels) before in
        record { processes = omega (arith, p, bp); clusters = omega (arith, k, bk); channels = omega (arith, h, bh) }

    channels_now : length (channels (system (f s))) ≡ length (channels (system s)) + length more
    channels_now = ap length (joins s) ∙ length-append (channels (system s)) more

    small : (system_size m s).processes < 10000 → (system_size m s).channels + length more ≤ 1000000
        → is_too_large (system_size (grown m f e) (f s)) ≡ false
    small few narrow = ap (λ (n : ℕ). is_too_large (one_of (grown m f e) (expanded (grown m f e) n) (system (f s)))) (decls_counted f e m) ∙ its
      where
        its : is_too_large (one_of (grown m f e) (expanded (grown m f e) (suc (length m.decls))) (system (f s))) ≡ false
        its =
            let one = grown_by_one in
            let p = one.processes in
            let k = one.clusters in
            let h = one.channels in
            let own = channels_now in
            let fewp : 0 + all_before.processes < 10000 = few in
            let fewk : 0 + all_before.clusters ≤ 10000 = (fits.limited s there).clusters in
            let fewh : length (channels (system s)) + all_before.channels + length more ≤ 1000000 = narrow in
            or_from _ _
            (or_from _ _ (le-ltb 10000 (0 + all_now.processes) (omega (arith, p, fewp))) (le-ltb 10000 (0 + all_now.clusters) (omega (arith, k, fewk))))
            (le-ltb 1000000 (length (channels (system (f s))) + all_now.channels) (omega (arith, h, own, fewh)))

  only : systems (grown m f e) ≡ f fits.one_system.the_system ∷ []
  only = systems_grown f e m ∙ ap (map f) fits.one_system.only

  pub not_too_large : ((s : SystemDecl) → Contains (systems m) s → ((system_size m s).processes < 10000) × ((system_size m s).channels + length more ≤ 1000000))
      → (v : Violation) → BreaksC19 (grown m f e) v → ⊥
  not_too_large room _ (too_large d sized has large) =
      let s = fits.one_system.the_system in
      let there : Contains (systems m) s = subst (λ (xs : List SystemDecl). Contains xs s) (sym fits.one_system.only) (first_in s []) in
      let limits = room s there in
      let same : f s ≡ d =
      ⊎_elim (λ is. is) (λ none. absurd (none_in d none)) (in_cases (f s) [] d (subst (λ (xs : List SystemDecl). Contains xs d) only has)) in
      both_ways (is_too_large (system_size (grown m f e) d))
      (ap (λ (x : SystemDecl). is_too_large (system_size (grown m f e) x)) (sym same) ∙ small s there limits.0 limits.1) large

  no_empty : (x : SystemDecl) → x ∷ [] ≡ [] → ⊥
  no_empty x is = cc

  pub one_system : (v : Violation) → BreaksC20 (grown m f e) v → ⊥
  one_system _ (again_system d again) =
      one_repeats (λ x y. true) (λ (x : SystemDecl). x.pos) (f fits.one_system.the_system) d
      (subst (λ (xs : List SystemDecl). Repeats (λ x y. true) (λ (x : SystemDecl). x.pos) xs d) only again)
  one_system _ (no_system none) = no_empty (f fits.one_system.the_system) (sym only ∙ none)
