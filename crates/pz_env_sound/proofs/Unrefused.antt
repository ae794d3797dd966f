-- What holds of a system and a script that is not refused.
use Rattle.std.proofs.Common.{◌≡◌, refl, sym, ap, subst, ◌∙◌, ℕ, zero, suc, ◌+◌, ◌<◌, ◌≤◌, Bool, true, false, not, ◌||◌, nat_le, nat_lt, List, [], ◌∷◌, length, Option, Some, None, if◌then◌else◌, slice_get, arith, ◌⊎◌, inl, inr}
use Rattle.std.specs.List.{Contains, list_any, flat_map}
use Rattle.std.specs.Option.{is_some, option_map_or}
use Rattle.std.specs.Str.{bytes_eq}
use Rattle.std.proofs.lemmas.Bool.{both_ways, or_parts}
use Rattle.std.proofs.lemmas.Bool.Decides.{nat_tests}
use Rattle.pz_env_tree.specs.pz_syntax.declared.clusters.Instance.{Instance}
use Rattle.pz_env_tree.specs.pz_syntax.declared.clusters.SystemDecl.{SystemDecl}
use Rattle.pz_env_tree.specs.pz_syntax.Classes.{DeclTree, data_class, process_class, cluster_class, system, ModelTree}
use Rattle.pz_env_tree.specs.pz_classes_rules.Numbers.{declaration, class}
use Rattle.pz_env_tree.specs.pz_classes_rules.Instances.{instances, channels}
use Rattle.pz_env_tree.specs.pz_classes_rules.SizeRules.{system_of, systems, system_size}
use Rattle.pz_env_tree.specs.pz_classes_rules.SoundSystem.{SystemFits}
use Rattle.pz_env_tree.specs.pz_bind_rules.Nest.{first_system, system_class, instances_at, channels_at}
use Rattle.pz_env_tree.specs.pz_env_script.declared.entry.Entry.{Entry}
use Rattle.pz_env_tree.specs.pz_env_rules.Environment.{Line, lines_from, lines_of}
use Rattle.pz_env_tree.specs.Names.{class_name, instance_name}
use Rattle.pz_env_tree.specs.Refusals.{IsFirstRefused, full_processes, most_channels}
use Rattle.pz_env_tree.specs.Laws.{RefusalsAreComputed}
use Rattle.pz_env_tree.specs.devices.Refused.{is_named_so, is_crowded, is_wide, is_full, is_port, is_taken, is_bad, first_bad, refused}
use Rattle.pz_env_grown.proofs.Elements.{none_in, first_in, later_in, in_cases}
use Rattle.pz_env_grown.proofs.Numbers.{none_some, some_same}

-- Tests

pub any_none : {A : Type 0} (p : A → Bool) (xs : List A) → list_any p xs ≡ false → (x : A) → Contains xs x → p x ≡ false
any_none p [] is x has = absurd (none_in x has)
any_none p (y ∷ ys) is x has = by (in_cases y ys x has) (any_none p ys (or_parts (p y) (list_any p ys) is).1 x)
  where
    by : (y ≡ x) ⊎ Contains ys x → (Contains ys x → p x ≡ false) → p x ≡ false
    by (inl same) rest = ap p (sym same) ∙ (or_parts (p y) (list_any p ys) is).0
    by (inr later) rest = rest later

no_class : (o : Option ℕ) → is_some o ≡ false → o ≡ None
no_class None is = refl
no_class (Some n) is = absurd (both_ways true is refl)

not_le : (a b : ℕ) → nat_le a b ≡ false → b < a
not_le a b is = grind (arith, nat_tests)

not_lt : (a b : ℕ) → nat_lt a b ≡ false → b ≤ a
not_lt a b is = grind (arith, nat_tests)

-- Lines and entries

pub lines_counted : (n : ℕ) (es : List Entry) → length (lines_from n es) ≡ length es
lines_counted n [] = refl
lines_counted n (e ∷ es) = ap (λ (k : ℕ). suc k) (lines_counted (suc n) es)

pub entry_in : (n : ℕ) (es : List Entry) (x : Line) → Contains (lines_from n es) x → Contains es x.entry
entry_in n [] x has = absurd (none_in x has)
entry_in n (e ∷ es) x has = by (in_cases (record { number = n; entry = e }) (lines_from (suc n) es) x has) (entry_in (suc n) es x)
  where
    by : ((record { number = n; entry = e }) ≡ x) ⊎ Contains (lines_from (suc n) es) x
        → (Contains (lines_from (suc n) es) x → Contains es x.entry) → Contains (e ∷ es) x.entry
    by (inl same) rest = subst (λ (y : Line). Contains (e ∷ es) y.entry) same (first_in e es)
    by (inr later) rest = later_in e es x.entry (rest later)

module _ (m : ModelTree) where
  none_bad : (n : ℕ) (es : List Entry) → first_bad m n es ≡ None → (e : Entry) → Contains es e → is_bad m e ≡ false
  none_bad n [] is e has = absurd (none_in e has)
  none_bad n (x ∷ es) is e has = by_test (is_bad m x) refl is (λ later. none_bad (suc n) es later e)
    where
      by_test : (b : Bool) → is_bad m x ≡ b → (if b then Some n else first_bad m (suc n) es) ≡ None
          → (first_bad m (suc n) es ≡ None → Contains es e → is_bad m e ≡ false) → is_bad m e ≡ false
      by_test true bad h rest = absurd (none_some n (sym h))
      by_test false good h rest = by (in_cases x es e has)
        where
          by : (x ≡ e) ⊎ Contains es e → is_bad m e ≡ false
          by (inl same) = ap (is_bad m) (sym same) ∙ good
          by (inr later) = rest h later

  -- what is not refused
  pub record IsUnrefused (script : List Entry) : Type 0 where
    pub unknown : class m class_name ≡ None
    pub unnamed : (j : Instance) → Contains (instances_at m []) j → bytes_eq j.name.name instance_name ≡ false
    pub processes : (s : SystemDecl) → Contains (systems m) s → (system_size m s).processes < 10000
    pub channels : (s : SystemDecl) → Contains (systems m) s → (system_size m s).channels ≤ 900000
    pub ports : (x : Line) → Contains (lines_of script) x → is_port m x.entry ≡ true
    pub untaken : (x : Line) → Contains (lines_of script) x → is_taken m x.entry ≡ false

  pub unrefused : RefusalsAreComputed → (script : List Entry) → ((line : ℕ) → IsFirstRefused m script line → ⊥) → IsUnrefused script
  unrefused computed script never = record {
    unknown = no_class (class m class_name) room.0;
    unnamed = λ j has. any_none (λ x. bytes_eq x.name.name instance_name) (instances_at m []) (rest room.1).0 j has;
    processes =
        λ s has. not_le full_processes (system_size m s).processes (any_none (λ t. nat_le full_processes (system_size m t).processes) (systems m) (last (rest room.1).1).0 s has);
    channels =
        λ s has. not_lt most_channels (system_size m s).channels (any_none (λ t. nat_lt most_channels (system_size m t).channels) (systems m) (last (rest room.1).1).1 s has);
    ports = λ x has. not_not (is_port m x.entry) (good x has).0;
    untaken = λ x has. (good x has).1;
  }
    where
      none : (o : Option ℕ) → refused m script ≡ o → o ≡ None
      none None is = refl
      none (Some line) is = absurd (never line ((computed m script line).1 is))

      by_room : (b : Bool) → is_full m ≡ b → (if b then Some 1 else first_bad m 1 script) ≡ None
          → (is_full m ≡ false) × (first_bad m 1 script ≡ None)
      by_room true full h = absurd (none_some 1 (sym h))
      by_room false full h = (full, h)

      both : (is_full m ≡ false) × (first_bad m 1 script ≡ None)
      both = by_room (is_full m) refl (none (refused m script) refl)

      room : (is_some (class m class_name) ≡ false) × (is_named_so m || (is_crowded m || is_wide m) ≡ false)
      room = or_parts (is_some (class m class_name)) (is_named_so m || (is_crowded m || is_wide m)) both.0

      rest : is_named_so m || (is_crowded m || is_wide m) ≡ false → (is_named_so m ≡ false) × (is_crowded m || is_wide m ≡ false)
      rest is = or_parts (is_named_so m) (is_crowded m || is_wide m) is

      last : is_crowded m || is_wide m ≡ false → (is_crowded m ≡ false) × (is_wide m ≡ false)
      last is = or_parts (is_crowded m) (is_wide m) is

      good : (x : Line) → Contains (lines_of script) x → (not (is_port m x.entry) ≡ false) × (is_taken m x.entry ≡ false)
      good x has = or_parts (not (is_port m x.entry)) (is_taken m x.entry) (none_bad 1 script both.1 x.entry (entry_in 1 script x has))

      not_not : (b : Bool) → not b ≡ false → b ≡ true
      not_not true is = refl
      not_not false is = absurd (both_ways true is refl)

-- The system of the model

system_in : (ds : List DeclTree) (k : ℕ) (s : SystemDecl) → slice_get ds k ≡ Some (system s) → Contains (flat_map system_of ds) s
system_in [] k s is = absurd (none_some (system s) is)
system_in (d ∷ ds) zero s is =
    subst (λ (x : DeclTree). Contains (flat_map system_of (x ∷ ds)) s) (sym (some_same d (system s) is)) (first_in s (flat_map system_of ds))
system_in (data_class c ∷ ds) (suc k) s is = system_in ds k s is
system_in (process_class c ∷ ds) (suc k) s is = system_in ds k s is
system_in (cluster_class c ∷ ds) (suc k) s is = system_in ds k s is
system_in (system t ∷ ds) (suc k) s is = later_in t (flat_map system_of ds) s (system_in ds k s is)

first_at : (n : ℕ) (ds : List DeclTree) (s : SystemDecl) (rest : List SystemDecl) → flat_map system_of ds ≡ s ∷ rest
    → (k : ℕ) × (first_system n ds ≡ n + k) × (slice_get ds k ≡ Some (system s))
first_at n [] s rest is = cc
first_at n (data_class d ∷ ds) s rest is =
    let r = first_at (suc n) ds s rest is in let number : first_system (suc n) ds ≡ suc n + r.0 = r.1 in (suc r.0, omega (arith, number), r.2)
first_at n (process_class d ∷ ds) s rest is =
    let r = first_at (suc n) ds s rest is in let number : first_system (suc n) ds ≡ suc n + r.0 = r.1 in (suc r.0, omega (arith, number), r.2)
first_at n (cluster_class d ∷ ds) s rest is =
    let r = first_at (suc n) ds s rest is in let number : first_system (suc n) ds ≡ suc n + r.0 = r.1 in (suc r.0, omega (arith, number), r.2)
first_at n (system t ∷ ds) s rest is = let same : t ≡ s = cc in (0, omega arith, ap (λ (x : SystemDecl). Some (system x)) same)

module _ (m : ModelTree) (fits : SystemFits m) where
  pub system_there : (c : ℕ) (s : SystemDecl) → declaration m c ≡ Some (system s) → Contains (systems m) s
  system_there zero s is = absurd (none_some (system s) is)
  system_there (suc k) s is = system_in m.decls k s is

  only_system : (c : ℕ) (s : SystemDecl) → declaration m c ≡ Some (system s) → fits.one_system.the_system ≡ s
  only_system c s is =
      by (in_cases fits.one_system.the_system [] s (subst (λ (xs : List SystemDecl). Contains xs s) fits.one_system.only (system_there c s is)))
    where
      by : (fits.one_system.the_system ≡ s) ⊎ Contains [] s → fits.one_system.the_system ≡ s
      by (inl same) = same
      by (inr none) = absurd (none_in s none)

  declared_first : declaration m (system_class m) ≡ Some (system fits.one_system.the_system)
  declared_first =
      let r = first_at 1 m.decls fits.one_system.the_system [] fits.one_system.only in
      let number : first_system 1 m.decls ≡ 1 + r.0 = r.1 in
      let is : system_class m ≡ suc r.0 = omega (arith, number) in
      ap (declaration m) is ∙ r.2

  pub system_instances : (c : ℕ) (s : SystemDecl) → declaration m c ≡ Some (system s) → instances_at m [] ≡ instances (system s)
  system_instances c s is =
      ap (λ (o : Option DeclTree). option_map_or instances o []) declared_first
      ∙ ap (λ (t : SystemDecl). instances (system t)) (only_system c s is)

  pub system_channels : (c : ℕ) (s : SystemDecl) → declaration m c ≡ Some (system s) → channels_at m [] ≡ channels (system s)
  system_channels c s is =
      ap (λ (o : Option DeclTree). option_map_or channels o []) declared_first
      ∙ ap (λ (t : SystemDecl). channels (system t)) (only_system c s is)
