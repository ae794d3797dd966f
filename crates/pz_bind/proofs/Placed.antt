-- Where the levels, the processes and the wires of an expansion stand.
use Rattle.std.proofs.Common.{◌≡◌, refl, sym, ap, ◌∙◌, subst, ℕ, zero, suc, ◌<◌, Bool, true, false, List, [], ◌∷◌, length, Option, Some, slice_get}
use Rattle.std.specs.List.{filter}
use Rattle.std.proofs.lemmas.List.{length-map}
use Rattle.std.proofs.lemmas.Option.{slice_get_within}
use Rattle.pz_bind_rules.specs.pz_syntax.Classes.{ModelTree}
use Rattle.pz_bind_rules.specs.pz_classes_rules.Members.{ports, spelled}
use Rattle.pz_bind_rules.specs.pz_classes_rules.SoundSystem.{SystemFits}
use Rattle.pz_bind_levels.specs.declared.expansion.Standing.{Standing}
use Rattle.pz_bind_levels.specs.declared.expansion.Process.{Process}
use Rattle.pz_bind_levels.specs.declared.expansion.Expansion.{Expansion}
use Rattle.pz_bind_levels.specs.Places.{Address, Spot}
use Rattle.pz_bind_levels.specs.Places as by_number
use Rattle.pz_bind_levels.specs.Wires.{Channel}
use Rattle.pz_bind_levels.specs.devices.Expanded.{StandsAt, at_top, in_level, IsExpansion}
use Rattle.pz_bind_rules.specs.Nest.{system_class, class_at, instances_at, inside, is_level, is_process_at, places, levels, processes}
use Rattle.pz_bind_rules.specs.devices.Layouts.{layouts}
use Rattle.pz_bind.specs.devices.Sites.{LevelAt, the_system, a_cluster, AreLevels}
use Rattle.pz_bind.specs.devices.Processes.{AreProcesses, IsProcessAt, AreWires}
use Rattle.pz_bind_rules.proofs.Lists.{AreOnce, map_at, map_there}
use Rattle.pz_bind_rules.proofs.Spots.{spot_at, levels_are, processes_are, all_stand, more_stand}
use Rattle.pz_bind_rules.proofs.Wired.{wires_are}

-- what passes a test stood there before
filtered_there : {A : Type 0} (f : A → Bool) (xs : List A) (n : ℕ) (x : A) → slice_get (filter f xs) n ≡ Some x → (k : ℕ) × (slice_get xs k ≡ Some x)
filtered_there f [] n x at = cc
filtered_there {A} f (y ∷ ys) n x at = by_test (f y) refl n at (λ k here. filtered_there f ys k x here)
  where
    by_test : (b : Bool) → f y ≡ b → (n : ℕ) → slice_get (filter f (y ∷ ys)) n ≡ Some x → ((k : ℕ) → slice_get (filter f ys) k ≡ Some x → (j : ℕ) × (slice_get ys j ≡ Some x)) → (k : ℕ) × (slice_get (y ∷ ys) k ≡ Some x)
    by_test true does zero here rest = let same : Some y ≡ Some x = rw does at here in (0, same)
    by_test true does (suc k) here rest = let r = rest k (rw does at here) in (suc r.0, r.1)
    by_test false does k here rest = let r = rest k (rw does at here) in (suc r.0, r.1)

-- what is left passes
pub filtered_passes : {A : Type 0} (f : A → Bool) (xs : List A) (n : ℕ) (x : A) → slice_get (filter f xs) n ≡ Some x → f x ≡ true
filtered_passes f [] n x at = cc
filtered_passes {A} f (y ∷ ys) n x at = by_test (f y) refl n at (λ k here. filtered_passes f ys k x here)
  where
    by_test : (b : Bool) → f y ≡ b → (n : ℕ) → slice_get (filter f (y ∷ ys)) n ≡ Some x → ((k : ℕ) → slice_get (filter f ys) k ≡ Some x → f x ≡ true) → f x ≡ true
    by_test true does zero here rest = let chosen : Some y ≡ Some x = rw does at here in let same : y ≡ x = cc in subst (λ (z : A). f z ≡ true) same does
    by_test true does (suc k) here rest = rest k (rw does at here)
    by_test false does k here rest = rest k (rw does at here)

module _ (m : ModelTree) where
  -- an instance stands there
  abbrev Exists : Address → Type 0
  Exists [] = Unit {0}
  Exists (i ∷ up) = i < length (instances_at m up)

  all_exist : (n : ℕ) (p : Address) → slice_get (places m) n ≡ Some p → Exists p
  all_exist = more_stand m Exists [] (inside m (length m.decls) (system_class m) []) tt
      (all_stand m Exists (λ up n x at. slice_get_within (instances_at m up) n x at) (length m.decls) (system_class m) [] refl)

  level_exists : (n : ℕ) (p : Address) → slice_get (levels m) n ≡ Some p → Exists p
  level_exists n p at = let k = filtered_there (is_level m) (places m) n p at in all_exist k.0 p k.1

  process_exists : (n : ℕ) (p : Address) → slice_get (processes m) n ≡ Some p → Exists p
  process_exists n p at = let k = filtered_there (is_process_at m) (places m) n p at in all_exist k.0 p k.1

  abbrev ss : List Spot
  ss = by_number.levels (layouts m) (system_class m)

  -- which place a level has
  level_there : (n : ℕ) (s : Spot) → slice_get ss n ≡ Some s → slice_get (levels m) n ≡ Some s.place
  level_there n s at =
      let r = map_there (spot_at m) (levels m) n s (ap (λ (xs : List Spot). slice_get xs n) (sym (levels_are m)) ∙ at) in
      r.there ∙ ap (λ (t : Spot). Some t.place) r.is

  level_at : (n : ℕ) (o : Option Standing) (place : Address) → StandsAt ss o place → ((s : Standing) → o ≡ Some s → s.level < n) → Exists place → LevelAt m n o place
  level_at n _ _ at_top inwards exists = the_system
  level_at n _ _ (in_level s up at) inwards exists = a_cluster s up.place (inwards s refl) (level_there s.level up at) exists

  module _ (e : Expansion) (is : IsExpansion (layouts m) (system_class m) e) where
    pub expanded_levels : AreLevels m e.levels
    expanded_levels = record {
      counted = is.levels.counted ∙ (ap (λ (xs : List Spot). length xs) (levels_are m) ∙ length-map (levels m) (spot_at m));
      each = λ n l place at there.
          let spot_there : slice_get ss n ≡ Some (spot_at m place) = ap (λ (xs : List Spot). slice_get xs n) (levels_are m) ∙ map_at (spot_at m) (levels m) n place there in
          let fits = is.levels.each n l (spot_at m place) at spot_there in
          record { class = fits.class; stands = level_at n l.standing place fits.stands (λ s standing. is.inwards n l s at standing) (level_exists n place there) };
    }

    module _ (fits : SystemFits m) where
      process_at : (p : Process) (o : Option Standing) (place : Address) → StandsAt ss o place → o ≡ Some p.standing → p.class ≡ class_at m place → Exists place → IsProcessAt m p place
      process_at p _ _ at_top standing class exists = cc
      process_at p _ _ (in_level s up at) standing class exists =
          let same : s ≡ p.standing = cc in
          record {
            up = up.place;
            level = ap (λ (t : Standing). slice_get (levels m) t.level) (sym same) ∙ level_there s.level up at;
            place_is = ap (λ (t : Standing). t.part ∷ up.place) same;
            part = subst (λ (t : Standing). t.part < length (instances_at m up.place)) same exists;
            class = class;
          }

      pub expanded_processes : AreProcesses m e.processes
      expanded_processes = record {
        counted = is.processes.counted ∙ (ap (λ (xs : List Spot). length xs) (processes_are m fits) ∙ length-map (processes m) (spot_at m));
        each = λ n p place at there.
            let spot_there : slice_get (by_number.processes (layouts m) (system_class m)) n ≡ Some (spot_at m place) = ap (λ (xs : List Spot). slice_get xs n) (processes_are m fits) ∙ map_at (spot_at m) (processes m) n place there in
            let stood = is.processes.each n p (spot_at m place) at spot_there in
            process_at p (Some p.standing) place stood.stands refl stood.class (process_exists n place there);
      }

      pub expanded_wires : ((k : ℕ) → AreOnce (spelled (ports m k))) → AreWires m e.wires
      expanded_wires ports_once = record {
        counted = is.wires.counted ∙ ap (λ (cs : List Channel). length cs) (wires_are m fits ports_once);
        each = λ n w c at there.
            let numbered = is.wires.each n w c at (ap (λ (cs : List Channel). slice_get cs n) (wires_are m fits ports_once) ∙ there) in
            record { level = level_there w.level numbered.level numbered.stands ∙ ap Some (sym numbered.place); number = numbered.number };
      }
