-- A ring has one system, which is not too large.
use Rattle.std.proofs.Common.{◌≡◌, refl, sym, ◌∙◌, ap, ℕ, ◌+◌, ◌≤◌, true, false, List, [], ◌∷◌, length, map, arith, le-ltb, length-append}
use Rattle.std.specs.List.{AllByRecursion}
use Rattle.std.proofs.lemmas.Bool.{both_ways, or_from}
use Rattle.std.proofs.lemmas.List.{length-map}
use Rattle.std.proofs.lemmas.List.FromFn.{length-range_with_len}
use Rattle.std.proofs.lemmas.List.Elements.{All-contains, All-from_recursion}
use Rattle.pz_classes_rules.specs.pz_syntax.declared.tokens.Pos.{Pos}
use Rattle.pz_classes_rules.specs.pz_syntax.declared.clusters.Instance.{Instance}
use Rattle.pz_classes_rules.specs.pz_syntax.declared.clusters.SystemDecl.{SystemDecl}
use Rattle.pz_classes_rules.specs.pz_check_violations.declared.violation.Violation.{Violation}
use Rattle.pz_classes_rules.specs.SizeRules.{systems, BreaksC20, again_system, no_system, Totals, all_of, expanded, system_size, is_too_large, BreaksC19, too_large}
use Rattle.pz_gen.specs.Ring.{name}
use Rattle.pz_gen_laws.specs.devices.RingBits.{stations}
use Rattle.pz_gen_laws.specs.devices.RingTree.{with_system}
use Rattle.pz_gen_laws.specs.devices.RingParts.{IsPart, a_station, the_supervisor, instances_in, channels_in, part_name, part_names}
use Rattle.pz_gen_laws.proofs.Distinct.{no_repeat}

module _ where
  names_count : (n : ℕ) → length (part_names (stations n)) ≡ n + 1
  names_count n = omega (arith, length-append (map name (stations n)) ((name 0) ∷ []), length-append (map name (stations n)) (part_names []), length-map (stations n) name, length-range_with_len 0 n)

module _ (at : ℕ → Pos) (s : SystemDecl) where
  pub one_system : (v : Violation) → BreaksC20 (with_system at s) v → ⊥
  one_system v (again_system d again) = no_repeat {K = Unit {0}} (λ x y. true) (λ (x : SystemDecl). x.pos) (λ (x : SystemDecl). tt) (λ x y same. refl) (systems (with_system at s)) d (tt, tt) again
  one_system v (no_system e) = cc

  -- each part is one process
  counts : (is : List Instance) → Totals
  counts is = all_of (with_system at s) (expanded (with_system at s) 3) is

  part_counts : (i : Instance) (is : List Instance) → IsPart i → ((counts (i ∷ is)).processes ≡ 1 + (counts is).processes) × ((counts (i ∷ is)).clusters ≡ 0 + (counts is).clusters) × ((counts (i ∷ is)).channels ≡ 0 + (counts is).channels)
  unfolding counts
  part_counts i is (a_station j first p q r u) = (refl, refl, refl)
  part_counts i is (the_supervisor p q) = (refl, refl, refl)

  all_count : (is : List Instance) → AllByRecursion IsPart is → ((counts is).processes ≡ length is) × ((counts is).clusters ≡ 0) × ((counts is).channels ≡ 0)
  unfolding counts
  all_count [] all = (refl, refl, refl)
  all_count (i ∷ is) all =
      let this = part_counts i is all.0 in
      let others = all_count is all.1 in
      (omega (arith, this.0, others.0), omega (arith, this.1, others.1), omega (arith, this.2, others.2))

  module _ (n : ℕ) (few : n ≤ 1000) (are : AllByRecursion IsPart (instances_in s)) (names : map part_name (instances_in s) ≡ part_names (stations n)) (channels : length (channels_in s) ≡ n + 1) where
    instances_count : length (instances_in s) ≡ n + 1
    instances_count = sym (length-map (instances_in s) part_name) ∙ ap length names ∙ names_count n

    small : is_too_large (system_size (with_system at s) s) ≡ false
    unfolding counts
    small =
        let all = all_count (instances_in s) are in
        let many : length (instances_in s) ≡ n + 1 = instances_count in
        or_from _ _ (or_from _ _ (le-ltb 10000 (0 + (counts (instances_in s)).processes) (omega (arith, all.0, many, few))) (le-ltb 10000 (0 + (counts (instances_in s)).clusters) (omega (arith, all.1))))
        (le-ltb 1000000 (length (channels_in s) + (counts (instances_in s)).channels) (omega (arith, all.2, channels, few)))

    pub not_too_large : (v : Violation) → BreaksC19 (with_system at s) v → ⊥
    not_too_large v (too_large d sized there large) =
        both_ways _ (All-contains (λ (e : SystemDecl). is_too_large (system_size (with_system at s) e) ≡ false) (systems (with_system at s)) d (All-from_recursion (λ (e : SystemDecl). is_too_large (system_size (with_system at s) e) ≡ false) (systems (with_system at s)) (small, tt)) there) large
