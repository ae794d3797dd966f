-- The instances of a ring are given what they take, and the ends of its channels are there.
use Rattle.std.proofs.Common.{◌≡◌, ◌⊎◌, inl, inr, ⊎_elim, refl, sym, ◌∙◌, ap, ap₂, subst, ℕ, zero, suc, ◌+◌, ◌≤◌, ◌<◌, Bool, true, false, not, ◌||◌, List, [], ◌∷◌, map, Option, Some, IsTrue, All, codes, bytes_eq, true≢false, arith}
use Rattle.std.specs.Option.{option_map_or}
use Rattle.std.specs.List.{AllByRecursion, list_any, find, flat_map, range_with_len}
use Rattle.std.proofs.lemmas.Bool.{false≢true, both_ways, and_parts, cond-true, cond-false, cases_Bool, cases_eq, or_left, or_right}
use Rattle.std.proofs.lemmas.List.Elements.{All-nil, All-contains, All-from_recursion}
use Rattle.std.proofs.lemmas.List.Folds.{list_any-append}
use Rattle.std.proofs.lemmas.Slice.Eq.{bytes_eq-Decides}
use Rattle.pz_classes_rules.specs.pz_syntax.declared.tokens.Pos.{Pos}
use Rattle.pz_classes_rules.specs.pz_syntax.declared.clusters.Instance.{Instance}
use Rattle.pz_classes_rules.specs.pz_syntax.declared.clusters.ChannelEnd.{ChannelEnd}
use Rattle.pz_classes_rules.specs.pz_syntax.declared.clusters.ChannelEnd.TheVariants.{Inner, Outer}
use Rattle.pz_classes_rules.specs.pz_syntax.declared.clusters.SystemDecl.{SystemDecl}
use Rattle.pz_classes_rules.specs.pz_syntax.Classes.{DeclTree, system}
use Rattle.pz_classes_rules.specs.pz_check_violations.declared.violation.Violation.{Violation}
use Rattle.pz_classes_rules.specs.Numbers.{declaration}
use Rattle.pz_classes_rules.specs.Kinds.{is_cluster}
use Rattle.pz_classes_rules.specs.Members.{spelled}
use Rattle.pz_classes_rules.specs.Instances.{instances, instance_class, parameters}
use Rattle.pz_classes_rules.specs.InstanceRules.{given_names, gives_each, BreaksC14, ill_given, BreaksC15, holds_itself}
use Rattle.pz_classes_rules.specs.ChannelRules.{end_place, ends, instance_named, has_port, breaks_c16, BreaksC16, no_end, same_end, BreaksC17, again_end, again_outer}
use Rattle.pz_gen.specs.Ring.{name, next}
use Rattle.pz_gen_laws.specs.devices.RingBits.{stations}
use Rattle.pz_gen_laws.specs.devices.RingTree.{with_system}
use Rattle.pz_gen_laws.specs.devices.RingParts.{IsPart, a_station, the_supervisor, instances_in, channels_in, part_name, part_names, Key, end_key, end_keys, ring_keys, halted_key, halting_keys, all_keys, AreDistinct}
use Rattle.pz_gen_laws.proofs.Distinct.{all_map, all_append, no_repeat}
use Rattle.pz_gen_laws.proofs.RingKeys.{name_is_not, next_below}
use Rattle.pz_gen_laws.proofs.Declared.{by_number, passes}

-- a port of a station
abbrev pub is_port : List ℕ → Bool
is_port port = list_any (bytes_eq port) (codes "left" ∷ codes "right" ∷ codes "sup" ∷ [])

-- a port of a station that is there, or that of the supervisor
abbrev pub IsThere : ℕ → Key → Type 0
IsThere n k = ((i : ℕ) × (i < n) × (k.0 ≡ name i) × (is_port k.1 ≡ true)) ⊎ ((k.0 ≡ codes "v") × (k.1 ≡ codes "sup"))

module _ where
  ring_there : (n a k : ℕ) → a + k ≤ n → AllByRecursion (IsThere n) (flat_map (ring_keys n) (range_with_len a k))
  ring_there n a zero within = tt
  ring_there n a (suc k) within =
      (inl (a, omega arith, refl, refl), (inl (next n a, next_below n a (omega arith), refl, refl), ring_there n (a + 1) k (omega arith)))

  halted_there : (n a k : ℕ) → a + k ≤ n → AllByRecursion (IsThere n) (map halted_key (range_with_len a k))
  halted_there n a zero within = tt
  halted_there n a (suc k) within = (inl (a, omega arith, refl, refl), halted_there n (a + 1) k (omega arith))

  keys_there : (n : ℕ) → AllByRecursion (IsThere n) (all_keys n (stations n))
  keys_there n =
      all_append (IsThere n) (flat_map (ring_keys n) (stations n)) (halting_keys (stations n))
      (ring_there n 0 n (omega arith)) (inr (refl, refl), halted_there n 0 n (omega arith))

  -- one of the stations from a on has the name
  station_there : (i a k : ℕ) → a ≤ i → i < a + k → list_any (bytes_eq (name i)) (map name (range_with_len a k)) ≡ true
  station_there i a zero low high = absurd (omega arith)
  station_there i a (suc k) low high =
      ⊎_elim (λ same. or_left _ _ ((bytes_eq-Decides (name i) (name a)).1 (ap name same)))
      (λ other. or_right _ _ (station_there i (a + 1) k (omega (arith, other)) (omega arith)))
      (cases_eq i a)

  named_there : (i n : ℕ) → i < n → list_any (bytes_eq (name i)) (part_names (stations n)) ≡ true
  named_there i n low =
      list_any-append (bytes_eq (name i)) (map name (stations n)) (codes "v" ∷ [])
      ∙ or_left _ _ (station_there i 0 n (omega arith) (omega arith))

  supervisor_there : (n : ℕ) → list_any (bytes_eq (codes "v")) (part_names (stations n)) ≡ true
  supervisor_there n =
      list_any-append (bytes_eq (codes "v")) (map name (stations n)) (codes "v" ∷ [])
      ∙ or_right _ _ refl

  any_named : (x : List ℕ) (is : List Instance) → list_any (λ (j : Instance). bytes_eq x j.name.name) is ≡ list_any (bytes_eq x) (map part_name is)
  any_named x [] = refl
  any_named x (i ∷ is) = ap (λ (b : Bool). bytes_eq x i.name.name || b) (any_named x is)

  end_same_key : (x y : ChannelEnd) → IsTrue (same_end x y) → end_key x ≡ end_key y
  end_same_key (Inner i p) (Inner j q) same =
      let parts = and_parts _ _ same in
      ap₂ (λ (a b : List ℕ). (a, b)) ((bytes_eq-Decides i.name j.name).0 parts.0) ((bytes_eq-Decides p.name q.name).0 parts.1)
  end_same_key (Inner i p) (Outer q) same = absurd (false≢true same)
  end_same_key (Outer p) (Inner j q) same = absurd (false≢true same)
  end_same_key (Outer p) (Outer q) same = ap (λ (b : List ℕ). ([], b)) ((bytes_eq-Decides p.name q.name).0 same)

module _ (at : ℕ → Pos) (s : SystemDecl) where
  -- an instance gives each parameter of its class, and nothing else
  gives : Instance → Bool
  gives i = option_map_or (λ k. gives_each (given_names i) (spelled (parameters (with_system at s) k))) (instance_class (with_system at s) i.class.name) true

  part_gives : (i : Instance) → IsPart i → gives i ≡ true
  unfolding gives
  part_gives i (a_station j first p q r u) = refl
  part_gives i (the_supervisor p q) = refl

  all_give : (is : List Instance) → AllByRecursion IsPart is → AllByRecursion (λ i. gives i ≡ true) is
  all_give [] all = tt
  all_give (i ∷ is) all = (part_gives i all.0, all_give is all.1)

  pub no_cluster : (c : ℕ) (d : DeclTree) → declaration (with_system at s) c ≡ Some d → is_cluster d ≡ false
  no_cluster = by_number at s (λ k e. is_cluster e ≡ false) refl refl refl

  pub none_holds_itself : (v : Violation) → BreaksC15 (with_system at s) v → ⊥
  none_holds_itself v (holds_itself c k d i declared cluster there is holds) = both_ways (is_cluster d) (no_cluster c d declared) cluster

  -- ---- ends

  abbrev HasPort : List ℕ → Instance → Type 0
  HasPort port i = has_port (with_system at s) port i ≡ true

  station_has : (i : ℕ) (port : List ℕ) → is_port port ≡ true → (j : Instance) → IsPart j → bytes_eq (name i) j.name.name ≡ true → HasPort port j
  station_has i port is j (a_station k first p q r u) same = is
  station_has i port is j (the_supervisor p q) same = absurd (false≢true same)

  supervisor_has : (j : Instance) → IsPart j → bytes_eq (codes "v") j.name.name ≡ true → HasPort (codes "sup") j
  supervisor_has j (a_station k first p q r u) same = absurd (false≢true same)
  supervisor_has j (the_supervisor p q) same = refl

  -- the first part of a name is found, and has the port if each part of the name has it
  found : (x port : List ℕ) (is : List Instance) → AllByRecursion IsPart is → ((j : Instance) → IsPart j → bytes_eq x j.name.name ≡ true → HasPort port j) → list_any (λ (j : Instance). bytes_eq x j.name.name) is ≡ true → option_map_or (has_port (with_system at s) port) (find (λ (j : Instance). bytes_eq x j.name.name) is) false ≡ true
  found x port [] all each some = absurd (false≢true some)
  found x port (i ∷ is) all each some =
      ⊎_elim
      (λ this. ap (λ (o : Option Instance). option_map_or (has_port (with_system at s) port) o false) (cond-true (bytes_eq x i.name.name) (Some i) (find (λ (j : Instance). bytes_eq x j.name.name) is) this) ∙ each i all.0 this)
      (λ other.
      ap (λ (o : Option Instance). option_map_or (has_port (with_system at s) port) o false) (cond-false (bytes_eq x i.name.name) (Some i) (find (λ (j : Instance). bytes_eq x j.name.name) is) other)
      ∙ found x port is all.1 each (sym (ap (λ (b : Bool). b || list_any (λ (j : Instance). bytes_eq x j.name.name) is) other) ∙ some))
      (cases_Bool (bytes_eq x i.name.name))

  module _ (n : ℕ) (are : AllByRecursion IsPart (instances_in s)) (names : map part_name (instances_in s) ≡ part_names (stations n)) (keys : end_keys (channels_in s) ≡ all_keys n (stations n)) where
    pub each_is_given : (v : Violation) → BreaksC14 (with_system at s) v → ⊥
    unfolding gives
    each_is_given v (ill_given c k d i declared there is wrong) =
        let right : gives i ≡ true =
        All-contains (λ (j : Instance). gives j ≡ true) (instances d) i
        (by_number at s (λ k e. All (λ (j : Instance). gives j ≡ true) (instances e)) (All-nil _) (All-nil _) (All-from_recursion (λ (j : Instance). gives j ≡ true) (instances_in s) (all_give (instances_in s) are)) c d declared) there in
        both_ways _ wrong (passes (λ k. gives_each (given_names i) (spelled (parameters (with_system at s) k))) (instance_class (with_system at s) i.class.name) k true right is)

    -- some part has the name
    named : (x : List ℕ) → list_any (bytes_eq x) (part_names (stations n)) ≡ true → list_any (λ (j : Instance). bytes_eq x j.name.name) (instances_in s) ≡ true
    named x there = any_named x (instances_in s) ∙ ap (list_any (bytes_eq x)) names ∙ there

    at_part : (x port : List ℕ) → IsThere n (x, port) → option_map_or (has_port (with_system at s) port) (instance_named (system s) x) false ≡ true
    at_part x port (inl there) =
        found x port (instances_in s) are
        (λ j part same. station_has there.0 port there.3 j part (sym (ap (λ (y : List ℕ). bytes_eq y j.name.name) there.2) ∙ same))
        (named x (ap (λ (y : List ℕ). list_any (bytes_eq y) (part_names (stations n))) there.2 ∙ named_there there.0 n there.1))
    at_part x port (inr there) =
        found x port (instances_in s) are
        (λ j part same. subst (λ (q : List ℕ). HasPort q j) (sym there.1) (supervisor_has j part (sym (ap (λ (y : List ℕ). bytes_eq y j.name.name) there.0) ∙ same)))
        (named x (ap (λ (y : List ℕ). list_any (bytes_eq y) (part_names (stations n))) there.0 ∙ supervisor_there n))

    end_there : (e : ChannelEnd) → IsThere n (end_key e) → breaks_c16 (with_system at s) 3 (system s) e ≡ false
    end_there (Inner x port) there = ap not (at_part x.name port.name there)
    end_there (Outer port) (inl there) = absurd (name_is_not there.0 [] refl (sym there.2))
    end_there (Outer port) (inr there) = absurd (true≢false (ap (bytes_eq []) there.0))

    all_there : (es : List ChannelEnd) → AllByRecursion (λ (e : ChannelEnd). IsThere n (end_key e)) es → AllByRecursion (λ (e : ChannelEnd). breaks_c16 (with_system at s) 3 (system s) e ≡ false) es
    all_there [] all = tt
    all_there (e ∷ es) all = (end_there e all.0, all_there es all.1)

    system_ends : All (λ (e : ChannelEnd). breaks_c16 (with_system at s) 3 (system s) e ≡ false) (ends (system s))
    system_ends =
        All-from_recursion _ (ends (system s)) (all_there (ends (system s))
        (all_map (IsThere n) end_key (ends (system s)) (subst (AllByRecursion (IsThere n)) (sym keys) (keys_there n))))

    pub each_end_is_there : (v : Violation) → BreaksC16 (with_system at s) v → ⊥
    each_end_is_there v (no_end c d e declared there breaks) =
        both_ways _ (All-contains (λ (f : ChannelEnd). breaks_c16 (with_system at s) c d f ≡ false) (ends d) e
        (by_number at s (λ k f. All (λ (g : ChannelEnd). breaks_c16 (with_system at s) k f g ≡ false) (ends f)) (All-nil _) (All-nil _) system_ends c d declared) there) breaks

    pub no_end_twice : AreDistinct (all_keys n (stations n)) → (v : Violation) → BreaksC17 (with_system at s) v → ⊥
    no_end_twice distinct v (again_end c d e declared again) =
        no_repeat same_end end_place end_key end_same_key (ends d) e
        (by_number at s (λ k f. AreDistinct (map end_key (ends f))) tt tt (subst AreDistinct (sym keys) distinct) c d declared) again
    no_end_twice distinct v (again_outer c d h e declared cluster there again) = both_ways (is_cluster d) (no_cluster c d declared) cluster
