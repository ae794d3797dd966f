-- The new ends of a closed tree are there.
use Rattle.std.proofs.Common.{◌≡◌, ◌≢◌, refl, sym, ap, subst, ◌∙◌, ℕ, ◌≤◌, Bool, true, false, ◌&&◌, ◌||◌, List, [], ◌∷◌, map, length, Option, Some, IsTrue, slice_get, arith}
use Rattle.std.specs.List.{Contains, list_any}
use Rattle.std.specs.Option.{option_map, option_map_or, unwrap_or}
use Rattle.std.specs.Str.{bytes_eq}
use Rattle.std.proofs.lemmas.Bool.{and_parts, both_ways, not_from_true, false_from_ne_true}
use Rattle.std.proofs.lemmas.Option.{slice_get-map}
use Rattle.pz_env_tree.specs.pz_syntax.declared.names.Id.{Id}
use Rattle.pz_env_tree.specs.pz_syntax.declared.clusters.Instance.{Instance}
use Rattle.pz_env_tree.specs.pz_syntax.declared.clusters.ChannelEnd.{ChannelEnd}
use Rattle.pz_env_tree.specs.pz_syntax.declared.clusters.SystemDecl.{SystemDecl}
use Rattle.pz_env_tree.specs.pz_syntax.Classes.{system, ModelTree}
use Rattle.pz_env_tree.specs.pz_classes_rules.Numbers.{declaration}
use Rattle.pz_env_tree.specs.pz_classes_rules.Members.{ports, spelled}
use Rattle.pz_env_tree.specs.pz_classes_rules.Words.{is_among}
use Rattle.pz_env_tree.specs.pz_classes_rules.Reached.{AncestorsAreReached}
use Rattle.pz_env_tree.specs.pz_classes_rules.Instances.{instances}
use Rattle.pz_env_tree.specs.pz_classes_rules.RepeatRules.{same_name}
use Rattle.pz_env_tree.specs.pz_classes_rules.ChannelRules.{instance_named, has_port, breaks_c16}
use Rattle.pz_env_tree.specs.pz_classes_rules.SoundSystem.{SoundSystemsFit, SystemFits, PartsFit}
use Rattle.pz_env_tree.specs.pz_classes_rules.Soundness.{IsSound}
use Rattle.pz_env_tree.specs.pz_bind_rules.Nest.{class_of}
use Rattle.pz_env_tree.specs.pz_env_script.declared.entry.Entry.{Entry}
use Rattle.pz_env_tree.specs.pz_env_rules.Environment.{Line, lines_of}
use Rattle.pz_env_tree.specs.pz_env_rules.Ends.{first_mentions}
use Rattle.pz_env_tree.specs.Names.{instance_name, port_of}
use Rattle.pz_env_tree.specs.EnvironmentClass.{environment_class}
use Rattle.pz_env_tree.specs.ClosedTree.{environment, closed_system}
use Rattle.pz_env_tree.specs.devices.Refused as refused
use Rattle.pz_env_grown.proofs.Numbers.{some_same}
use Rattle.pz_env_sound.proofs.Grown.{grown}
use Rattle.pz_env_sound.proofs.NewParts.{IsFresh, Gains}
use Rattle.pz_env_sound.proofs.RepeatsInParts.{at_place}
use Rattle.pz_env_sound.proofs.Instances.{HasClass, has_class, class_of_new}
use Rattle.pz_env_sound.proofs.Channels.{Joins, ends_of, named_still, port_still}
use Rattle.pz_env_sound.proofs.Ports.{same_bytes, bytes_same, mention_in}
use Rattle.pz_env_sound.proofs.EnvironmentWords.{port_there}
use Rattle.pz_env_sound.proofs.Unrefused.{lines_counted, IsUnrefused, system_instances}
use Rattle.pz_env_sound.proofs.NewEnds.{any_some, find_at, find_last, from_map, theirs, ours, new_channels, IsNewEnd, of_instance, of_environment, new_end}

spelled_among : (ids : List Id) (name : List ℕ) → list_any (λ p. bytes_eq p name) (spelled ids) ≡ true → is_among ids name ≡ true
spelled_among [] name is = is
spelled_among (x ∷ xs) name is = by (bytes_eq x.name name) refl is (spelled_among xs name)
  where
    by : (b : Bool) → bytes_eq x.name name ≡ b → b || list_any (λ p. bytes_eq p name) (spelled xs) ≡ true
        → (list_any (λ p. bytes_eq p name) (spelled xs) ≡ true → is_among xs name ≡ true) → is_among (x ∷ xs) name ≡ true
    by true same h rest = ap (λ (b : Bool). b || is_among xs name) (bytes_same name x.name (sym (same_bytes x.name name same)))
    by false other h rest = or_second (bytes_eq name x.name) (is_among xs name) (rest h)
      where
        or_second : (a b : Bool) → b ≡ true → a || b ≡ true
        or_second true b h = refl
        or_second false b h = h

bytes_turned : (a b : List ℕ) → bytes_eq a b ≡ false → bytes_eq b a ≡ false
bytes_turned a b other = false_from_ne_true (bytes_eq b a) (λ same. both_ways (bytes_eq a b) other (bytes_same a b (sym (same_bytes b a same))))

pub fresh_class : (m : ModelTree) (script : List Entry) → IsUnrefused m script → IsFresh m (environment_class (lines_of script))
fresh_class m script un = record { unknown = un.unknown; supported = refl; free = refl; alone = refl; bare = refl }

pub gains_one : (lines : List Line) → Gains (closed_system lines) (environment_class lines) environment
gains_one lines = record { instances = λ s. refl; class = refl; given = refl }

pub joins_new : (lines : List Line) → Joins (closed_system lines) (new_channels lines)
joins_new lines s = refl

module _ (m : ModelTree) (script : List Entry) (sound : IsSound m) (reached : AncestorsAreReached) (systems_fit : SoundSystemsFit)
    (un : IsUnrefused m script) (few : length script ≤ 100000) where
  abbrev lines : List Line
  lines = lines_of script

  abbrev n : ModelTree
  n = grown m (closed_system lines) (environment_class lines)

  abbrev fits : SystemFits m
  fits = systems_fit m sound

  pub few_lines : length lines ≤ 100000
  few_lines = let count = lines_counted 1 script in omega (arith, few, count)

  -- no instance of the system has the name of the environment
  pub not_ours : (c : ℕ) (s : SystemDecl) → declaration m c ≡ Some (system s) → (j : Instance) → Contains (instances (system s)) j
      → bytes_eq j.name.name instance_name ≡ false
  not_ours c s at j has = un.unnamed j (subst (λ (xs : List Instance). Contains xs j) (sym (system_instances m fits c s at)) has)

  pub name_free : (c : ℕ) (s : SystemDecl) → declaration m c ≡ Some (system s) → (x : Id)
      → Contains (map (λ (j : Instance). j.name) (instances (system s))) x
      → (IsTrue (same_name x environment.name) → ⊥) × (IsTrue (same_name environment.name x) → ⊥)
  name_free c s at x has =
      let r = from_map (λ (j : Instance). j.name) (instances (system s)) x has in
      let other : bytes_eq x.name instance_name ≡ false = ap (λ (y : Id). bytes_eq y.name instance_name) (sym r.2) ∙ not_ours c s at r.0 r.1 in
      (both_ways (bytes_eq x.name instance_name) other, both_ways (bytes_eq instance_name x.name) (bytes_turned x.name instance_name other))

  -- The end of an instance

  -- the instance of a line, and that it has the port
  record IsOf (s : SystemDecl) (x : Line) : Type 0 where
    pub part : Instance
    pub at : ℕ
    pub there : slice_get (instances (system s)) at ≡ Some part
    pub named : bytes_eq part.name.name x.entry.instance ≡ true
    pub has : refused.has_port m x.entry part ≡ true

  is_of : (c : ℕ) (s : SystemDecl) → declaration m c ≡ Some (system s) → (x : Line) → Contains lines x → IsOf s x
  is_of c s at x has =
      let r = any_some (λ (j : Instance). bytes_eq j.name.name x.entry.instance && refused.has_port m x.entry j) (instances (system s))
      (sym (ap (list_any (λ (j : Instance). bytes_eq j.name.name x.entry.instance && refused.has_port m x.entry j)) (system_instances m fits c s at)) ∙ un.ports x has) in
      let parts = and_parts (bytes_eq r.1.name.name x.entry.instance) (refused.has_port m x.entry r.1) r.3 in
      record { part = r.1; at = r.0; there = r.2; named = parts.0; has = parts.1 }

  pub not_environment : (c : ℕ) (s : SystemDecl) → declaration m c ≡ Some (system s) → (x : Line) → Contains lines x
      → x.entry.instance ≢ instance_name
  not_environment c s at x has same =
      let o = is_of c s at x has in
      both_ways (bytes_eq o.part.name.name instance_name)
      (not_ours c s at o.part (at_place (instances (system s)) o.at o.part o.there))
      (bytes_same o.part.name.name instance_name (same_bytes o.part.name.name x.entry.instance o.named ∙ same))

  -- the instance that is found by the name
  theirs_there : (c : ℕ) (s : SystemDecl) → declaration m c ≡ Some (system s) → (x : Line) → Contains lines x
      → breaks_c16 n c (system (closed_system lines s)) (theirs lines x) ≡ false
  theirs_there c s at x has = not_from_true _ there
    where
      o : IsOf s x
      o = is_of c s at x has

      turned : bytes_eq x.entry.instance o.part.name.name ≡ true
      turned = bytes_same x.entry.instance o.part.name.name (sym (same_bytes o.part.name.name x.entry.instance o.named))

      parts : PartsFit m c (system s)
      parts = fits.parts_fit c (system s) at

      is_found : instance_named (system s) x.entry.instance ≡ Some o.part
      is_found =
          let r = find_at (λ (j : Instance). bytes_eq x.entry.instance j.name.name) (instances (system s)) o.at o.part o.there turned in
          let place : r.0 ≡ o.at =
          parts.instances_apart r.0 o.at r.1.name o.part.name
          (slice_get-map (λ (j : Instance). j.name) (instances (system s)) r.0 ∙ ap (option_map (λ (j : Instance). j.name)) r.2)
          (slice_get-map (λ (j : Instance). j.name) (instances (system s)) o.at ∙ ap (option_map (λ (j : Instance). j.name)) o.there)
          (bytes_same r.1.name.name o.part.name.name (sym (same_bytes x.entry.instance r.1.name.name r.3) ∙ sym (same_bytes o.part.name.name x.entry.instance o.named))) in
          let one : r.1 ≡ o.part = some_same r.1 o.part (sym r.2 ∙ ap (slice_get (instances (system s))) place ∙ o.there) in
          r.4 ∙ ap (λ (j : Instance). Some j) one

      in_system : Contains (instances (system s)) o.part
      in_system = at_place (instances (system s)) o.at o.part o.there

      its : HasClass (closed_system lines) (environment_class lines) environment m (gains_one lines) sound reached (fresh_class m script un) systems_fit o.part
      its =
          has_class (closed_system lines) (environment_class lines) environment m (gains_one lines) sound reached (fresh_class m script un) systems_fit c (system s) at o.part in_system

      class_is : class_of m o.part ≡ its.number
      class_is = ap (λ (p : Option ℕ). unwrap_or p 0) its.was

      had : has_port m x.entry.port o.part ≡ true
      had =
          ap (λ (p : Option ℕ). option_map_or (λ k. is_among (ports m k) x.entry.port) p true) its.was
          ∙ spelled_among (ports m its.number) x.entry.port (sym (ap (λ (k : ℕ). list_any (λ p. bytes_eq p x.entry.port) (spelled (ports m k))) class_is) ∙ o.has)

      there : option_map_or (has_port n x.entry.port) (instance_named (system (closed_system lines s)) x.entry.instance) false ≡ true
      there =
          ap (λ (p : Option Instance). option_map_or (has_port n x.entry.port) p false)
          (named_still (closed_system lines) (environment_class lines) environment (new_channels lines) m (gains_one lines) (joins_new lines) sound reached (fresh_class m script un) systems_fit (system s) x.entry.instance o.part is_found)
          ∙ port_still (closed_system lines) (environment_class lines) environment (new_channels lines) m (gains_one lines) (joins_new lines) sound reached (fresh_class m script un) systems_fit x.entry.port c (system s) at o.part in_system had

  -- The end of the environment

  ours_there : (c : ℕ) (s : SystemDecl) → declaration m c ≡ Some (system s) → (x : Line) → Contains lines x
      → breaks_c16 n c (system (closed_system lines s)) (ours lines x) ≡ false
  ours_there c s at x has =
      not_from_true _
      (ap (λ (p : Option Instance). option_map_or (has_port n (port_of lines x).name) p false)
      (find_last (λ (j : Instance). bytes_eq instance_name j.name.name) (instances (system s)) environment (λ j in_system. bytes_turned j.name.name instance_name (not_ours c s at j in_system)) refl)
      ∙ ap (λ (p : Option ℕ). option_map_or (λ k. is_among (ports n k) (port_of lines x).name) p true)
      (class_of_new (closed_system lines) (environment_class lines) environment m (gains_one lines) sound reached (fresh_class m script un))
      ∙ port_there (closed_system lines) lines m sound reached (fresh_class m script un) x has)

  pub ends_there : (c : ℕ) (s : SystemDecl) → declaration m c ≡ Some (system s) → (end : ChannelEnd)
      → Contains (ends_of (new_channels lines)) end → breaks_c16 n c (system (closed_system lines s)) end ≡ false
  ends_there c s at end has = by (new_end lines (first_mentions lines) end has)
    where
      by : IsNewEnd lines (first_mentions lines) end → breaks_c16 n c (system (closed_system lines s)) end ≡ false
      by (of_instance x is_in same) =
          subst (λ (e : ChannelEnd). breaks_c16 n c (system (closed_system lines s)) e ≡ false) same (theirs_there c s at x (mention_in lines x is_in))
      by (of_environment x is_in same) =
          subst (λ (e : ChannelEnd). breaks_c16 n c (system (closed_system lines s)) e ≡ false) same (ours_there c s at x (mention_in lines x is_in))
