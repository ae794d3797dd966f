-- The closed model has the environment of the driven system.
use Rattle.std.proofs.Common.{◌≡◌, refl, sym, ap, ◌∙◌, subst, ℕ, zero, suc, ◌<◌, ◌^◌, Bool, true, false, List, [], ◌∷◌, ◌++◌, map, length, Option, Some, None, slice_get, arith}
use Rattle.std.specs.Prelude.{if◌then◌else◌, codes}
use Rattle.std.specs.Fmt.{decimal}
use Rattle.std.specs.List.{AllByRecursion, flat_map}
use Rattle.std.specs.Option.{option_map_or, unwrap_or}
use Rattle.pz_env_mimics.specs.pz_syntax.declared.clusters.Instance.{Instance}
use Rattle.pz_env_mimics.specs.pz_syntax.declared.clusters.Channel.{Channel as Written}
use Rattle.pz_env_mimics.specs.pz_syntax.declared.names.Id.{Id}
use Rattle.pz_env_mimics.specs.pz_syntax.Classes.{ModelTree}
use Rattle.pz_env_mimics.specs.pz_value.declared.value.Value.TheVariants.{Nil}
use Rattle.pz_env_mimics.specs.pz_classes_rules.Members.{variables, spelled}
use Rattle.pz_env_mimics.specs.pz_classes_rules.MethodBodies.{process_method_body}
use Rattle.pz_env_mimics.specs.pz_classes_rules.Starts.{init}
use Rattle.pz_env_mimics.specs.pz_classes_rules.Soundness.{IsSound}
use Rattle.pz_env_mimics.specs.pz_classes_rules.SoundSystem.{SystemFits}
use Rattle.pz_classes_openings.specs.OpeningRules.{Opens}
use Rattle.pz_bind_levels.specs.Places.{Address}
use Rattle.pz_bind_levels.specs.Wires.{Channel, channel}
use Rattle.pz_env_mimics.specs.pz_bind_rules.Nest.{channels_at, levels, processes}
use Rattle.pz_env_mimics.specs.pz_bind_rules.Names.{path, wire_name}
use Rattle.pz_env_mimics.specs.pz_bind_rules.Values.{given_value, parameter_at, values_at}
use Rattle.pz_env_mimics.specs.pz_bind_rules.Wires.{is_joined, ending, wires_at, wires}
use Rattle.pz_env_mimics.specs.pz_rules.declared.limits.Limits.{Limits}
use Rattle.pz_env_mimics.specs.pz_trace.Labels.{path_of, wire_of}
use Rattle.pz_env_mimics.specs.pz_env_script.declared.entry.Entry.{Entry}
use Rattle.pz_env_mimics.specs.pz_env_rules.Environment.{Line, lines_of}
use Rattle.pz_env_mimics.specs.pz_env_rules.Joining.{joined, driving}
use Rattle.pz_env_mimics.specs.pz_env_tree.Names.{method_name, variable_name, end_number}
use Rattle.pz_env_mimics.specs.pz_env_tree.EnvironmentClass.{first_place, named}
use Rattle.pz_env_mimics.specs.pz_env_tree.ClosedTree.{environment, closed_by}
use Rattle.pz_env_same.specs.SameRules.{SameRules}
use Rattle.pz_env_joined.specs.OneMore.{IsAccepted, HasOneMore}
use Rattle.pz_env_mimics.specs.Environments.{HasEnvironment}
use Rattle.pz_env_joined.proofs.Places.{Stands}
use Rattle.pz_env_joined.proofs.Standing.{path_same}
use Rattle.pz_env_joined.proofs.Closing.{grown_joined, grown_closed, joined_instances, closed_instances, closed_methods, joined_names, closed_names, env_named}
use Rattle.pz_env_joined.proofs.Accepted.{no_class}
use Rattle.pz_env_joined.proofs.Levels.{at_place, processes_joined, processes_closed, levels_joined, levels_stand, env_place, env_instance, env_class_at, wires_are_same, apart_names}
use Rattle.pz_env_joined.proofs.Rules.{Laws, same_rules, no_env}
use Rattle.pz_env_joined.proofs.EnvironmentPorts.{env_variables, env_ports}
use Rattle.pz_env_joined.proofs.EnvironmentBody.{env_body, env_init}
use Rattle.pz_env_joined.proofs.EnvironmentWires.{to_driven, to_closed}

last_there : {A : Type 0} (xs : List A) (y : A) → slice_get (xs ++ y ∷ []) (length xs) ≡ Some y
last_there [] y = refl
last_there (z ∷ zs) y = last_there zs y

some_there : {A : Type 0} (xs : List A) (i : ℕ) → i < length xs → (x : A) × (slice_get xs i ≡ Some x)
some_there [] i low = absurd (omega (arith, low))
some_there (x ∷ xs) zero low = (x, refl)
some_there (x ∷ xs) (suc i) low = some_there xs i (omega (arith, low))

still_there : {A : Type 0} (xs ys : List A) (i : ℕ) (x : A) → slice_get xs i ≡ Some x → slice_get (xs ++ ys) i ≡ Some x
still_there [] ys i x at = cc
still_there (y ∷ xs) ys zero x at = at
still_there (y ∷ xs) ys (suc i) x at = still_there xs ys i x at

-- what is listed in levels stands there
module _ (P : Address → Type 0) (a : ModelTree) where
  both_there : (cs ds : List Channel) → AllByRecursion (λ c. P c.place) cs → AllByRecursion (λ c. P c.place) ds
      → AllByRecursion (λ c. P c.place) (cs ++ ds)
  both_there [] ds one other = other
  both_there (c ∷ cs) ds one other = (one.0, both_there cs ds one.1 other)

  in_ending : (p : Address) → P p → (k : ℕ) (hs : List Written) → AllByRecursion (λ c. P c.place) (ending a p k hs)
  in_ending p holds k [] = tt
  in_ending p holds k (h ∷ hs) = by (is_joined a p h) (in_ending p holds (suc k) hs)
    where
      by : (b : Bool) → AllByRecursion (λ c. P c.place) (ending a p (suc k) hs)
          → AllByRecursion (λ c. P c.place) ((if b then [] else channel p k ∷ []) ++ ending a p (suc k) hs)
      by true rest = rest
      by false rest = (holds, rest)

  in_levels : (ps : List Address) → AllByRecursion P ps → AllByRecursion (λ c. P c.place) (flat_map (wires_at a) ps)
  in_levels [] all = tt
  in_levels (p ∷ ps) all = both_there (wires_at a p) (flat_map (wires_at a) ps) (in_ending p all.0 0 (channels_at a p)) (in_levels ps all.1)

pub one_more : (m : ModelTree) (script : List Entry) → SystemFits m → IsAccepted m script → HasOneMore m (lines_of script)
one_more m script fits accepted =
    let lines = lines_of script in
    let none = no_class m script accepted in
    record {
      names = closed_names m lines;
      class = env_named m lines none;
      processes = processes_closed m fits lines none ∙ ap (λ (ps : List Address). ps ++ env_place m fits lines none ∷ []) (processes_joined m fits lines);
      is_of = env_class_at m fits lines none;
      variables = env_variables m lines;
      ports = env_ports m lines;
      wires = wires_are_same m fits lines none (apart_names m script accepted);
    }

module _ (laws : Laws) (m : ModelTree) (script : List Entry) (limits : Limits) (fits : SystemFits m) (sound : IsSound m) (opens : Opens m) (accepted : IsAccepted m script) (few : length script < 2 ^ 64) where
  abbrev lines : List Line
  lines = lines_of script

  abbrev j : ModelTree
  j = joined m lines

  abbrev n : ModelTree
  n = closed_by m lines

  rules : SameRules (joined m lines) (closed_by m lines)
  rules = same_rules laws m script fits sound opens accepted

  abbrev place : Address
  place = env_place m fits lines (no_env laws m script fits sound opens accepted)

  behind : processes n ≡ processes j ++ place ∷ []
  behind = (one_more m script fits accepted).processes

  stands : (c : Channel) (w : ℕ) → slice_get (wires j) w ≡ Some c → Stands m c.place
  stands c w at =
      let all : AllByRecursion (λ d. Stands m d.place) (wires j) = in_levels (Stands m) j (levels j) (subst (AllByRecursion (Stands m)) (levels_joined m fits lines) (levels_stand m fits lines)) in
      at_place (λ d. Stands m d.place) (wires j) w c all at

  -- its one variable, which nothing is given to
  values_are : values_at n place ≡ Nil ∷ []
  values_are =
      ap (λ (c : ℕ). map (parameter_at n place) (spelled (variables n c))) (env_class_at m fits lines (no_env laws m script fits sound opens accepted))
      ∙ ap (λ (vs : List Id). map (parameter_at n place) (spelled vs)) (env_variables m lines)
      ∙ ap (λ (o : Option Instance). option_map_or (λ x. given_value (parameter_at n []) (unwrap_or x.given []) variable_name) o Nil ∷ []) (env_instance m fits lines (no_env laws m script fits sound opens accepted))

  -- Names in lines

  path_is : (i : ℕ) → i < length (processes j) → path_of n i ≡ path_of j i
  path_is i low =
      let at = some_there (processes j) i low in
      ap (λ (o : Option Address). option_map_or (path n) o []) (ap (λ (ps : List Address). slice_get ps i) behind ∙ still_there (processes j) (place ∷ []) i at.0 at.1)
      ∙ sym (rules.each i at.0 at.1).path
      ∙ sym (ap (λ (o : Option Address). option_map_or (path j) o []) at.1)

  own_path : path_of n (length (processes j)) ≡ codes "env"
  own_path =
      ap (λ (o : Option Address). option_map_or (path n) o []) (ap (λ (ps : List Address). slice_get ps (length (processes j))) behind ∙ last_there (processes j) place)
      ∙ ap (λ (o : Option Instance). option_map_or (λ x. x.name.name) o []) (env_instance m fits lines (no_env laws m script fits sound opens accepted))

  wire_name_is : (c : Channel) → Stands m c.place → wire_name n c ≡ wire_name j c
  wire_name_is c s =
      ap (λ (front : List ℕ). front ++ (codes "#" ++ decimal (suc c.number)))
      (sym (path_same m n fits (grown_closed m lines) (environment ∷ []) (closed_instances m lines fits) c.place s)
      ∙ path_same m j fits (grown_joined m lines) [] (joined_instances m lines fits) c.place s)

  wire_is : (w : ℕ) → wire_of n w ≡ wire_of j w
  wire_is w =
      ap (λ (cs : List Channel). option_map_or (wire_name n) (slice_get cs w) []) (sym (one_more m script fits accepted).wires)
      ∙ by (slice_get (wires j) w) refl
    where
      by : (o : Option Channel) → slice_get (wires j) w ≡ o → option_map_or (wire_name n) o [] ≡ option_map_or (wire_name j) o []
      by None is = refl
      by (Some c) is = wire_name_is c (stands c w is)

  pub has_environment : HasEnvironment (driving m script limits) (closed_by m (lines_of script))
  has_environment =
      let without = no_env laws m script fits sound opens accepted in
      let class = env_class_at m fits lines without in
      let methods_there = closed_methods m lines in
      record {
        place = place;
        one_more = behind;
        values = values_are;
        pos = first_place;
        method = named method_name;
        starts = ap (init n) class ∙ env_init m script;
        port = end_number lines;
        body = ap (λ (c : ℕ). process_method_body n c method_name 0 0) class ∙ env_body m script few;
        some_method = omega (arith, methods_there);
        wires = λ x w among. (
          to_driven m script fits accepted few without limits (processes j) behind (one_more m script fits accepted).wires x w among,
          to_closed m script fits accepted few without limits (processes j) behind (one_more m script fits accepted).wires x w,
        );
        paths = path_is;
        path = own_path;
        wire_names = wire_is;
        classes = closed_names m lines ∙ ap (λ (names : List (List ℕ)). names ++ codes "ScriptEnv" ∷ []) (sym (joined_names m lines));
      }
