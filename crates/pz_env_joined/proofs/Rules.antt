-- The closed model has the rules of the one with the further channels.
use Rattle.std.proofs.Common.{◌≡◌, refl, sym, ap, ◌∙◌, inl, inr, subst, ℕ, zero, suc, ◌<◌, Bool, true, false, List, [], ◌∷◌, ◌++◌, length, Some, None, slice_get, arith}
use Rattle.std.specs.List.{filter}
use Rattle.pz_env_mimics.specs.pz_syntax.declared.names.Id.{Id}
use Rattle.pz_env_mimics.specs.pz_syntax.Classes.{ModelTree}
use Rattle.pz_env_mimics.specs.pz_classes_rules.Numbers.{class}
use Rattle.pz_env_mimics.specs.pz_classes_rules.Members.{ports, spelled}
use Rattle.pz_env_mimics.specs.pz_classes_rules.Reached.{AncestorsAreReached}
use Rattle.pz_env_mimics.specs.pz_classes_rules.Soundness.{IsSound}
use Rattle.pz_env_mimics.specs.pz_classes_rules.SoundSystem.{SystemFits}
use Rattle.pz_env_mimics.specs.pz_classes_rules.Starts.{init}
use Rattle.pz_classes_openings.specs.OpeningRules.{Opens}
use Rattle.pz_bind_levels.specs.Places.{Address}
use Rattle.pz_env_mimics.specs.pz_bind_rules.Nest.{class_at, places, is_process_at, processes}
use Rattle.pz_env_mimics.specs.pz_bind_rules.Connections.{end}
use Rattle.pz_env_mimics.specs.pz_bind_rules.Wires.{wires}
use Rattle.pz_env_mimics.specs.pz_rules.CallLaws.{CallsUnfold}
use Rattle.pz_env_mimics.specs.pz_rules.Openable.{IsProcessClass}
use Rattle.pz_env_mimics.specs.pz_rules.Opening.{depth_of}
use Rattle.pz_env_mimics.specs.pz_rules.Ports.{IsWire}
use Rattle.pz_env_mimics.specs.pz_env_script.declared.entry.Entry.{Entry}
use Rattle.pz_env_mimics.specs.pz_env_rules.Environment.{Line, lines_of}
use Rattle.pz_env_mimics.specs.pz_env_rules.Joining.{joined}
use Rattle.pz_env_mimics.specs.pz_env_tree.Names.{class_name}
use Rattle.pz_env_mimics.specs.pz_env_tree.ClosedTree.{environment, closed_by}
use Rattle.pz_env_mimics.specs.pz_env_tree.Refusals.{IsFirstRefused}
use Rattle.pz_env_same.specs.SameRules.{SameData, SameClass, SameProcess, SameRules}
use Rattle.pz_env_grown.specs.Growth.{Grown}
use Rattle.pz_env_grown.proofs.Alike.{IsDeclared}
use Rattle.pz_env_joined.proofs.Members.{fields_same, ports_same}
use Rattle.pz_env_joined.proofs.Methods.{method_body_same, process_method_body_same, init_same}
use Rattle.pz_env_joined.proofs.Calls.{calls_same}
use Rattle.pz_env_joined.proofs.Places.{Stands, got_first, declared_at, class_at_same}
use Rattle.pz_env_joined.proofs.Standing.{path_same, values_same}
use Rattle.pz_env_joined.proofs.Wiring.{SameWiring, wiring_turned, has_wire_kept}
use Rattle.pz_env_joined.proofs.Closing.{grown_joined, grown_closed, joined_instances, closed_instances, joined_methods, closed_methods}
use Rattle.pz_env_joined.proofs.Accepted.{no_class}
use Rattle.pz_env_joined.proofs.Levels.{at_place, processes_joined, processes_stand, env_place, processes_closed, wiring, wires_are_same, apart_names}

-- what passes a test
filter_passes : {A : Type 0} (f : A → Bool) (xs : List A) (i : ℕ) (x : A) → slice_get (filter f xs) i ≡ Some x → f x ≡ true
filter_passes f [] i x at = cc
filter_passes {A} f (y ∷ ys) i x at = by (f y) refl i at (filter_passes f ys)
  where
    by : (b : Bool) → f y ≡ b → (i : ℕ) → slice_get (filter f (y ∷ ys)) i ≡ Some x
        → ((k : ℕ) (z : A) → slice_get (filter f ys) k ≡ Some z → f z ≡ true) → f x ≡ true
    by true does zero there rest = let chosen : Some y ≡ Some x = rw does at there in let eq : y ≡ x = cc in subst (λ (z : A). f z ≡ true) eq does
    by true does (suc k) there rest = rest k x (rw does at there)
    by false does k there rest = rest k x (rw does at there)

process_class_at : (m : ModelTree) (p : Address) → is_process_at m p ≡ true → IsProcessClass m (class_at m p)
process_class_at m [] is = cc
process_class_at m (i ∷ up) is = is

got_front : {A : Type 0} (xs ys : List A) (i : ℕ) (x : A) → i < length xs → slice_get (xs ++ ys) i ≡ Some x → slice_get xs i ≡ Some x
got_front [] ys i x low at = absurd (omega (arith, low))
got_front (y ∷ xs) ys zero x low at = at
got_front (y ∷ xs) ys (suc i) x low at = got_front xs ys i x (omega (arith, low)) at

-- laws of sound models
pub record Laws : Type 0 where
  pub reached : AncestorsAreReached
  pub unfolds : CallsUnfold

module _ (laws : Laws) (m : ModelTree) (script : List Entry) (fits : SystemFits m) (sound : IsSound m) (opens : Opens m) (accepted : (line : ℕ) → IsFirstRefused m script line → ⊥) where
  abbrev lines : List Line
  lines = lines_of script

  abbrev j : ModelTree
  j = joined m lines

  abbrev n : ModelTree
  n = closed_by m lines

  to_j : Grown m j
  to_j = grown_joined m lines

  to_n : Grown m n
  to_n = grown_closed m lines

  pub no_env : class m class_name ≡ None
  no_env = no_class m script accepted

  same_data : SameData (joined m lines) (closed_by m lines)
  same_data = record {
    fields = λ c. sym (fields_same m j laws.reached sound to_j c) ∙ fields_same m n laws.reached sound to_n c;
    bodies = λ c name inputs. sym (method_body_same m j laws.reached sound to_j c name inputs) ∙ method_body_same m n laws.reached sound to_n c name inputs;
  }

  -- classes of processes

  same_class : (c : ℕ) → IsDeclared m c → IsProcessClass m c → SameClass (joined m lines) (closed_by m lines) c
  same_class c is process =
      let in_j = λ (x : Id). process_method_body_same m j laws.reached sound to_j c x.name 0 0 is in
      let in_n = λ (x : Id). process_method_body_same m n laws.reached sound to_n c x.name 0 0 is in
      let one : depth_of j ≡ depth_of m = joined_methods m lines in
      let other : depth_of n ≡ suc (depth_of m) = closed_methods m lines in
      record {
        bodies = λ name inputs outputs. sym (process_method_body_same m j laws.reached sound to_j c name inputs outputs is) ∙ process_method_body_same m n laws.reached sound to_n c name inputs outputs is;
        calls = λ edition pos x s.
            sym (calls_same laws.unfolds m j sound opens c process in_j (inl one) edition pos x s)
            ∙ calls_same laws.unfolds m n sound opens c process in_n (inr other) edition pos x s;
      }

  class_j : (p : Address) → Stands m p → class_at m p ≡ class_at j p
  class_j p s = class_at_same m j fits to_j [] (joined_instances m lines fits) p s

  class_n : (p : Address) → Stands m p → class_at m p ≡ class_at n p
  class_n p s = class_at_same m n fits to_n (environment ∷ []) (closed_instances m lines fits) p s

  same_process : (p : Address) → Stands m p → IsProcessClass m (class_at m p) → SameProcess (joined m lines) (closed_by m lines) p
  same_process p s process = record {
    class = sym (class_j p s) ∙ class_n p s;
    path = sym (path_same m j fits to_j [] (joined_instances m lines fits) p s) ∙ path_same m n fits to_n (environment ∷ []) (closed_instances m lines fits) p s;
    values = sym (values_same m j fits to_j [] (joined_instances m lines fits) laws.reached sound p s) ∙ values_same m n fits to_n (environment ∷ []) (closed_instances m lines fits) laws.reached sound p s;
    init = subst (λ (c : ℕ). init j c ≡ init n c) (class_j p s) (sym (init_same m j laws.reached sound to_j (class_at m p) (declared_at m fits p s)) ∙ init_same m n laws.reached sound to_n (class_at m p) (declared_at m fits p s));
    statements = subst (SameClass j n) (class_j p s) (same_class (class_at m p) (declared_at m fits p s) process);
  }

  -- a process of the model
  in_m : (i : ℕ) (p : Address) → slice_get (processes j) i ≡ Some p → slice_get (processes m) i ≡ Some p
  in_m i p at = ap (λ (ps : List Address). slice_get ps i) (processes_joined m fits lines) ∙ at

  stands_there : (i : ℕ) (p : Address) → slice_get (processes j) i ≡ Some p → Stands m p
  stands_there i p at = at_place (Stands m) (processes m) i p (processes_stand m fits lines) (in_m i p at)

  each : (i : ℕ) (p : Address) → slice_get (processes j) i ≡ Some p → SameProcess (joined m lines) (closed_by m lines) p
  each i p at = same_process p (stands_there i p at) (process_class_at m p (filter_passes (is_process_at m) (places m) i p (in_m i p at)))

  behind : processes n ≡ processes j ++ env_place m fits lines no_env ∷ []
  behind = processes_closed m fits lines no_env ∙ ap (λ (ps : List Address). ps ++ env_place m fits lines no_env ∷ []) (processes_joined m fits lines)

  -- Wires

  wired : SameWiring (Stands m) (joined m lines) (closed_by m lines)
  wired = wiring m fits lines no_env (apart_names m script accepted)

  pub same_wires : wires (joined m lines) ≡ wires (closed_by m lines)
  same_wires = wires_are_same m fits lines no_env (apart_names m script accepted)

  names_same : (p : Address) → Stands m p → spelled (ports j (class_at j p)) ≡ spelled (ports n (class_at n p))
  names_same p s =
      ap (λ (c : ℕ). spelled (ports j c)) (sym (class_j p s))
      ∙ ap spelled (sym (ports_same m j laws.reached sound to_j (class_at m p) (declared_at m fits p s)) ∙ ports_same m n laws.reached sound to_n (class_at m p) (declared_at m fits p s))
      ∙ ap (λ (c : ℕ). spelled (ports n c)) (class_n p s)

  wire_kept : (i port w : ℕ) → IsWire j i port w → IsWire n i port w
  wire_kept i port w is =
      let s = stands_there i is.place is.is_process in
      record {
        place = is.place;
        is_process = ap (λ (ps : List Address). slice_get ps i) behind ∙ got_first (processes j) (env_place m fits lines no_env ∷ []) i is.place is.is_process;
        name = is.name;
        named = ap (λ (names : List (List ℕ)). slice_get names port) (sym (names_same is.place s)) ∙ is.named;
        has_wire = has_wire_kept (Stands m) j n wired same_wires (end is.place is.name) w s is.has_wire;
      }

  wire_back : (i port w : ℕ) → i < length (processes j) → IsWire n i port w → IsWire j i port w
  wire_back i port w low is =
      let at = got_front (processes j) (env_place m fits lines no_env ∷ []) i is.place low (ap (λ (ps : List Address). slice_get ps i) (sym behind) ∙ is.is_process) in
      let s = stands_there i is.place at in
      record {
        place = is.place;
        is_process = at;
        name = is.name;
        named = ap (λ (names : List (List ℕ)). slice_get names port) (names_same is.place s) ∙ is.named;
        has_wire = has_wire_kept (Stands m) n j (wiring_turned (Stands m) j n wired) (sym same_wires) (end is.place is.name) w s is.has_wire;
      }

  pub same_rules : SameRules (joined m lines) (closed_by m lines)
  same_rules = record {
    data_classes = same_data;
    more = env_place m fits lines no_env;
    behind = behind;
    each = each;
    wires = λ i port w low. (wire_kept i port w, wire_back i port w low);
  }
