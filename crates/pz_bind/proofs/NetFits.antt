-- What a net says of its wires and processes.
use Rattle.std.proofs.Common.{◌≡◌, refl, sym, ap, ◌∙◌, subst, ℕ, zero, suc, ◌<◌, ◌^◌, true, false, IsTrue, List, [], ◌∷◌, length, Option, Some, None, slice_get, get_or, arith}
use Rattle.std.specs.Option.{MatchOption, IfSome, option_map_or}
use Rattle.std.proofs.lemmas.List.{length-map}
use Rattle.std.proofs.lemmas.Option.{slice_get_within, slice_get-get_or}
use Rattle.pz_bind_rules.specs.pz_syntax.Classes.{DeclTree, ModelTree}
use Rattle.pz_bind_rules.specs.pz_classes_rules.Numbers.{declaration}
use Rattle.pz_bind_rules.specs.pz_classes_rules.Kinds.{is_process}
use Rattle.pz_classes.specs.declared.classes.Classes.{Classes}
use Rattle.pz_classes.specs.devices.Rows.{Row, rows_from, row_view, AreClasses}
use Rattle.pz_bind_rules.specs.pz_classes_rules.Members.{ports, spelled}
use Rattle.pz_bind_rules.specs.pz_classes_rules.SoundClasses.{ClassesFit}
use Rattle.pz_bind_levels.specs.declared.expansion.Process.{Process}
use Rattle.pz_bind_levels.specs.declared.expansion.Expansion.{Expansion}
use Rattle.pz_bind_levels.specs.Layouts.{Layout, AreLinked}
use Rattle.pz_bind_levels.specs.Places.{Address, Spot}
use Rattle.pz_bind_levels.specs.Places as by_number
use Rattle.pz_bind_levels.specs.Wires.{Channel}
use Rattle.pz_bind_levels.specs.Connections as numbers
use Rattle.pz_bind_levels.specs.devices.Expanded.{StandsAt, IsExpansion}
use Rattle.pz_bind_levels.proofs.Each.{there}
use Rattle.pz_bind_levels.specs.devices.Walking.{layouts_of}
use Rattle.pz_bind_rules.specs.Nest.{system_class, class_at, is_process_at, places, processes}
use Rattle.pz_bind_rules.specs.Connections.{end, IsInNone}
use Rattle.pz_bind_rules.specs.Wires.{wires, HasWire}
use Rattle.pz_bind_rules.specs.Names.{wire_name}
use Rattle.pz_bind.specs.devices.Nets.{node_at, IsNet}
use Rattle.pz_bind.specs.declared.net.Net.{Net}
use Rattle.pz_bind.specs.declared.net.Node.{Node}
use Rattle.pz_bind_rules.specs.devices.Layouts.{layouts}
use Rattle.pz_bind_rules.proofs.Lists.{AreOnce, ids_once, map_at}
use Rattle.pz_bind_rules.proofs.Spots.{spot_at, processes_are}
use Rattle.pz_bind.proofs.Placed.{filtered_passes}
use Rattle.pz_bind_rules.proofs.Layouts.{are_linked}
use Rattle.pz_bind_rules.proofs.Ends.{numbered}
use Rattle.pz_bind_rules.proofs.Wired.{has_wire, in_none}

pub ports_once : (m : ModelTree) → ClassesFit m → (k : ℕ) → AreOnce (spelled (ports m k))
ports_once m fits k = ids_once (ports m k) (fits.ports_apart k)

-- what an expansion says of a port of the process of this number
abbrev pub Said : Expansion → ℕ → ℕ → Process → Option ℕ → List Layout → List Process → Type 0
Said e n port d result ls ps = (system : ℕ) (at : Address) → AreLinked ls → IsExpansion ls system e → StandsAt (by_number.levels ls system) (Some (get_or ps n d).standing) at
    → MatchOption result (numbers.IsInNone ls system (numbered at port)) (numbers.HasWire ls system (numbered at port))

module _ (m : ModelTree) (net : Net) (is : IsNet m net) where
  -- the node of a process
  pub node_there : (n : ℕ) (place : Address) (node : Node) → slice_get (processes m) n ≡ Some place → n < length net.nodes → node ≡ get_or net.nodes n node → node ≡ node_at m place
  node_there n place node there within here =
      let at : slice_get net.nodes n ≡ Some node = slice_get-get_or net.nodes n node within ∙ ap Some (sym here) in
      let both : Some node ≡ Some (node_at m place) = sym at ∙ (ap (λ (ns : List Node). slice_get ns n) is.nodes ∙ map_at (node_at m) (processes m) n place there) in
      cc

  -- the class of a process is a process class
  pub process_class : (n : ℕ) (node : Node) → n < length net.nodes → node ≡ get_or net.nodes n node → IsTrue (option_map_or is_process (declaration m node.class.0) false)
  process_class n node within here = by_place found.0 (node_there n found.0 node found.1 within here) (filtered_passes (is_process_at m) (places m) n found.0 found.1)
    where
      found : (place : Address) × (slice_get (processes m) n ≡ Some place)
      found = there (processes m) n (let counts = ap (λ (ns : List Node). length ns) is.nodes ∙ length-map (processes m) (node_at m) in omega (arith, counts, within))

      by_place : (place : Address) → node ≡ node_at m place → is_process_at m place ≡ true → IsTrue (option_map_or is_process (declaration m node.class.0) false)
      by_place [] same passes = let wrong : false ≡ true = passes in cc
      by_place (i ∷ up) same passes = ap (λ (x : Node). option_map_or is_process (declaration m x.class.0) false) same ∙ passes

  pub name_there : (n : ℕ) (c : Channel) (name : List ℕ) → slice_get (wires m) n ≡ Some c → n < length net.wire_names → name ≡ get_or net.wire_names n name → name ≡ wire_name m c
  name_there n c name there within here =
      let at : slice_get net.wire_names n ≡ Some name = slice_get-get_or net.wire_names n name within ∙ ap Some (sym here) in
      let both : Some name ≡ Some (wire_name m c) = sym at ∙ (ap (λ (ns : List (List ℕ)). slice_get ns n) is.wire_names ∙ map_at (wire_name m) (wires m) n c there) in
      cc

  pub nodes_count : length net.nodes ≡ length (processes m)
  nodes_count = ap (λ (ns : List Node). length ns) is.nodes ∙ length-map (processes m) (node_at m)

  pub names_count : length net.wire_names ≡ length (wires m)
  names_count = ap (λ (ns : List (List ℕ)). length ns) is.wire_names ∙ length-map (wires m) (wire_name m)

  -- the wire that the levels give is that of the end
  pub wire_says : (n port : ℕ) (place : Address) (name : List ℕ) (d : Process) (result : Option ℕ) → slice_get (processes m) n ≡ Some place → slice_get (spelled (ports m (class_at m place))) port ≡ Some name → n < length net.expansion.processes
      → Said net.expansion n port d result (layouts_of net.plans) net.expansion.processes
      → MatchOption result (IsInNone m (end place name)) (HasWire m (end place name))
  wire_says n port place name d result there port_at within says = by_result result (subst (λ (ls : List Layout). Said net.expansion n port d result ls net.expansion.processes) is.plans says (system_class m) place (are_linked m) is.expansion stands)
    where
      stands : StandsAt (by_number.levels (layouts m) (system_class m)) (Some (get_or net.expansion.processes n d).standing) place
      stands =
          let spot_there : slice_get (by_number.processes (layouts m) (system_class m)) n ≡ Some (spot_at m place) = ap (λ (xs : List Spot). slice_get xs n) (processes_are m is.system_fits) ∙ map_at (spot_at m) (processes m) n place there in
          (is.expansion.processes.each n (get_or net.expansion.processes n d) (spot_at m place) (slice_get-get_or net.expansion.processes n d within) spot_there).stands

      by_result : (r : Option ℕ) → MatchOption r (numbers.IsInNone (layouts m) (system_class m) (numbered place port)) (numbers.HasWire (layouts m) (system_class m) (numbered place port)) → MatchOption r (IsInNone m (end place name)) (HasWire m (end place name))
      by_result None none = in_none m is.system_fits (ports_once m is.classes_fit) place port name port_at none
      by_result (Some w) has = has_wire m is.system_fits (ports_once m is.classes_fit) place port name w port_at has

  -- a wire of an end is one of these
  pub wire_below : (place : Address) (name : List ℕ) (w : ℕ) → HasWire m (end place name) w → w < length net.wire_names
  wire_below place name w has = subst (λ n. w < n) (sym names_count) (slice_get_within (wires m) w has.last has.there)

  -- wires are few enough to have numbers of 32 bits
  pub narrowed_says : (place : Address) (name : List ℕ) (o r : Option ℕ) → (IfSome o (λ w. w < 2 ^ 32) → r ≡ o) → MatchOption o (IsInNone m (end place name)) (HasWire m (end place name)) → MatchOption r (IsInNone m (end place name)) (HasWire m (end place name))
  narrowed_says place name o r same says = subst (λ x. MatchOption x (IsInNone m (end place name)) (HasWire m (end place name))) (sym (same (small o says))) says
    where
      small : (x : Option ℕ) → MatchOption x (IsInNone m (end place name)) (HasWire m (end place name)) → IfSome x (λ w. w < 2 ^ 32)
      small None none = tt
      small (Some w) has = let below = wire_below place name w has in let few = net.few_wires in omega (arith, below, few)

-- a class that is declared is one of the model's table
pub declared_in : (m : ModelTree) (classes : Classes) (c : ℕ) → AreClasses m classes → IsTrue (option_map_or is_process (declaration m c) false) → c < length classes.entries
declared_in m classes c are is = by_number c is
  where
    rows_count : (n : ℕ) (ds : List DeclTree) → length (rows_from m n ds) ≡ length ds
    rows_count n [] = refl
    rows_count n (d ∷ ds) = ap suc (rows_count (suc n) ds)

    entries : length classes.entries ≡ suc (length m.decls)
    entries = sym (length-map classes.entries row_view) ∙ (ap (λ (xs : List Row). length xs) are.rows ∙ ap suc (rows_count 1 m.decls))

    by_number : (k : ℕ) → IsTrue (option_map_or is_process (declaration m k) false) → k < length classes.entries
    by_number zero wrong = let not : false ≡ true = wrong in cc
    by_number (suc i) passes = by_decl (slice_get m.decls i) refl passes
      where
        by_decl : (o : Option DeclTree) → slice_get m.decls i ≡ o → IsTrue (option_map_or is_process o false) → suc i < length classes.entries
        by_decl None at wrong = let not : false ≡ true = wrong in cc
        by_decl (Some d) at passes = let within : i < length m.decls = slice_get_within m.decls i d at in let count = entries in omega (arith, within, count)

-- the same expansion, where the levels are the model's
pub expansion_is : (m : ModelTree) (ls : List Layout) (system : ℕ) (e : Expansion) → ls ≡ layouts m → system ≡ system_class m → IsExpansion ls system e → IsExpansion (layouts m) (system_class m) e
expansion_is m ls system e plans class is = subst (λ c. IsExpansion (layouts m) c e) class (subst (λ (l : List Layout). IsExpansion l system e) plans is)
