-- The trees of processes that have just begun.
use Rattle.std.proofs.Common.{◌≡◌, ◌<◌, ◌≤◌, ◌∙◌, ℕ, List, [], ◌∷◌, ◌++◌, length, map, get_or, Some, refl, sym, ap, subst, arith}
use Rattle.std.specs.Prelude.{slice_get, All}
use Rattle.std.specs.Option.{option_map}
use Rattle.std.specs.Coded.{le_prop}
use Rattle.std.proofs.Math.Logic.{∥∥₁_elim, ∥∥₁_map}
use Rattle.std.proofs.Math.Nat.{ℕ_set}
use Rattle.std.proofs.lemmas.List.{length-map, append-nil}
use Rattle.std.proofs.lemmas.List.Elements.{All-nil, All-push}
use Rattle.std.proofs.lemmas.Option.{slice_get-map, slice_get_within, slice_get-get_or}
use Rattle.pz_rules.specs.pz_syntax.Classes.{ModelTree}
use Rattle.pz_bind_levels.specs.Places.{Address}
use Rattle.pz_rules.specs.pz_bind_rules.Nest.{processes, class_at}
use Rattle.pz_bind.specs.NetView.{HasProcess}
use Rattle.pz_bind.specs.devices.Nets.{IsNet, node_at}
use Rattle.pz_bind.specs.declared.net.Net.{Net}
use Rattle.pz_rules.specs.Terms.{height}
use Rattle.pz_rules.specs.Settings as rules
use Rattle.pz_rules.specs.Settings.{Setting, Context}
use Rattle.pz_rules.specs.Fitting.{IsFit}
use Rattle.pz_rules.specs.Heights.{IsLow}
use Rattle.pz_rules.specs.Runs.{whole}
use Rattle.pz_rules.specs.Starting.{StartsAs, IsStart}
use Rattle.pz_tree.specs.pz_term_processes.declared.process.Process.{Process}
use Rattle.pz_tree.specs.pz_term_processes.Standing as standing
use Rattle.pz_tree.specs.pz_term_processes.Standing.{process_view, AreProcesses}
use Rattle.pz_term_simulator.specs.Simulations as simulations
use Rattle.pz_term_simulator.specs.Simulations.{Starts, stands}
use Rattle.pz_sim_laws.specs.Members.{Member, process_of, config_of}
use Rattle.pz_tree.specs.pz_tree_standing.Frames.{FramesStand, FramesStandAtStart}
use Rattle.pz_tree.specs.declared.tree.Tree.{Tree}
use Rattle.pz_tree.specs.Trees.{at_in, term_in, process_in, IsFresh}
use Rattle.pz_sim.specs.Members.{member_of, members_of}
use Rattle.pz_sim.specs.devices.Holding.{AreTrees}
use Rattle.pz_sim.proofs.Replaced.{from_mapped}
use Rattle.pz_sim.proofs.Filled.{moved_one, at_end, last_or_before, got_within}

-- how the statements of process i see it at the start
abbrev pub at_start : Setting → ℕ → Address → Tree → Context
at_start setting i place t = record { setting = setting; process = i; class = class_at setting.model place; clock = 0; state = t.state.held }

abbrev pub IsSeen : Setting → ℕ → Tree → Type 0
IsSeen setting i t = (place : Address) → slice_get (processes setting.model) i ≡ Some place → at_in setting.model t ≡ at_start setting i place t

-- these trees were made of the first of all processes, and those are left
pub record Planted (setting : Setting) (all : List Process) (ts : List Tree) (left : List Process) : Type 0 where
  pub views : map process_in ts ++ map process_view left ≡ map process_view all
  pub seen : (i : ℕ) (t : Tree) → slice_get ts i ≡ Some t → IsSeen setting i t
  pub fresh : ∥ All (IsFresh setting.model) ts ∥₁

no_tree : (i : ℕ) (t : Tree) → slice_get [] i ≡ Some t → ⊥
no_tree i t e = cc

none_yet : (setting : Setting) (all : List Process) → Planted setting all [] all
none_yet setting all = record {
  views = refl;
  seen = λ i t is. absurd (no_tree i t is);
  fresh = ∣ All-nil (IsFresh setting.model) ∣₁;
}

pub none_planted : (setting : Setting) (all left : List Process) (ts : List Tree) → ts ≡ [] → left ≡ all → Planted setting all ts left
none_planted setting all left ts none same =
    subst (λ (us : List Tree). Planted setting all us left) (sym none) (subst (λ (ps : List Process). Planted setting all [] ps) (sym same) (none_yet setting all))

module _ (setting : Setting) (all : List Process) (ts : List Tree) (left rest : List Process) (p : Process) (is : left ≡ p ∷ rest) (so : Planted setting all ts left) where
  here : slice_get (map process_view all) (length ts) ≡ Some (process_view p)
  here =
      ap (λ (ps : List rules.Process). slice_get ps (length ts)) (sym so.views)
      ∙ ap (λ (ps : List Process). slice_get (map process_in ts ++ map process_view ps) (length ts)) is
      ∙ ap (slice_get (map process_in ts ++ (process_view p ∷ map process_view rest))) (sym (length-map ts process_in))
      ∙ at_end (map process_in ts) (process_view p) (map process_view rest)

  module _ (start : IsStart setting (standing.config_of 0 all)) where
    pub is_process : length ts < length (processes setting.model)
    is_process =
        let within = slice_get_within (map process_view all) (length ts) (process_view p) here in
        let count : length (map process_view all) ≡ length (processes setting.model) = start.all in
        omega (arith, within, count)

    pub has_process : (net : Net) → ∥ IsNet setting.model net ∥₁ → HasProcess net (length ts)
    has_process net known =
        let count : length net.nodes ≡ length (processes setting.model) =
        ∥∥₁_elim known (ℕ_set (length net.nodes) (length (processes setting.model))) (λ k. ap (λ xs. length xs) k.nodes ∙ length-map (processes setting.model) (node_at setting.model)) in
        omega (arith, is_process, count)

    pub begins : (place : Address) → slice_get (processes setting.model) (length ts) ≡ Some place → StartsAs setting place (process_view p)
    begins place at = start.each (length ts) place (process_view p) at here

  pub is_low : ∥ AreProcesses setting 0 all ∥₁ → height (process_view p).term ≤ setting.limits.height
  is_low are = ∥∥₁_elim are le_prop (λ k. k.low (length ts) (process_view p) here)

  pub one_planted : (us : List Tree) (t : Tree) → us ≡ ts ++ t ∷ [] → process_in t ≡ process_view p
      → ((place : Address) → slice_get (processes setting.model) (length ts) ≡ Some place
      → at_in setting.model t ≡ record { setting = setting; process = length ts; class = class_at setting.model place; clock = 0; state = p.state.held })
      → ∥ IsFresh setting.model t ∥₁ → Planted setting all us rest
  one_planted us t grown same seen fresh =
      subst (λ (vs : List Tree). Planted setting all vs rest) (sym grown)
      (record {
        views = moved_one process_in process_view ts t p rest same ∙ ap (λ (ps : List Process). map process_in ts ++ map process_view ps) (sym is) ∙ so.views;
        seen = last_or_before (IsSeen setting) ts t so.seen
            (λ place at. seen place at ∙ ap (λ (q : rules.Process). record { setting = setting; process = length ts; class = class_at setting.model place; clock = 0; state = q.state }) (sym same));
        fresh = ∥∥₁_elim so.fresh squash₁ (λ olds. ∥∥₁_map fresh (λ new. All-push (IsFresh setting.model) ts t olds new));
      })

pub all_planted : (setting : Setting) (all left : List Process) (ts : List Tree) → left ≡ [] → Planted setting all ts left → map process_in ts ≡ map process_view all
all_planted setting all left ts none so =
    sym (append-nil (map process_in ts)) ∙ ap (λ (ps : List Process). map process_in ts ++ map process_view ps) (sym none) ∙ so.views

-- the configuration of the trees is that of their processes
same_processes : (m : ModelTree) (ts : List Tree) → map process_of (members_of m ts) ≡ map process_in ts
same_processes m [] = refl
same_processes m (t ∷ ts) = ap (λ (ps : List rules.Process). process_in t ∷ ps) (same_processes m ts)

pub same_config : (m : ModelTree) (ps : List Process) (ts : List Tree) → map process_in ts ≡ map process_view ps → config_of 0 (members_of m ts) ≡ standing.config_of 0 ps
same_config m ps ts same = ap (λ (qs : List rules.Process). record { clock = 0; processes = qs }) (same_processes m ts ∙ same)

pub starts_so : (setting : Setting) (ps : List Process) (ts : List Tree) → map process_in ts ≡ map process_view ps → IsStart setting (standing.config_of 0 ps)
    → Starts setting (stands setting (config_of 0 (members_of setting.model ts)) whole)
starts_so setting ps ts same start =
    simulations.starts (config_of 0 (members_of setting.model ts)) (subst (IsStart setting) (sym (same_config setting.model ps ts same)) start)

module _ (law : FramesStandAtStart) (setting : Setting) (ps : List Process) (ts : List Tree) (same : map process_in ts ≡ map process_view ps)
    (start : IsStart setting (standing.config_of 0 ps)) (seen : (i : ℕ) (t : Tree) → slice_get ts i ≡ Some t → IsSeen setting i t) where
  count : length ts ≡ length (processes setting.model)
  count = sym (length-map ts process_in) ∙ ap (λ (qs : List rules.Process). length qs) same ∙ start.all

  place_of : (i : ℕ) (t : Tree) → slice_get ts i ≡ Some t → (place : Address) × (slice_get (processes setting.model) i ≡ Some place)
  place_of i t at = got_within (processes setting.model) i (length ts) (slice_get_within ts i t at) count

  clock_of : (i : ℕ) (t : Tree) → slice_get ts i ≡ Some t → t.clock ≡ 0
  clock_of i t at = let place = place_of i t at in ap (λ (a : Context). a.clock) (seen i t at place.0 place.1)

  frames_of : (i : ℕ) (t : Tree) → slice_get ts i ≡ Some t → FramesStand (term_in t) (process_in t).state
  frames_of i t at =
      let place = place_of i t at in
      let one : slice_get (map process_view ps) i ≡ Some (process_in t) =
      ap (λ (qs : List rules.Process). slice_get qs i) (sym same) ∙ slice_get-map process_in ts i ∙ ap (option_map process_in) at in
      law setting place.0 (process_in t) (start.each i place.0 (process_in t) place.1 one)

  seen_so : (i : ℕ) (h : Member) (place : Address) → slice_get (members_of setting.model ts) i ≡ Some h → slice_get (processes setting.model) i ≡ Some place
      → h.seen ≡ record { setting = setting; process = i; class = class_at setting.model place; clock = 0; state = h.seen.state }
  seen_so i h place at is =
      let made = from_mapped (member_of setting.model) ts i h at in
      subst (λ (x : Member). x.seen ≡ record { setting = setting; process = i; class = class_at setting.model place; clock = 0; state = x.seen.state }) made.2 (seen i made.0 made.1 place is)

  pub are_trees : AreProcesses setting 0 ps → All (IsFresh setting.model) ts → AreTrees setting 0 ts
  are_trees are fresh =
      let config = same_config setting.model ps ts same in
      record {
        members = record { whole = length-map ts (member_of setting.model) ∙ count; each = seen_so };
        fresh = fresh;
        clocks = λ k d within. clock_of k (get_or ts k d) (slice_get-get_or ts k d within);
        fit = subst (IsFit setting) (sym config) are.fit;
        low = subst (IsLow setting) (sym config) are.low;
        frames = λ k d within. frames_of k (get_or ts k d) (slice_get-get_or ts k d within);
      }

pub trees_planted : FramesStandAtStart → (setting : Setting) (all left : List Process) (ts : List Tree) → left ≡ [] → Planted setting all ts left → IsStart setting (standing.config_of 0 all)
    → ∥ AreProcesses setting 0 all ∥₁ → ∥ AreTrees setting 0 ts ∥₁
trees_planted law setting all left ts none so start are =
    ∥∥₁_elim are squash₁ (λ k. ∥∥₁_map so.fresh (are_trees law setting all ts (all_planted setting all left ts none so) start so.seen k))
