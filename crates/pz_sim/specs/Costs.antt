-- How many steps a choice and a passing of time may take. A step is a visit of a node, or a question about a pair.
use Rattle.std.specs.Prelude.{◌≡◌, ◌≤◌, ◌+◌, ◌*◌, ◌||◌, max, ℕ, Bool, false, nat_eq, List, [], ◌∷◌, length, filter, Some, Ok, IfOk, slice_get}
use Rattle.std.specs.Option.{option_map_or}
use Rattle.pz_rules.specs.pz_syntax.Classes.{ModelTree}
use Rattle.pz_rules.specs.pz_syntax.declared.tokens.Pos.{Pos}
use Rattle.pz_rules.specs.pz_copy.Parcels.{ParcelView}
use Rattle.pz_rules.specs.pz_offer.declared.end.End.{End}
use Rattle.pz_rules.specs.pz_offer.PlaceOrder.{Place}
use Rattle.pz_match.specs.Pairs.{Judged}
use Rattle.pz_rules.specs.declared.action.Action.{Action}
use Rattle.pz_rules.specs.declared.action.Action.TheVariants.{Internal, Comm}
use Rattle.pz_rules.specs.declared.action.Kind.{Kind}
use Rattle.pz_rules.specs.InternalActions.{Performs}
use Rattle.pz_rules.specs.Messages.{Hands, Takes}
use Rattle.pz_rules.specs.Runs.{whole, stopped, IsChoice}
use Rattle.pz_rules.specs.Settings.{Setting, home_of}
use Rattle.pz_rules.specs.Steps.{Deed}
use Rattle.pz_tree.specs.pz_term_processes.Standing.{setting_of}
use Rattle.pz_term_simulator.specs.Simulations.{Simulation, stands, broken}
use Rattle.pz_sim_laws.specs.Couples.{AreCouples}
use Rattle.pz_sim_laws.specs.Members.{config_of}
use Rattle.pz_tree.specs.Deeds.{Leaves}
use Rattle.pz_tree.specs.pz_tree_regrowing.Costs.{on_way, made_all, dropped_all}
use Rattle.pz_tree.specs.pz_tree_standing.Woken.{clocked}
use Rattle.pz_tree.specs.declared.tree.Tree.{Tree}
use Rattle.pz_tree.specs.Trees.{at_in, term_in, process_in, live_in, woken_in}
use Rattle.pz_sim.specs.Members.{members_of}
use Rattle.pz_sim.specs.Sims.{model_of, simulation_of}
use Rattle.pz_sim.specs.declared.sim.Sim.{Sim}

-- the pairs with an end in one of these processes
abbrev pub with_end_in : (ℕ → Bool) → List Judged → List Judged
with_end_in among = filter (λ p. among p.sender.end.process || among p.receiver.end.process)

-- Actions

-- The part at this place of the tree t has acted, and the tree is u now. This concerned so many nodes: those on the way to the
-- part, with those beside it, those that were made, those that were dropped, and those that are live now.
pub record Concerns (m : ModelTree) (does : Deed) (t u : Tree) (place : Place) (nodes : ℕ) : Type 0 where
  pub leaves : Leaves (at_in m t) does (term_in t) place (Ok (process_in u))
  pub nodes_are : IfOk leaves.left (λ x. nodes ≡ on_way (term_in t) place
      + (made_all (home_of (at_in m t)) 0 (term_in t) place x + (dropped_all (home_of (at_in m t)) 0 (term_in t) place x + live_in u)))

-- of the trees before and after, that of the process at this end
pub record ConcernsAt (m : ModelTree) (does : Deed) (ts us : List Tree) (at : End) (nodes : ℕ) : Type 0 where
  pub old : Tree
  pub is_old : slice_get ts at.process ≡ Some old
  pub new : Tree
  pub is_new : slice_get us at.process ≡ Some new
  pub concerns : Concerns m does old new at.place nodes

-- over all processes that act
pub data ConcernsAll (m : ModelTree) (ts us : List Tree) : Action → ℕ → Type 0 where
  internal : (at : End) (kind : Kind) (pos : Pos) (nodes : ℕ) → ConcernsAt m Performs ts us at nodes → ConcernsAll m ts us (Internal at kind pos) nodes
  communication : (wire : ℕ) (sender receiver : End) (message : List ℕ) (parcel : ParcelView) (sent taken : ℕ)
      → ConcernsAt m (λ a f. Hands a f parcel) ts us sender sent → ConcernsAt m (λ a f. Takes a f parcel) ts us receiver taken
      → ConcernsAll m ts us (Comm wire sender receiver message parcel) (sent + taken)

-- whether process i acts
abbrev pub acts_in : Action → ℕ → Bool
acts_in (Internal at kind pos) i = nat_eq i at.process
acts_in (Comm wire sender receiver message parcel) i = nat_eq i sender.process || nat_eq i receiver.process

-- by the action these trees have become those, in at most 64 steps for each node that it concerned, and so many questions
pub record ActsSoon (m : ModelTree) (ts us : List Tree) (a : Action) (asked begun ended : ℕ) : Type 0 where
  pub nodes : ℕ
  pub concerned : ConcernsAll m ts us a nodes
  pub few : ended ≤ begun + (64 * nodes + asked)

-- The offer of number k took place, by which these trees have become those, and these are the pairs with their verdicts now: at
-- most one question for each with an end in a process that acted.
pub record TakesSoon (setting : Setting) (clock k : ℕ) (ts us : List Tree) (pairs : List Judged) (begun ended : ℕ) : Type 0 where
  pub count : ℕ
  pub action : Action
  pub chosen : IsChoice setting (config_of clock (members_of setting.model ts)) count k action
  pub soon : ActsSoon setting.model ts us action (length (with_end_in (acts_in action) pairs)) begun ended

-- the pairs are those of the rules
pub record ChoosesSoon (setting : Setting) (clock k : ℕ) (ts us : List Tree) (begun ended : ℕ) : Type 0 where
  pub pairs : List Judged
  pub couples : AreCouples setting (config_of clock (members_of setting.model us)) pairs
  pub takes : TakesSoon setting clock k ts us pairs begun ended

-- unless it stands at a trouble, or is broken
abbrev pub IfGoesOn : Simulation → Type 0 → Type 0
IfGoesOn (stands setting c whole) P = P
IfGoesOn (stands setting c (stopped trouble)) P = Unit {0}
IfGoesOn (broken setting) P = Unit {0}

abbrev pub ChoiceIsSoon : ℕ → Sim → Sim → ℕ → ℕ → Type 0
ChoiceIsSoon k s t begun ended = IfGoesOn (simulation_of t) (∥ ChoosesSoon (setting_of (model_of s) s.limits) s.clock k s.trees.items t.trees.items begun ended ∥₁)

-- Passings of time

-- the nodes of a tree in which something wakes, and those that are live in what becomes active; one where there are none
abbrev pub visited : Tree → Tree → ℕ
visited t u = max 1 (woken_in t u)

-- over all trees, before and after
abbrev pub visited_all : List Tree → List Tree → ℕ
visited_all [] us = 0
visited_all (t ∷ ts) [] = 0
visited_all (t ∷ ts) (u ∷ us) = visited t u + visited_all ts us

-- an active part of the process of a tree names the clock
abbrev pub names : ModelTree → Tree → Bool
names m t = clocked (at_in m t) 0 (term_in t)

-- of process i
abbrev pub names_at : ModelTree → List Tree → ℕ → Bool
names_at m ts i = option_map_or (names m) (slice_get ts i) false

-- These trees have become those, in at most 64 steps for each node that is visited, and one question for each pair that fits now
-- with an end in a process that named the clock before.
pub record PassesSoon (setting : Setting) (clock : ℕ) (ts us : List Tree) (begun ended : ℕ) : Type 0 where
  pub pairs : List Judged
  pub couples : AreCouples setting (config_of clock (members_of setting.model us)) pairs
  pub few : ended ≤ begun + (64 * visited_all ts us + length (with_end_in (names_at setting.model ts) pairs))

abbrev pub PassingIsSoon : Sim → Sim → ℕ → ℕ → Type 0
PassingIsSoon s t begun ended = ∥ PassesSoon (setting_of (model_of s) s.limits) t.clock s.trees.items t.trees.items begun ended ∥₁
