-- What trees, and what is kept of them, are after an action.
use Rattle.std.specs.Prelude.{◌≡◌, ◌≤◌, ◌+◌, ◌*◌, ℕ, List, map, Some, Result, Ok, Err, ⊤, slice_get, slice_set}
use Rattle.pz_rules.specs.pz_syntax.Classes.{ModelTree}
use Rattle.pz_bind.specs.pz_classes.CheckedView.{checked_model}
use Rattle.pz_rules.specs.pz_copy.Parcels.{ParcelView}
use Rattle.pz_rules.specs.pz_offer.declared.end.End.{End}
use Rattle.pz_rules.specs.pz_offer.declared.trouble.Trouble.{Trouble}
use Rattle.pz_rules.specs.pz_offer.PlaceOrder.{Place}
use Rattle.pz_match.specs.declared.offers.Sender.{Sender}
use Rattle.pz_match.specs.Table.{Table}
use Rattle.pz_rules.specs.declared.action.Action.{Action}
use Rattle.pz_rules.specs.declared.action.Action.TheVariants.{Comm}
use Rattle.pz_rules.specs.Settings.{Setting, in_state}
use Rattle.pz_rules.specs.Configurations.{Config}
use Rattle.pz_rules.specs.Fitting.{TermFits}
use Rattle.pz_rules.specs.Messages.{Hands}
use Rattle.pz_rules.specs.Steps.{Deed}
use Rattle.pz_tree.specs.pz_term_processes.Standing.{setting_of}
use Rattle.pz_sim_totals.specs.declared.total.Total.{Total}
use Rattle.pz_sim_laws.specs.Members.{config_of}
use Rattle.pz_sim_laws.specs.Deciding.{total_of}
use Rattle.pz_sim_laws.specs.Leading.{LeadsTo}
use Rattle.pz_tree.specs.Deeds.{Answers}
use Rattle.pz_tree.specs.Deeds.{Ability, CanDo, CanSend, Leaves}
use Rattle.pz_tree.specs.pz_tree_standing.Frames.{FramesStand}
use Rattle.pz_tree.specs.declared.tree.Tree.{Tree}
use Rattle.pz_tree.specs.Acting.{answered}
use Rattle.pz_tree.specs.Trees.{IsFresh, at_in, term_in, process_in}
use Rattle.pz_sim.specs.Costs.{Concerns}
use Rattle.pz_sim.specs.Members.{members_of}
use Rattle.pz_sim.specs.declared.scene.Scene.{Scene}
use Rattle.pz_sim.specs.declared.standing.Standing.{Standing}
use Rattle.pz_sim.specs.declared.standing.Standing.TheVariants as standing
use Rattle.pz_sim.specs.devices.Holding.{AreTrees}
use Rattle.pz_sim.specs.devices.Tables.{IsTable}

abbrev pub model_at : Scene → ModelTree
model_at s = checked_model s.checked.now

abbrev pub setting_at : Scene → Setting
setting_at s = setting_of (model_at s) s.limits

-- the configuration of these trees
abbrev pub config_at : Scene → List Tree → Config
config_at s ts = config_of s.clock (members_of (model_at s) ts)

-- totals and table are those of the trees
pub record AreTold (setting : Setting) (clock : ℕ) (ts : List Tree) (totals : List Total) (table : Table) : Type 0 where
  pub are_trees : AreTrees setting clock ts
  pub are_totals : totals ≡ map (total_of clock) (members_of setting.model ts)
  pub is_table : IsTable (members_of setting.model ts) table

-- the part at a place of a fresh tree can do something
pub record MayAct (m : ModelTree) (clock : ℕ) (can : Ability) (t : Tree) (place : Place) : Type 0 where
  pub fresh : IsFresh m t
  pub same_clock : clock ≡ t.clock
  pub fits : TermFits m t.class.0 0 (term_in t)
  pub frames : FramesStand (term_in t) (process_in t).state
  pub it_can : CanDo can (at_in m t) (term_in t) place

-- the part at this end can do it
pub record CanDoAt (m : ModelTree) (can : Ability) (ts : List Tree) (at : End) : Type 0 where
  pub tree : Tree
  pub is : slice_get ts at.process ≡ Some tree
  pub it_can : CanDo can (at_in m tree) (term_in tree) at.place

-- and the tree has the limits of the setting
pub record MayActAt (setting : Setting) (clock : ℕ) (can : Ability) (ts : List Tree) (at : End) : Type 0 where
  pub tree : Tree
  pub is : slice_get ts at.process ≡ Some tree
  pub limits : tree.limits ≡ setting.limits
  pub may : MayAct setting.model clock can tree at.place

-- a tree after its process has come into another state, with another term: it is fresh, and just the open frames stand
pub record IsAfter (m : ModelTree) (t u : Tree) : Type 0 where
  pub seen : at_in m u ≡ in_state (at_in m t) (process_in u).state
  pub fresh : ∥ IsFresh m u ∥₁
  pub frames : FramesStand (term_in u) (process_in u).state

abbrev pub After : ModelTree → Tree → Tree → Result ⊤ Trouble → Type 0
After m t u (Ok x) = IsAfter m t u
After m t u (Err trouble) = u ≡ t

-- What the part at this end has done, by what it could do with a parcel: the trees but one are as before.
pub record HasActed (m : ModelTree) (clock : ℕ) (can : ParcelView → Ability) (does : ParcelView → Deed) (at : End) (ts us : List Tree) (left : Result ⊤ Trouble) : Type 0 where
  pub old : Tree
  pub is : slice_get ts at.process ≡ Some old
  pub new : Tree
  pub now : us ≡ slice_set ts at.process new
  pub after : After m old new left
  pub leaves : (parcel : ParcelView) → MayAct m clock (can parcel) old at.place → ∥ Leaves (at_in m old) (does parcel) (term_in old) at.place (answered left (process_in new)) ∥₁

-- what the send at this end would do
pub record HasTried (m : ModelTree) (clock : ℕ) (at : End) (ts : List Tree) (left : Result ⊤ Trouble) : Type 0 where
  pub tree : Tree
  pub is : slice_get ts at.process ≡ Some tree
  pub answers : (parcel : ParcelView) → MayAct m clock (CanSend parcel) tree at.place → Answers (at_in m tree) (λ a f. Hands a f parcel) (term_in tree) at.place left

-- what takes place where this send meets the receive at this end
abbrev pub communicated : Sender → End → Action
communicated s r = Comm s.wire s.end r s.message s.parcel

-- the part at this place of the tree t has acted, and u was asked again: in at most 32 steps for each node that this concerned
pub record HasActedSoon (m : ModelTree) (does : Deed) (t u : Tree) (place : Place) (begun ended : ℕ) : Type 0 where
  pub nodes : ℕ
  pub concerns : Concerns m does t u place nodes
  pub few : ended ≤ begun + 32 * nodes

-- where an action has led: to these trees, or to a trouble
abbrev pub reached : ModelTree → ℕ → List Tree → Result ⊤ Trouble → Result Config Trouble
reached m clock ts (Ok x) = Ok (config_of clock (members_of m ts))
reached m clock ts (Err trouble) = Err trouble

-- How it is with a simulator when the offer of this number, among so many, was taken, by which these trees have become
-- those.
abbrev pub HasAdvanced : Setting → ℕ → ℕ → ℕ → List Tree → List Tree → Standing → Type 0
HasAdvanced setting clock n k ts us (standing.Whole moment) =
    ∥ LeadsTo setting (config_of clock (members_of setting.model ts)) n k (Ok (config_of clock (members_of setting.model us))) ∥₁
HasAdvanced setting clock n k ts us (standing.Stopped trouble) = ∥ LeadsTo setting (config_of clock (members_of setting.model ts)) n k (Err trouble) ∥₁ × (us ≡ ts)
HasAdvanced setting clock n k ts us (standing.High trouble) = ⊥
HasAdvanced setting clock n k ts us standing.Broken = ⊥
