-- What a simulator shows of a variable.
use Rattle.std.proofs.Common.{◌≡◌, ◌<◌, ◌∙◌, ◌⊎◌, inl, inr, ℕ, List, [], ◌∷◌, length, Some, sym, ap, subst, arith}
use Rattle.std.specs.Prelude.{slice_get}
use Rattle.std.proofs.Math.Logic.{∥∥₁_elim}
use Rattle.std.proofs.Math.Nat.{ℕ_set}
use Rattle.std.proofs.lemmas.List.{length-map}
use Rattle.pz_rules.specs.pz_state.States.{variable}
use Rattle.pz_rules.specs.pz_copy.Parcels.{ParcelView}
use Rattle.pz_rules.specs.pz_copy.Packing.{IsParcelOf}
use Rattle.pz_rules.specs.pz_bind_rules.Nest.{processes}
use Rattle.pz_bind.specs.NetView.{HasProcess}
use Rattle.pz_bind.specs.devices.Nets.{IsNet, node_at}
use Rattle.pz_bind.specs.declared.net.Net.{Net}
use Rattle.pz_match.specs.Table.{Table}
use Rattle.pz_rules.specs.pz_offer.declared.trouble.Trouble.{Trouble}
use Rattle.pz_rules.specs.declared.moment.Moment.{Moment}
use Rattle.pz_rules.specs.Settings.{Setting}
use Rattle.pz_rules.specs.devices.Start.{start_of}
use Rattle.pz_sim_totals.specs.declared.total.Total.{Total}
use Rattle.pz_sim_laws.specs.Members.{process_of, config_of}
use Rattle.pz_term_simulator.specs.Shown.{HoldsValue, IsShown, CanShow}
use Rattle.pz_tree.specs.declared.tree.Tree.{Tree}
use Rattle.pz_tree.specs.Trees.{process_in}
use Rattle.pz_sim.specs.Members.{member_of, members_of}
use Rattle.pz_sim.specs.Sims.{simulation_at}
use Rattle.pz_sim.specs.declared.standing.Standing.{Standing}
use Rattle.pz_sim.specs.declared.standing.Standing.TheVariants as standing
use Rattle.pz_sim.specs.devices.Holding.{AreTrees, Holds}
use Rattle.pz_sim.proofs.Replaced.{got_mapped}

-- its trees are built: it is neither broken nor too high
abbrev pub IsBuilt : Standing → Type 0
IsBuilt s = ((moment : Moment) × (s ≡ standing.Whole moment)) ⊎ ((trouble : Trouble) × (s ≡ standing.Stopped trouble))

as_many : (setting : Setting) (clock : ℕ) (ts : List Tree) → AreTrees setting clock ts → length ts ≡ length (processes setting.model)
as_many setting clock ts are = sym (length-map ts (member_of setting.model)) ∙ are.members.whole

module _ (setting : Setting) (clock : ℕ) (ts : List Tree) (totals : List Total) (table : Table) (s : Standing) (i : ℕ) (can : CanShow (simulation_at setting clock ts s) i) where
  pub index_built : IsBuilt s → ∥ Holds setting clock ts totals table s ∥₁ → i < length ts
  index_built (inl x) h =
      let within : i < length (processes setting.model) = subst (λ (y : Standing). CanShow (simulation_at setting clock ts y) i) x.1 can in
      let all : length ts ≡ length (processes setting.model) =
      ∥∥₁_elim (subst (λ (y : Standing). ∥ Holds setting clock ts totals table y ∥₁) x.1 h) (ℕ_set (length ts) (length (processes setting.model))) (λ k. as_many setting clock ts k.are_trees) in
      omega (arith, within, all)
  index_built (inr x) h =
      let within : i < length (processes setting.model) = subst (λ (y : Standing). CanShow (simulation_at setting clock ts y) i) x.1 can in
      let all : length ts ≡ length (processes setting.model) =
      ∥∥₁_elim (subst (λ (y : Standing). ∥ Holds setting clock ts totals table y ∥₁) x.1 h) (ℕ_set (length ts) (length (processes setting.model))) (as_many setting clock ts) in
      omega (arith, within, all)

  pub not_broken : s ≡ standing.Broken → ⊥
  not_broken e = subst (λ (y : Standing). CanShow (simulation_at setting clock ts y) i) e can

  pub high_process : (trouble : Trouble) (net : Net) → s ≡ standing.High trouble → ∥ IsNet setting.model net ∥₁ → HasProcess net i
  high_process trouble net e known =
      let within : i < length (processes setting.model) = subst (λ (y : Standing). CanShow (simulation_at setting clock ts y) i) e can in
      let all : length net.nodes ≡ length (processes setting.model) =
      ∥∥₁_elim known (ℕ_set (length net.nodes) (length (processes setting.model))) (λ k. ap (λ xs. length xs) k.nodes ∙ length-map (processes setting.model) (node_at setting.model)) in
      omega (arith, all, within)

-- a start that is too high shows what its processes begin with
pub high_shows : (setting : Setting) (clock : ℕ) (ts : List Tree) (s : Standing) (i v : ℕ) (trouble : Trouble) (parcel : ParcelView) → s ≡ standing.High trouble → HoldsValue (start_of setting) i v parcel
    → IsShown (simulation_at setting clock ts s) i v parcel
high_shows setting clock ts s i v trouble parcel e holds = subst (λ (y : Standing). IsShown (simulation_at setting clock ts y) i v parcel) (sym e) holds

-- another shows what its trees hold
pub built_shows : (setting : Setting) (clock : ℕ) (ts : List Tree) (s : Standing) (i v : ℕ) (t : Tree) (parcel : ParcelView) → IsBuilt s → slice_get ts i ≡ Some t
    → IsParcelOf (process_in t).state (variable (process_in t).state v ∷ []) parcel → IsShown (simulation_at setting clock ts s) i v parcel
built_shows setting clock ts s i v t parcel built at is = by built
  where
    holds : HoldsValue (config_of clock (members_of setting.model ts)) i v parcel
    holds = record {
      process = process_in t;
      stands = got_mapped process_of (members_of setting.model ts) i (member_of setting.model t) (got_mapped (member_of setting.model) ts i t at);
      is_parcel = is;
    }

    by : IsBuilt s → IsShown (simulation_at setting clock ts s) i v parcel
    by (inl x) = subst (λ (y : Standing). IsShown (simulation_at setting clock ts y) i v parcel) (sym x.1) holds
    by (inr x) = subst (λ (y : Standing). IsShown (simulation_at setting clock ts y) i v parcel) (sym x.1) holds
