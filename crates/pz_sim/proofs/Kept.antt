-- What a simulator keeps, and what that says.
use Rattle.std.proofs.Common.{◌≡◌, ℕ, List, refl, sym, ap, subst, arith}
use Rattle.std.proofs.Math.Logic.{∥∥₁_elim, ∥∥₁_map}
use Rattle.std.proofs.Math.Nat.{ℕ_set}
use Rattle.pz_rules.specs.pz_classes_rules.Soundness.{IsSound}
use Rattle.pz_match.specs.Table.{Table}
use Rattle.pz_rules.specs.pz_offer.declared.trouble.Trouble.{Trouble}
use Rattle.pz_rules.specs.declared.moment.Moment.{Moment}
use Rattle.pz_rules.specs.declared.moment.Moment.TheVariants.{Stopped, Broken}
use Rattle.pz_rules.specs.Settings.{Setting}
use Rattle.pz_rules.specs.Moments as moments
use Rattle.pz_rules.specs.Moments.{IsFirstHigh, IsMoment}
use Rattle.pz_rules.specs.devices.Start.{start_of}
use Rattle.pz_rules.specs.Laws.{WiresAreKnown}
use Rattle.pz_sim_totals.specs.declared.total.Total.{Total}
use Rattle.pz_sim_laws.specs.Members.{config_of}
use Rattle.pz_sim_laws.specs.Laws.{MomentIsDecided, PairsAreCouples}
use Rattle.pz_sim_laws.specs.Leading.{MerelyMoment}
use Rattle.pz_term_simulator.specs.Simulations.{IsMomentOf, ClockIs, setting_in, model_in, limits_in}
use Rattle.pz_tree.specs.declared.tree.Tree.{Tree}
use Rattle.pz_sim.specs.Members.{members_of}
use Rattle.pz_sim.specs.Sims.{simulation_at, simulation_of, model_of}
use Rattle.pz_sim.specs.declared.sim.Sim.{Sim}
use Rattle.pz_sim.specs.declared.standing.Standing.{Standing}
use Rattle.pz_sim.specs.declared.standing.Standing.TheVariants as standing
use Rattle.pz_sim.specs.devices.Holding.{AreKept, Holds}

pub setting_at : (setting : Setting) (clock : ℕ) (ts : List Tree) (x : Standing) → setting_in (simulation_at setting clock ts x) ≡ setting
setting_at setting clock ts (standing.Whole moment) = refl
setting_at setting clock ts (standing.High trouble) = refl
setting_at setting clock ts (standing.Stopped trouble) = refl
setting_at setting clock ts standing.Broken = refl

pub model_is : (s : Sim) → model_of s ≡ model_in (simulation_of s)
model_is s = ap (λ (setting : Setting). setting.model) (sym (setting_at _ s.clock s.trees.items s.standing))

pub limits_are : (s : Sim) → s.limits ≡ limits_in (simulation_of s)
limits_are s = ap (λ (setting : Setting). setting.limits) (sym (setting_at _ s.clock s.trees.items s.standing))

pub clock_is : (setting : Setting) (clock : ℕ) (ts : List Tree) (totals : List Total) (table : Table) (s : Standing) → ∥ Holds setting clock ts totals table s ∥₁ → ClockIs (simulation_at setting clock ts s) clock
clock_is setting clock ts totals table (standing.Whole moment) h = refl
clock_is setting clock ts totals table (standing.High trouble) h = ∥∥₁_elim h (ℕ_set clock 0) (λ k. k.0)
clock_is setting clock ts totals table (standing.Stopped trouble) h = refl
clock_is setting clock ts totals table standing.Broken h = tt

-- the moment of what is kept is that of the rules
pub kept_moment : MomentIsDecided → PairsAreCouples → WiresAreKnown → (setting : Setting) (clock : ℕ) (ts : List Tree) (totals : List Total) (table : Table) (moment : Moment) → IsSound setting.model
    → AreKept setting clock ts totals table moment → IsMoment setting (config_of clock (members_of setting.model ts)) moment
kept_moment decides couples wires setting clock ts totals table moment sound k =
    let ms = members_of setting.model ts in
    subst (IsMoment setting (config_of clock ms)) (sym k.is_moment)
    (decides setting clock ms table.pairs k.are_trees.members k.are_trees.low
    (couples setting clock ms table.senders table.receivers table.pairs (wires setting.model sound) k.are_trees.members k.is_table.senders k.is_table.receivers k.is_table.pairs k.is_table.truthful))

pub high_moment : (setting : Setting) (trouble : Trouble) → IsFirstHigh setting (start_of setting) trouble → IsMoment setting (start_of setting) (Stopped trouble)
high_moment setting trouble high = record { applies = moments.high trouble high; first = λ n applies. omega arith }

module _ (decides : MomentIsDecided) (couples : PairsAreCouples) (wires : WiresAreKnown) (merely : MerelyMoment) (setting : Setting) (clock : ℕ) (ts : List Tree) (totals : List Total) (table : Table) (s : Standing)
    (sound : IsSound setting.model) (h : ∥ Holds setting clock ts totals table s ∥₁) where
  pub whole_moment : (moment : Moment) → s ≡ standing.Whole moment → IsMomentOf (simulation_at setting clock ts s) moment
  whole_moment moment e =
      subst (λ (x : Standing). IsMomentOf (simulation_at setting clock ts x) moment) (sym e)
      (merely setting (config_of clock (members_of setting.model ts)) moment sound
      (∥∥₁_map (subst (λ (x : Standing). ∥ Holds setting clock ts totals table x ∥₁) e h) (λ (k : AreKept setting clock ts totals table moment).
      kept_moment decides couples wires setting clock ts totals table moment sound k)))

  pub too_high_moment : (trouble : Trouble) → s ≡ standing.High trouble → IsMomentOf (simulation_at setting clock ts s) (Stopped trouble)
  too_high_moment trouble e =
      subst (λ (x : Standing). IsMomentOf (simulation_at setting clock ts x) (Stopped trouble)) (sym e)
      (merely setting (start_of setting) (Stopped trouble) sound
      (∥∥₁_map (subst (λ (x : Standing). ∥ Holds setting clock ts totals table x ∥₁) e h) (λ (k : (clock ≡ 0) × IsFirstHigh setting (start_of setting) trouble). high_moment setting trouble k.1)))

  pub stopped_moment : (trouble : Trouble) → s ≡ standing.Stopped trouble → IsMomentOf (simulation_at setting clock ts s) (Stopped trouble)
  stopped_moment trouble e = subst (λ (x : Standing). IsMomentOf (simulation_at setting clock ts x) (Stopped trouble)) (sym e) refl

  pub broken_moment : s ≡ standing.Broken → IsMomentOf (simulation_at setting clock ts s) Broken
  broken_moment e = subst (λ (x : Standing). IsMomentOf (simulation_at setting clock ts x) Broken) (sym e) refl
