-- A simulator at a moment of time.
use Rattle.std.proofs.Common.{◌≡◌, ◌+◌, ℕ, List, sym, ap, subst}
use Rattle.std.proofs.Math.Logic.{∥∥₁_elim}
use Rattle.std.proofs.Math.Nat.{ℕ_set}
use base.Stored.{Coded-set}
use Rattle.pz_rules.specs.pz_classes_rules.Soundness.{IsSound}
use Rattle.pz_match.specs.Table.{Table}
use Rattle.pz_rules.specs.pz_offer.declared.trouble.Trouble.{Trouble}
use Rattle.pz_rules.specs.contracts.moment.Moment as moment_row
use Rattle.pz_rules.specs.declared.moment.Moment.{Moment}
use Rattle.pz_rules.specs.declared.moment.Moment.TheVariants.{Time, Stopped}
use Rattle.pz_rules.specs.Settings.{Setting}
use Rattle.pz_rules.specs.Configurations.{Config, IsWhole}
use Rattle.pz_rules.specs.Laws.{OneMoment, WiresAreKnown}
use Rattle.pz_rules.specs.Moments.{IsMoment}
use Rattle.pz_rules.specs.Steps.{PassesTo}
use Rattle.pz_rules.specs.devices.Start.{start_of}
use Rattle.pz_sim_totals.specs.declared.total.Total.{Total}
use Rattle.pz_sim_laws.specs.Laws.{MomentIsDecided, PairsAreCouples}
use Rattle.pz_sim_laws.specs.Leading.{MerelyPasses}
use Rattle.pz_sim_laws.specs.Members.{config_of}
use Rattle.pz_term_simulator.specs.Simulations as simulations
use Rattle.pz_term_simulator.specs.Simulations.{IsMomentOf, Passes, clock_in}
use Rattle.pz_tree.specs.declared.tree.Tree.{Tree}
use Rattle.pz_sim.specs.Members.{members_of}
use Rattle.pz_sim.specs.Sims.{simulation_at}
use Rattle.pz_sim.specs.declared.standing.Standing.{Standing}
use Rattle.pz_sim.specs.declared.standing.Standing.TheVariants as standing
use Rattle.pz_sim.specs.devices.Holding.{AreKept, Holds}
use Rattle.pz_sim.proofs.Acted.{is_whole}
use Rattle.pz_sim.proofs.Kept.{kept_moment, high_moment}

module _ (one : OneMoment) (decides : MomentIsDecided) (couples : PairsAreCouples) (wires : WiresAreKnown) (setting : Setting) (clock : ℕ) (ts : List Tree) (totals : List Total) (table : Table) (d : ℕ)
    (sound : IsSound setting.model) where
  time_only : (s : Standing) → ∥ Holds setting clock ts totals table s ∥₁ → IsMomentOf (simulation_at setting clock ts s) (Time d) → s ≡ standing.Whole (Time d)
  time_only (standing.Whole moment) h is =
      ap (λ (x : Moment). standing.Whole x) (∥∥₁_elim h (Coded-set moment_row.the_row.coded moment (Time d)) (λ k.
      one setting (config_of clock (members_of setting.model ts)) moment (Time d) (kept_moment decides couples wires setting clock ts totals table moment sound k) is))
  time_only (standing.High trouble) h is =
      absurd (∥∥₁_elim h (λ x y. absurd x) (λ k. never trouble (one setting (start_of setting) (Stopped trouble) (Time d) (high_moment setting trouble k.1) is)))
    where
      never : (t : Trouble) → Stopped t ≡ Time d → ⊥
      never t e = cc
  time_only (standing.Stopped trouble) h is = cc
  time_only standing.Broken h is = cc

  module _ (s : Standing) (h : ∥ Holds setting clock ts totals table s ∥₁) (is : IsMomentOf (simulation_at setting clock ts s) (Time d)) where
    same : s ≡ standing.Whole (Time d)
    same = time_only s h is

    pub kept_at_time : ∥ AreKept setting clock ts totals table (Time d) ∥₁
    kept_at_time = subst (λ (x : Standing). ∥ Holds setting clock ts totals table x ∥₁) same h

    abbrev c : Config
    c = config_of clock (members_of setting.model ts)

    pub clock_before : clock_in (simulation_at setting clock ts s) ≡ clock
    clock_before = ap (λ (x : Standing). clock_in (simulation_at setting clock ts x)) same

    moment_now : IsMoment setting c (Time d)
    moment_now = subst (λ (x : Standing). IsMomentOf (simulation_at setting clock ts x) (Time d)) same is

    whole_now : IsWhole setting c
    whole_now = ∥∥₁_elim kept_at_time (ℕ_set _ _) (λ k. is_whole setting clock ts k.are_trees)

    pub time_passes : MerelyPasses → (us : List Tree) → ∥ PassesTo setting c d (config_of (clock + d) (members_of setting.model us)) ∥₁ → (moment : Moment)
        → Passes (simulation_at setting clock ts s) (simulation_at setting (clock + d) us (standing.Whole moment))
    time_passes merely us passes moment =
        subst (λ (x : Standing). Passes (simulation_at setting clock ts x) (simulation_at setting (clock + d) us (standing.Whole moment))) (sym same)
        (simulations.passes setting c (config_of (clock + d) (members_of setting.model us)) d moment_now
        (merely setting c (config_of (clock + d) (members_of setting.model us)) d sound whole_now moment_now passes))
