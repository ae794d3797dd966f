-- Of each delay less than 2^64 clock units are left, from the start on.
use Rattle.std.proofs.Common.{◌≡◌, ◌+◌, ◌<◌, ◌^◌, ℕ, List, Result, Ok, subst}
use Rattle.std.specs.Prelude.{IfOk, ⊤}
use Rattle.std.specs.Coded.{le_prop}
use Rattle.std.specs.declared.alloc.AllocError.{AllocError}
use Rattle.std.proofs.Math.Logic.{∥∥₁_elim, ∥∥₁_map}
use Rattle.pz_rules.specs.pz_offer.declared.trouble.Trouble.{Trouble}
use Rattle.pz_rules.specs.declared.action.Action.{Action}
use Rattle.pz_rules.specs.declared.moment.Moment.TheVariants.{Actions, Time, Stopped, Broken}
use Rattle.pz_rules.specs.declared.moment.Moment.{Moment}
use Rattle.pz_rules.specs.Settings.{Setting}
use Rattle.pz_rules.specs.Configurations.{IsWhole}
use Rattle.pz_rules.specs.Steps.{Next, PassesTo}
use Rattle.pz_rules.specs.Laws.{OneMoment}
use Rattle.pz_rules.specs.Short.{DelaysAreShort, TimesAreShort}
use Rattle.pz_rules.specs.DelayLaws.{ShortStays, ShortPasses, MomentsAreShort}
use Rattle.pz_term_processes.specs.declared.process.Process.{Process}
use Rattle.pz_term_processes.specs.Standing.{config_of}
use Rattle.pz_term_steps.specs.Stepping.{reached}
use Rattle.pz_term.specs.declared.standing.Standing.{Standing}
use Rattle.pz_term.specs.declared.standing.Standing.TheVariants as standing
use Rattle.pz_term_simulator.specs.Simulations.{IsMomentOf}
use Rattle.pz_term.specs.Plains.{simulation_at}
use Rattle.pz_term.specs.devices.Holding.{Holds}
use Rattle.pz_term.proofs.Kept.{GoesOn, goes_on_not, never_high, is_moment}

-- what is kept of delays where something can go on
pub record IsShortThere (setting : Setting) (clock : ℕ) (ps : List Process) : Type 0 where
  pub whole : IsWhole setting (config_of clock ps)
  pub short : DelaysAreShort (config_of clock ps)
  pub times : TimesAreShort setting (config_of clock ps)

pub kept_short : (setting : Setting) (clock : ℕ) (ps : List Process) (s : Standing) (m : Moment) → OneMoment → GoesOn m → IsMomentOf (simulation_at setting clock ps s) m → ∥ Holds setting clock ps s ∥₁ → ∥ IsShortThere setting clock ps ∥₁
kept_short setting clock ps (standing.Whole outlook) m one g is h = ∥∥₁_elim h squash₁ (λ k. ∣ record { whole = k.are.whole; short = k.short; times = k.times } ∣₁)
kept_short setting clock ps (standing.High trouble) m one g is h = absurd (never_high setting clock ps trouble m one g is h)
kept_short setting clock ps (standing.Stopped trouble) m one g is h = absurd (goes_on_not m (Stopped trouble) is g (λ x. x))
kept_short setting clock ps standing.Broken m one g is h = absurd (goes_on_not m Broken is g (λ x. x))

module _ (setting : Setting) (clock : ℕ) (ps qs : List Process) (s : Standing) (one : OneMoment) (h : ∥ Holds setting clock ps s ∥₁) where
  pub acted_short : ShortStays → (n : ℕ) → IsMomentOf (simulation_at setting clock ps s) (Actions n) → (a : Action) (r : Result (Result ⊤ Trouble) AllocError) (q : Result ⊤ Trouble) (x : ⊤)
      → r ≡ Ok q → q ≡ Ok x → IfOk r (λ left. Next setting (config_of clock ps) a (reached clock qs left)) → ∥ DelaysAreShort (config_of clock qs) ∥₁
  acted_short stays n is a r q x r_is q_is next =
      let leads : Next setting (config_of clock ps) a (reached clock qs q) = subst (λ (z : Result (Result ⊤ Trouble) AllocError). IfOk z (λ left. Next setting (config_of clock ps) a (reached clock qs left))) r_is next in
      let step = subst (λ (z : Result ⊤ Trouble). Next setting (config_of clock ps) a (reached clock qs z)) q_is leads in
      ∥∥₁_map (kept_short setting clock ps s (Actions n) one tt is h) (λ k. stays setting (config_of clock ps) (config_of clock qs) a k.short step)

  module _ (d : ℕ) (is : IsMomentOf (simulation_at setting clock ps s) (Time d)) where
    pub passed_short : ShortPasses → PassesTo setting (config_of clock ps) d (config_of (clock + d) qs) → ∥ DelaysAreShort (config_of (clock + d) qs) ∥₁
    passed_short passing passes = ∥∥₁_map (kept_short setting clock ps s (Time d) one tt is h) (λ k. passing setting (config_of clock ps) (config_of (clock + d) qs) d k.whole k.short k.times passes)

    pub time_short : MomentsAreShort → d < 2 ^ 64
    time_short moments = ∥∥₁_elim (kept_short setting clock ps s (Time d) one tt is h) le_prop (λ k. moments setting (config_of clock ps) d k.short k.times (is_moment setting clock ps s (Time d) one tt is h))
