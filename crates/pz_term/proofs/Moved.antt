-- How a simulator goes on.
use Rattle.std.proofs.Common.{◌≡◌, ◌<◌, ◌+◌, ℕ, zero, suc, List, [], ◌∷◌, length, Some, Result, Ok, Err, refl, sym, ap, subst, arith}
use Rattle.std.specs.Prelude.{slice_get, slice_index_or, IfOk, OnErr, ⊤}
use Rattle.std.proofs.Math.Logic.{∥∥₁_elim}
use Rattle.std.specs.declared.alloc.AllocError.{AllocError}
use Rattle.pz_rules.specs.pz_offer.declared.trouble.Trouble.{Trouble}
use Rattle.pz_rules.specs.declared.action.Action.{Action}
use Rattle.pz_rules.specs.declared.moment.Moment.TheVariants.{Actions, Time}
use Rattle.pz_rules.specs.Settings.{Setting}
use Rattle.pz_rules.specs.Configurations.{Config}
use Rattle.pz_rules.specs.Offers.{Offers}
use Rattle.pz_rules.specs.Moments.{IsFirstHigh, IsMoment}
use Rattle.pz_rules.specs.devices.Start.{start_of}
use Rattle.pz_rules.specs.Steps.{Next, PassesTo}
use Rattle.pz_rules.specs.Runs.{whole, stopped}
use Rattle.pz_rules.specs.Starting.{IsStart}
use Rattle.pz_rules.specs.Laws.{OneMoment, OneListOfOffers}
use Rattle.pz_rules.specs.Short.{DelaysAreShort, TimesAreShort}
use Rattle.pz_term_processes.specs.declared.process.Process.{Process}
use Rattle.pz_term_processes.specs.Standing.{config_of, AreProcesses}
use Rattle.pz_term_enabled.specs.declared.looking.Outlook.{Outlook}
use Rattle.pz_term_enabled.specs.Looking.{AreActionsAt}
use Rattle.pz_term_steps.specs.Stepping.{reached}
use Rattle.pz_term.specs.declared.standing.Standing.{Standing}
use Rattle.pz_term.specs.declared.standing.Standing.TheVariants as standing
use Rattle.pz_term_simulator.specs.Simulations as simulations
use Rattle.pz_term_simulator.specs.Simulations.{Simulation, stands, IsMomentOf, Starts, Chooses, Passes, clock_in}
use Rattle.pz_term.specs.Plains.{simulation_at}
use Rattle.pz_term.specs.devices.Holding.{IsOutlook, Holds}
use Rattle.pz_term.proofs.Kept.{is_moment, whole_at, count_shown, offers_shown, choice_shown}

-- what a look finds is kept, where it changes nothing
pub outlook_holds : (setting : Setting) (clock : ℕ) (old new : List Process) (outlook : Outlook) → new ≡ old → ∥ AreProcesses setting clock old ∥₁ → ∥ DelaysAreShort (config_of clock old) ∥₁ → TimesAreShort setting (config_of clock old)
    → IsMoment setting (config_of clock old) outlook.moment → AreActionsAt setting (config_of clock old) outlook.moment outlook.actions.items → ∥ Holds setting clock new (standing.Whole outlook) ∥₁
outlook_holds setting clock old new outlook same are short times moment actions =
    subst (λ (ps : List Process). ∥ Holds setting clock ps (standing.Whole outlook) ∥₁) (sym same)
    (∥∥₁_elim are squash₁ (λ k. ∥∥₁_elim short squash₁ (λ h. ∣ record { are = k; short = h; times = times; moment = moment; actions = actions } ∣₁)))

pub starts_there : (setting : Setting) (old new : List Process) → new ≡ old → IsStart setting (config_of 0 old) → Starts setting (stands setting (config_of 0 new) whole)
starts_there setting old new same start = subst (λ (ps : List Process). Starts setting (stands setting (config_of 0 ps) whole)) (sym same) (simulations.starts (config_of 0 old) start)

-- a start that is too high
pub high_holds : (setting : Setting) (ps : List Process) (trouble : Trouble) → IsFirstHigh setting (start_of setting) trouble → ∥ Holds setting 0 ps (standing.High trouble) ∥₁
high_holds setting ps trouble high = ∣ (refl, high) ∣₁

pub starts_high : (setting : Setting) → IsStart setting (start_of setting) → Starts setting (stands setting (start_of setting) whole)
starts_high setting start = simulations.starts (start_of setting) start

at_index : (xs : List Action) (k : ℕ) (a : Action) → k < length xs → a ≡ slice_index_or xs k a → slice_get xs k ≡ Some a
at_index [] k a within e = absurd (omega (arith, within))
at_index (x ∷ xs) zero a within e = ap (λ (y : Action). Some y) (sym e)
at_index (x ∷ xs) (suc k) a within e = at_index xs k a (omega (arith, within)) e

module _ (setting : Setting) (clock : ℕ) (ps : List Process) (s : Standing) (outlook : Outlook) (n k : ℕ) (one : OneMoment) (single : OneListOfOffers) (e : standing.Whole outlook ≡ s)
    (is : IsMomentOf (simulation_at setting clock ps s) (Actions n)) (below : k < n) (h : ∥ Holds setting clock ps s ∥₁) where
  abbrev pub c : Config
  c = config_of clock ps

  now : IsMoment setting c (Actions n)
  now = is_moment setting clock ps s (Actions n) one tt is h

  kept : ∥ IsOutlook setting clock ps outlook ∥₁
  kept = subst (λ (x : Standing). ∥ Holds setting clock ps x ∥₁) (sym e) h

  pub within_shown : k < length outlook.actions.items
  within_shown = omega (arith, below, count_shown setting clock ps outlook one single n now kept)

  pub action_offered : (a : Action) → a ≡ slice_index_or outlook.actions.items k a → Offers setting c a
  action_offered a at = subst (Offers setting c) (sym at) ((offers_shown setting clock ps outlook one single n now kept).derivable k a within_shown)

  old_is : simulation_at setting clock ps s ≡ stands setting c whole
  old_is = whole_at setting clock ps s (Actions n) one tt is h

  pub chosen_acts : (a : Action) (new : Simulation) (qs : List Process) (r : Result (Result ⊤ Trouble) AllocError) (q : Result ⊤ Trouble) (x : ⊤) → a ≡ slice_index_or outlook.actions.items k a
      → r ≡ Ok q → q ≡ Ok x → IfOk r (λ left. Next setting c a (reached clock qs left)) → new ≡ stands setting (config_of clock qs) whole → Chooses k (simulation_at setting clock ps s) new
  chosen_acts a new qs r q x at r_is q_is next new_is =
      let leads : Next setting c a (reached clock qs q) = subst (λ (z : Result (Result ⊤ Trouble) AllocError). IfOk z (λ left. Next setting c a (reached clock qs left))) r_is next in
      let step = subst (λ (z : Result ⊤ Trouble). Next setting c a (reached clock qs z)) q_is leads in
      subst (λ (old : Simulation). Chooses k old new) (sym old_is)
      (subst (λ (y : Simulation). Chooses k (stands setting c whole) y) (sym new_is)
      (simulations.acts setting c (config_of clock qs) n a now (choice_shown setting clock ps outlook one single n now kept k a (at_index outlook.actions.items k a within_shown at)) step))

  pub chosen_stops : (a : Action) (qs : List Process) (r : Result (Result ⊤ Trouble) AllocError) (q : Result ⊤ Trouble) (trouble : Trouble) → a ≡ slice_index_or outlook.actions.items k a
      → r ≡ Ok q → q ≡ Err trouble → IfOk r (λ left. Next setting c a (reached clock qs left)) → IfOk r (λ left. OnErr left (qs ≡ ps)) → Chooses k (simulation_at setting clock ps s) (stands setting (config_of clock qs) (stopped trouble))
  chosen_stops a qs r q trouble at r_is q_is next stays =
      let leads : Next setting c a (reached clock qs q) = subst (λ (z : Result (Result ⊤ Trouble) AllocError). IfOk z (λ left. Next setting c a (reached clock qs left))) r_is next in
      let step = subst (λ (z : Result ⊤ Trouble). Next setting c a (reached clock qs z)) q_is leads in
      let same : qs ≡ ps = subst (λ (z : Result ⊤ Trouble). OnErr z (qs ≡ ps)) q_is (subst (λ (z : Result (Result ⊤ Trouble) AllocError). IfOk z (λ left. OnErr left (qs ≡ ps))) r_is stays) in
      subst (λ (old : Simulation). Chooses k old (stands setting (config_of clock qs) (stopped trouble))) (sym old_is)
      (subst (λ (us : List Process). Chooses k (stands setting c whole) (stands setting (config_of clock us) (stopped trouble))) (sym same)
      (simulations.stops setting c n a trouble now (choice_shown setting clock ps outlook one single n now kept k a (at_index outlook.actions.items k a within_shown at)) step))

pub time_passes : (setting : Setting) (clock : ℕ) (ps qs : List Process) (s : Standing) (d : ℕ) (new : Simulation) → OneMoment → ∥ Holds setting clock ps s ∥₁ → IsMomentOf (simulation_at setting clock ps s) (Time d)
    → PassesTo setting (config_of clock ps) d (config_of (clock + d) qs) → new ≡ stands setting (config_of (clock + d) qs) whole → Passes (simulation_at setting clock ps s) new
time_passes setting clock ps qs s d new one h is passes new_is =
    subst (λ (old : Simulation). Passes old new) (sym (whole_at setting clock ps s (Time d) one tt is h))
    (subst (λ (y : Simulation). Passes (stands setting (config_of clock ps) whole) y) (sym new_is)
    (simulations.passes setting (config_of clock ps) (config_of (clock + d) qs) d (is_moment setting clock ps s (Time d) one tt is h) passes))

-- where time may pass, the clock is that of the configuration
pub clock_there : (setting : Setting) (clock : ℕ) (ps : List Process) (s : Standing) (d : ℕ) → OneMoment → ∥ Holds setting clock ps s ∥₁ → IsMomentOf (simulation_at setting clock ps s) (Time d) → clock_in (simulation_at setting clock ps s) ≡ clock
clock_there setting clock ps s d one h is = ap (λ (x : Simulation). clock_in x) (whole_at setting clock ps s (Time d) one tt is h)
