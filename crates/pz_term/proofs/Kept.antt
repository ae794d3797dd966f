-- What a whole simulator keeps, taken out of the bare fact that it does.
use Rattle.std.proofs.Common.{arith, ◌≡◌, ◌⊎◌, inl, inr, ◌∙◌, ℕ, List, [], length, Some, refl, sym, ap, subst}
use Rattle.std.specs.Prelude.{slice_get}
use Rattle.std.proofs.Math.Logic.{∥∥₁_elim}
use Rattle.std.proofs.Math.Nat.{ℕ_set}
use Rattle.std.specs.Coded.{coded_list}
use base.Stored.{Coded-set}
use Rattle.pz_rules.specs.pz_offer.declared.trouble.Trouble.{Trouble}
use Rattle.pz_rules.specs.declared.action.Action.{Action}
use Rattle.pz_rules.specs.contracts.action.Action as action_contract
use Rattle.pz_rules.specs.declared.moment.Moment.{Moment}
use Rattle.pz_rules.specs.contracts.moment.Moment as moment_contract
use Rattle.pz_rules.specs.declared.moment.Moment.TheVariants.{Actions, Time, Finished, Deadlock, Faulty, Stopped, Broken}
use Rattle.pz_rules.specs.Settings.{Setting}
use Rattle.pz_rules.specs.Ports.{HasWires}
use Rattle.pz_rules.specs.Configurations.{Config}
use Rattle.pz_rules.specs.Offers.{IsOffers}
use Rattle.pz_rules.specs.Moments as moments
use Rattle.pz_rules.specs.Moments.{Candidate, IsMoment}
use Rattle.pz_rules.specs.Runs.{whole, IsChoice}
use Rattle.pz_rules.specs.Laws.{OneMoment, EveryMoment, OneListOfOffers}
use Rattle.pz_rules.specs.devices.Start.{start_of}
use Rattle.pz_term_processes.specs.declared.process.Process.{Process}
use Rattle.pz_term_processes.specs.Standing.{config_of, AreProcesses}
use Rattle.pz_term_enabled.specs.declared.looking.Outlook.{Outlook}
use Rattle.pz_term_enabled.specs.Looking.{AreActionsAt}
use Rattle.pz_term.specs.declared.standing.Standing.{Standing}
use Rattle.pz_term.specs.declared.standing.Standing.TheVariants as standing
use Rattle.pz_term_simulator.specs.Simulations as simulations
use Rattle.pz_term_simulator.specs.Simulations.{Simulation, stands, IsMomentOf, AreOffersOf, ClockIs}
use Rattle.pz_term.specs.Plains.{simulation_at}
use Rattle.pz_term.specs.devices.Holding.{IsOutlook, Holds}

-- a moment at which something can go on
abbrev pub GoesOn : Moment → Type 0
GoesOn (Actions n) = Unit {0}
GoesOn (Time d) = Unit {0}
GoesOn m = ⊥

pub goes_on_not : (m n : Moment) → m ≡ n → GoesOn m → (GoesOn n → ⊥) → ⊥
goes_on_not m n e g absent = absent (subst GoesOn e g)

-- a start that is too high is at no other moment
stopped_at : (setting : Setting) (clock : ℕ) (ps : List Process) (trouble : Trouble) → Holds setting clock ps (standing.High trouble) → IsMoment setting (start_of setting) (Stopped trouble)
stopped_at setting clock ps trouble h = record { applies = moments.high trouble h.1; first = λ n applies. omega arith }

pub never_high : (setting : Setting) (clock : ℕ) (ps : List Process) (trouble : Trouble) (m : Moment) → OneMoment → GoesOn m → IsMoment setting (start_of setting) m → ∥ Holds setting clock ps (standing.High trouble) ∥₁ → ⊥
never_high setting clock ps trouble m one g is h = ∥∥₁_elim h (λ x y. absurd x) (λ k.
    goes_on_not m (Stopped trouble) (one setting (start_of setting) m (Stopped trouble) is (stopped_at setting clock ps trouble k)) g (λ x. x))

-- there the simulator is whole
pub is_moment : (setting : Setting) (clock : ℕ) (ps : List Process) (s : Standing) (m : Moment) → OneMoment → GoesOn m → IsMomentOf (simulation_at setting clock ps s) m → ∥ Holds setting clock ps s ∥₁ → IsMoment setting (config_of clock ps) m
is_moment setting clock ps (standing.Whole outlook) m one g is h = is
is_moment setting clock ps (standing.High trouble) m one g is h = absurd (never_high setting clock ps trouble m one g is h)
is_moment setting clock ps (standing.Stopped trouble) m one g is h = absurd (goes_on_not m (Stopped trouble) is g (λ x. x))
is_moment setting clock ps standing.Broken m one g is h = absurd (goes_on_not m Broken is g (λ x. x))

pub whole_at : (setting : Setting) (clock : ℕ) (ps : List Process) (s : Standing) (m : Moment) → OneMoment → GoesOn m → IsMomentOf (simulation_at setting clock ps s) m → ∥ Holds setting clock ps s ∥₁
    → simulation_at setting clock ps s ≡ stands setting (config_of clock ps) whole
whole_at setting clock ps (standing.Whole outlook) m one g is h = refl
whole_at setting clock ps (standing.High trouble) m one g is h = absurd (never_high setting clock ps trouble m one g is h)
whole_at setting clock ps (standing.Stopped trouble) m one g is h = absurd (goes_on_not m (Stopped trouble) is g (λ x. x))
whole_at setting clock ps standing.Broken m one g is h = absurd (goes_on_not m Broken is g (λ x. x))

pub kept_processes : (setting : Setting) (clock : ℕ) (ps : List Process) (s : Standing) (m : Moment) → OneMoment → GoesOn m → IsMomentOf (simulation_at setting clock ps s) m → ∥ Holds setting clock ps s ∥₁ → ∥ AreProcesses setting clock ps ∥₁
kept_processes setting clock ps (standing.Whole outlook) m one g is h = ∥∥₁_elim h squash₁ (λ k. ∣ k.are ∣₁)
kept_processes setting clock ps (standing.High trouble) m one g is h = absurd (never_high setting clock ps trouble m one g is h)
kept_processes setting clock ps (standing.Stopped trouble) m one g is h = absurd (goes_on_not m (Stopped trouble) is g (λ x. x))
kept_processes setting clock ps standing.Broken m one g is h = absurd (goes_on_not m Broken is g (λ x. x))

-- where there are offers, it is whole
pub never_other : (setting : Setting) (clock : ℕ) (ps : List Process) (s found : Standing) (n : ℕ) → OneMoment → IsMomentOf (simulation_at setting clock ps s) (Actions n) → ∥ Holds setting clock ps s ∥₁ → found ≡ s
    → ((x : Outlook) → found ≡ standing.Whole x → ⊥) → ⊥
never_other setting clock ps (standing.Whole outlook) found n one is h same absent = absent outlook same
never_other setting clock ps (standing.High trouble) found n one is h same absent = never_high setting clock ps trouble (Actions n) one tt is h
never_other setting clock ps (standing.Stopped trouble) found n one is h same absent = goes_on_not (Actions n) (Stopped trouble) is tt (λ x. x)
never_other setting clock ps standing.Broken found n one is h same absent = goes_on_not (Actions n) Broken is tt (λ x. x)

-- the clock is that of the configuration
pub clock_is : (setting : Setting) (clock : ℕ) (ps : List Process) (s : Standing) → ∥ Holds setting clock ps s ∥₁ → ClockIs (simulation_at setting clock ps s) clock
clock_is setting clock ps (standing.Whole outlook) h = refl
clock_is setting clock ps (standing.High trouble) h = ∥∥₁_elim h (ℕ_set clock 0) (λ k. k.0)
clock_is setting clock ps (standing.Stopped trouble) h = refl
clock_is setting clock ps standing.Broken h = tt

-- the moment of a start that is too high
pub high_moment : (setting : Setting) (clock : ℕ) (ps : List Process) (trouble : Trouble) → EveryMoment → OneMoment → HasWires setting.model → ∥ Holds setting clock ps (standing.High trouble) ∥₁ → IsMoment setting (start_of setting) (Stopped trouble)
high_moment setting clock ps trouble every one wires h =
    let m = every setting (start_of setting) wires in
    subst (IsMoment setting (start_of setting)) (∥∥₁_elim h (Coded-set moment_contract.the_row.coded m.0 (Stopped trouble)) (λ k. one setting (start_of setting) m.0 (Stopped trouble) m.1 (stopped_at setting clock ps trouble k))) m.1

-- the moment that is shown is that of the configuration
pub shown_moment : (setting : Setting) (clock : ℕ) (ps : List Process) (outlook : Outlook) → EveryMoment → OneMoment → HasWires setting.model → ∥ IsOutlook setting clock ps outlook ∥₁ → IsMoment setting (config_of clock ps) outlook.moment
shown_moment setting clock ps outlook every one wires h =
    let m = every setting (config_of clock ps) wires in
    subst (IsMoment setting (config_of clock ps)) (∥∥₁_elim h (Coded-set moment_contract.the_row.coded m.0 outlook.moment) (λ k. one setting (config_of clock ps) m.0 outlook.moment m.1 k.moment)) m.1

-- of a moment with actions
abbrev pub OfActions : Setting → Config → Moment → Type 0
OfActions setting c (Actions n) = (xs : List Action) × IsOffers setting c xs × (n ≡ length xs)
OfActions setting c m = Unit {0}

pub of_actions : (setting : Setting) (c : Config) (m : Moment) → Candidate setting c m → OfActions setting c m
of_actions setting c _ (moments.high trouble is) = tt
of_actions setting c _ (moments.faulty trouble is) = tt
of_actions setting c _ (moments.acting xs is some) = (xs, is, refl)
of_actions setting c _ (moments.passing d is) = tt
of_actions setting c _ (moments.finished all) = tt
of_actions setting c _ moments.deadlock = tt

actions_at : (setting : Setting) (c : Config) (m : Moment) (n : ℕ) (xs : List Action) → m ≡ Actions n → AreActionsAt setting c m xs → IsOffers setting c xs
actions_at setting c m n xs e are = subst (λ (x : Moment). AreActionsAt setting c x xs) e are

module _ (setting : Setting) (clock : ℕ) (ps : List Process) (outlook : Outlook) (one : OneMoment) (single : OneListOfOffers) (n : ℕ) (is : IsMoment setting (config_of clock ps) (Actions n)) (h : ∥ IsOutlook setting clock ps outlook ∥₁) where
  abbrev pub c : Config
  c = config_of clock ps

  abbrev pub offered : OfActions setting c (Actions n)
  offered = of_actions setting c (Actions n) is.applies

  -- the actions that are shown are the offers
  pub shown : outlook.actions.items ≡ offered.0
  shown = ∥∥₁_elim h (Coded-set (coded_list action_contract.the_row.coded) outlook.actions.items offered.0) (λ k.
      single setting c outlook.actions.items offered.0 (actions_at setting c outlook.moment n outlook.actions.items (one setting c outlook.moment (Actions n) k.moment is) k.actions) offered.1)

  pub count_shown : n ≡ length outlook.actions.items
  count_shown = offered.2 ∙ ap (λ (xs : List Action). length xs) (sym shown)

  pub offers_shown : IsOffers setting c outlook.actions.items
  offers_shown = subst (IsOffers setting c) (sym shown) offered.1

  pub choice_shown : (k : ℕ) (a : Action) → slice_get outlook.actions.items k ≡ Some a → IsChoice setting c n k a
  choice_shown k a at = record { offers = outlook.actions.items; all = offers_shown; count = count_shown; chosen = at }

-- what is shown at another moment
abbrev NoActions : Moment → Type 0
NoActions (Actions n) = ⊥
NoActions m = Unit {0}

module _ (setting : Setting) (clock : ℕ) (ps : List Process) (outlook : Outlook) (every : EveryMoment) (one : OneMoment) (single : OneListOfOffers) (wires : HasWires setting.model) (h : ∥ IsOutlook setting clock ps outlook ∥₁) where
  abbrev there : Simulation
  there = stands setting (config_of clock ps) whole

  moment_is : IsMoment setting (config_of clock ps) outlook.moment
  moment_is = shown_moment setting clock ps outlook every one wires h

  none_at : (m : Moment) → NoActions m → AreActionsAt setting (config_of clock ps) m outlook.actions.items → outlook.actions.items ≡ []
  none_at (Actions n) g are = absurd g
  none_at (Time d) g are = are
  none_at Finished g are = are
  none_at Deadlock g are = are
  none_at (Faulty trouble) g are = are
  none_at (Stopped trouble) g are = are
  none_at Broken g are = are

  not_actions : (m : Moment) → NoActions m → outlook.moment ≡ m → (n : ℕ) → IsMomentOf there (Actions n) → ⊥
  not_actions m g e n is = subst NoActions (sym e ∙ one setting (config_of clock ps) outlook.moment (Actions n) moment_is is) g

  without : (m : Moment) → NoActions m → outlook.moment ≡ m → AreOffersOf there outlook.actions.items
  without m g e =
      let empty : outlook.actions.items ≡ [] = ∥∥₁_elim h (Coded-set (coded_list action_contract.the_row.coded) outlook.actions.items []) (λ k.
      none_at m g (subst (λ (x : Moment). AreActionsAt setting (config_of clock ps) x outlook.actions.items) e k.actions)) in
      subst (AreOffersOf there) (sym empty) (simulations.none there (not_actions m g e))

  by_moment : (m : Moment) → outlook.moment ≡ m → AreOffersOf there outlook.actions.items
  by_moment (Actions n) e =
      let is = subst (IsMoment setting (config_of clock ps)) e moment_is in
      simulations.some setting (config_of clock ps) n outlook.actions.items is (offers_shown setting clock ps outlook one single n is h)
  by_moment (Time d) e = without (Time d) tt e
  by_moment Finished e = without Finished tt e
  by_moment Deadlock e = without Deadlock tt e
  by_moment (Faulty trouble) e = without (Faulty trouble) tt e
  by_moment (Stopped trouble) e = without (Stopped trouble) tt e
  by_moment Broken e = without Broken tt e

  pub offers_there : AreOffersOf there outlook.actions.items
  offers_there = by_moment outlook.moment refl

-- by the standing of a simulator

module _ (setting : Setting) (clock : ℕ) (ps : List Process) (s : Standing) where
  abbrev simulation : Simulation
  simulation = simulation_at setting clock ps s

  holds_whole : (outlook : Outlook) → s ≡ standing.Whole outlook → ∥ Holds setting clock ps s ∥₁ → ∥ IsOutlook setting clock ps outlook ∥₁
  holds_whole outlook e h = subst (λ (x : Standing). ∥ Holds setting clock ps x ∥₁) e h

  pub whole_moment : (outlook : Outlook) → s ≡ standing.Whole outlook → EveryMoment → OneMoment → HasWires setting.model → ∥ Holds setting clock ps s ∥₁ → IsMomentOf simulation outlook.moment
  whole_moment outlook e every one wires h =
      subst (λ (x : Standing). IsMomentOf (simulation_at setting clock ps x) outlook.moment) (sym e)
      (shown_moment setting clock ps outlook every one wires (holds_whole outlook e h))

  pub stopped_moment : (trouble : Trouble) → s ≡ standing.Stopped trouble → IsMomentOf simulation (Stopped trouble)
  stopped_moment trouble e = subst (λ (x : Standing). IsMomentOf (simulation_at setting clock ps x) (Stopped trouble)) (sym e) refl

  pub too_high_moment : (trouble : Trouble) → s ≡ standing.High trouble → EveryMoment → OneMoment → HasWires setting.model → ∥ Holds setting clock ps s ∥₁ → IsMomentOf simulation (Stopped trouble)
  too_high_moment trouble e every one wires h =
      subst (λ (x : Standing). IsMomentOf (simulation_at setting clock ps x) (Stopped trouble)) (sym e)
      (high_moment setting clock ps trouble every one wires (subst (λ (x : Standing). ∥ Holds setting clock ps x ∥₁) e h))

  pub broken_moment : s ≡ standing.Broken → IsMomentOf simulation Broken
  broken_moment e = subst (λ (x : Standing). IsMomentOf (simulation_at setting clock ps x) Broken) (sym e) refl

  pub whole_offers : (outlook : Outlook) (actions : List Action) → s ≡ standing.Whole outlook → actions ≡ outlook.actions.items → EveryMoment → OneMoment → OneListOfOffers → HasWires setting.model → ∥ Holds setting clock ps s ∥₁ → AreOffersOf simulation actions
  whole_offers outlook actions e is every one single wires h =
      subst (AreOffersOf simulation) (sym is)
      (subst (λ (x : Standing). AreOffersOf (simulation_at setting clock ps x) outlook.actions.items) (sym e) (offers_there setting clock ps outlook every one single wires (holds_whole outlook e h)))

  nowhere : (n : ℕ) → ((trouble : Trouble) × (s ≡ standing.Stopped trouble)) ⊎ (s ≡ standing.Broken) → IsMomentOf simulation (Actions n) → ⊥
  nowhere n (inl x) is = goes_on_not (Actions n) (Stopped x.0) (subst (λ (y : Standing). IsMomentOf (simulation_at setting clock ps y) (Actions n)) x.1 is) tt (λ z. z)
  nowhere n (inr x) is = goes_on_not (Actions n) Broken (subst (λ (y : Standing). IsMomentOf (simulation_at setting clock ps y) (Actions n)) x is) tt (λ z. z)

  pub no_offers : ((trouble : Trouble) × (s ≡ standing.Stopped trouble)) ⊎ (s ≡ standing.Broken) → AreOffersOf simulation []
  no_offers e = simulations.none simulation (λ n is. nowhere n e is)

  -- where the start is too high there are none
  pub none_too_high : (trouble : Trouble) → s ≡ standing.High trouble → OneMoment → ∥ Holds setting clock ps s ∥₁ → AreOffersOf simulation []
  none_too_high trouble e one h = simulations.none simulation (λ n is.
      never_high setting clock ps trouble (Actions n) one tt (subst (λ (x : Standing). IsMomentOf (simulation_at setting clock ps x) (Actions n)) e is)
      (subst (λ (x : Standing). ∥ Holds setting clock ps x ∥₁) e h))
