-- What holds where steps of a sound model lead, and what can come there.
use Rattle.std.proofs.Common.{◌≡◌, ◌⊎◌, inl, inr, ◌≤◌, ◌<◌, ℕ, zero, suc, List, [], ◌∷◌, length, get_or, Some, None, Result, Ok, Err, refl, sym, ap, subst, ◌∙◌, arith}
use Rattle.std.specs.Prelude.{slice_get}
use Rattle.std.proofs.lemmas.Option.{slice_get-get_or}
use Rattle.pz_rules.specs.pz_classes_rules.Soundness.{IsSound}
use Rattle.pz_bind.specs.declared.net.Net.{Net}
use Rattle.pz_bind.specs.devices.Nets.{IsNet}
use Rattle.pz_rules.specs.pz_offer.declared.trouble.Trouble.{Trouble}
use Rattle.pz_rules.specs.declared.action.Action.{Action}
use Rattle.pz_rules.specs.declared.action.Action.TheVariants.{Internal}
use Rattle.pz_rules.specs.declared.action.Kind.TheVariants.{Skip}
use Rattle.pz_rules.specs.declared.moment.Moment.{Moment}
use Rattle.pz_rules.specs.declared.moment.Moment.TheVariants.{Actions, Time, Finished, Deadlock, Faulty, Stopped, Broken}
use Rattle.pz_rules.specs.Settings.{Setting}
use Rattle.pz_rules.specs.Fitting.{IsFit}
use Rattle.pz_rules.specs.Configurations.{Config, IsWhole}
use Rattle.pz_rules.specs.Moments.{Candidate, high, faulty, acting, passing, finished, deadlock, IsMoment}
use Rattle.pz_rules.specs.Runs as runs
use Rattle.pz_rules.specs.Runs.{Event, Standing, whole, stopped, Reaches, IsChoice}
use Rattle.pz_rules.specs.Steps.{Next}
use Rattle.pz_trace.specs.declared.ending.Ending.{Ending}
use Rattle.pz_trace.specs.Named.{HasTroubled, IsNamed, IsNamedAtEnd}
use Rattle.pz_term_simulator.specs.Laws.{IsDerivedIn}
use Rattle.pz_term_simulator.specs.Simulations as simulations
use Rattle.pz_term_simulator.specs.Simulations.{Simulation, stands, broken, IsMomentOf, AreOffersOf, IsOffer, Chooses, Passes, ClockIs, model_in, clock_in, setting_in}
use Rattle.pz_debug_session.specs.declared.step.Step.{Step}
use Rattle.pz_debug_session.specs.Steps.{StandsAfter}
use Rattle.pz_debug_replies.specs.Replies.{ending_at}
use Rattle.pz_debug_replies.specs.devices.Known.{Known}

pub le_or_lt : (a b : ℕ) → (a ≤ b) ⊎ (b < a)
le_or_lt zero b = inl (omega arith)
le_or_lt (suc a) zero = inr (omega arith)
le_or_lt (suc a) (suc b) =
    elim (le_or_lt a b) [
      | inl small ↦ inl (omega (arith, small))
      | inr large ↦ inr (omega (arith, large))
    ]

some_action : Action
some_action = Internal (record { process = 0; place = [] }) Skip (record { line = 0; column = 0 })

-- nothing says `Broken` of a configuration
said : {setting : Setting} {c : Config} {m : Moment} → Candidate setting c m → m ≡ Broken → ⊥
said (high trouble first) is = cc
said (faulty trouble least) is = cc
said (acting actions all some) is = cc
said (passing d least) is = cc
said (finished all) is = cc
said deadlock is = cc

stopped_apart : {m : Moment} {t : Trouble} → m ≡ Stopped t → m ≡ Broken → ⊥
stopped_apart is other = cc

time_stopped : {d : ℕ} {t : Trouble} → Time d ≡ Stopped t → ⊥
time_stopped h = cc

actions_stopped : {n : ℕ} {t : Trouble} → Actions n ≡ Stopped t → ⊥
actions_stopped h = cc

-- what a process has left, of all processes
pub record Fits (setting : Setting) (c : Config) : Type 0 where
  pub all : IsWhole setting c
  pub fit : IsFit setting c

module _ (known : Known) (setting : Setting) (sound : IsSound setting.model) where
  reached_fits : (c end : Config) (events : List Event) (standing : Standing) → Fits setting c → Reaches setting c events end standing → Fits setting end
  reached_fits _ _ _ _ fits (runs.here c) = fits
  reached_fits _ end _ standing fits (runs.acts c next _ n k a events _ is choice to reaches) =
      reached_fits next end events standing (record {
        all = (known.stays_whole setting c next a 0 fits.all).0 to;
        fit = (known.stays_fit setting c next a 0 sound fits.all fits.fit).0 to;
      }) reaches
  reached_fits _ _ _ _ fits (runs.stops c n k a trouble is choice to) = fits
  reached_fits _ end _ standing fits (runs.passes c next _ d events _ is to reaches) =
      reached_fits next end events standing (record {
        all = (known.stays_whole setting c next some_action d fits.all).1 to;
        fit = (known.stays_fit setting c next some_action d sound fits.all fits.fit).1 to;
      }) reaches

  pub placed_fits : (xs : List Step) (s : Simulation) (x : StandsAfter setting xs s) → Fits setting x.end
  placed_fits xs s x =
      let start = known.start_fits setting x.start sound x.is_start in
      reached_fits x.start x.end x.events x.standing (record { all = start.0; fit = start.1 }) x.reaches

  -- there is a moment
  moment_there : (c : Config) (standing : Standing) → (m : Moment) × IsMomentOf (stands setting c standing) m
  moment_there c whole = known.some_moment setting c (known.wires setting.model sound)
  moment_there c (stopped trouble) = (Stopped trouble, refl)

  pub some_moment : (xs : List Step) (s : Simulation) → StandsAfter setting xs s → (m : Moment) × IsMomentOf s m
  some_moment xs s x = subst (λ (t : Simulation). (m : Moment) × IsMomentOf t m) (sym x.is_there) (moment_there x.end x.standing)

  -- where time passes or an action is chosen, there is a simulator afterwards

  passing_there : (c : Config) (standing : Standing) (d : ℕ) → IsMomentOf (stands setting c standing) (Time d) → (t : Simulation) × Passes (stands setting c standing) t
  passing_there c whole d is = let to = known.some_passing setting c d (known.wires setting.model sound) is in (stands setting to.0 whole, simulations.passes setting c to.0 d is to.1)
  passing_there c (stopped trouble) d is = absurd (time_stopped is)

  pub some_passing : (xs : List Step) (s : Simulation) (d : ℕ) → StandsAfter setting xs s → IsMomentOf s (Time d) → (t : Simulation) × Passes s t
  some_passing xs s d x =
      subst (λ (u : Simulation). IsMomentOf u (Time d) → (t : Simulation) × Passes u t) (sym x.is_there) (passing_there x.end x.standing d)

  chosen : (c : Config) (n k : ℕ) (a : Action) (r : Result Config Trouble) → IsMoment setting c (Actions n) → IsChoice setting c n k a → Next setting c a r → (t : Simulation) × Chooses k (stands setting c whole) t
  chosen c n k a (Ok next) is choice to = (stands setting next whole, simulations.acts setting c next n a is choice to)
  chosen c n k a (Err trouble) is choice to = (stands setting c (stopped trouble), simulations.stops setting c n a trouble is choice to)

  choosing_there : (c : Config) (standing : Standing) (n k : ℕ) → Fits setting c → IsMomentOf (stands setting c standing) (Actions n) → k < n → (t : Simulation) × Chooses k (stands setting c standing) t
  choosing_there c whole n k fits is within =
      let x = known.counts setting c n is in
      let below : k < length x.offers = omega (arith, within, x.count) in
      let a = get_or x.offers k some_action in
      let choice : IsChoice setting c n k a = record { offers = x.offers; all = x.all; count = x.count; chosen = slice_get-get_or x.offers k some_action below } in
      let left = known.some_next setting c a sound fits.fit (x.all.derivable k some_action below) in
      chosen c n k a left.0 is choice left.1
  choosing_there c (stopped trouble) n k fits is within = absurd (actions_stopped is)

  pub some_choosing : (xs : List Step) (s : Simulation) (n k : ℕ) → StandsAfter setting xs s → IsMomentOf s (Actions n) → k < n → (t : Simulation) × Chooses k s t
  some_choosing xs s n k x =
      subst (λ (u : Simulation). IsMomentOf u (Actions n) → k < n → (t : Simulation) × Chooses k u t) (sym x.is_there) (choosing_there x.end x.standing n k (placed_fits xs s x))

-- the simulator is not broken

never_there : (setting : Setting) (c : Config) (standing : Standing) (m : Moment) → IsMomentOf (stands setting c standing) m → m ≡ Broken → ⊥
never_there setting c whole m at is = said at.applies is
never_there setting c (stopped trouble) m at is = stopped_apart at is

pub never_broken : (setting : Setting) (xs : List Step) (s : Simulation) (m : Moment) → StandsAfter setting xs s → IsMomentOf s m → m ≡ Broken → ⊥
never_broken setting xs s m x at = never_there setting x.end x.standing m (subst (λ (t : Simulation). IsMomentOf t m) x.is_there at)

pub clock_there : (setting : Setting) (xs : List Step) (s : Simulation) (clock : ℕ) → StandsAfter setting xs s → ClockIs s clock → clock ≡ clock_in s
clock_there setting xs s clock x at =
    let there : clock ≡ x.end.clock = subst (λ (t : Simulation). ClockIs t clock) x.is_there at in
    there ∙ ap clock_in (sym x.is_there)

actions_broken : {n : ℕ} → Actions n ≡ Broken → ⊥
actions_broken h = cc

time_broken : {d : ℕ} → Time d ≡ Broken → ⊥
time_broken h = cc

pub clock_of_actions : (s : Simulation) (n clock : ℕ) → IsMomentOf s (Actions n) → ClockIs s clock → clock ≡ clock_in s
clock_of_actions (stands setting c standing) n clock now at = at
clock_of_actions (broken setting) n clock now at = absurd (actions_broken now)

pub clock_of_time : (s : Simulation) (d clock : ℕ) → IsMomentOf s (Time d) → ClockIs s clock → clock ≡ clock_in s
clock_of_time (stands setting c standing) d clock now at = at
clock_of_time (broken setting) d clock now at = absurd (time_broken now)

pub setting_there : (setting : Setting) (xs : List Step) (s : Simulation) → StandsAfter setting xs s → setting_in s ≡ setting
setting_there setting xs s x = ap setting_in x.is_there

-- offers

nth_there : (offers : List Action) (k : ℕ) → k < length offers → (a : Action) × (slice_get offers k ≡ Some a)
nth_there [] k within = absurd (omega (arith, within))
nth_there (a ∷ offers) zero within = (a, refl)
nth_there (a ∷ offers) (suc k) within = nth_there offers k (omega (arith, within))

offer_in_list : (s : Simulation) (offers : List Action) (n k : ℕ) (a : Action) → AreOffersOf s offers → IsMomentOf s (Actions n) → slice_get offers k ≡ Some a → IsOffer s k a
offer_in_list _ offers n k a (simulations.some setting c m _ is are) now chosen_one = record { offers = offers; all = are; chosen = chosen_one }
offer_in_list _ _ n k a (simulations.none s never) now chosen_one = absurd (never n now)

-- the offer of each number that the moment counts
pub nth_offer : Known → (s : Simulation) (n k : ℕ) (offers : List Action) → IsMomentOf s (Actions n) → AreOffersOf s offers → k < n → (a : Action) × (slice_get offers k ≡ Some a) × IsOffer s k a
nth_offer known s n k offers now are within =
    let x = nth_there offers k (omega (arith, within, known.offers_counted s n offers now are)) in
    (x.0, x.1, offer_in_list s offers n k x.0 are now x.1)

pub some_offer : Known → (s : Simulation) (n k : ℕ) → IsMomentOf s (Actions n) → k < n → (a : Action) × IsOffer s k a
some_offer known s n k now within =
    let all = known.offers_there s n now in
    let x = nth_offer known s n k all.0 now all.1 within in
    (x.0, x.2)

within_list : (xs : List Action) (k : ℕ) (a : Action) → slice_get xs k ≡ Some a → k < length xs
within_list [] k a e = cc
within_list (x ∷ xs) zero a e = omega arith
within_list (x ∷ xs) (suc k) a e = let rest : k < length xs = within_list xs k a e in omega (arith, rest)

pub offer_within : Known → (s : Simulation) (n k : ℕ) (a : Action) → IsMomentOf s (Actions n) → IsOffer s k a → k < n
offer_within known s n k a now offers =
    let all = known.offers_there s n now in
    omega (arith, known.offers_counted s n all.0 now all.1, within_list all.0 k a (known.offers_numbered s n k all.0 a now all.1 offers))

-- where there are offers, one is the first
pub some_first : Known → (setting : Setting) (xs : List Step) (s : Simulation) (n : ℕ) → StandsAfter setting xs s → IsMomentOf s (Actions n) → 0 < n
some_first known setting xs s n x =
    subst (λ (t : Simulation). IsMomentOf t (Actions n) → 0 < n) (sym x.is_there) (by x.end x.standing)
  where
    by : (c : Config) (standing : Standing) → IsMomentOf (stands setting c standing) (Actions n) → 0 < n
    by c whole is = omega (arith, (known.counts setting c n is).some)
    by c (stopped trouble) is = absurd (actions_stopped is)

named_by : Known → (s : Simulation) (a : Action) (net : Net) → ∥ IsNet (model_in s) net ∥₁ → IsDerivedIn s a → IsNamed net a
named_by known (stands setting c standing) a net is_net derived = known.offers_named setting c net a is_net derived
named_by known (broken setting) a net is_net derived = absurd derived

-- an offer names what is there
pub named_here : Known → (s : Simulation) (k : ℕ) (a : Action) (net : Net) → IsOffer s k a → ∥ IsNet (model_in s) net ∥₁ → IsNamed net a
named_here known s k a net offer is_net = named_by known s a net is_net (known.offers_derived s k a offer)

-- and so does a trouble in which a run ends

module _ (known : Known) (setting : Setting) (net : Net) (is_net : ∥ IsNet setting.model net ∥₁) where
  stopped_named : (c end : Config) (events : List Event) (standing : Standing) (trouble : Trouble) → standing ≡ stopped trouble → Reaches setting c events end standing → HasTroubled net trouble
  stopped_named _ _ _ _ trouble is (runs.here c) = absurd (differ is)
    where
      differ : {t : Trouble} → whole ≡ stopped t → ⊥
      differ e = cc
  stopped_named _ end _ standing trouble is (runs.acts c next _ n k a events _ at choice to reaches) = stopped_named next end events standing trouble is reaches
  stopped_named _ _ _ _ trouble is (runs.stops c n k a other at choice to) =
      subst (λ (t : Trouble). HasTroubled net t) (same is) (known.stops_named setting c net a other is_net to)
    where
      same : {t u : Trouble} → stopped t ≡ stopped u → t ≡ u
      same e = cc
  stopped_named _ end _ standing trouble is (runs.passes c next _ d events _ at to reaches) = stopped_named next end events standing trouble is reaches

  stops_there : (c end : Config) (events : List Event) (standing : Standing) (trouble : Trouble) → Reaches setting c events end standing → IsMomentOf (stands setting end standing) (Stopped trouble) → HasTroubled net trouble
  stops_there c end events whole trouble reaches at = known.highs_named setting end net trouble is_net at
  stops_there c end events (stopped other) trouble reaches at =
      subst (λ (t : Trouble). HasTroubled net t) (same at) (stopped_named c end events (stopped other) other refl reaches)
    where
      same : {t u : Trouble} → Stopped t ≡ Stopped u → u ≡ t
      same e = cc

  faulty_there : (end : Config) (standing : Standing) (trouble : Trouble) → IsMomentOf (stands setting end standing) (Faulty trouble) → HasTroubled net trouble
  faulty_there end whole trouble at = known.faults_named setting end net trouble is_net at
  faulty_there end (stopped other) trouble at = absurd (differ at)
    where
      differ : {t u : Trouble} → Faulty t ≡ Stopped u → ⊥
      differ e = cc

  pub stop_named : (xs : List Step) (s : Simulation) (trouble : Trouble) → StandsAfter setting xs s → IsMomentOf s (Stopped trouble) → HasTroubled net trouble
  stop_named xs s trouble x at = stops_there x.start x.end x.events x.standing trouble x.reaches (subst (λ (t : Simulation). IsMomentOf t (Stopped trouble)) x.is_there at)

  pub fault_named : (xs : List Step) (s : Simulation) (trouble : Trouble) → StandsAfter setting xs s → IsMomentOf s (Faulty trouble) → HasTroubled net trouble
  fault_named xs s trouble x at = faulty_there x.end x.standing trouble (subst (λ (t : Simulation). IsMomentOf t (Faulty trouble)) x.is_there at)

some_is : {x y : Ending} → Some x ≡ Some y → x ≡ y
some_is e = cc

none_some : {x : Ending} → None ≡ Some x → ⊥
none_some e = cc

-- what is named in the line in which a run ends
module _ (known : Known) (setting : Setting) (net : Net) (is_net : ∥ IsNet setting.model net ∥₁) (xs : List Step) (s : Simulation) where
  pub named_at_end : (m : Moment) (e : Ending) → StandsAfter setting xs s → IsMomentOf s m → ending_at m ≡ Some e → IsNamedAtEnd net e
  named_at_end Finished e x at is = subst (IsNamedAtEnd net) (some_is is) tt
  named_at_end Deadlock e x at is = subst (IsNamedAtEnd net) (some_is is) tt
  named_at_end (Faulty trouble) e x at is = subst (IsNamedAtEnd net) (some_is is) (fault_named known setting net is_net xs s trouble x at)
  named_at_end (Stopped trouble) e x at is = subst (IsNamedAtEnd net) (some_is is) (stop_named known setting net is_net xs s trouble x at)
  named_at_end (Actions n) e x at is = absurd (none_some is)
  named_at_end (Time d) e x at is = absurd (none_some is)
  named_at_end Broken e x at is = absurd (none_some is)
