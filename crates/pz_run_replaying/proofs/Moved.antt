-- What a move of a simulator leaves, and that its line is taken.
use Rattle.std.proofs.Common.{◌≡◌, ◌<◌, ℕ, List, Ok, Err, Result, refl, sym, subst}
use Rattle.std.proofs.lemmas.Option.{slice_get_within, get_or_from_slice_get}
use Rattle.pz_rules.specs.pz_classes_rules.Soundness.{IsSound}
use Rattle.pz_rules.specs.pz_offer.declared.trouble.Trouble.{Trouble}
use Rattle.pz_rules.specs.declared.action.Action.{Action}
use Rattle.pz_rules.specs.declared.moment.Moment.TheVariants.{Actions, Time, Stopped}
use Rattle.pz_rules.specs.Configurations.{Config}
use Rattle.pz_rules.specs.Ports.{HasWires}
use Rattle.pz_rules.specs.Offers.{Offers}
use Rattle.pz_rules.specs.Steps.{Next, PassesTo}
use Rattle.pz_rules.specs.Moments.{IsMoment}
use Rattle.pz_rules.specs.Runs.{whole, stopped, IsChoice}
use Rattle.pz_trace.specs.declared.ending.Ending.{Ending}
use Rattle.pz_trace.specs.Lines.{time_line, action_line, end_line}
use Rattle.pz_term_simulator.specs.Simulations as simulations
use Rattle.pz_term_simulator.specs.Simulations.{Simulation, stands, broken, IsMomentOf, Chooses, Passes, setting_in}
use Rattle.pz_run_replaying.specs.declared.judging.Move.{Move}
use Rattle.pz_run_replaying.specs.declared.judging.Move.TheVariants.{Act, Wait}
use Rattle.pz_run_replaying.specs.Stages.{underway}
use Rattle.pz_run_replaying.specs.devices.Known.{Known}
use Rattle.pz_term_simulator.specs.Simulations.{model_in, clock_in}
use Rattle.pz_run_replaying.specs.devices.Readiness.{stage_of, IsReady, EndsIn, HasFewOffers}
use Rattle.pz_run_replaying.specs.devices.Taking.{takes_place, fails, Takes, action_taken, passing_taken, end_taken, HasFew, IsKept}
use Rattle.pz_run_replaying.specs.devices.Judging.{MayMove, Moves, IsMoveLine}
use Rattle.pz_run_replaying.proofs.Takings.{one_offer, kept_taken}
use Rattle.pz_run_replaying.proofs.Simulated.{time_is, offer_there, choice_of, concluded_of}

actions_stopped : {n : ℕ} {t : Trouble} → Actions n ≡ Stopped t → ⊥
actions_stopped h = cc

time_stopped : {d : ℕ} {t : Trouble} → Time d ≡ Stopped t → ⊥
time_stopped h = cc

module _ (known : Known) where
  -- a chosen offer, of this line
  chosen_taken : (n k : ℕ) (s t : Simulation) (line : List ℕ) → IsMomentOf s (Actions n) → IsMoveLine s (Act n k) line → Chooses k s t → Takes (setting_in s) (stage_of s) line (stage_of t)
  chosen_taken n k _ _ line now of (simulations.acts setting c next n' a' is choice to) =
      let here : IsMoment setting c (Actions n) = now in
      let mine = choice_of known setting c n k of.0 here of.1 in
      let action : a' ≡ of.0 = one_offer known setting c n' n k k a' of.0 refl choice mine in
      subst (λ (l : List ℕ). Takes setting (underway c whole) l (underway next whole)) (sym of.2)
      (action_taken c next whole n k of.0 here mine (takes_place next (subst (λ (b : Action). Next setting c b (Ok next)) action to)))
  chosen_taken n k _ _ line now of (simulations.stops setting c n' a' trouble is choice to) =
      let here : IsMoment setting c (Actions n) = now in
      let mine = choice_of known setting c n k of.0 here of.1 in
      let action : a' ≡ of.0 = one_offer known setting c n' n k k a' of.0 refl choice mine in
      subst (λ (l : List ℕ). Takes setting (underway c whole) l (underway c (stopped trouble))) (sym of.2)
      (action_taken c c (stopped trouble) n k of.0 here mine (fails trouble (subst (λ (b : Action). Next setting c b (Err trouble)) action to)))

  passed_taken : (d : ℕ) (s t : Simulation) (line : List ℕ) → IsMomentOf s (Time d) → line ≡ time_line (clock_in s) d → Passes s t → Takes (setting_in s) (stage_of s) line (stage_of t)
  passed_taken d _ _ line now of (simulations.passes setting c next e is to) =
      let here : IsMoment setting c (Time d) = now in
      let same : e ≡ d = time_is (known.one_moment setting c (Time e) (Time d) is here) in
      subst (λ (l : List ℕ). Takes setting (underway c whole) l (underway next whole)) (sym of)
      (passing_taken c next d here (subst (λ (f : ℕ). PassesTo setting c f next) same to))

  pub moved_taken : (step : Move) (s t : Simulation) (line : List ℕ) → MayMove s step → IsMoveLine s step line → Moves step s t → Takes (setting_in s) (stage_of s) line (stage_of t)
  moved_taken (Act n k) s t line may of to = chosen_taken n k s t line may.0 of to
  moved_taken (Wait d) s t line may of to = passed_taken d s t line may of to

  -- it is ready again
  ready_chosen : (k : ℕ) (s t : Simulation) → IsReady s → Chooses k s t → IsReady t
  ready_chosen k _ _ ready (simulations.acts setting c next n a is choice to) =
      kept_taken known setting (underway c whole) (underway next whole) (action_line setting.model c.clock n k a) ready (action_taken c next whole n k a is choice (takes_place next to))
  ready_chosen k _ _ ready (simulations.stops setting c n a trouble is choice to) =
      kept_taken known setting (underway c whole) (underway c (stopped trouble)) (action_line setting.model c.clock n k a) ready (action_taken c c (stopped trouble) n k a is choice (fails trouble to))

  ready_passed : (s t : Simulation) → IsReady s → Passes s t → IsReady t
  ready_passed _ _ ready (simulations.passes setting c next d is to) = kept_taken known setting (underway c whole) (underway next whole) (time_line c.clock d) ready (passing_taken c next d is to)

  pub ready_moved : (step : Move) (s t : Simulation) → IsReady s → Moves step s t → IsReady t
  ready_moved (Act n k) s t ready to = ready_chosen k s t ready to
  ready_moved (Wait d) s t ready to = ready_passed s t ready to

  -- a move that may be made leads somewhere
  some_choosing : (n k : ℕ) (s : Simulation) → IsReady s → IsMomentOf s (Actions n) → k < n → (t : Simulation) × Chooses k s t
  some_choosing n k (stands setting c whole) ready now within =
      let here : IsMoment setting c (Actions n) = now in
      let offer = offer_there known (stands setting c whole) n k now within in
      let choice = choice_of known setting c n k offer.0 here offer.1 in
      let left = known.some_next setting c offer.0 ready.sound ready.fit (derivable here offer.0 choice) in
      chosen offer.0 left.0 here choice left.1
    where
      derivable : IsMoment setting c (Actions n) → (a : Action) (choice : IsChoice setting c n k a) → Offers setting c a
      derivable here a choice = subst (Offers setting c) (get_or_from_slice_get choice.offers k a a choice.chosen) (choice.all.derivable k a (slice_get_within choice.offers k a choice.chosen))

      chosen : (a : Action) (r : Result Config Trouble) → IsMoment setting c (Actions n) → IsChoice setting c n k a → Next setting c a r → (t : Simulation) × Chooses k (stands setting c whole) t
      chosen a (Ok next) is choice to = (stands setting next whole, simulations.acts setting c next n a is choice to)
      chosen a (Err trouble) is choice to = (stands setting c (stopped trouble), simulations.stops setting c n a trouble is choice to)
  some_choosing n k (stands setting c (stopped trouble)) ready now within = absurd (actions_stopped now)
  some_choosing n k (broken setting) ready now within = absurd ready

  some_passing : (d : ℕ) (s : Simulation) → IsReady s → IsMomentOf s (Time d) → (t : Simulation) × Passes s t
  some_passing d (stands setting c whole) ready now =
      let here : IsMoment setting c (Time d) = now in
      let to = known.some_passing setting c d ready.wires here in
      (stands setting to.0 whole, simulations.passes setting c to.0 d here to.1)
  some_passing d (stands setting c (stopped trouble)) ready now = absurd (time_stopped now)
  some_passing d (broken setting) ready now = absurd ready

  pub some_move : (step : Move) (s : Simulation) → IsReady s → MayMove s step → (t : Simulation) × Moves step s t
  some_move (Act n k) s ready may = some_choosing n k s ready may.0 may.1
  some_move (Wait d) s ready may = some_passing d s ready may

-- the last line
pub ended_taken : (s : Simulation) (e : Ending) → EndsIn s e → Takes (setting_in s) (stage_of s) (end_line (model_in s) (clock_in s) e) (concluded_of s e)
ended_taken (stands setting c standing) e so = end_taken c standing e so
ended_taken (broken setting) e so = absurd so

pub few_in : (s : Simulation) → HasFewOffers s → HasFew (setting_in s) (stage_of s)
few_in (stands setting c whole) few = λ n is. few n is
few_in (stands setting c (stopped trouble)) few = tt
few_in (broken setting) few = tt

-- what a simulator that is ready stands for is kept
pub kept_in : (s : Simulation) → IsReady s → IsKept (setting_in s) (stage_of s)
kept_in (stands setting c standing) ready = ready
kept_in (broken setting) ready = absurd ready

pub sound_in : (s : Simulation) → IsReady s → IsSound (setting_in s).model × HasWires (setting_in s).model
sound_in (stands setting c standing) ready = (ready.sound, ready.wires)
sound_in (broken setting) ready = absurd ready
