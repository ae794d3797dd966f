-- What a step of a simulator leaves: it is ready again, and its clock has gone on where time has passed.
use Rattle.std.proofs.Common.{◌≡◌, ◌<◌, ℕ, [], length, get_or, Result, Ok, Err, refl, sym, ap, arith}
use Rattle.std.proofs.lemmas.Option.{slice_get-get_or}
use Rattle.pz_rules.specs.pz_offer.declared.trouble.Trouble.{Trouble}
use Rattle.pz_rules.specs.declared.action.Kind.TheVariants.{Skip}
use Rattle.pz_rules.specs.declared.action.Action.{Action}
use Rattle.pz_rules.specs.declared.action.Action.TheVariants.{Internal}
use Rattle.pz_rules.specs.declared.moment.Moment.TheVariants.{Actions, Time}
use Rattle.pz_rules.specs.Settings.{Setting, Process}
use Rattle.pz_rules.specs.Configurations.{Config}
use Rattle.pz_rules.specs.Moments.{IsMoment}
use Rattle.pz_rules.specs.Meanings.{and_then}
use Rattle.pz_rules.specs.Steps as steps
use Rattle.pz_rules.specs.Steps.{Next, PassesTo, with_process, with_both}
use Rattle.pz_rules.specs.Runs.{whole, stopped, IsChoice}
use Rattle.pz_term_simulator.specs.Simulations as simulations
use Rattle.pz_term_simulator.specs.Simulations.{Simulation, stands, broken, IsMomentOf, Chooses, Passes}
use Rattle.pz_run_playing.specs.devices.Known.{Known}
use Rattle.pz_term_simulator.specs.Simulations.{clock_in}
use Rattle.pz_run_playing.specs.devices.Rests.{pending_in, CanGoOn, IsReady}
use Rattle.pz_run_playing.proofs.Simulated.{time_stopped, actions_stopped}

some_action : Action
some_action = Internal (record { process = 0; place = [] }) Skip (record { line = 0; column = 0 })

-- an action keeps the clock
ok_is : {x y : Config} → (let r : Result Config Trouble = Ok x in r) ≡ Ok y → x ≡ y
ok_is h = cc

err_ok : {t : Trouble} {x : Config} → (let r : Result Config Trouble = Err t in r) ≡ Ok x → ⊥
err_ok h = cc

keeps_clock_of : (c next : Config) (r : Result Process Trouble) (f : Process → Result Config Trouble) → ((p : Process) → f p ≡ Ok next → next.clock ≡ c.clock) → and_then r f ≡ Ok next → next.clock ≡ c.clock
keeps_clock_of c next (Ok p) f keeps e = keeps p e
keeps_clock_of c next (Err t) f keeps e = absurd (err_ok e)

keeps_clock : (setting : Setting) (c next : Config) (a : Action) (r : Result Config Trouble) → r ≡ Ok next → Next setting c a r → next.clock ≡ c.clock
keeps_clock setting c next _ _ e (steps.internal at kind pos result acts) =
    keeps_clock_of c next result (λ p. Ok (with_process c at.process p)) (λ p h. sym (ap (λ (d : Config). d.clock) (ok_is h))) e
keeps_clock setting c next _ _ e (steps.communication number sender receiver message parcel sent taken hands takes) =
    keeps_clock_of c next sent (λ p. and_then taken (λ q. Ok (with_both c sender receiver p q)))
    (λ p h. keeps_clock_of c next taken (λ q. Ok (with_both c sender receiver p q)) (λ q g. sym (ap (λ (d : Config). d.clock) (ok_is g))) h) e

module _ (known : Known) where
  keeps_acting : (setting : Setting) (c next : Config) (a : Action) → CanGoOn setting c → Next setting c a (Ok next) → CanGoOn setting next
  keeps_acting setting c next a ready to = record {
    sound = ready.sound;
    wires = ready.wires;
    all = (known.stays_whole setting c next a 0 ready.all).0 to;
    fit = (known.stays_fit setting c next a 0 ready.sound ready.all ready.fit).0 to;
  }

  keeps_passing : (setting : Setting) (c next : Config) (d : ℕ) → CanGoOn setting c → PassesTo setting c d next → CanGoOn setting next
  keeps_passing setting c next d ready to = record {
    sound = ready.sound;
    wires = ready.wires;
    all = (known.stays_whole setting c next some_action d ready.all).1 to;
    fit = (known.stays_fit setting c next some_action d ready.sound ready.all ready.fit).1 to;
  }

  pub ready_passed : (s t : Simulation) → IsReady s → Passes s t → IsReady t
  ready_passed _ _ ready (simulations.passes setting c next d is to) = keeps_passing setting c next d ready to

  pub ready_chosen : (k : ℕ) (s t : Simulation) → IsReady s → Chooses k s t → IsReady t
  ready_chosen k _ _ ready (simulations.acts setting c next n a is choice to) = keeps_acting setting c next a ready to
  ready_chosen k _ _ ready (simulations.stops setting c n a trouble is choice to) = tt

  -- fewer delays may have something left
  pub fewer_pending : (s t : Simulation) → IsReady s → Passes s t → pending_in t < pending_in s
  fewer_pending _ _ ready (simulations.passes setting c next d is to) = known.passings_end setting c next d ready.wires ready.all is to

  pub clock_passed : (s t : Simulation) → IsReady s → Passes s t → clock_in s < clock_in t
  clock_passed _ _ ready (simulations.passes setting c next d is to) = omega (arith, to.clock, known.positive setting c d ready.wires is)

  -- where time passes or an action is chosen, there is a simulator afterwards
  pub some_passing : (s : Simulation) (d : ℕ) → IsReady s → IsMomentOf s (Time d) → (t : Simulation) × Passes s t
  some_passing (stands setting c whole) d ready is =
      let to = known.some_passing setting c d ready.wires is in
      (stands setting to.0 whole, simulations.passes setting c to.0 d is to.1)
  some_passing (stands setting c (stopped trouble)) d ready now = absurd (time_stopped now)
  some_passing (broken setting) d ready now = absurd ready

  pub some_choosing : (s : Simulation) (n k : ℕ) → IsReady s → IsMomentOf s (Actions n) → k < n → (t : Simulation) × Chooses k s t
  some_choosing (stands setting c whole) n k ready is within =
      let x = known.counts setting c n is in
      let below : k < length x.offers = omega (arith, within, x.count) in
      let a = get_or x.offers k some_action in
      let choice : IsChoice setting c n k a = record { offers = x.offers; all = x.all; count = x.count; chosen = slice_get-get_or x.offers k some_action below } in
      let left = known.some_next setting c a ready.sound ready.fit (x.all.derivable k some_action below) in
      chosen left.0 is choice left.1
    where
      chosen : {a : Action} (r : Result Config Trouble) → IsMoment setting c (Actions n) → IsChoice setting c n k a → Next setting c a r → (t : Simulation) × Chooses k (stands setting c whole) t
      chosen {a} (Ok next) is choice to = (stands setting next whole, simulations.acts setting c next n a is choice to)
      chosen {a} (Err trouble) is choice to = (stands setting c (stopped trouble), simulations.stops setting c n a trouble is choice to)
  some_choosing (stands setting c (stopped trouble)) n k ready now within = absurd (actions_stopped now)
  some_choosing (broken setting) n k ready now within = absurd ready

pub clock_chosen : (k : ℕ) (s t : Simulation) → Chooses k s t → clock_in t ≡ clock_in s
clock_chosen k _ _ (simulations.acts setting c next n a is choice to) = keeps_clock setting c next a (Ok next) refl to
clock_chosen k _ _ (simulations.stops setting c n a trouble is choice to) = refl
