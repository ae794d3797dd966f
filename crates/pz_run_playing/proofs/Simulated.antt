-- What is known of a simulator, by where it stands.
use Rattle.std.proofs.Common.{◌≡◌, ℕ, subst}
use Rattle.pz_bind.specs.declared.net.Net.{Net}
use Rattle.pz_bind.specs.devices.Nets.{IsNet}
use Rattle.pz_rules.specs.pz_offer.declared.trouble.Trouble.{Trouble}
use Rattle.pz_rules.specs.declared.action.Action.{Action}
use Rattle.pz_rules.specs.declared.moment.Moment.{Moment}
use Rattle.pz_rules.specs.declared.moment.Moment.TheVariants.{Actions, Time, Stopped, Broken}
use Rattle.pz_rules.specs.Settings.{Setting}
use Rattle.pz_rules.specs.Configurations.{Config}
use Rattle.pz_rules.specs.Moments.{Candidate, high, faulty, acting, passing, finished, deadlock}
use Rattle.pz_rules.specs.Runs.{whole, stopped}
use Rattle.pz_watch_points.specs.pz_trace.Named.{IsNamed}
use Rattle.pz_term_simulator.specs.Simulations.{Simulation, stands, broken, IsMomentOf, IsOffer, ClockIs, model_in, clock_in}
use Rattle.pz_term_simulator.specs.Refusals.{NoTime}
use Rattle.pz_term_simulator.specs.Laws.{OneMomentOf, IsDerivedIn}
use Rattle.pz_run_playing.specs.devices.Known.{Known}
use Rattle.pz_run_playing.specs.devices.Rests.{IsReady}

pub time_is : {d e : ℕ} → Time d ≡ Time e → d ≡ e
time_is h = cc

pub count_is : {n m : ℕ} → Actions n ≡ Actions m → n ≡ m
count_is h = cc

pub time_stopped : {d : ℕ} {t : Trouble} → Time d ≡ Stopped t → ⊥
time_stopped h = cc

pub actions_stopped : {n : ℕ} {t : Trouble} → Actions n ≡ Stopped t → ⊥
actions_stopped h = cc

actions_broken : {n : ℕ} → Actions n ≡ Broken → ⊥
actions_broken h = cc

-- nothing says `Broken` of a configuration
said : {setting : Setting} {c : Config} {m : Moment} → Candidate setting c m → m ≡ Broken → ⊥
said (high trouble first) is = cc
said (faulty trouble least) is = cc
said (acting actions all some) is = cc
said (passing d least) is = cc
said (finished all) is = cc
said deadlock is = cc

stopped_apart : {m : Moment} {t : Trouble} → m ≡ Stopped t → m ≡ Broken → ⊥
stopped_apart is other = cc

-- a simulator that is ready is not broken
pub never_broken : (s : Simulation) (m : Moment) → IsReady s → IsMomentOf s m → m ≡ Broken → ⊥
never_broken (stands setting c whole) m ready at is = said at.applies is
never_broken (stands setting c (stopped trouble)) m ready at is = stopped_apart at is
never_broken (broken setting) m ready at is = absurd ready

pub no_time : OneMomentOf → (s : Simulation) (d : ℕ) (m : Moment) → IsMomentOf s (Time d) → IsMomentOf s m → NoTime m → ⊥
no_time one s d m now other none = subst NoTime (one s m (Time d) other now) none

pub clock_of_actions : (s : Simulation) (n clock : ℕ) → IsMomentOf s (Actions n) → ClockIs s clock → clock ≡ clock_in s
clock_of_actions (stands setting c standing) n clock now at = at
clock_of_actions (broken setting) n clock now at = absurd (actions_broken now)

time_broken : {d : ℕ} → Time d ≡ Broken → ⊥
time_broken h = cc

pub clock_of_time : (s : Simulation) (d clock : ℕ) → IsMomentOf s (Time d) → ClockIs s clock → clock ≡ clock_in s
clock_of_time (stands setting c standing) d clock now at = at
clock_of_time (broken setting) d clock now at = absurd (time_broken now)

pub clock_of_ready : (s : Simulation) (clock : ℕ) → IsReady s → ClockIs s clock → clock ≡ clock_in s
clock_of_ready (stands setting c standing) clock ready at = at
clock_of_ready (broken setting) clock ready at = absurd ready

named_by : Known → (s : Simulation) (a : Action) (net : Net) → ∥ IsNet (model_in s) net ∥₁ → IsDerivedIn s a → IsNamed net a
named_by known (stands setting c standing) a net is_net derived = known.offers_named setting c net a is_net derived
named_by known (broken setting) a net is_net derived = absurd derived

-- an offer names what is there
pub named_here : Known → (s : Simulation) (k : ℕ) (a : Action) (net : Net) → IsOffer s k a → ∥ IsNet (model_in s) net ∥₁ → IsNamed net a
named_here known s k a net offer is_net = named_by known s a net is_net (known.offers_derived s k a offer)
