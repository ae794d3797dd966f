-- What is known of a simulator, by where it stands.
use Rattle.std.proofs.Common.{◌≡◌, ◌≢◌, ◌<◌, ℕ, List, [], length, get_or, refl, sym, subst, ap, ◌∙◌, arith}
use Rattle.std.proofs.lemmas.Option.{slice_get-get_or}
use Rattle.pz_rules.specs.pz_offer.declared.trouble.Trouble.{Trouble}
use Rattle.pz_bind.specs.declared.net.Net.{Net}
use Rattle.pz_bind.specs.devices.Nets.{IsNet}
use Rattle.pz_rules.specs.declared.action.Kind.TheVariants.{Skip}
use Rattle.pz_rules.specs.declared.action.Action.{Action}
use Rattle.pz_rules.specs.declared.action.Action.TheVariants.{Internal}
use Rattle.pz_rules.specs.declared.moment.Moment.{Moment}
use Rattle.pz_rules.specs.declared.moment.Moment.TheVariants.{Actions, Time, Finished, Deadlock, Faulty, Stopped, Broken}
use Rattle.pz_rules.specs.Settings.{Setting}
use Rattle.pz_rules.specs.Configurations.{Config}
use Rattle.pz_rules.specs.Moments.{IsMoment}
use Rattle.pz_rules.specs.Runs.{Standing, whole, stopped, IsChoice}
use Rattle.pz_trace.specs.declared.ending.Ending.{Ending}
use Rattle.pz_trace.specs.declared.ending.Ending.TheVariants as ending
use Rattle.pz_trace.specs.Named.{IsNamed, IsNamedAtEnd}
use Rattle.pz_term_simulator.specs.Simulations.{Simulation, stands, broken, IsMomentOf, ClockIs, model_in, clock_in, IsOfferIn, IsOffer}
use Rattle.pz_term_simulator.specs.Laws.{IsDerivedIn}
use Rattle.pz_run_replaying.specs.Stages.{Stage, unbegun, concluded}
use Rattle.pz_run_replaying.specs.devices.Known.{Known}
use Rattle.pz_run_replaying.specs.devices.Readiness.{Ready, IsReady, IsEndAt, IsLast, EndsIn, IsNamedLast}
use Rattle.pz_run_replaying.proofs.Moments.{MomentAt, may_end, never_broken}

-- Moments

pub time_is : {d e : ℕ} → Time d ≡ Time e → d ≡ e
time_is h = cc

pub count_is : {n m : ℕ} → Actions n ≡ Actions m → n ≡ m
count_is h = cc

broken_stopped : {t : Trouble} → Broken ≡ Stopped t → ⊥
broken_stopped h = cc

pub actions_stopped : {n : ℕ} {t : Trouble} → Actions n ≡ Stopped t → ⊥
actions_stopped h = cc

pub time_stopped : {d : ℕ} {t : Trouble} → Time d ≡ Stopped t → ⊥
time_stopped h = cc

actions_broken : {n : ℕ} → Actions n ≡ Broken → ⊥
actions_broken h = cc

-- a simulator that is ready is not broken
pub no_broken : (s : Simulation) → IsReady s → IsMomentOf s Broken → ⊥
no_broken (stands setting c whole) ready now = never_broken setting c Broken refl now.applies
no_broken (stands setting c (stopped trouble)) ready now = broken_stopped now
no_broken (broken setting) ready now = ready

pub clock_of_ready : (s : Simulation) (clock : ℕ) → IsReady s → ClockIs s clock → clock ≡ clock_in s
clock_of_ready (stands setting c standing) clock ready at = at
clock_of_ready (broken setting) clock ready at = absurd ready

-- Offers

derived_is_named : Known → (s : Simulation) (a : Action) (net : Net) → ∥ IsNet (model_in s) net ∥₁ → IsDerivedIn s a → IsNamed net a
derived_is_named known (stands setting c standing) a net is_net derived = known.offers_named setting c net a is_net derived
derived_is_named known (broken setting) a net is_net derived = absurd derived

-- an offer names what is there
pub named_here : Known → (s : Simulation) (k : ℕ) (a : Action) (net : Net) → IsOffer s k a → ∥ IsNet (model_in s) net ∥₁ → IsNamed net a
named_here known s k a net offer is_net = derived_is_named known s a net is_net (known.offers_derived s k a offer)

some_action : Action
some_action = Internal (record { process = 0; place = [] }) Skip (record { line = 0; column = 0 })

-- the offer of a number below the count
pub offer_there : Known → (s : Simulation) (n k : ℕ) → IsMomentOf s (Actions n) → k < n → (a : Action) × IsOffer s k a
offer_there known (stands setting c whole) n k now within =
    let x = known.counts setting c n now in
    let below : k < length x.offers = omega (arith, within, x.count) in
    (get_or x.offers k some_action, record { offers = x.offers; all = x.all; chosen = slice_get-get_or x.offers k some_action below })
offer_there known (stands setting c (stopped t)) n k now within = absurd (actions_stopped now)
offer_there known (broken setting) n k now within = absurd (actions_broken now)

-- with the count of its moment it is a choice
pub choice_of : Known → (setting : Setting) (c : Config) (n k : ℕ) (a : Action) → IsMoment setting c (Actions n) → IsOfferIn setting c k a → IsChoice setting c n k a
choice_of known setting c n k a is offer =
    let x = known.counts setting c n is in
    record { offers = offer.offers; all = offer.all; count = x.count ∙ ap (λ (l : List Action). length l) (known.one_list setting c x.offers offer.offers x.all offer.all); chosen = offer.chosen }

-- Endings

pub ends_in : (s : Simulation) (m : Moment) (e : Ending) → IsReady s → IsMomentOf s m → IsEndAt m e → EndsIn s e
ends_in (stands setting c standing) m e ready now is = may_end setting c standing m e now is
ends_in (broken setting) m e ready now is = absurd ready

stopped_is : {t u : Trouble} → Stopped t ≡ Stopped u → t ≡ u
stopped_is h = cc

named_by : Known → (setting : Setting) (c : Config) (x : Standing) (m : Moment) (e : Ending) (net : Net) → Ready setting c x → MomentAt setting c x m → IsEndAt m e → e ≢ ending.Stop → ∥ IsNet setting.model net ∥₁ → IsNamedAtEnd net e
named_by known setting c x (Actions n) e net ready at is no_stop is_net = absurd (no_stop is)
named_by known setting c x (Time d) e net ready at is no_stop is_net = absurd (no_stop is)
named_by known setting c x Finished e net ready at is no_stop is_net = subst (IsNamedAtEnd net) (sym is) tt
named_by known setting c x Deadlock e net ready at is no_stop is_net = subst (IsNamedAtEnd net) (sym is) tt
named_by known setting c whole (Faulty t) e net ready at is no_stop is_net = subst (IsNamedAtEnd net) (sym is) (known.faults_named setting c net t is_net at)
named_by known setting c (stopped u) (Faulty t) e net ready at is no_stop is_net = absurd (faulty_stopped at)
  where
    faulty_stopped : Faulty t ≡ Stopped u → ⊥
    faulty_stopped h = cc
named_by known setting c whole (Stopped t) e net ready at is no_stop is_net = subst (IsNamedAtEnd net) (sym is) (known.highs_named setting c net t is_net at)
named_by known setting c (stopped u) (Stopped t) e net ready at is no_stop is_net =
    let failed = ready.failed in
    subst (IsNamedAtEnd net) (sym (is ∙ ap (λ (v : Trouble). ending.Trouble v) (stopped_is at))) (known.stops_named setting c net failed.0 u is_net failed.1)
named_by known setting c x Broken e net ready at is no_stop is_net = absurd is

-- the trouble in which a run ends by itself names a process of the net
pub last_named : Known → (s : Simulation) (e : Ending) → IsReady s → IsLast s e → IsNamedLast s e
last_named known (stands setting c standing) e ready last = λ net is_net. named_by known setting c standing last.moment e net ready last.is_moment last.ends last.no_stop is_net
last_named known (broken setting) e ready last = absurd ready

-- Moves

abbrev pub concluded_of : Simulation → Ending → Stage
concluded_of (stands setting c standing) e = concluded c standing e
concluded_of (broken setting) e = unbegun
