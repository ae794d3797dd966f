-- Where steps lead from the start of a run on.
use Rattle.std.proofs.Common.{◌≡◌, ◌≤◌, ◌<◌, ◌+◌, ◌*◌, ◌^◌, ℕ, Bool, true, false, List, [], ◌∷◌, ◌++◌, length, length-append, map, refl, sym, ap, subst, ◌∙◌, arith}
use Rattle.std.specs.Prelude.{if◌then◌else◌}
use Rattle.pz_rules.specs.pz_syntax.Classes.{ModelTree}
use Rattle.pz_rules.specs.pz_offer.declared.trouble.Trouble.{Trouble}
use Rattle.pz_rules.specs.declared.moment.Moment.{Moment}
use Rattle.pz_rules.specs.declared.moment.Moment.TheVariants.{Actions, Time, Broken}
use Rattle.pz_rules.specs.declared.limits.Limits.{Limits}
use Rattle.pz_rules.specs.Settings.{Setting}
use Rattle.pz_rules.specs.Configurations.{Config}
use Rattle.pz_rules.specs.Starting.{IsStart}
use Rattle.pz_rules.specs.Runs as runs
use Rattle.pz_rules.specs.Runs.{Event, acted, passed, Standing, whole, stopped, Reaches}
use Rattle.pz_term_processes.specs.Standing.{setting_of}
use Rattle.pz_term_simulator.specs.Simulations as simulations
use Rattle.pz_term_simulator.specs.Simulations.{Simulation, stands, broken, IsMomentOf, Starts, Chooses, Passes, setting_in, model_in, limits_in, clock_in}
use Rattle.pz_debug_session.specs.declared.step.Step.{Step}
use Rattle.pz_debug_session.specs.declared.step.Step.TheVariants.{Pick, Pass}
use Rattle.pz_debug_session.specs.Steps.{step_of, StandsAfter, StandsLow}
use Rattle.pz_debug_session.specs.devices.Known.{Known}
use Rattle.pz_debug_session.specs.devices.Leading.{Takes, CanTake, IsShort, Leads, arrived, further, IsWholeAt}
use Rattle.pz_debug_session.proofs.Roads.{one_road, leads_on, splits, stays_low, is_low}

-- From the events of a run to its steps, and back

reached_led : (setting : Setting) (c end : Config) (events : List Event) (standing : Standing) → Reaches setting c events end standing → Leads (stands setting c whole) (map step_of events) (stands setting end standing)
reached_led setting _ _ _ _ (runs.here c) = arrived (stands setting c whole)
reached_led setting _ end _ standing (runs.acts c next _ n k a events _ is choice to reaches) =
    further (Pick k) (stands setting c whole) (stands setting next whole) (stands setting end standing) (map step_of events) (simulations.acts setting c next n a is choice to)
    (reached_led setting next end events standing reaches)
reached_led setting _ _ _ _ (runs.stops c n k a trouble is choice to) =
    further (Pick k) (stands setting c whole) (stands setting c (stopped trouble)) (stands setting c (stopped trouble)) [] (simulations.stops setting c n a trouble is choice to)
    (arrived (stands setting c (stopped trouble)))
reached_led setting _ end _ standing (runs.passes c next _ d events _ is to reaches) =
    further Pass (stands setting c whole) (stands setting next whole) (stands setting end standing) (map step_of events) (simulations.passes setting c next d is to)
    (reached_led setting next end events standing reaches)

record IsReached (setting : Setting) (c : Config) (steps : List Step) (t : Simulation) : Type 0 where
  events : List Event
  end : Config
  standing : Standing
  reaches : Reaches setting c events end standing
  are_steps : steps ≡ map step_of events
  is_there : t ≡ stands setting end standing

-- behind a trouble comes no step
record IsOver (setting : Setting) (c : Config) (trouble : Trouble) (steps : List Step) (t : Simulation) : Type 0 where
  none : steps ≡ []
  stays : t ≡ stands setting c (stopped trouble)

over : (setting : Setting) (c : Config) (trouble : Trouble) (steps : List Step) (t : Simulation) → Leads (stands setting c (stopped trouble)) steps t → IsOver setting c trouble steps t
over setting c trouble _ _ (arrived _) = record { none = refl; stays = refl }
over setting c trouble _ t (further (Pick k) _ m _ steps takes leads) = elim takes [ ]
over setting c trouble _ t (further Pass _ m _ steps takes leads) = elim takes [ ]

led_reached : (setting : Setting) (c : Config) (steps : List Step) (t : Simulation) → Leads (stands setting c whole) steps t → IsReached setting c steps t
led_reached setting c _ _ (arrived _) = record { events = []; end = c; standing = whole; reaches = runs.here c; are_steps = refl; is_there = refl }
led_reached setting c _ t (further (Pick k) _ _ _ steps (simulations.acts _ _ next n a is choice to) leads) =
    let x = led_reached setting next steps t leads in
    record {
      events = acted c.clock n k a ∷ x.events;
      end = x.end;
      standing = x.standing;
      reaches = runs.acts c next x.end n k a x.events x.standing is choice to x.reaches;
      are_steps = ap (λ (l : List Step). Pick k ∷ l) x.are_steps;
      is_there = x.is_there;
    }
led_reached setting c _ t (further (Pick k) _ _ _ steps (simulations.stops _ _ n a trouble is choice to) leads) =
    let x = over setting c trouble steps t leads in
    record {
      events = acted c.clock n k a ∷ [];
      end = c;
      standing = stopped trouble;
      reaches = runs.stops c n k a trouble is choice to;
      are_steps = ap (λ (l : List Step). Pick k ∷ l) x.none;
      is_there = x.stays;
    }
led_reached setting c _ t (further Pass _ _ _ steps (simulations.passes _ _ next d is to) leads) =
    let x = led_reached setting next steps t leads in
    record {
      events = passed c.clock d ∷ x.events;
      end = x.end;
      standing = x.standing;
      reaches = runs.passes c next x.end d x.events x.standing is to x.reaches;
      are_steps = ap (λ (l : List Step). Pass ∷ l) x.are_steps;
      is_there = x.is_there;
    }

placed_led : (setting : Setting) (steps : List Step) (s : Simulation) (x : StandsAfter setting steps s) → Leads (stands setting x.start whole) steps s
placed_led setting steps s x =
    subst (λ (l : List Step). Leads (stands setting x.start whole) l s) (sym x.are_steps)
    (subst (λ (t : Simulation). Leads (stands setting x.start whole) (map step_of x.events) t) (sym x.is_there) (reached_led setting x.start x.end x.events x.standing x.reaches))

led_placed : (setting : Setting) (start : Config) (steps : List Step) (s : Simulation) → IsStart setting start → Leads (stands setting start whole) steps s → StandsAfter setting steps s
led_placed setting start steps s is leads =
    let x = led_reached setting start steps s leads in
    record { start = start; is_start = is; events = x.events; end = x.end; standing = x.standing; reaches = x.reaches; are_steps = x.are_steps; is_there = x.is_there }

-- The laws

module _ (known : Known) where
  same_start : (setting : Setting) (c : Config) (steps : List Step) (s : Simulation) → IsStart setting c → StandsAfter setting steps s → Leads (stands setting c whole) steps s
  same_start setting c steps s is x =
      subst (λ (d : Config). Leads (stands setting d whole) steps s) (known.one_start setting x.start c x.is_start is) (placed_led setting steps s x)

  pub one_place : (setting : Setting) (steps : List Step) (s t : Simulation) → StandsAfter setting steps s → StandsAfter setting steps t → s ≡ t
  one_place setting steps s t x y =
      one_road known (stands setting x.start whole) s t steps x.is_start.all (placed_led setting steps s x) (same_start setting x.start steps t x.is_start y)

  pub started_leads : (setting : Setting) (s t : Simulation) (steps : List Step) → Starts setting s → StandsAfter setting steps t → Leads s steps t
  started_leads setting _ t steps (simulations.starts c is) x = same_start setting c steps t is x

pub started_placed : (setting : Setting) (s t : Simulation) (steps : List Step) → Starts setting s → Leads s steps t → StandsAfter setting steps t
started_placed setting _ t steps (simulations.starts c is) leads = led_placed setting c steps t is leads

pub started_whole : (setting : Setting) (s : Simulation) → Starts setting s → IsWholeAt s
started_whole setting _ (simulations.starts c is) = is.all

pub begins : (setting : Setting) (s : Simulation) → Starts setting s → StandsAfter setting [] s
begins setting s is = started_placed setting s s [] is (arrived s)

pub goes_on : (setting : Setting) (steps : List Step) (step : Step) (s t : Simulation) → StandsAfter setting steps s → Takes step s t → StandsAfter setting (steps ++ step ∷ []) t
goes_on setting steps step s t x takes =
    led_placed setting x.start (steps ++ step ∷ []) t x.is_start (leads_on (stands setting x.start whole) s t steps step (placed_led setting steps s x) takes)

-- the first steps lead somewhere too
pub front_placed : (setting : Setting) (steps more : List Step) (s : Simulation) → StandsAfter setting (steps ++ more) s → (t : Simulation) × StandsAfter setting steps t
front_placed setting steps more s x =
    let parts = splits (stands setting x.start whole) s steps more (placed_led setting (steps ++ more) s x) in
    (parts.mid, led_placed setting x.start steps parts.mid x.is_start parts.before)

-- and the clock is at most 2^64 units for each step

pub started_clock : (setting : Setting) (s : Simulation) → Starts setting s → clock_in s ≡ 0
started_clock setting _ (simulations.starts c is) = is.clock

pub begins_low : (setting : Setting) (s : Simulation) → Starts setting s → StandsLow setting [] s
begins_low setting s is = record { after = begins setting s is; low = let start : clock_in s ≡ 0 = started_clock setting s is in omega (arith, start) }

goes_on_low : (setting : Setting) (steps : List Step) (step : Step) (s t : Simulation) → StandsLow setting steps s → Takes step s t → IsShort step s t → StandsLow setting (steps ++ step ∷ []) t
goes_on_low setting steps step s t x takes short = record {
  after = goes_on setting steps step s t x.after takes;
  low = subst (λ (n : ℕ). clock_in t ≤ 2 ^ 64 * n) (sym (length-append steps (step ∷ []))) (stays_low step s t (length steps) takes short x.low);
}

pub chosen_low : (setting : Setting) (steps : List Step) (k : ℕ) (s t : Simulation) → StandsLow setting steps s → Chooses k s t → StandsLow setting (steps ++ Pick k ∷ []) t
chosen_low setting steps k s t x takes = goes_on_low setting steps (Pick k) s t x takes tt

pub passed_low : (setting : Setting) (steps : List Step) (s t : Simulation) → StandsLow setting steps s → Passes s t → clock_in t < clock_in s + 2 ^ 64 → StandsLow setting (steps ++ Pass ∷ []) t
passed_low setting steps s t x takes short = goes_on_low setting steps Pass s t x takes short

-- Sessions

-- where a session is broken, it takes no step
pub not_lost : (b : Bool) (setting : Setting) (s : Simulation) (step : Step) → CanTake step (if b then broken setting else s) → b ≡ false
not_lost true setting s (Pick k) can = absurd (never can.1)
  where
    never : {n : ℕ} → Actions n ≡ Broken → ⊥
    never e = cc
not_lost true setting s Pass can = absurd (never can.1)
  where
    never : {d : ℕ} → Time d ≡ Broken → ⊥
    never e = cc
not_lost false setting s step can = refl

-- nor stands anywhere; else its first steps lead somewhere too
pub front_of_session : (b : Bool) (s : Simulation) (steps front more : List Step) → steps ≡ front ++ more
    → StandsLow (setting_in (if b then broken (setting_in s) else s)) steps (if b then broken (setting_in s) else s) → (t : Simulation) × StandsAfter (setting_in s) front t
front_of_session true s steps front more parts x = absurd (never x.after.is_there)
  where
    never : {c : Config} {standing : Standing} → broken (setting_in s) ≡ stands (setting_in s) c standing → ⊥
    never e = cc
front_of_session false s steps front more parts x = front_placed (setting_in s) front more s (subst (λ (l : List Step). StandsAfter (setting_in s) l s) parts x.after)

-- the setting of a simulator is its model and its limits
pub same_setting : (m : ModelTree) (limits : Limits) (s : Simulation) → m ≡ model_in s → limits ≡ limits_in s → setting_of m limits ≡ setting_in s
same_setting m limits s e f = ap (λ (n : ModelTree). setting_of n limits) e ∙ ap (λ (l : Limits). setting_of (model_in s) l) f

-- where time passes and the clock is at most 2^64 units for each step, a passing can be taken
pub time_can : (s : Simulation) (m : Moment) (d n : ℕ) → m ≡ Time d → IsMomentOf s m → n < 2 ^ 63 → clock_in s ≤ 2 ^ 64 * n → CanTake Pass s
time_can s m d n is at few low = (d, subst (λ (x : Moment). IsMomentOf s x) is at, is_low n (clock_in s) few low)
