-- A policy chooses some run, wherever the bodies of the model fit and its wires are known.
use Rattle.std.proofs.Common.{◌≡◌, ◌≤◌, ◌<◌, ◌+◌, ℕ, zero, suc, List, [], ◌∷◌, length, Some, Result, Ok, Err, refl, arith}
use Rattle.std.specs.Prelude.{slice_get}
use Rattle.std.specs.List.{Contains}
use Rattle.std.proofs.lemmas.List.Elements.{All-contains}
use Rattle.pz_bind_rules.specs.pz_classes_rules.SoundBodies.{BodiesFit}
use Rattle.pz_offer.specs.declared.trouble.Trouble.{Trouble}
use Rattle.pz_rules.specs.declared.action.Action.{Action}
use Rattle.pz_rules.specs.declared.moment.Moment.{Moment}
use Rattle.pz_rules.specs.declared.moment.Moment.TheVariants.{Time}
use Rattle.pz_rules.specs.Settings.{Setting}
use Rattle.pz_rules.specs.Ports.{HasWires}
use Rattle.pz_rules.specs.Configurations.{Config, IsWhole}
use Rattle.pz_rules.specs.Offers.{Offers}
use Rattle.pz_rules.specs.Steps.{Next}
use Rattle.pz_rules.specs.Moments.{IsMoment}
use Rattle.pz_rules.specs.Runs.{acted, passed, IsChoice, troubled}
use Rattle.pz_rules.specs.ChosenRuns as chosen
use Rattle.pz_rules.specs.ChosenRuns.{Policy, Decision, stops_with, takes, waits, entry_of, decided, IsChosenRun}
use Rattle.pz_rules.specs.Fitting.{IsFit}
use Rattle.pz_rules.specs.Laws.{HasChosenRun}
use Rattle.pz_rules.proofs.Locals.{some_is, no_some}
use Rattle.pz_rules.proofs.Lists.{Contains-later}
use Rattle.pz_rules.proofs.Moments.{offers_some, moment_some, action_count}
use Rattle.pz_rules.proofs.Chosen.{acting_at, passing_at, takes_within}
use Rattle.pz_rules.proofs.Elapsed.{there, next_whole, passing_whole}
use Rattle.pz_rules.proofs.Waiting.{passing_some}
use Rattle.pz_rules.proofs.Kept.{OutcomeFits, next_some, outcome_fits, passing_fits}
use Rattle.pz_rules.specs.devices.Pending.{list_pending}
use Rattle.pz_rules.proofs.Pending.{fewer_pending}

contains_at : {X : Type 0} (xs : List X) (i : ℕ) (x : X) → slice_get xs i ≡ Some x → Contains xs x
contains_at [] i x e = no_some e
contains_at (y ∷ ys) zero x e = (0, omega arith, some_is e)
contains_at (y ∷ ys) (suc i) x e = Contains-later y ys x (contains_at ys i x e)

module _ (setting : Setting) (policy : Policy) (wires : HasWires setting.model) (sound : BodiesFit setting.model) where
  abbrev Run : ℕ → Config → Type 0
  Run j c = HasChosenRun setting policy j c

  -- with at most so many actions to choose; a further action leaves one less
  abbrev Later : ℕ → Type 0
  Later k = (j : ℕ) (c : Config) → 1 ≤ k → policy.steps + 1 ≤ j + k → IsWhole setting c → IsFit setting c → Run j c

  module _ (k : ℕ) (later : Later k) where
    acts_on : (j : ℕ) (c : Config) (m : Moment) (n i : ℕ) (a : Action) → j < policy.steps → policy.steps ≤ j + k → IsWhole setting c → IsMoment setting c m → decided policy j c.clock m ≡ takes n i → IsChoice setting c n i a
        → (q : Result Config Trouble) → Next setting c a q → OutcomeFits setting q → Run j c
    acts_on j c m n i a more enough all is d choice (Ok next) h fits =
        let r = later (suc j) next (omega (arith, more, enough)) (omega (arith, enough)) (next_whole setting c a next all h) fits in
        record { events = acted c.clock n i a ∷ r.events; end = r.end; ending = r.ending; run = chosen.acts j c next r.end m n i a r.events r.ending is d choice h r.run }
    acts_on j c m n i a more enough all is d choice (Err t) h fits =
        record { events = acted c.clock n i a ∷ []; end = c; ending = troubled t; run = chosen.stops j c m n i a t is d choice h }

    takes_on : (j : ℕ) (c : Config) (m : Moment) (n i : ℕ) → policy.steps ≤ j + k → IsWhole setting c → IsFit setting c → IsMoment setting c m → decided policy j c.clock m ≡ takes n i → Run j c
    takes_on j c m n i enough all fit is d =
        let os = offers_some setting c wires in
        let within = takes_within setting policy j c.clock m n i d in
        let long : n ≡ length os.list = action_count setting c n (acting_at setting policy j c m n i is d) os.list os.is in
        let a = there os.list i (omega (arith, long, within.1)) in
        let offer : Offers setting c a.0 = All-contains (Offers setting c) os.list a.0 os.is.derivable (contains_at os.list i a.0 a.1) in
        let h = next_some setting c sound fit a.0 offer in
        acts_on j c m n i a.0 within.0 enough all is d (record { offers = os.list; all = os.is; count = long; chosen = a.1 }) h.0 h.1 (outcome_fits setting c sound fit a.0 h.0 h.1)

    -- a configuration in which fewer delays may have something left
    abbrev Fewer : ℕ → Config → Type 0
    Fewer j c = (next : Config) → list_pending next.processes < list_pending c.processes → IsWhole setting next → IsFit setting next → Run j next

    by_decision : (j : ℕ) (c : Config) (m : Moment) → policy.steps ≤ j + k → IsWhole setting c → IsFit setting c → IsMoment setting c m → Fewer j c → (d : Decision) → decided policy j c.clock m ≡ d → Run j c
    by_decision j c m enough all fit is go (stops_with e) d = record { events = []; end = c; ending = e; run = chosen.ends j c m e is d }
    by_decision j c m enough all fit is go (takes n i) d = takes_on j c m n i enough all fit is d
    by_decision j c m enough all fit is go (waits time) d =
        let now : IsMoment setting c (Time time) = passing_at setting policy j c m time is d in
        let h = passing_some setting c time wires now in
        let r = go h.0 (fewer_pending setting c h.0 time wires all now h.1) (passing_whole setting c time h.0 all h.1) (passing_fits setting c h.0 time all fit h.1) in
        record { events = passed c.clock time ∷ r.events; end = r.end; ending = r.ending; run = chosen.passes j c h.0 r.end m time r.events r.ending is d h.1 r.run }

    at_moment : (j : ℕ) (c : Config) → policy.steps ≤ j + k → IsWhole setting c → IsFit setting c → Fewer j c → Run j c
    at_moment j c enough all fit go = let m = moment_some setting c wires in by_decision j c m.moment enough all fit m.is go (decided policy j c.clock m.moment) refl

    -- with at most so many delays of which something may be left
    from : (size j : ℕ) (c : Config) → list_pending c.processes ≤ size → policy.steps ≤ j + k → IsWhole setting c → IsFit setting c → Run j c
    from zero j c few enough all fit = at_moment j c enough all fit (λ next fewer w f. absurd (omega (arith, fewer, few)))
    from (suc size) j c few enough all fit = at_moment j c enough all fit (λ next fewer w f. from size j next (omega (arith, fewer, few)) enough w f)

  run_with : (k j : ℕ) (c : Config) → policy.steps ≤ j + k → IsWhole setting c → IsFit setting c → Run j c
  run_with zero j c enough all fit = from zero (λ j c some more all fit. absurd (omega (arith, some))) (list_pending c.processes) j c (omega arith) enough all fit
  run_with (suc k) j c enough all fit =
      from (suc k) (λ i b some more whole_b fit_b. run_with k i b (omega (arith, more)) whole_b fit_b) (list_pending c.processes) j c (omega arith) enough all fit

  pub run_some : (j : ℕ) (c : Config) → IsWhole setting c → IsFit setting c → Run j c
  run_some j c all fit = run_with policy.steps j c (omega arith) all fit
