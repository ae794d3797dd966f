-- The clocks of a run never fall.
use Rattle.std.proofs.Common.{◌≡◌, refl, sym, ap, ℕ, zero, suc, ◌≤◌, ◌<◌, ◌+◌, List, [], ◌∷◌, ◌++◌, length, Result, Ok, Err, arith}
use Rattle.pz_trace.specs.pz_offer.declared.trouble.Trouble.{Trouble}
use Rattle.pz_trace.specs.pz_rules.declared.action.Action.{Action}
use Rattle.pz_trace.specs.pz_rules.Settings.{Setting, Process}
use Rattle.pz_trace.specs.pz_rules.Configurations.{Config}
use Rattle.pz_trace.specs.pz_rules.Meanings.{and_then}
use Rattle.pz_trace.specs.pz_rules.Steps as steps
use Rattle.pz_trace.specs.pz_rules.Steps.{Next, PassesTo, with_process, with_both}
use Rattle.pz_trace.specs.pz_rules.Runs.{Event, acted, passed, Standing, Reaches, here, acts, stops, passes}
use Rattle.pz_watch.specs.Points.{Point, clock_at, AreInOrder}
use Rattle.pz_watch_points.specs.EventPoints.{event_point, points_of}
use Rattle.pz_watch_points.specs.Laws.{LieWithin}

-- an action keeps the clock

ok_is : {x y : Config} → (let r : Result Config Trouble = Ok x in r) ≡ Ok y → x ≡ y
ok_is h = cc

err_ok : {t : Trouble} {x : Config} → (let r : Result Config Trouble = Err t in r) ≡ Ok x → ⊥
err_ok h = cc

keeps_clock_of : (c next : Config) (r : Result Process Trouble) (f : Process → Result Config Trouble) → ((p : Process) → f p ≡ Ok next → next.clock ≡ c.clock) → and_then r f ≡ Ok next → next.clock ≡ c.clock
keeps_clock_of c next (Ok p) f keeps e = keeps p e
keeps_clock_of c next (Err t) f keeps e = absurd (err_ok e)

keeps_clock : (setting : Setting) (c next : Config) (a : Action) (r : Result Config Trouble) → r ≡ Ok next → Next setting c a r → next.clock ≡ c.clock
keeps_clock setting c next _ _ e (steps.internal at kind pos result deed) =
    keeps_clock_of c next result (λ p. Ok (with_process c at.process p)) (λ p h. sym (ap (λ (d : Config). d.clock) (ok_is h))) e
keeps_clock setting c next _ _ e (steps.communication number sender receiver message parcel sent taken given got) =
    keeps_clock_of c next sent (λ p. and_then taken (λ q. Ok (with_both c sender receiver p q)))
    (λ p h. keeps_clock_of c next taken (λ q. Ok (with_both c sender receiver p q)) (λ q g. sym (ap (λ (d : Config). d.clock) (ok_is g))) h) e

-- a point in front, and those behind it

no_points : (low high : ℕ) → LieWithin low high []
no_points low high = record { above = λ i h. absurd (omega arith); below = λ i h. absurd (omega arith) }

point_above : (x : Point) (xs : List Point) (low : ℕ) → x.clock ≡ low → ((i : ℕ) → i < length xs → low ≤ clock_at xs i) → (i : ℕ) → i < length (x ∷ xs) → low ≤ clock_at (x ∷ xs) i
point_above x xs low is above zero h = omega arith
point_above x xs low is above (suc i) h = above i (omega arith)

point_below : (x : Point) (xs : List Point) (high : ℕ) → x.clock ≤ high → ((i : ℕ) → i < length xs → clock_at xs i ≤ high) → (i : ℕ) → i < length (x ∷ xs) → clock_at (x ∷ xs) i ≤ high
point_below x xs high is below zero h = is
point_below x xs high is below (suc i) h = below i (omega arith)

point_rises : (x : Point) (xs : List Point) → ((i : ℕ) → i < length xs → x.clock ≤ clock_at xs i) → AreInOrder xs
    → (i k : ℕ) → i ≤ k → k < length (x ∷ xs) → clock_at (x ∷ xs) i ≤ clock_at (x ∷ xs) k
point_rises x xs above order zero zero h l = omega arith
point_rises x xs above order zero (suc k) h l = above k (omega arith)
point_rises x xs above order (suc i) zero h l = absurd (omega arith)
point_rises x xs above order (suc i) (suc k) h l = order.rising i k (omega arith) (omega arith)

-- the run of these points, from this clock to that one
record Goes (low high : ℕ) (points : List Point) : Type 0 where
  order : AreInOrder points
  within : LieWithin low high points
  rise : low ≤ high

none : (low : ℕ) → Goes low low []
none low = record { order = record { rising = λ i k h l. absurd (omega arith) }; within = no_points low low; rise = omega arith }

-- a point at this clock, and a run from a clock that is not below
goes_on : (x : Point) (xs : List Point) (low middle high : ℕ) → x.clock ≡ low → low ≤ middle → Goes middle high xs → Goes low high (x ∷ xs)
goes_on x xs low middle high is rises rest =
    let above : (i : ℕ) → i < length xs → low ≤ clock_at xs i = λ i h. (let later = rest.within.above i h in omega arith) in
    let behind : (i : ℕ) → i < length xs → x.clock ≤ clock_at xs i = λ i h. (let later = above i h in omega arith) in
    let rise = rest.rise in
    record {
      order = record { rising = point_rises x xs behind rest.order };
      within = record { above = point_above x xs low is above; below = point_below x xs high (omega arith) rest.within.below };
      rise = omega arith;
    }

run_goes : (setting : Setting) (start end : Config) (events : List Event) (standing : Standing)
    → Reaches setting start events end standing → Goes start.clock end.clock (points_of setting.model events)
run_goes setting _ _ _ _ (here c) = none c.clock
run_goes setting _ _ _ _ (acts c next end n k a events standing moment choice step rest) =
    let keeps : next.clock ≡ c.clock = keeps_clock setting c next a (Ok next) refl step in
    goes_on (event_point setting.model (acted c.clock n k a)) (points_of setting.model events) c.clock next.clock end.clock refl (omega arith)
    (run_goes setting next end events standing rest)
run_goes setting _ _ _ _ (stops c n k a trouble moment choice step) =
    goes_on (event_point setting.model (acted c.clock n k a)) [] c.clock c.clock c.clock refl (omega arith) (none c.clock)
run_goes setting _ _ _ _ (passes c next end d events standing moment step rest) =
    let later : next.clock ≡ c.clock + d = step.clock in
    goes_on (event_point setting.model (passed c.clock d)) (points_of setting.model events) c.clock next.clock end.clock refl (omega arith)
    (run_goes setting next end events standing rest)

pub runs_in_order : (setting : Setting) (start end : Config) (events : List Event) (standing : Standing)
    → Reaches setting start events end standing → AreInOrder (points_of setting.model events)
runs_in_order setting start end events standing reaches = (run_goes setting start end events standing reaches).order

pub runs_within : (setting : Setting) (start end : Config) (events : List Event) (standing : Standing)
    → Reaches setting start events end standing → LieWithin start.clock end.clock (points_of setting.model events)
runs_within setting start end events standing reaches = (run_goes setting start end events standing reaches).within

-- a point behind all others

above_onward : (xs : List Point) (x : Point) (low : ℕ) → low ≤ x.clock → ((i : ℕ) → i < length xs → low ≤ clock_at xs i) → (i : ℕ) → i < length (xs ++ x ∷ []) → low ≤ clock_at (xs ++ x ∷ []) i
above_onward [] x low later above zero h = later
above_onward [] x low later above (suc i) h = absurd (omega arith)
above_onward (y ∷ ys) x low later above zero h = above zero (omega arith)
above_onward (y ∷ ys) x low later above (suc i) h = above_onward ys x low later (λ j l. above (suc j) (omega arith)) i (omega arith)

rises_onward : (xs : List Point) (x : Point) → ((i : ℕ) → i < length xs → clock_at xs i ≤ x.clock)
    → ((i k : ℕ) → i ≤ k → k < length xs → clock_at xs i ≤ clock_at xs k)
    → (i k : ℕ) → i ≤ k → k < length (xs ++ x ∷ []) → clock_at (xs ++ x ∷ []) i ≤ clock_at (xs ++ x ∷ []) k
rises_onward [] x below rising zero zero h l = omega arith
rises_onward [] x below rising (suc i) zero h l = absurd (omega arith)
rises_onward [] x below rising i (suc k) h l = absurd (omega arith)
rises_onward (y ∷ ys) x below rising zero k h l =
    above_onward (y ∷ ys) x y.clock (below zero (omega arith)) (λ j m. rising zero j (omega arith) m) k l
rises_onward (y ∷ ys) x below rising (suc i) zero h l = absurd (omega arith)
rises_onward (y ∷ ys) x below rising (suc i) (suc k) h l =
    rises_onward ys x (λ j m. below (suc j) (omega arith)) (λ j n m o. rising (suc j) (suc n) (omega arith) (omega arith)) i k (omega arith) (omega arith)

pub runs_onward : (setting : Setting) (start end : Config) (events : List Event) (standing : Standing) (next : Point)
    → Reaches setting start events end standing → end.clock ≤ next.clock → AreInOrder (points_of setting.model events ++ next ∷ [])
runs_onward setting start end events standing next reaches later =
    let goes = run_goes setting start end events standing reaches in
    record {
      rising =
          rises_onward (points_of setting.model events) next
          (λ i h. (let before = goes.within.below i h in omega arith)) (λ i k h l. goes.order.rising i k h l);
    }
