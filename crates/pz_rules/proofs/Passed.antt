-- The passing of time, which begins delays that are short, and the least that is left.
use Rattle.std.proofs.Common.{◌≡◌, ◌<◌, ◌^◌, ◌-◌, ℕ, zero, suc, [], ◌∷◌, length, Some, Ok, refl, sym, subst, ◌∙◌, arith}
use Rattle.std.proofs.lemmas.Option.{slice_get_within}
use Rattle.std.specs.Prelude.{slice_get}
use Rattle.pz_bind_rules.specs.pz_syntax.declared.tokens.Pos.{Pos}
use Rattle.pz_bind_rules.specs.pz_syntax.Statements.{delay}
use Rattle.pz_bind_rules.specs.Nest.{processes, class_at}
use Rattle.pz_offer.specs.PlaceOrder.{Place}
use Rattle.pz_rules.specs.declared.moment.Moment.{Moment}
use Rattle.pz_rules.specs.declared.moment.Moment.TheVariants.{Time}
use Rattle.pz_rules.specs.Terms.{Code, Term, leaf, wait, sequence, parallel, select, guarded, frame, abort, idle, handling, Terms, no_terms, and, term_at, count, child, frame_in}
use Rattle.pz_rules.specs.Settings.{Setting, Process, Context}
use Rattle.pz_rules.specs.Active.{Reached, Active, here, inside}
use Rattle.pz_rules.specs.Evaluations.{Lasts}
use Rattle.pz_rules.specs.Delays as delays
use Rattle.pz_rules.specs.Delays.{Delays, Passes, PassesAll}
use Rattle.pz_rules.specs.Configurations.{Config, Stands, IsWhole}
use Rattle.pz_rules.specs.Steps.{PassesTo}
use Rattle.pz_rules.specs.Offers.{PartAt}
use Rattle.pz_rules.specs.Moments as moments
use Rattle.pz_rules.specs.Moments.{Candidate, IsLeft, IsMoment}
use Rattle.pz_rules.specs.Short.{IsShort, AreShort, DelaysAreShort, TimesAreShort}
use Rattle.pz_rules.proofs.Opened.{child_short}
use Rattle.pz_rules.proofs.Stepped.{there, some_is}

-- ---------------------------------------------------------- one term

-- each active delay that has not begun takes less than 2^64
abbrev Times : Context → ℕ → Term → Type 0
Times a f t = (place : Place) (g : ℕ) (pos : Pos) (time : Code) (left : ℕ) → Active a f t place g (leaf (delay pos time)) → Lasts a g pos time (Ok left) → left < 2 ^ 64

times_inside : (a : Context) (f : ℕ) (t : Term) (i : ℕ) → Reached a f t i → Times a f t → Times a (frame_in t f) (child t i)
times_inside a f t i reached h place g pos time left active lasts = h (i ∷ place) g pos time left (inside f t i place g (leaf (delay pos time)) reached active) lasts

abbrev AllTimes : Context → ℕ → Terms → Type 0
AllTimes a f ts = (i : ℕ) → i < count ts → Times a f (term_at ts i)

less : (n d : ℕ) → n < 2 ^ 64 → n - d < 2 ^ 64
less n d h = omega (arith, h)

mutual
  passes_short : (a : Context) (d f : ℕ) (t x : Term) → Passes a d f t x → Times a f t → IsShort t → IsShort x
  passes_short a d _ _ _ (delays.is_done f) times h = tt
  passes_short a d _ _ _ (delays.stays f s is) times h = tt
  passes_short a d _ _ _ (delays.begins f at e left lasts) times h = less left d (times [] f at e left (here f (leaf (delay at e))) lasts)
  passes_short a d _ _ _ (delays.goes_on f left at) times h = less left d h
  passes_short a d _ _ _ (delays.in_sequence f t x rest p) times h = passes_short a d f t x p (times_inside a f (sequence t rest) 0 refl times) h
  passes_short a d _ _ _ (delays.in_parallel f ts xs p) times h = all_short a d f ts xs p (λ i within. times_inside a f (parallel ts) i within times) h
  passes_short a d _ _ _ (delays.in_select f ts xs p) times h = all_short a d f ts xs p (λ i within. times_inside a f (select ts) i within times) h
  passes_short a d _ _ _ (delays.behind_true f test at t x is p) times h = passes_short a d f t x p (times_inside a f (guarded test at t) 0 (refl, is) times) h
  passes_short a d _ _ _ (delays.behind_false f test at t is) times h = h
  passes_short a d _ _ _ (delays.in_frame f number inputs results t x p) times h = passes_short a d number t x p (times_inside a f (frame number inputs results t) 0 refl times) h
  passes_short a d _ _ _ (delays.in_abort f t x u y p q) times h =
      (passes_short a d f t x p (times_inside a f (abort t u) 0 (omega arith) times) h.0, passes_short a d f u y q (times_inside a f (abort t u) 1 (omega arith) times) h.1)
  passes_short a d _ _ _ (delays.in_idle f t x u y again p q) times h =
      (passes_short a d f t x p (times_inside a f (idle t u again) 0 (omega arith) times) h.0, passes_short a d f u y q (times_inside a f (idle t u again) 1 (omega arith) times) h.1)
  passes_short a d _ _ _ (delays.in_handling f t u y again p) times h = (h.0, passes_short a d f u y p (times_inside a f (handling t u again) 1 refl times) h.1)

  all_short : (a : Context) (d f : ℕ) (ts xs : Terms) → PassesAll a d f ts xs → AllTimes a f ts → AreShort ts → AreShort xs
  all_short a d _ _ _ (delays.none f) times h = tt
  all_short a d _ _ _ (delays.both f t x ts xs p q) times h =
      (passes_short a d f t x p (times 0 (omega arith)) h.0, all_short a d f ts xs q (λ i within. times (suc i) (omega (arith, within))) h.1)

active_short : (a : Context) (f : ℕ) (t : Term) (place : Place) (g : ℕ) (part : Term) → Active a f t place g part → IsShort t → IsShort part
active_short a _ _ _ _ _ (here f t) h = h
active_short a _ _ _ _ _ (inside f t i place g part reached x) h = active_short a (frame_in t f) (child t i) place g part x (child_short t i h)

-- ---------------------------------------------------------- all processes

pub passing_short : (setting : Setting) (c next : Config) (d : ℕ) → IsWhole setting c → DelaysAreShort c → TimesAreShort setting c → PassesTo setting c d next → DelaysAreShort next
passing_short setting c next d all short times passes i q is =
    let within : i < length c.processes = subst (λ (n : ℕ). i < n) passes.all (slice_get_within next.processes i q is) in
    let p = there c.processes i within in
    let place = there (processes setting.model) i (subst (λ (n : ℕ). i < n) all within) in
    let a : Context = record { setting = setting; process = i; class = class_at setting.model place.0; clock = c.clock; state = p.0.state } in
    let stands : Stands setting c i p.0 a = record { place = place.0; is_process = place.1; is_here = p.1; seen = refl } in
    let one = passes.each i p.0 a stands in
    let same : (let r : Process = record { term = one.0; state = p.0.state } in r) ≡ q = some_is (sym one.2 ∙ is) in
    subst (λ (r : Process). IsShort r.term) same
    (passes_short a d 0 p.0.term one.0 one.1
    (λ spot g pos time left active lasts. times (record { process = i; place = spot }) a g pos time left (record { process = p.0; stands = stands; active = active }) lasts)
    (short i p.0 p.1))

module _ (setting : Setting) (c : Config) (short : DelaysAreShort c) (times : TimesAreShort setting c) where
  delay_short : (a : Context) (f : ℕ) (t : Term) (left : ℕ) → Delays a f t left → IsShort t → ((pos : Pos) (time : Code) → t ≡ leaf (delay pos time) → Lasts a f pos time (Ok left) → left < 2 ^ 64) → left < 2 ^ 64
  delay_short a f _ _ (delays.not_begun at e left lasts) h unbegun = unbegun at e refl lasts
  delay_short a f _ _ (delays.begun left at) h unbegun = h

  left_short : (left : ℕ) → IsLeft setting c left → left < 2 ^ 64
  left_short left x =
      delay_short x.seen x.frame x.part left x.delays
      (active_short x.seen 0 x.active.process.term x.at.place x.frame x.part x.active.active (short x.at.process x.active.process x.active.stands.is_here))
      (λ pos time is lasts. times x.at x.seen x.frame pos time left (subst (λ (t : Term). PartAt setting c x.at x.seen x.frame t) is x.active) lasts)

  abbrev ShortAt : Moment → Type 0
  ShortAt (Time d) = d < 2 ^ 64
  ShortAt m = Unit {0}

  candidate_short : (m : Moment) → Candidate setting c m → ShortAt m
  candidate_short _ (moments.high trouble is) = tt
  candidate_short _ (moments.faulty trouble is) = tt
  candidate_short _ (moments.acting xs is some) = tt
  candidate_short _ (moments.passing d is) = left_short d is.is_left
  candidate_short _ (moments.finished all) = tt
  candidate_short _ moments.deadlock = tt

  pub moment_short : (d : ℕ) → IsMoment setting c (Time d) → d < 2 ^ 64
  moment_short d is = candidate_short (Time d) is.applies
