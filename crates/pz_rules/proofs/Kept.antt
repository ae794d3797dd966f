-- Configurations that fit are so from the start and stay so, and each action that is offered leads
-- somewhere.
use Rattle.std.proofs.Common.{◌≡◌, ◌⊎◌, ◌<◌, inl, inr, ℕ, zero, suc, Bool, true, false, List, [], ◌∷◌, Some, Result, Ok, Err, refl, sym, subst, ap, ◌∙◌}
use Rattle.std.proofs.lemmas.Option.{slice_get_within}
use Rattle.std.specs.Prelude.{slice_get, slice_set, if◌then◌else◌, nat_le}
use Rattle.pz_bind_rules.specs.pz_syntax.declared.tokens.Pos.{Pos}
use Rattle.pz_bind_rules.specs.pz_syntax.Classes.{ModelTree}
use Rattle.pz_bind_rules.specs.pz_classes_rules.SoundBodies.{BodiesFit}
use Rattle.pz_bind_levels.specs.Places.{Address as Standing}
use Rattle.pz_bind_rules.specs.Nest.{processes, class_at}
use Rattle.pz_bind_rules.specs.Values.{values_at}
use Rattle.pz_offer.specs.pz_state.States.{initial}
use Rattle.pz_offer.specs.declared.end.End.{End}
use Rattle.pz_offer.specs.PlaceOrder.{Place}
use Rattle.pz_offer.specs.declared.trouble.Trouble.{Trouble}
use Rattle.pz_offer.specs.declared.trouble.Trouble.TheVariants.{High}
use Rattle.pz_rules.specs.declared.action.Action.{Action}
use Rattle.pz_rules.specs.Terms.{Term, Terms, height}
use Rattle.pz_rules.specs.Settings.{Setting, Process, Context, home_of}
use Rattle.pz_rules.specs.Meanings.{and_then}
use Rattle.pz_rules.specs.InternalActions.{Performs}
use Rattle.pz_rules.specs.Messages.{Hands, Takes}
use Rattle.pz_rules.specs.Leaving.{residual, swept, not_too_high, settled}
use Rattle.pz_rules.specs.Delays as delays
use Rattle.pz_rules.specs.Delays.{Passes, PassesAll}
use Rattle.pz_rules.specs.Configurations.{Config, Stands, IsWhole}
use Rattle.pz_rules.specs.Steps.{Deed, Acts, with_process, with_both, Next, internal, communication, PassesTo}
use Rattle.pz_rules.specs.Offers as offers
use Rattle.pz_rules.specs.Offers.{PartAt, IsPair, Offers}
use Rattle.pz_rules.specs.Starting.{IsStart}
use Rattle.pz_rules.specs.Fitting.{TermFits, TermsFit, IsFit}
use Rattle.pz_rules.proofs.Locals.{some_is}
use Rattle.pz_rules.proofs.Fits.{opened_fits, fitted}
use Rattle.pz_rules.proofs.Possible.{SomeDeed, LeavesFit, performs_some, performs_fit, hands_some, hands_fit, takes_some, takes_fit}
use Rattle.pz_rules.proofs.Elapsed.{there}

-- what stands in a list after one was set
pub set_get : {X : Type 0} (xs : List X) (i k : ℕ) (x y : X) → slice_get (slice_set xs i x) k ≡ Some y → ((k ≡ i) × (y ≡ x)) ⊎ (slice_get xs k ≡ Some y)
set_get [] i k x y e = inr e
set_get (z ∷ xs) zero zero x y e = inl (refl, sym (some_is e))
set_get (z ∷ xs) zero (suc k) x y e = inr e
set_get (z ∷ xs) (suc i) zero x y e = inr e
set_get (z ∷ xs) (suc i) (suc k) x y e = by (set_get xs i k x y e)
  where
    by : ((k ≡ i) × (y ≡ x)) ⊎ (slice_get xs k ≡ Some y) → ((suc k ≡ suc i) × (y ≡ x)) ⊎ (slice_get xs k ≡ Some y)
    by (inl same) = inl (ap suc same.0, same.1)
    by (inr other) = inr other

-- fits where a process of this number stands
abbrev FitsAs : Setting → ℕ → Process → Type 0
FitsAs setting i p = (place : Standing) → slice_get (processes setting.model) i ≡ Some place → TermFits setting.model (class_at setting.model place) 0 p.term

put_fits : (setting : Setting) (c : Config) (i : ℕ) (p : Process) → IsFit setting c → FitsAs setting i p → IsFit setting (with_process c i p)
put_fits setting c i p fit new k place q at is = by (set_get c.processes i k p q is)
  where
    by : ((k ≡ i) × (q ≡ p)) ⊎ (slice_get c.processes k ≡ Some q) → TermFits setting.model (class_at setting.model place) 0 q.term
    by (inl same) =
        subst (λ (r : Process). TermFits setting.model (class_at setting.model place) 0 r.term) (sym same.1)
        (new place (subst (λ (n : ℕ). slice_get (processes setting.model) n ≡ Some place) same.0 at))
    by (inr other) = fit k place q at other

-- an outcome that fits
abbrev pub OutcomeFits : Setting → Result Config Trouble → Type 0
OutcomeFits setting (Ok next) = IsFit setting next
OutcomeFits setting (Err t) = Unit {0}

abbrev LeftFits : Setting → ℕ → Result Process Trouble → Type 0
LeftFits setting i (Ok p) = FitsAs setting i p
LeftFits setting i (Err t) = Unit {0}

-- a deed that leaves what fits
abbrev KeepsFit : Deed → Type 0
KeepsFit does = (a : Context) (f : ℕ) → BodiesFit a.setting.model → (l : ℕ) (t : Term) (pos : Pos) (q : Result Process Trouble) → does a f t pos q → TermFits a.setting.model a.class l t → LeavesFit a.setting.model a.class l q

module _ (setting : Setting) (c : Config) (sound : BodiesFit setting.model) (fit : IsFit setting c) where
  fits_there : (i : ℕ) (p : Process) (a : Context) → Stands setting c i p a → TermFits a.setting.model a.class 0 p.term
  fits_there i p a stands = subst (λ (b : Context). TermFits b.setting.model b.class 0 p.term) (sym stands.seen) (fit i stands.place p stands.is_process stands.is_here)

  sound_there : (i : ℕ) (p : Process) (a : Context) → Stands setting c i p a → BodiesFit a.setting.model
  sound_there i p a stands = subst (λ (b : Context). BodiesFit b.setting.model) (sym stands.seen) sound

  -- Each action leads somewhere

  acts_some : (does : Deed) (end : End) (a : Context) (f : ℕ) (t : Term) → PartAt setting c end a f t → SomeDeed (does a f t) → (q : Result Process Trouble) × Acts setting c does end q
  acts_some does end a f t at deed = (
    and_then deed.left (settled a deed.pos at.process.term end.place),
    record {
      process = at.process;
      seen = a;
      stands = at.stands;
      frame = f;
      part = t;
      active = at.active;
      pos = deed.pos;
      left = deed.left;
      acts = deed.is;
      leaves = refl;
    },
  )

  pub next_some : (action : Action) → Offers setting c action → (q : Result Config Trouble) × Next setting c action q
  next_some _ (offers.internal end a f t kind pos at can) =
      let spot = fitted a.setting.model a.class a.setting.limits.edition 0 at.active (fits_there end.process at.process a at.stands) in
      let x = acts_some Performs end a f t at (performs_some a f (sound_there end.process at.process a at.stands) spot.locals t kind pos can spot.fits) in
      (and_then x.0 (λ p. Ok (with_process c end.process p)), internal end kind pos x.0 x.1)
  next_some _ (offers.communication number sender receiver message parcel p judged) =
      let x = acts_some (λ a f. Hands a f parcel) sender p.sends_at p.sends_frame p.sends_part p.sender_active (hands_some p.sends_at p.sends_frame p.sends_part p.sends_pos p.sends_port message parcel p.sends) in
      let y = acts_some (λ a f. Takes a f parcel) receiver p.receives_at p.receives_frame p.receives_part p.receiver_active (takes_some p.receives_at p.receives_frame parcel p.receives_part p.receives_pos p.receives_port message _ p.receives) in
      (and_then x.0 (λ u. and_then y.0 (λ v. Ok (with_both c sender receiver u v))), communication number sender receiver message parcel x.0 y.0 x.1 y.1)

  -- What fits stays so

  high_fits : (m : ModelTree) (class : ℕ) (a : Context) (pos : Pos) (p : Process) → TermFits m class 0 p.term → LeavesFit m class 0 (not_too_high a pos (swept p))
  high_fits m class a pos p h = by (nat_le (height p.term) a.setting.limits.height)
    where
      by : (b : Bool) → LeavesFit m class 0 (if b then Ok (swept p) else Err (High a.process pos))
      by true = h
      by false = tt

  settled_fits : (m : ModelTree) (class : ℕ) (a : Context) (pos : Pos) (t : Term) (place : Place) (l : ℕ) (left : Result Process Trouble) → LeavesFit m class l left → ((y : Process) → TermFits m class l y.term → TermFits m class 0 (residual (home_of a) 0 t place y).term)
      → LeavesFit m class 0 (and_then left (settled a pos t place))
  settled_fits m class a pos t place l (Ok y) h leaves = high_fits m class a pos (residual (home_of a) 0 t place y) (leaves y h)
  settled_fits m class a pos t place l (Err e) h leaves = tt

  to_place : (i : ℕ) (a : Context) (p : Process) (q : Result Process Trouble) → Stands setting c i p a → LeavesFit a.setting.model a.class 0 q → LeftFits setting i q
  to_place i a p (Err t) stands h = tt
  to_place i a p (Ok r) stands h =
      λ place at.
      subst (λ (z : Standing). TermFits setting.model (class_at setting.model z) 0 r.term) (some_is (sym stands.is_process ∙ at))
      (subst (λ (b : Context). TermFits b.setting.model b.class 0 r.term) stands.seen h)

  acts_fit : (does : Deed) → KeepsFit does → (end : End) (q : Result Process Trouble) → Acts setting c does end q → LeftFits setting end.process q
  acts_fit does keeps end q x =
      let spot = fitted x.seen.setting.model x.seen.class x.seen.setting.limits.edition 0 x.active (fits_there end.process x.process x.seen x.stands) in
      let left = keeps x.seen x.frame (sound_there end.process x.process x.seen x.stands) spot.locals x.part x.pos x.left x.acts spot.fits in
      subst (LeftFits setting end.process) (sym x.leaves)
      (to_place end.process x.seen x.process (and_then x.left (settled x.seen x.pos x.process.term end.place)) x.stands
      (settled_fits x.seen.setting.model x.seen.class x.seen x.pos x.process.term end.place spot.locals x.left left (λ y h. spot.leaves (sound_there end.process x.process x.seen x.stands) 0 y h)))

  internal_fits : (i : ℕ) (q : Result Process Trouble) → LeftFits setting i q → OutcomeFits setting (and_then q (λ p. Ok (with_process c i p)))
  internal_fits i (Ok p) h = put_fits setting c i p fit h
  internal_fits i (Err t) h = tt

  both_fit : (sender receiver : End) (q r : Result Process Trouble) → LeftFits setting sender.process q → LeftFits setting receiver.process r → OutcomeFits setting (and_then q (λ p. and_then r (λ u. Ok (with_both c sender receiver p u))))
  both_fit sender receiver (Ok p) (Ok u) h k = put_fits setting (with_process c sender.process p) receiver.process u (put_fits setting c sender.process p fit h) k
  both_fit sender receiver (Ok p) (Err t) h k = tt
  both_fit sender receiver (Err t) r h k = tt

  pub outcome_fits : (action : Action) (q : Result Config Trouble) → Next setting c action q → OutcomeFits setting q
  outcome_fits _ _ (internal end kind pos result x) = internal_fits end.process result (acts_fit Performs (λ a f s l t pos q h k. performs_fit a f s l t pos q h k) end result x)
  outcome_fits _ _ (communication number sender receiver message parcel sent taken x y) =
      both_fit sender receiver sent taken
      (acts_fit (λ a f. Hands a f parcel) (λ a f s l t pos q h k. hands_fit a f s l parcel t pos q h k) sender sent x)
      (acts_fit (λ a f. Takes a f parcel) (λ a f s l t pos q h k. takes_fit a f s l parcel t pos q h k) receiver taken y)

  pub next_fits : (action : Action) (next : Config) → Next setting c action (Ok next) → IsFit setting next
  next_fits action next h = outcome_fits action (Ok next) h

-- The passing of time

mutual
  passes_fit : (m : ModelTree) (class l : ℕ) (a : Context) (d f : ℕ) (t x : Term) → Passes a d f t x → TermFits m class l t → TermFits m class l x
  passes_fit m class l a d _ _ _ (delays.is_done f) h = h
  passes_fit m class l a d _ _ _ (delays.stays f s is) h = h
  passes_fit m class l a d _ _ _ (delays.begins f at e left lasts) h = tt
  passes_fit m class l a d _ _ _ (delays.goes_on f left at) h = tt
  passes_fit m class l a d _ _ _ (delays.in_sequence f t x rest p) h = (passes_fit m class l a d f t x p h.0, h.1)
  passes_fit m class l a d _ _ _ (delays.in_parallel f ts xs p) h = all_pass_fit m class l a d f ts xs p h
  passes_fit m class l a d _ _ _ (delays.in_select f ts xs p) h = all_pass_fit m class l a d f ts xs p h
  passes_fit m class l a d _ _ _ (delays.behind_true f test at t x is p) h = (h.0, passes_fit m class l a d f t x p h.1)
  passes_fit m class l a d _ _ _ (delays.behind_false f test at t is) h = h
  passes_fit m class l a d _ _ _ (delays.in_frame f number inputs results t x p) h = (h.0, (h.1.0, passes_fit m class h.1.0 a d number t x p h.1.1))
  passes_fit m class l a d _ _ _ (delays.in_abort f t x u y p q) h = (passes_fit m class l a d f t x p h.0, passes_fit m class l a d f u y q h.1)
  passes_fit m class l a d _ _ _ (delays.in_idle f t x u y again p q) h = (passes_fit m class l a d f t x p h.0, passes_fit m class l a d f u y q h.1, h.2)
  passes_fit m class l a d _ _ _ (delays.in_handling f t u y again p) h = (h.0, passes_fit m class l a d f u y p h.1, h.2)

  all_pass_fit : (m : ModelTree) (class l : ℕ) (a : Context) (d f : ℕ) (ts xs : Terms) → PassesAll a d f ts xs → TermsFit m class l ts → TermsFit m class l xs
  all_pass_fit m class l a d _ _ _ (delays.none f) h = h
  all_pass_fit m class l a d _ _ _ (delays.both f t x ts xs p q) h = (passes_fit m class l a d f t x p h.0, all_pass_fit m class l a d f ts xs q h.1)

pub passing_fits : (setting : Setting) (c next : Config) (d : ℕ) → IsWhole setting c → IsFit setting c → PassesTo setting c d next → IsFit setting next
passing_fits setting c next d all fit passes i place q at is =
    let p = there c.processes i (subst (λ (n : ℕ). i < n) passes.all (slice_get_within next.processes i q is)) in
    let a : Context = record { setting = setting; process = i; class = class_at setting.model place; clock = c.clock; state = p.0.state } in
    let one = passes.each i p.0 a (record { place = place; is_process = at; is_here = p.1; seen = refl }) in
    let same : (let r : Process = record { term = one.0; state = p.0.state } in r) ≡ q = some_is (sym one.2 ∙ is) in
    subst (λ (r : Process). TermFits setting.model (class_at setting.model place) 0 r.term) same
    (passes_fit setting.model (class_at setting.model place) 0 a d 0 p.0.term one.0 one.1 (fit i place p.0 at p.1))

-- The start

pub start_fits : (setting : Setting) (c : Config) → BodiesFit setting.model → IsStart setting c → IsFit setting c
start_fits setting c sound start i place p at is =
    let s = start.each i place p at is in
    subst (λ (r : Process). TermFits setting.model (class_at setting.model place) 0 r.term) (sym s.stands)
    (opened_fits setting.model (class_at setting.model place) setting.limits.edition sound 0 s.call (initial (values_at setting.model place)) (sound.starts_fit (class_at setting.model place) s.call s.is_call))
