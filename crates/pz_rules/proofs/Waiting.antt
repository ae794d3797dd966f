-- Where time passes there is a configuration afterwards, in which nothing is left of some delay.
use Rattle.std.proofs.Common.{◌≡◌, ◌<◌, ◌+◌, ◌-◌, ℕ, zero, suc, Bool, true, List, [], ◌∷◌, length, Some, Result, Ok, refl, sym, subst, ap, ◌∙◌, arith}
use Rattle.std.specs.Prelude.{slice_get}
use Rattle.pz_bind_rules.specs.pz_syntax.declared.tokens.Pos.{Pos}
use Rattle.pz_bind_levels.specs.Places.{Address as Standing}
use Rattle.pz_bind_rules.specs.Nest.{processes, class_at}
use Rattle.pz_offer.specs.declared.end.End.{End}
use Rattle.pz_offer.specs.PlaceOrder.{Place}
use Rattle.pz_offer.specs.declared.trouble.Trouble.{Trouble}
use Rattle.pz_rules.specs.Terms.{Term, done, leaf, wait, sequence, parallel, select, guarded, frame, abort, idle, handling, Terms, no_terms, and, term_at, child, count, frame_in}
use Rattle.pz_rules.specs.Settings.{Setting, Process, Context}
use Rattle.pz_rules.specs.Active as active
use Rattle.pz_rules.specs.Active.{Active, Reached}
use Rattle.pz_rules.specs.Delays as delays
use Rattle.pz_rules.specs.Delays.{Delays, Passes}
use Rattle.pz_rules.specs.Configurations.{Config, Stands}
use Rattle.pz_rules.specs.Steps.{PassesTo}
use Rattle.pz_rules.specs.Moments.{asked, part}
use Rattle.pz_rules.specs.Laws.{EveryPassing, PassingTakes, BringsToZero, HasLeft, part_of}
use Rattle.pz_rules.specs.devices.Passing.{begun, if_open, passed, passed_all}
use Rattle.pz_rules.proofs.Found.{tests_only, lasts_only}
use Rattle.pz_rules.proofs.Locals.{some_is, no_some}
use Rattle.pz_rules.proofs.Passings.{Untroubled, passes_only, passes_some}
use Rattle.pz_rules.proofs.Moments.{NoTrouble, no_trouble, least_passes}

module _ (setting : Setting) (c : Config) (d : ℕ) where
  -- The configuration afterwards

  abbrev at_place : ℕ → Standing → Process → Context
  at_place i place p = record { setting = setting; process = i; class = class_at setting.model place; clock = c.clock; state = p.state }

  abbrev later : ℕ → Standing → Process → Process
  later i place p = record { term = passed (at_place i place p) d 0 p.term; state = p.state }

  -- of processes that are numbered from i on
  abbrev all_later : ℕ → List Standing → List Process → List Process
  all_later i places [] = []
  all_later i [] (p ∷ ps) = p ∷ ps
  all_later i (place ∷ places) (p ∷ ps) = later i place p ∷ all_later (suc i) places ps

  as_many : (i : ℕ) (places : List Standing) (ps : List Process) → length (all_later i places ps) ≡ length ps
  as_many i places [] = refl
  as_many i [] (p ∷ ps) = refl
  as_many i (place ∷ places) (p ∷ ps) = ap suc (as_many (suc i) places ps)

  -- of number k among them
  later_at : (i k : ℕ) (places : List Standing) (ps : List Process) (place : Standing) (p : Process) → slice_get places k ≡ Some place → slice_get ps k ≡ Some p → slice_get (all_later i places ps) k ≡ Some (later (i + k) place p)
  later_at i k places [] place p at is = no_some is
  later_at i k [] (q ∷ ps) place p at is = no_some at
  later_at i zero (z ∷ places) (q ∷ ps) place p at is =
      let n : i ≡ i + 0 = omega arith in
      ap (λ (k : ℕ). Some (later k z q)) n ∙ ap (λ (x : Standing). Some (later (i + 0) x q)) (some_is at) ∙ ap (λ (x : Process). Some (later (i + 0) place x)) (some_is is)
  later_at i (suc k) (z ∷ places) (q ∷ ps) place p at is =
      let n : suc i + k ≡ i + suc k = omega arith in
      later_at (suc i) k places ps place p at is ∙ ap (λ (m : ℕ). Some (later m place p)) n

  abbrev pub next_config : Config
  next_config = record { clock = c.clock + d; processes = all_later 0 (processes setting.model) c.processes }

  module _ (none : NoTrouble setting c) where
    calm : (i : ℕ) (p : Process) (a : Context) → Stands setting c i p a → Untroubled a d 0 p.term
    calm i p a stands place g x trouble h asks =
        let e : End = record { process = i; place = place } in
        none (part e) trouble (asked e a g x trouble (record { process = p; stands = stands; active = h }) asks)

    each_passes : (i : ℕ) (p : Process) (a : Context) → Stands setting c i p a → (x : Term) × Passes a d 0 p.term x × (slice_get next_config.processes i ≡ Some (record { term = x; state = p.state }))
    each_passes i p a stands =
        let n : 0 + i ≡ i = omega arith in (
          passed a d 0 p.term,
          passes_some a d 0 p.term (calm i p a stands),
          later_at 0 i (processes setting.model) c.processes stands.place p stands.is_process stands.is_here
              ∙ ap (λ (k : ℕ). Some (later k stands.place p)) n
              ∙ ap (λ (b : Context). let q : Process = record { term = passed b d 0 p.term; state = p.state } in Some q) (sym stands.seen),
        )

    pub passing_there : PassesTo setting c d next_config
    passing_there = record { clock = refl; all = as_many 0 (processes setting.model) c.processes; each = each_passes }

pub passing_some : EveryPassing
passing_some setting c d wires is = (next_config setting c d, passing_there setting c d (no_trouble setting c wires d is))

-- What is left of a delay

module _ (a : Context) (d : ℕ) where
  all_passed_at : (f : ℕ) (ts : Terms) (i : ℕ) → i < count ts → term_at (passed_all a d f ts) i ≡ passed a d f (term_at ts i)
  all_passed_at f no_terms i within = absurd (omega (arith, within))
  all_passed_at f (and t ts) zero within = refl
  all_passed_at f (and t ts) (suc i) within = all_passed_at f ts i (omega (arith, within))

  -- time passes in an active child
  child_passed : (f : ℕ) (t : Term) (i : ℕ) → Reached a f t i → child (passed a d f t) i ≡ passed a d (frame_in t f) (child t i)
  child_passed f done i r = absurd r
  child_passed f (leaf s) i r = absurd r
  child_passed f (wait left at) i r = absurd r
  child_passed f (sequence t rest) zero r = refl
  child_passed f (sequence t rest) (suc i) r = absurd (omega (arith, r))
  child_passed f (parallel ts) i r = all_passed_at f ts i r
  child_passed f (select ts) i r = all_passed_at f ts i r
  child_passed f (guarded test at t) zero r = ap (λ (o : Result Bool Trouble). if_open o (passed a d f t) t) (sym (tests_only a f at test (Ok true) r.1))
  child_passed f (guarded test at t) (suc i) r = absurd (omega (arith, r.0))
  child_passed f (frame number inputs results t) zero r = refl
  child_passed f (frame number inputs results t) (suc i) r = absurd (omega (arith, r))
  child_passed f (abort t u) zero r = refl
  child_passed f (abort t u) (suc zero) r = refl
  child_passed f (abort t u) (suc (suc i)) r = absurd (omega (arith, r))
  child_passed f (idle t u again) zero r = refl
  child_passed f (idle t u again) (suc zero) r = refl
  child_passed f (idle t u again) (suc (suc i)) r = absurd (omega (arith, r))
  child_passed f (handling t u again) zero r = absurd (omega (arith, r))
  child_passed f (handling t u again) (suc zero) r = refl
  child_passed f (handling t u again) (suc (suc i)) r = absurd (omega (arith, r))

  delay_passed : (f : ℕ) (t : Term) (left : ℕ) → Delays a f t left → (pos : Pos) × (passed a d f t ≡ wait (left - d) pos)
  delay_passed f _ _ (delays.not_begun at e left lasts) = (at, ap (begun d at e) (sym (lasts_only a f at e (Ok left) lasts)))
  delay_passed f _ _ (delays.begun left at) = (at, refl)

  part_passed : (f : ℕ) (t : Term) (place : Place) (g : ℕ) (x : Term) (left : ℕ) → Active a f t place g x → Delays a g x left → (pos : Pos) × (part_of (passed a d f t) place ≡ wait (left - d) pos)
  part_passed _ _ _ _ _ left (active.here f t) h = delay_passed f t left h
  part_passed _ _ _ _ _ left (active.inside f t i place g x r k) h =
      let inner = part_passed (frame_in t f) (child t i) place g x left k h in
      (inner.0, ap (λ (y : Term). part_of y place) (child_passed f t i r) ∙ inner.1)

pub passing_takes : PassingTakes
passing_takes setting c next d at a f x left passes active h =
    let one = passes.each at.process active.process a active.stands in
    let inner = part_passed a d 0 active.process.term at.place f x left active.active h in
    record {
      process = record { term = one.0; state = active.process.state };
      stands = one.2;
      pos = inner.0;
      waits = ap (λ (t : Term). part_of t at.place) (passes_only a d 0 active.process.term one.0 one.1) ∙ inner.1;
    }

pub brings_to_zero : BringsToZero
brings_to_zero setting c next d is passes =
    let h = (least_passes setting c d is).is_left in
    let nothing : d - d ≡ 0 = omega arith in
    record {
      at = h.at;
      seen = h.seen;
      frame = h.frame;
      part = h.part;
      active = h.active;
      delays = h.delays;
      elapsed = subst (HasLeft next h.at) nothing (passing_takes setting c next d h.at h.seen h.frame h.part d passes h.active h.delays);
    }
