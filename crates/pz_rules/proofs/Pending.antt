-- Each passing of time brings a delay of which something is left to nothing, so that only so many
-- passings follow each other.
use Rattle.std.proofs.Common.{◌≡◌, ◌≤◌, ◌<◌, ◌-◌, ℕ, zero, suc, Bool, true, false, List, [], ◌∷◌, length, Some, Result, Ok, Err, refl, sym, ap, ◌∙◌, arith}
use Rattle.std.specs.Prelude.{slice_get}
use Rattle.std.proofs.lemmas.Option.{slice_get_within}
use Rattle.pz_bind_rules.specs.pz_syntax.declared.tokens.Pos.{Pos}
use Rattle.pz_bind_rules.specs.pz_syntax.Statements.{delay}
use Rattle.pz_offer.specs.PlaceOrder.{Place}
use Rattle.pz_offer.specs.declared.trouble.Trouble.{Trouble}
use Rattle.pz_rules.specs.declared.moment.Moment.TheVariants.{Time}
use Rattle.pz_rules.specs.Terms.{Code, Step, Term, done, leaf, wait, sequence, parallel, select, guarded, frame, abort, idle, handling, Terms, no_terms, and, term_at, child, count, frame_in}
use Rattle.pz_rules.specs.Settings.{Setting, Process, Context}
use Rattle.pz_rules.specs.Active as active
use Rattle.pz_rules.specs.Active.{Active, Reached}
use Rattle.pz_rules.specs.Delays as delays
use Rattle.pz_rules.specs.Delays.{Delays, Passes, PassesAll}
use Rattle.pz_rules.specs.Ports.{HasWires}
use Rattle.pz_rules.specs.Configurations.{Config, Stands, IsWhole}
use Rattle.pz_rules.specs.Steps.{PassesTo}
use Rattle.pz_rules.specs.Moments.{IsMoment}
use Rattle.pz_rules.specs.devices.Found.{tested, lasting}
use Rattle.pz_rules.specs.devices.Passing.{begun, statement_passed, if_open, passed, passed_all}
use Rattle.pz_rules.specs.devices.Pending.{waits_on, statement_pending, pending, all_pending, list_pending}
use Rattle.pz_rules.proofs.Found.{tests_only, lasts_only}
use Rattle.pz_rules.proofs.Locals.{some_is, no_some}
use Rattle.pz_rules.proofs.Passings.{passes_only}
use Rattle.pz_rules.proofs.Moments.{least_passes, time_positive}
use Rattle.pz_rules.proofs.Elapsed.{stands_there}

waits_few : (n : ℕ) → waits_on n ≤ 1
waits_few zero = omega arith
waits_few (suc n) = omega arith

waits_less : (n d : ℕ) → waits_on (n - d) ≤ waits_on n
waits_less zero d = let e : 0 - d ≡ 0 = omega arith in rw e (omega arith)
waits_less (suc n) d = omega (arith, waits_few (suc n - d))

module _ (a : Context) (d : ℕ) where
  -- none are added

  begun_few : (at : Pos) (e : Code) (r : Result ℕ Trouble) → pending (begun d at e r) ≤ 1
  begun_few at e (Ok left) = waits_few (left - d)
  begun_few at e (Err t) = omega arith

  statement_less : (f : ℕ) (s : Step) → pending (statement_passed a d f s) ≤ statement_pending s
  statement_less f (delay at e) = begun_few at e (lasting a f at e)
  statement_less f s = omega arith

  open_less : (r : Result Bool Trouble) (x t : Term) → pending x ≤ pending t → pending (if_open r x t) ≤ pending t
  open_less (Ok true) x t h = h
  open_less (Ok false) x t h = omega arith
  open_less (Err u) x t h = omega arith

  mutual
    less : (f : ℕ) (t : Term) → pending (passed a d f t) ≤ pending t
    less f done = omega arith
    less f (leaf s) = statement_less f s
    less f (wait left at) = waits_less left d
    less f (sequence t rest) = less f t
    less f (parallel ts) = all_less f ts
    less f (select ts) = all_less f ts
    less f (guarded test at t) = open_less (tested a f at test) (passed a d f t) t (less f t)
    less f (frame number inputs results t) = less number t
    less f (abort t u) = omega (arith, less f t, less f u)
    less f (idle t u again) = omega (arith, less f t, less f u)
    less f (handling t u again) = omega (arith, less f u)

    all_less : (f : ℕ) (ts : Terms) → all_pending (passed_all a d f ts) ≤ all_pending ts
    all_less f no_terms = omega arith
    all_less f (and t ts) = omega (arith, less f t, all_less f ts)

  -- fewer are left where a child has fewer

  one_fewer : (f : ℕ) (ts : Terms) (i : ℕ) → i < count ts → pending (passed a d f (term_at ts i)) < pending (term_at ts i) → all_pending (passed_all a d f ts) < all_pending ts
  one_fewer f no_terms i within h = absurd (omega (arith, within))
  one_fewer f (and t ts) zero within h = omega (arith, h, all_less f ts)
  one_fewer f (and t ts) (suc i) within h = omega (arith, less f t, one_fewer f ts i (omega (arith, within)) h)

  fewer_open : (r : Result Bool Trouble) (x t : Term) → r ≡ Ok true → pending x < pending t → pending (if_open r x t) < pending t
  fewer_open r x t is h = rw is h

  child_fewer : (f : ℕ) (t : Term) (i : ℕ) → Reached a f t i → pending (passed a d (frame_in t f) (child t i)) < pending (child t i) → pending (passed a d f t) < pending t
  child_fewer f done i r h = absurd r
  child_fewer f (leaf s) i r h = absurd r
  child_fewer f (wait left at) i r h = absurd r
  child_fewer f (sequence t rest) zero r h = h
  child_fewer f (sequence t rest) (suc i) r h = absurd (omega (arith, r))
  child_fewer f (parallel ts) i r h = one_fewer f ts i r h
  child_fewer f (select ts) i r h = one_fewer f ts i r h
  child_fewer f (guarded test at t) zero r h = fewer_open (tested a f at test) (passed a d f t) t (sym (tests_only a f at test (Ok true) r.1)) h
  child_fewer f (guarded test at t) (suc i) r h = absurd (omega (arith, r.0))
  child_fewer f (frame number inputs results t) zero r h = h
  child_fewer f (frame number inputs results t) (suc i) r h = absurd (omega (arith, r))
  child_fewer f (abort t u) zero r h = omega (arith, h, less f u)
  child_fewer f (abort t u) (suc zero) r h = omega (arith, h, less f t)
  child_fewer f (abort t u) (suc (suc i)) r h = absurd (omega (arith, r))
  child_fewer f (idle t u again) zero r h = omega (arith, h, less f u)
  child_fewer f (idle t u again) (suc zero) r h = omega (arith, h, less f t)
  child_fewer f (idle t u again) (suc (suc i)) r h = absurd (omega (arith, r))
  child_fewer f (handling t u again) zero r h = absurd (omega (arith, r))
  child_fewer f (handling t u again) (suc zero) r h = omega (arith, h)
  child_fewer f (handling t u again) (suc (suc i)) r h = absurd (omega (arith, r))

  waits_on_some : (n : ℕ) → 1 ≤ n → waits_on n ≡ 1
  waits_on_some zero h = absurd (omega (arith, h))
  waits_on_some (suc n) h = refl

  delay_fewer : (f : ℕ) (t : Term) (left : ℕ) → left ≡ d → 1 ≤ d → Delays a f t left → pending (passed a d f t) < pending t
  delay_fewer f _ left same positive (delays.not_begun at e _ lasts) =
      let nothing : left - d ≡ 0 = omega (arith, same) in
      let now : passed a d f (leaf (delay at e)) ≡ wait 0 at = ap (begun d at e) (sym (lasts_only a f at e (Ok left) lasts)) ∙ ap (λ (n : ℕ). wait n at) nothing in
      let few : pending (passed a d f (leaf (delay at e))) ≡ 0 = ap pending now in
      omega (arith, few)
  delay_fewer f _ left same positive (delays.begun _ at) =
      let nothing : left - d ≡ 0 = omega (arith, same) in
      let few : waits_on (left - d) ≡ 0 = ap waits_on nothing in
      let some : waits_on left ≡ 1 = waits_on_some left (omega (arith, same, positive)) in
      omega (arith, few, some)

  part_fewer : (f : ℕ) (t : Term) (place : Place) (g : ℕ) (x : Term) (left : ℕ) → Active a f t place g x → left ≡ d → 1 ≤ d → Delays a g x left → pending (passed a d f t) < pending t
  part_fewer _ _ _ _ _ left (active.here f t) same positive h = delay_fewer f t left same positive h
  part_fewer _ _ _ _ _ left (active.inside f t i place g x r k) same positive h = child_fewer f t i r (part_fewer (frame_in t f) (child t i) place g x left k same positive h)

-- a list in which no process has more, and one has fewer
list_less : (ps qs : List Process) → length ps ≡ length qs → ((i : ℕ) (p q : Process) → slice_get ps i ≡ Some p → slice_get qs i ≡ Some q → pending q.term ≤ pending p.term) → list_pending qs ≤ list_pending ps
list_less [] [] long each = omega arith
list_less [] (q ∷ qs) long each = absurd (omega (arith, long))
list_less (p ∷ ps) [] long each = absurd (omega (arith, long))
list_less (p ∷ ps) (q ∷ qs) long each = omega (arith, each 0 p q refl refl, list_less ps qs (omega (arith, long)) (λ i x y at is. each (suc i) x y at is))

list_fewer : (ps qs : List Process) → length ps ≡ length qs → ((i : ℕ) (p q : Process) → slice_get ps i ≡ Some p → slice_get qs i ≡ Some q → pending q.term ≤ pending p.term)
    → (k : ℕ) (p q : Process) → slice_get ps k ≡ Some p → slice_get qs k ≡ Some q → pending q.term < pending p.term → list_pending qs < list_pending ps
list_fewer [] qs long each k p q at is h = no_some at
list_fewer (x ∷ ps) [] long each k p q at is h = no_some is
list_fewer (x ∷ ps) (y ∷ qs) long each zero p q at is h =
    let here : pending x.term ≡ pending p.term = ap (λ (z : Process). pending z.term) (some_is at) in
    let now : pending y.term ≡ pending q.term = ap (λ (z : Process). pending z.term) (some_is is) in
    let rest = list_less ps qs (omega (arith, long)) (λ i u v at is. each (suc i) u v at is) in
    omega (arith, here, now, h, rest)
list_fewer (x ∷ ps) (y ∷ qs) long each (suc k) p q at is h =
    let first = each 0 x y refl refl in
    let rest = list_fewer ps qs (omega (arith, long)) (λ i u v at is. each (suc i) u v at is) k p q at is h in
    omega (arith, first, rest)

module _ (setting : Setting) (c next : Config) (d : ℕ) (wires : HasWires setting.model) (all : IsWhole setting c) (is : IsMoment setting c (Time d)) (passes : PassesTo setting c d next) where
  -- what a process becomes
  becomes : (i : ℕ) (p q : Process) → slice_get c.processes i ≡ Some p → slice_get next.processes i ≡ Some q → (a : Context) × Stands setting c i p a × (q.term ≡ passed a d 0 p.term)
  becomes i p q at now =
      let s = stands_there setting c i p all at (slice_get_within c.processes i p at) in
      let one = passes.each i p s.0 s.1 in
      (s.0, s.1, ap (λ (z : Process). z.term) (some_is (sym now ∙ one.2)) ∙ passes_only s.0 d 0 p.term one.0 one.1)

  none_more : (i : ℕ) (p q : Process) → slice_get c.processes i ≡ Some p → slice_get next.processes i ≡ Some q → pending q.term ≤ pending p.term
  none_more i p q at now =
      let b = becomes i p q at now in
      let e : pending q.term ≡ pending (passed b.0 d 0 p.term) = ap pending b.2 in
      omega (arith, e, less b.0 d 0 p.term)

  pub fewer_pending : list_pending next.processes < list_pending c.processes
  fewer_pending =
      let h = (least_passes setting c d is).is_left in
      let stands = h.active.stands in
      let p = h.active.process in
      let one = passes.each h.at.process p h.seen stands in
      let q : Process = record { term = one.0; state = p.state } in
      let e : pending one.0 ≡ pending (passed h.seen d 0 p.term) = ap pending (passes_only h.seen d 0 p.term one.0 one.1) in
      let fewer = part_fewer h.seen d 0 p.term h.at.place h.frame h.part d h.active.active refl (time_positive setting c wires d is) h.delays in
      list_fewer c.processes next.processes (sym passes.all) none_more h.at.process p q stands.is_here one.2 (omega (arith, e, fewer))
