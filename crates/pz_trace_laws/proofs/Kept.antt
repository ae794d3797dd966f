-- Configurations are unbroken from the start and stay so, and then what is offered is.
use Rattle.std.proofs.Common.{◌≡◌, ◌⊎◌, ◌<◌, inl, inr, ℕ, zero, suc, Bool, true, false, List, [], ◌∷◌, length, Some, Result, Ok, Err, refl, sym, subst, ap, ◌∙◌}
use Rattle.std.proofs.lemmas.Option.{slice_get_within}
use Rattle.std.specs.Prelude.{slice_get, slice_set, if◌then◌else◌, nat_le}
use Rattle.pz_trace.specs.pz_syntax.declared.tokens.Pos.{Pos}
use Rattle.pz_trace.specs.pz_syntax.Statements.{repeated, StatementPart}
use Rattle.pz_trace.specs.pz_syntax.Classes.{ModelTree}
use Rattle.pz_trace.specs.pz_value.declared.value.ClassId.{ClassId}
use Rattle.pz_trace.specs.pz_value.declared.value.Value.{Value}
use Rattle.pz_trace.specs.pz_classes_code.declared.slot.Slot.{Slot}
use Rattle.pz_trace.specs.pz_state.States.{StateView, initial}
use Rattle.pz_trace.specs.pz_classes_rules.declared.method_id.Counts.TheVariants.{Process as process_counts}
use Rattle.pz_trace.specs.pz_classes_rules.Bodies.{process_body}
use Rattle.pz_trace.specs.pz_classes_rules.FitBodies.{how_many}
use Rattle.pz_trace.specs.pz_bind_rules.Nest.{processes, class_at}
use Rattle.pz_trace.specs.pz_bind_rules.Values.{values_at}
use Rattle.pz_trace.specs.pz_copy.Parcels.{ParcelView}
use Rattle.pz_trace.specs.pz_offer.declared.end.End.{End}
use Rattle.pz_trace.specs.pz_offer.PlaceOrder.{Place}
use Rattle.pz_trace.specs.pz_offer.declared.trouble.Trouble.{Trouble}
use Rattle.pz_trace.specs.pz_offer.declared.trouble.Trouble.TheVariants.{High}
use Rattle.pz_trace.specs.pz_rules.declared.action.Action.{Action}
use Rattle.pz_trace.specs.pz_rules.Terms.{Step, Steps, Term, Terms, height}
use Rattle.pz_trace.specs.pz_rules.Settings.{Setting, Process, Context, Home, home_of}
use Rattle.pz_trace.specs.pz_rules.FrameNumbers.{least_free}
use Rattle.pz_trace.specs.pz_rules.Meanings.{and_then, truth}
use Rattle.pz_trace.specs.pz_rules.InternalActions as actions
use Rattle.pz_trace.specs.pz_rules.InternalActions.{Performs, done_in, chosen, turned, with_inputs, entered}
use Rattle.pz_trace.specs.pz_rules.Messages as messages
use Rattle.pz_trace.specs.pz_rules.Messages.{Sends, Hands, Takes}
use Rattle.pz_trace.specs.pz_rules.declared.limits.Edition.TheVariants.{Two}
use Rattle.pz_trace.specs.pz_rules.Opening.{opened_all}
use Rattle.pz_trace.specs.pz_rules.Leaving.{residual, swept, not_too_high, settled}
use Rattle.pz_trace.specs.pz_rules.Delays as delays
use Rattle.pz_trace.specs.pz_rules.Delays.{Passes, PassesAll}
use Rattle.pz_trace.specs.pz_rules.Configurations.{Config, IsWhole}
use Rattle.pz_trace.specs.pz_rules.Steps.{Deed, Acts, with_process, with_both, Next, internal, communication, PassesTo}
use Rattle.pz_trace.specs.pz_rules.Offers as offers
use Rattle.pz_trace.specs.pz_rules.Offers.{Offers}
use Rattle.pz_trace.specs.pz_rules.Starting.{home_at, IsStart}
use Rattle.pz_trace.specs.Laws.{Unbroken, HasUnbrokenMessage}
use Rattle.pz_trace_laws.specs.Messages.{StatementUnbroken, StatementsUnbroken, OtherwiseUnbroken, HasUnbrokenMessages}
use Rattle.pz_trace_laws.specs.Standing.{TermUnbroken, TermsUnbroken, AllUnbroken}
use Rattle.pz_trace_laws.proofs.Lists.{there}
use Rattle.pz_trace_laws.proofs.Bodies.{body_unbroken, start_unbroken}
use Rattle.pz_trace_laws.proofs.Terms.{Whole, framed_whole, opened_one, opened_rest, opened_other, part_of}

some_is : {X : Type 0} {x y : X} → Some x ≡ Some y → x ≡ y
some_is e = cc

-- what a part becomes

abbrev LeftUnbroken : Result Process Trouble → Type 0
LeftUnbroken (Ok p) = TermUnbroken p.term
LeftUnbroken (Err t) = Unit {0}

done_whole : {A : Type 0} (r : Result A Trouble) (s : StateView) → LeftUnbroken (and_then r (λ _. Ok (done_in s)))
done_whole (Ok x) s = tt
done_whole (Err t) s = tt

-- a test that is true or false, or a trouble
tested_whole : (process : ℕ) (at : Pos) (r : Result Value Trouble) (h : Bool → Process) → ((b : Bool) → TermUnbroken (h b).term) → LeftUnbroken (and_then r (λ v. and_then (truth process at v) (λ b. Ok (h b))))
tested_whole process at (Err t) h each = tt
tested_whole process at (Ok v) h each = by (truth process at v)
  where
    by : (r : Result Bool Trouble) → LeftUnbroken (and_then r (λ b. Ok (h b)))
    by (Ok b) = each b
    by (Err t) = tt

module _ (home : Home) (messages : HasUnbrokenMessages home.model) where
  abbrev unbroken : Whole home
  unbroken = λ two. messages

  entered_whole : (s : StateView) (locals : ℕ) (results : List Slot) (body : Steps) (r : Result (List Value) Trouble) → StatementsUnbroken body → LeftUnbroken (and_then r (λ vs. Ok (entered home s locals results body vs)))
  entered_whole s locals results body (Ok vs) h =
      let number = least_free s.frames in
      let inner = with_inputs s number locals vs in
      framed_whole number (length vs) results (opened_all home body inner).term (opened_rest home unbroken body inner h)
  entered_whole s locals results body (Err t) h = tt

  chosen_whole : (s : StateView) (ts : Steps) (other : StatementPart Slot ClassId ℕ) (b : Bool) → StatementsUnbroken ts → OtherwiseUnbroken other → TermUnbroken (chosen home s ts other b).term
  chosen_whole s ts other true h k = opened_rest home unbroken ts s h
  chosen_whole s ts other false h k = opened_other home unbroken other s k

  turned_whole : (s : StateView) (loop : Step) (ts : Steps) (b : Bool) → StatementsUnbroken ts → StatementUnbroken loop → TermUnbroken (turned home s loop ts b).term
  turned_whole s loop ts true h k = (opened_rest home unbroken ts s h, (k, tt))
  turned_whole s loop ts false h k = tt

abbrev KeepsUnbroken : ModelTree → Deed → Type 0
KeepsUnbroken m does = (a : Context) (f : ℕ) (t : Term) (pos : Pos) (q : Result Process Trouble) → a.setting.model ≡ m → does a f t pos q → TermUnbroken t → LeftUnbroken q

performs_whole : (m : ModelTree) → HasUnbrokenMessages m → KeepsUnbroken m Performs
performs_whole m whole a f _ _ _ same (actions.skips at) h = tt
performs_whole m whole a f _ _ _ same (actions.evaluates at e r s gives) h = done_whole r s
performs_whole m whole a f _ _ _ same (actions.evaluates_block at es r s gives) h = done_whole r s
performs_whole m whole a f _ _ _ same (actions.tests at e ts other r s gives) h = tested_whole a.process at r (chosen (home_of a) s ts other) (λ b. chosen_whole (home_of a) (subst HasUnbrokenMessages (sym same) whole) s ts other b h.0 h.1)
performs_whole m whole a f _ _ _ same (actions.repeats at e ts r s gives) h = tested_whole a.process at r (turned (home_of a) s (repeated at e ts) ts) (λ b. turned_whole (home_of a) (subst HasUnbrokenMessages (sym same) whole) s (repeated at e ts) ts b h h)
performs_whole m whole a f _ _ _ same (actions.elapses at e) h = tt
performs_whole m whole a f _ _ _ same (actions.expires n at) h = tt
performs_whole m whole a f _ _ _ same (actions.calls at method args results r s locals body gives is_method) h =
    entered_whole (home_of a) (subst HasUnbrokenMessages (sym same) whole) s locals results body r
    (body_unbroken a.setting.model (record { name = method.name; counts = process_counts (how_many args) (length results) }) (subst HasUnbrokenMessages (sym same) whole) a.class (process_body locals body) is_method.is_body)

hands_whole : (m : ModelTree) (parcel : ParcelView) → KeepsUnbroken m (λ a f. Hands a f parcel)
hands_whole m parcel a f _ _ _ same (messages.hands at port name args after values s r end gives packed gives_block) h = done_whole r end

takes_whole : (m : ModelTree) (parcel : ParcelView) → KeepsUnbroken m (λ a f. Takes a f parcel)
takes_whole m parcel a f _ _ _ same (messages.takes at port name into condition after r end fits gives) h = done_whole r end
takes_whole m parcel a f _ _ _ same (messages.full at port name into condition after unfit) h = tt

-- what an action leaves

-- what stands in a list after one was set
set_get : {X : Type 0} (xs : List X) (i k : ℕ) (x y : X) → slice_get (slice_set xs i x) k ≡ Some y → (y ≡ x) ⊎ (slice_get xs k ≡ Some y)
set_get [] i k x y e = inr e
set_get (z ∷ xs) zero zero x y e = inl (sym (some_is e))
set_get (z ∷ xs) zero (suc k) x y e = inr e
set_get (z ∷ xs) (suc i) zero x y e = inr e
set_get (z ∷ xs) (suc i) (suc k) x y e = set_get xs i k x y e

put_whole : (c : Config) (i : ℕ) (p : Process) → AllUnbroken c → TermUnbroken p.term → AllUnbroken (with_process c i p)
put_whole c i p all new k q is = by (set_get c.processes i k p q is)
  where
    by : (q ≡ p) ⊎ (slice_get c.processes k ≡ Some q) → TermUnbroken q.term
    by (inl same) = subst (λ (r : Process). TermUnbroken r.term) (sym same) new
    by (inr other) = all k q other

abbrev OutcomeUnbroken : Result Config Trouble → Type 0
OutcomeUnbroken (Ok next) = AllUnbroken next
OutcomeUnbroken (Err t) = Unit {0}

high_whole : (a : Context) (pos : Pos) (p : Process) → TermUnbroken p.term → LeftUnbroken (not_too_high a pos (swept p))
high_whole a pos p h = by (nat_le (height p.term) a.setting.limits.height)
  where
    by : (b : Bool) → LeftUnbroken (if b then Ok (swept p) else Err (High a.process pos))
    by true = h
    by false = tt

settled_whole : (a : Context) (pos : Pos) (t : Term) (place : Place) (left : Result Process Trouble) → LeftUnbroken left → ((y : Process) → TermUnbroken y.term → TermUnbroken (residual (home_of a) 0 t place y).term) → LeftUnbroken (and_then left (settled a pos t place))
settled_whole a pos t place (Ok y) h leaves = high_whole a pos (residual (home_of a) 0 t place y) (leaves y h)
settled_whole a pos t place (Err e) h leaves = tt

module _ (setting : Setting) (c : Config) (all : AllUnbroken c) where
  acts_whole : HasUnbrokenMessages setting.model → (does : Deed) → KeepsUnbroken setting.model does → (end : End) (q : Result Process Trouble) → Acts setting c does end q → LeftUnbroken q
  acts_whole whole does keeps end q x =
      let same : x.seen.setting.model ≡ setting.model = ap (λ (b : Context). b.setting.model) x.stands.seen in
      let part = part_of (home_of x.seen) x.active (all end.process x.process x.stands.is_here) in
      let left = keeps x.seen x.frame x.part x.pos x.left same x.acts part.whole in
      subst LeftUnbroken (sym x.leaves) (settled_whole x.seen x.pos x.process.term end.place x.left left (λ y h. part.leaves (λ two. subst HasUnbrokenMessages (sym same) whole) 0 y h))

  internal_whole : (i : ℕ) (q : Result Process Trouble) → LeftUnbroken q → OutcomeUnbroken (and_then q (λ p. Ok (with_process c i p)))
  internal_whole i (Ok p) h = put_whole c i p all h
  internal_whole i (Err t) h = tt

  both_whole : (sender receiver : End) (q r : Result Process Trouble) → LeftUnbroken q → LeftUnbroken r → OutcomeUnbroken (and_then q (λ p. and_then r (λ u. Ok (with_both c sender receiver p u))))
  both_whole sender receiver (Ok p) (Ok u) h k = put_whole (with_process c sender.process p) receiver.process u (put_whole c sender.process p all h) k
  both_whole sender receiver (Ok p) (Err t) h k = tt
  both_whole sender receiver (Err t) r h k = tt

  outcome_whole : HasUnbrokenMessages setting.model → (action : Action) (q : Result Config Trouble) → Next setting c action q → OutcomeUnbroken q
  outcome_whole whole _ _ (internal end kind pos result x) = internal_whole end.process result (acts_whole whole Performs (performs_whole setting.model whole) end result x)
  outcome_whole whole _ _ (communication number sender receiver message parcel sent taken x y) =
      both_whole sender receiver sent taken
      (acts_whole whole (λ a f. Hands a f parcel) (hands_whole setting.model parcel) sender sent x)
      (acts_whole whole (λ a f. Takes a f parcel) (takes_whole setting.model parcel) receiver taken y)

  pub next_whole : HasUnbrokenMessages setting.model → (action : Action) (next : Config) → Next setting c action (Ok next) → AllUnbroken next
  next_whole whole action next h = outcome_whole whole action (Ok next) h

  -- what is offered

  sent_whole : (a : Context) (f : ℕ) (t : Term) (pos : Pos) (port : ℕ) (message : List ℕ) (parcel : ParcelView) → Sends a f t pos port message parcel → TermUnbroken t → Unbroken message
  sent_whole a f _ _ _ _ _ (messages.sends at port name args after values s parcel gives packed) h = h

  pub offer_whole : (action : Action) → Offers setting c action → HasUnbrokenMessage action
  offer_whole _ (offers.internal end a f t kind pos at can) = tt
  offer_whole _ (offers.communication number sender receiver message parcel p judged) =
      let at = p.sender_active in
      sent_whole p.sends_at p.sends_frame p.sends_part p.sends_pos p.sends_port message parcel p.sends (part_of (home_of p.sends_at) at.active (all sender.process at.process at.stands.is_here)).whole

-- the passing of time

mutual
  passes_whole : (a : Context) (d f : ℕ) (t x : Term) → Passes a d f t x → TermUnbroken t → TermUnbroken x
  passes_whole a d _ _ _ (delays.is_done f) h = h
  passes_whole a d _ _ _ (delays.stays f s is) h = h
  passes_whole a d _ _ _ (delays.begins f at e left lasts) h = tt
  passes_whole a d _ _ _ (delays.goes_on f left at) h = tt
  passes_whole a d _ _ _ (delays.in_sequence f t x rest p) h = (passes_whole a d f t x p h.0, h.1)
  passes_whole a d _ _ _ (delays.in_parallel f ts xs p) h = all_pass_whole a d f ts xs p h
  passes_whole a d _ _ _ (delays.in_select f ts xs p) h = all_pass_whole a d f ts xs p h
  passes_whole a d _ _ _ (delays.behind_true f test at t x is p) h = passes_whole a d f t x p h
  passes_whole a d _ _ _ (delays.behind_false f test at t is) h = h
  passes_whole a d _ _ _ (delays.in_frame f number inputs results t x p) h = passes_whole a d number t x p h
  passes_whole a d _ _ _ (delays.in_abort f t x u y p q) h = (passes_whole a d f t x p h.0, passes_whole a d f u y q h.1)
  passes_whole a d _ _ _ (delays.in_idle f t x u y again p q) h = (passes_whole a d f t x p h.0, passes_whole a d f u y q h.1, h.2)
  passes_whole a d _ _ _ (delays.in_handling f t u y again p) h = (h.0, passes_whole a d f u y p h.1, h.2)

  all_pass_whole : (a : Context) (d f : ℕ) (ts xs : Terms) → PassesAll a d f ts xs → TermsUnbroken ts → TermsUnbroken xs
  all_pass_whole a d _ _ _ (delays.none f) h = h
  all_pass_whole a d _ _ _ (delays.both f t x ts xs p q) h = (passes_whole a d f t x p h.0, all_pass_whole a d f ts xs q h.1)

pub passing_whole : (setting : Setting) (c next : Config) (d : ℕ) → IsWhole setting c → AllUnbroken c → PassesTo setting c d next → AllUnbroken next
passing_whole setting c next d counted all passes i q is =
    let below : i < length c.processes = subst (λ (n : ℕ). i < n) passes.all (slice_get_within next.processes i q is) in
    let p = there c.processes i below in
    let place = there (processes setting.model) i (subst (λ (n : ℕ). i < n) counted below) in
    let a : Context = record { setting = setting; process = i; class = class_at setting.model place.0; clock = c.clock; state = p.0.state } in
    let one = passes.each i p.0 a (record { place = place.0; is_process = place.1; is_here = p.1; seen = refl }) in
    let same : (let r : Process = record { term = one.0; state = p.0.state } in r) ≡ q = some_is (sym one.2 ∙ is) in
    subst (λ (r : Process). TermUnbroken r.term) same (passes_whole a d 0 p.0.term one.0 one.1 (all i p.0 p.1))

-- the start

pub start_whole : (setting : Setting) (c : Config) → (setting.limits.edition ≡ Two → HasUnbrokenMessages setting.model) → IsStart setting c → AllUnbroken c
start_whole setting c whole start i p is =
    let place = there (processes setting.model) i (subst (λ (n : ℕ). i < n) start.all (slice_get_within c.processes i p is)) in
    let s = start.each i place.0 p place.1 is in
    subst (λ (r : Process). TermUnbroken r.term) (sym s.stands)
    (opened_one (home_at setting place.0) whole s.call (initial (values_at setting.model place.0)) (start_unbroken setting.model (class_at setting.model place.0) s.call s.is_call))
