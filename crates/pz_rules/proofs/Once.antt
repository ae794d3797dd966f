-- Each relation on one part has one outcome.
use Rattle.std.proofs.Common.{◌≡◌, ◌⊎◌, inl, inr, ℕ, Bool, true, List, length, Option, Some, None, Result, Ok, refl, sym, ap, ◌∙◌}
use Rattle.pz_bind_rules.specs.pz_syntax.declared.tokens.Pos.{Pos}
use Rattle.pz_bind_rules.specs.pz_syntax.declared.names.Id.{Id}
use Rattle.pz_bind_rules.specs.pz_syntax.Statements.{skip, delay, block, conditional, repeated, call, value, send, receive}
use Rattle.pz_bind_rules.specs.pz_syntax.Classes.{ModelTree}
use Rattle.pz_bind_rules.specs.pz_value.declared.value.Value.{Value}
use Rattle.pz_bind_rules.specs.pz_classes_code.declared.slot.Slot.{Slot}
use Rattle.pz_offer.specs.pz_state.States.{StateView}
use Rattle.pz_offer.specs.pz_state.declared.fault.FaultKind.TheVariants.{StoreFull}
use Rattle.pz_bind_rules.specs.pz_classes_rules.Bodies.{process_body}
use Rattle.pz_bind_rules.specs.pz_classes_rules.FitBodies.{how_many}
use Rattle.pz_offer.specs.pz_copy.Parcels.{ParcelView}
use Rattle.pz_offer.specs.PlaceOrder.{Place}
use Rattle.pz_offer.specs.declared.trouble.Trouble.{Trouble}
use Rattle.pz_rules.specs.Terms.{Code, Step, Steps, Term, leaf, wait}
use Rattle.pz_rules.specs.Settings.{Context, Process, in_state, home_of}
use Rattle.pz_rules.specs.Meanings.{and_then, truth, fault}
use Rattle.pz_rules.specs.Active as active
use Rattle.pz_rules.specs.Active.{Active}
use Rattle.pz_rules.specs.Methods.{IsMethod}
use Rattle.pz_rules.specs.InternalActions as actions
use Rattle.pz_rules.specs.InternalActions.{done_in, chosen, turned, entered, Performs}
use Rattle.pz_rules.specs.Messages as messages
use Rattle.pz_rules.specs.Messages.{Fits, bound, Judges, Hands, Takes}
use Rattle.pz_rules.specs.devices.Found.{found, left, found_all, left_all, found_part, left_part, tested}
use Rattle.pz_rules.proofs.Found.{gives_only, gives_all_only, gives_part_only, tests_only}
use Rattle.pz_rules.proofs.Locals.{some_is}

-- One part stands at a place.

pub record SamePart (g h : ℕ) (x y : Term) : Type 0 where
  pub frame : g ≡ h
  pub part : x ≡ y

pub active_once : {a : Context} {f : ℕ} {t : Term} {place : Place} {g h : ℕ} {x y : Term} → Active a f t place g x → Active a f t place h y → SamePart g h x y
active_once (active.here f t) (active.here _ _) = record { frame = refl; part = refl }
active_once (active.inside f t i place g x r k) (active.inside _ _ _ _ h y r' l) = active_once k l

-- One body is that of a method.

body_is : {l k : ℕ} {b c : Steps} → process_body l b ≡ process_body k c → (l ≡ k) × (b ≡ c)
body_is e = (cc, cc)

pub record SameMethod (l k : ℕ) (b c : Steps) : Type 0 where
  pub locals : l ≡ k
  pub body : b ≡ c

pub method_once : {m : ModelTree} {class : ℕ} {name : List ℕ} {inputs outputs l k : ℕ} {b c : Steps} → IsMethod m class name inputs outputs l b → IsMethod m class name inputs outputs k c → SameMethod l k b c
method_once {m} {class} {name} {inputs} {outputs} {l} {k} {b} {c} x y =
    let same : process_body l b ≡ process_body k c = some_is (sym x.is_body ∙ y.is_body) in
    record { locals = (body_is same).0; body = (body_is same).1 }

-- What a part does by itself

-- the call of a method in a state whose arguments came to this
pub record Called (a : Context) (method : Id) (inputs : ℕ) (results : List Slot) (r : Result (List Value) Trouble) (s : StateView) (q : Result Process Trouble) : Type 0 where
  pub locals : ℕ
  pub body : Steps
  pub is_method : IsMethod a.setting.model a.class method.name inputs (length results) locals body
  pub is : q ≡ and_then r (λ vs. Ok (entered (home_of a) s locals results body vs))

pub called_once : {a : Context} {method : Id} {inputs : ℕ} {results : List Slot} {r : Result (List Value) Trouble} {s : StateView} {q p : Result Process Trouble} → Called a method inputs results r s q → Called a method inputs results r s p → q ≡ p
called_once {a} {method} {inputs} {results} {r} {s} {q} {p} x y =
    let same = method_once x.is_method y.is_method in
    x.is
    ∙ ap (λ (l : ℕ). and_then r (λ vs. Ok (entered (home_of a) s l results x.body vs))) same.locals
    ∙ ap (λ (b : Steps). and_then r (λ vs. Ok (entered (home_of a) s y.locals results b vs))) same.body
    ∙ sym y.is

module _ (a : Context) (f : ℕ) where
  -- the place and what comes of it, by cases on the part
  abbrev pub StepPerformed : Step → Pos → Result Process Trouble → Type 0
  StepPerformed (skip at) pos q = (pos ≡ at) × (q ≡ Ok (done_in a.state))
  StepPerformed (value at e) pos q = (pos ≡ at) × (q ≡ and_then (found a f at e) (λ _. Ok (done_in (left a f e))))
  StepPerformed (block at es) pos q = (pos ≡ at) × (q ≡ and_then (found_all a f at es) (λ _. Ok (done_in (left_all a f es))))
  StepPerformed (conditional at e ts other) pos q = (pos ≡ at) × (q ≡ and_then (found a f at e) (λ v. and_then (truth a.process at v) (λ b. Ok (chosen (home_of a) (left a f e) ts other b))))
  StepPerformed (repeated at e ts) pos q = (pos ≡ at) × (q ≡ and_then (found a f at e) (λ v. and_then (truth a.process at v) (λ b. Ok (turned (home_of a) (left a f e) (repeated at e ts) ts b))))
  StepPerformed (delay at e) pos q = (pos ≡ at) × (q ≡ Ok (done_in a.state))
  StepPerformed (call at method args results) pos q = (pos ≡ at) × Called a method (how_many args) results (found_all a f at args) (left_all a f args) q
  StepPerformed s pos q = ⊥

  abbrev pub Performed : Term → Pos → Result Process Trouble → Type 0
  Performed (leaf s) pos q = StepPerformed s pos q
  Performed (wait n at) pos q = (pos ≡ at) × (q ≡ Ok (done_in a.state))
  Performed t pos q = ⊥

  pub performed : (t : Term) (pos : Pos) (q : Result Process Trouble) → Performs a f t pos q → Performed t pos q
  performed _ _ _ (actions.skips at) = (refl, refl)
  performed _ _ _ (actions.evaluates at e r s gives) =
      let only = gives_only a f at e r s gives in
      (refl, ap (λ (x : Result Value Trouble). and_then x (λ _. Ok (done_in s))) only.0 ∙ ap (λ (x : StateView). and_then (found a f at e) (λ _. Ok (done_in x))) only.1)
  performed _ _ _ (actions.evaluates_block at es r s gives) =
      let only = gives_all_only a f at es r s gives in
      (refl, ap (λ (x : Result (List Value) Trouble). and_then x (λ _. Ok (done_in s))) only.0 ∙ ap (λ (x : StateView). and_then (found_all a f at es) (λ _. Ok (done_in x))) only.1)
  performed _ _ _ (actions.tests at e ts other r s gives) =
      let only = gives_only a f at e r s gives in (
        refl,
        ap (λ (x : Result Value Trouble). and_then x (λ v. and_then (truth a.process at v) (λ b. Ok (chosen (home_of a) s ts other b)))) only.0
            ∙ ap (λ (x : StateView). and_then (found a f at e) (λ v. and_then (truth a.process at v) (λ b. Ok (chosen (home_of a) x ts other b)))) only.1,
      )
  performed _ _ _ (actions.repeats at e ts r s gives) =
      let only = gives_only a f at e r s gives in (
        refl,
        ap (λ (x : Result Value Trouble). and_then x (λ v. and_then (truth a.process at v) (λ b. Ok (turned (home_of a) s (repeated at e ts) ts b)))) only.0
            ∙ ap (λ (x : StateView). and_then (found a f at e) (λ v. and_then (truth a.process at v) (λ b. Ok (turned (home_of a) x (repeated at e ts) ts b)))) only.1,
      )
  performed _ _ _ (actions.elapses at e) = (refl, refl)
  performed _ _ _ (actions.expires n at) = (refl, refl)
  performed _ _ _ (actions.calls at method args results r s locals body gives is_method) =
      let only = gives_all_only a f at args r s gives in (
        refl,
        record {
          locals = locals;
          body = body;
          is_method = is_method;
          is = ap (λ (x : Result (List Value) Trouble). and_then x (λ vs. Ok (entered (home_of a) s locals results body vs))) only.0
              ∙ ap (λ (x : StateView). and_then (found_all a f at args) (λ vs. Ok (entered (home_of a) x locals results body vs))) only.1;
        },
      )

  step_once : (s : Step) (pos pos' : Pos) (q p : Result Process Trouble) → StepPerformed s pos q → StepPerformed s pos' p → (pos ≡ pos') × (q ≡ p)
  step_once (skip at) pos pos' q p x y = (x.0 ∙ sym y.0, x.1 ∙ sym y.1)
  step_once (value at e) pos pos' q p x y = (x.0 ∙ sym y.0, x.1 ∙ sym y.1)
  step_once (block at es) pos pos' q p x y = (x.0 ∙ sym y.0, x.1 ∙ sym y.1)
  step_once (conditional at e ts other) pos pos' q p x y = (x.0 ∙ sym y.0, x.1 ∙ sym y.1)
  step_once (repeated at e ts) pos pos' q p x y = (x.0 ∙ sym y.0, x.1 ∙ sym y.1)
  step_once (delay at e) pos pos' q p x y = (x.0 ∙ sym y.0, x.1 ∙ sym y.1)
  step_once (call at method args results) pos pos' q p x y = (x.0 ∙ sym y.0, called_once x.1 y.1)
  step_once s pos pos' q p x y = absurd x

  part_once : (t : Term) (pos pos' : Pos) (q p : Result Process Trouble) → Performed t pos q → Performed t pos' p → (pos ≡ pos') × (q ≡ p)
  part_once (leaf s) pos pos' q p x y = step_once s pos pos' q p x y
  part_once (wait n at) pos pos' q p x y = (x.0 ∙ sym y.0, x.1 ∙ sym y.1)
  part_once t pos pos' q p x y = absurd x

  pub performs_once : (t : Term) (pos pos' : Pos) (q p : Result Process Trouble) → Performs a f t pos q → Performs a f t pos' p → (pos ≡ pos') × (q ≡ p)
  performs_once t pos pos' q p x y = part_once t pos pos' q p (performed t pos q x) (performed t pos' p y)

  -- What a send leaves

  abbrev StepHanded : Step → Pos → Result Process Trouble → Type 0
  StepHanded (send at port name args after) pos q =
      (pos ≡ at) × (q ≡ and_then (found_part (in_state a (left_part a f args)) f at after) (λ _. Ok (done_in (left_part (in_state a (left_part a f args)) f after))))
  StepHanded s pos q = ⊥

  abbrev Handed : Term → Pos → Result Process Trouble → Type 0
  Handed (leaf s) pos q = StepHanded s pos q
  Handed t pos q = ⊥

  handed : (parcel : ParcelView) (t : Term) (pos : Pos) (q : Result Process Trouble) → Hands a f parcel t pos q → Handed t pos q
  handed parcel _ _ _ (messages.hands at port name args after values s r end gives packed gives_block) =
      let state : s ≡ left_part a f args = (gives_part_only a f at args (Ok values) s gives).1 in
      let only = gives_part_only (in_state a s) f at after r end gives_block in (
        refl,
        ap (λ (x : Result (List Value) Trouble). and_then x (λ _. Ok (done_in end))) only.0
            ∙ ap (λ (x : StateView). and_then (found_part (in_state a s) f at after) (λ _. Ok (done_in x))) only.1
            ∙ ap (λ (x : StateView). and_then (found_part (in_state a x) f at after) (λ _. Ok (done_in (left_part (in_state a x) f after)))) state,
      )

  step_handed_once : (s : Step) (pos pos' : Pos) (q p : Result Process Trouble) → StepHanded s pos q → StepHanded s pos' p → (pos ≡ pos') × (q ≡ p)
  step_handed_once (send at port name args after) pos pos' q p x y = (x.0 ∙ sym y.0, x.1 ∙ sym y.1)
  step_handed_once s pos pos' q p x y = absurd x

  handed_once : (t : Term) (pos pos' : Pos) (q p : Result Process Trouble) → Handed t pos q → Handed t pos' p → (pos ≡ pos') × (q ≡ p)
  handed_once (leaf s) pos pos' q p x y = step_handed_once s pos pos' q p x y
  handed_once t pos pos' q p x y = absurd x

  pub hands_once : (parcel : ParcelView) (t : Term) (pos pos' : Pos) (q p : Result Process Trouble) → Hands a f parcel t pos q → Hands a f parcel t pos' p → (pos ≡ pos') × (q ≡ p)
  hands_once parcel t pos pos' q p x y = handed_once t pos pos' q p (handed parcel t pos q x) (handed parcel t pos' p y)

  -- What a receive leaves

  abbrev StepTaken : ParcelView → Step → Pos → Result Process Trouble → Type 0
  StepTaken parcel (receive at port name into condition after) pos q =
      (pos ≡ at) × ((Fits a parcel × (q ≡ and_then (found_part (in_state a (bound a f into parcel)) f at after) (λ _. Ok (done_in (left_part (in_state a (bound a f into parcel)) f after))))) ⊎ ((¬ Fits a parcel) × (q ≡ fault StoreFull a.process at)))
  StepTaken parcel s pos q = ⊥

  abbrev Taken : ParcelView → Term → Pos → Result Process Trouble → Type 0
  Taken parcel (leaf s) pos q = StepTaken parcel s pos q
  Taken parcel t pos q = ⊥

  taken : (parcel : ParcelView) (t : Term) (pos : Pos) (q : Result Process Trouble) → Takes a f parcel t pos q → Taken parcel t pos q
  taken parcel _ _ _ (messages.takes at port name into condition after r end fits gives) =
      let only = gives_part_only (in_state a (bound a f into parcel)) f at after r end gives in (
        refl,
        inl (
          fits,
          ap (λ (x : Result (List Value) Trouble). and_then x (λ _. Ok (done_in end))) only.0
              ∙ ap (λ (x : StateView). and_then (found_part (in_state a (bound a f into parcel)) f at after) (λ _. Ok (done_in x))) only.1,
        ),
      )
  taken parcel _ _ _ (messages.full at port name into condition after not_fits) = (refl, inr (not_fits, refl))

  pub either_once : {F R : Type 0} {x y q p : R} → (F × (q ≡ x)) ⊎ ((¬ F) × (q ≡ y)) → (F × (p ≡ x)) ⊎ ((¬ F) × (p ≡ y)) → q ≡ p
  either_once (inl one) (inl other) = one.1 ∙ sym other.1
  either_once (inl one) (inr other) = absurd (other.0 one.0)
  either_once (inr one) (inl other) = absurd (one.0 other.0)
  either_once (inr one) (inr other) = one.1 ∙ sym other.1

  step_taken_once : (parcel : ParcelView) (s : Step) (pos pos' : Pos) (q p : Result Process Trouble) → StepTaken parcel s pos q → StepTaken parcel s pos' p → (pos ≡ pos') × (q ≡ p)
  step_taken_once parcel (receive at port name into condition after) pos pos' q p x y = (x.0 ∙ sym y.0, either_once x.1 y.1)
  step_taken_once parcel s pos pos' q p x y = absurd x

  taken_once : (parcel : ParcelView) (t : Term) (pos pos' : Pos) (q p : Result Process Trouble) → Taken parcel t pos q → Taken parcel t pos' p → (pos ≡ pos') × (q ≡ p)
  taken_once parcel (leaf s) pos pos' q p x y = step_taken_once parcel s pos pos' q p x y
  taken_once parcel t pos pos' q p x y = absurd x

  pub takes_once : (parcel : ParcelView) (t : Term) (pos pos' : Pos) (q p : Result Process Trouble) → Takes a f parcel t pos q → Takes a f parcel t pos' p → (pos ≡ pos') × (q ≡ p)
  takes_once parcel t pos pos' q p x y = taken_once parcel t pos pos' q p (taken parcel t pos q x) (taken parcel t pos' p y)

  -- What a receive says of a parcel

  abbrev Condition : ParcelView → Pos → Option (List Slot) → Option Code → Result Bool Trouble → Type 0
  Condition parcel at into None q = q ≡ Ok true
  Condition parcel at into (Some test) q = (Fits a parcel × (q ≡ tested (in_state a (bound a f into parcel)) f at test)) ⊎ ((¬ Fits a parcel) × (q ≡ fault StoreFull a.process at))

  abbrev StepJudged : ParcelView → Step → Result Bool Trouble → Type 0
  StepJudged parcel (receive at port name into condition after) q = Condition parcel at into condition q
  StepJudged parcel s q = ⊥

  abbrev Judged : ParcelView → Term → Result Bool Trouble → Type 0
  Judged parcel (leaf s) q = StepJudged parcel s q
  Judged parcel t q = ⊥

  pub judged : (parcel : ParcelView) (t : Term) (q : Result Bool Trouble) → Judges a f parcel t q → Judged parcel t q
  judged parcel _ _ (messages.free at port name into after) = refl
  judged parcel _ _ (messages.asks at port name into condition after r fits tests) = inl (fits, tests_only (in_state a (bound a f into parcel)) f at condition r tests)
  judged parcel _ _ (messages.unfit at port name into condition after not_fits) = inr (not_fits, refl)

  condition_once : (parcel : ParcelView) (at : Pos) (into : Option (List Slot)) (condition : Option Code) (q p : Result Bool Trouble) → Condition parcel at into condition q → Condition parcel at into condition p → q ≡ p
  condition_once parcel at into None q p x y = x ∙ sym y
  condition_once parcel at into (Some test) q p x y = either_once x y

  step_judged_once : (parcel : ParcelView) (s : Step) (q p : Result Bool Trouble) → StepJudged parcel s q → StepJudged parcel s p → q ≡ p
  step_judged_once parcel (receive at port name into condition after) q p x y = condition_once parcel at into condition q p x y
  step_judged_once parcel s q p x y = absurd x

  judged_once : (parcel : ParcelView) (t : Term) (q p : Result Bool Trouble) → Judged parcel t q → Judged parcel t p → q ≡ p
  judged_once parcel (leaf s) q p x y = step_judged_once parcel s q p x y
  judged_once parcel t q p x y = absurd x

  pub judges_once : (parcel : ParcelView) (t : Term) (q p : Result Bool Trouble) → Judges a f parcel t q → Judges a f parcel t p → q ≡ p
  judges_once parcel t q p x y = judged_once parcel t q p (judged parcel t q x) (judged parcel t p y)
