-- What each statement that acts by itself becomes.
use Rattle.std.proofs.Common.{◌≡◌, ℕ, Bool, Result, Ok, Err, refl, sym, subst, ap, ◌∙◌}
use Rattle.std.specs.Prelude.{IfOk}
use Rattle.pz_classes_code.specs.pz_syntax.declared.tokens.Pos.{Pos}
use Rattle.pz_classes_code.specs.pz_syntax.Expressions.{written}
use Rattle.pz_classes_code.specs.pz_syntax.Statements.{skip, delay, block, conditional, repeated, value, StatementPart}
use Rattle.pz_classes_code.specs.pz_value.declared.value.ClassId.{ClassId}
use Rattle.pz_classes_code.specs.pz_value.declared.value.Value.{Value}
use Rattle.pz_classes_code.specs.declared.slot.Slot.{Slot}
use Rattle.pz_rules.specs.pz_state.States.{StateView}
use Rattle.pz_rules.specs.pz_state.Marks.{Seen}
use Rattle.pz_rules.specs.pz_offer.declared.trouble.Trouble.{Trouble}
use Rattle.pz_rules.specs.declared.action.Kind.{Kind}
use Rattle.pz_rules.specs.declared.term.Term as code
use Rattle.pz_rules.specs.declared.term.Term.TheVariants as form
use Rattle.pz_rules.specs.Terms.{Code, Codes, Step, Steps, Term, leaf, wait}
use Rattle.pz_rules.specs.Settings.{Context, Process, left_by, Home, home_of}
use Rattle.pz_rules.specs.Meanings.{and_then, truth}
use Rattle.pz_rules.specs.Evaluations.{Gives}
use Rattle.pz_rules.specs.InternalActions as actions
use Rattle.pz_rules.specs.InternalActions.{Can, done_in, chosen, turned, Performs}
use Rattle.pz_part_actions.specs.Becoming.{process_left, done_left, HasPerformed}
use Rattle.pz_part_actions.specs.devices.Effects.{Tested, ran, Ran}
use Rattle.pz_part_actions.proofs.Forms.{shows_Done}

-- effects alone
pub ran_left : {A : Type 0} (s : StateView) (found : Result A Trouble) → and_then found (λ _. Ok (done_in s)) ≡ done_left s (ran found)
ran_left s (Ok x) = refl
ran_left s (Err u) = refl

chained : {A B C : Type 0} (r : Result A Trouble) (g : A → Result B Trouble) (h : B → Result C Trouble) → and_then r (λ v. and_then (g v) h) ≡ and_then (and_then r g) h
chained (Ok v) g h = refl
chained (Err u) g h = refl

pub done_is : (s : StateView) → Ok (done_in s) ≡ process_left s (Ok form.Done)
done_is s = ap (λ (t : Term). let r : Result Process Trouble = Ok (left_by s t) in r) (sym shows_Done)

module _ (a : Context) (f : ℕ) (at : Pos) where
  abbrev Turns : Step → Result Process Trouble → Type 0
  Turns s q = Performs a f (leaf s) at q

  pub value_performed : (e : Code) (found : Result Value Trouble) (s : StateView) (end : Result (Unit {0}) Trouble) (q : Result code.Term Trouble)
      → Gives a f at e found s → end ≡ ran found → process_left s q ≡ done_left s end → Turns (value at e) (process_left s q)
  value_performed e found s end q gives means is =
      subst (λ (x : Result Process Trouble). Turns (value at e) x) (ran_left s found ∙ ap (done_left s) (sym means) ∙ sym is) (actions.evaluates at e found s gives)

  pub block_performed : (es : Codes) (s : StateView) (end : Result (Unit {0}) Trouble) (q : Result code.Term Trouble) → Ran a f at (written es) end s → process_left s q ≡ done_left s end → Turns (block at es) (process_left s q)
  block_performed es s end q run is =
      subst (λ (x : Result Process Trouble). Turns (block at es) x) (ran_left s run.found ∙ ap (done_left s) (sym run.means) ∙ sym is) (actions.evaluates_block at es run.found s run.gives)

  -- by what a test says
  module _ (e : Code) (s : Seen) (r : Result Bool Trouble) (tested : Tested a f at e r s.held) where
    decided : (g : Bool → Result Process Trouble) → and_then tested.found (λ v. and_then (truth a.process at v) g) ≡ and_then r g
    decided g = chained tested.found (truth a.process at) g ∙ ap (λ (x : Result Bool Trouble). and_then x g) (sym tested.means)

    if_becomes : (ts : Steps) (other : StatementPart Slot ClassId ℕ) → Turns (conditional at e ts other) (and_then r (λ b. Ok (chosen (home_of a) s.held ts other b)))
    if_becomes ts other = subst (λ (x : Result Process Trouble). Turns (conditional at e ts other) x) (decided (λ b. Ok (chosen (home_of a) s.held ts other b))) (actions.tests at e ts other tested.found s.held tested.gives)

    while_becomes : (ts : Steps) → Turns (repeated at e ts) (and_then r (λ b. Ok (turned (home_of a) s.held (repeated at e ts) ts b)))
    while_becomes ts = subst (λ (x : Result Process Trouble). Turns (repeated at e ts) x) (decided (λ b. Ok (turned (home_of a) s.held (repeated at e ts) ts b))) (actions.repeats at e ts tested.found s.held tested.gives)

    pub if_troubled : (ts : Steps) (other : StatementPart Slot ClassId ℕ) (u : Trouble) → r ≡ Err u → Turns (conditional at e ts other) (Err u)
    if_troubled ts other u is =
        subst (λ (x : Result Process Trouble). Turns (conditional at e ts other) x) (ap (λ (x : Result Bool Trouble). and_then x (λ b. Ok (chosen (home_of a) s.held ts other b))) is) (if_becomes ts other)

    -- in the words of a statement that is the loop
    pub while_troubled : (loop : Step) (ts : Steps) (u : Trouble) → loop ≡ repeated at e ts → r ≡ Err u → Turns loop (Err u)
    while_troubled loop ts u loop_is is =
        subst (λ (l : Step). Turns l (Err u)) (sym loop_is)
        (subst (λ (x : Result Process Trouble). Turns (repeated at e ts) x) (ap (λ (x : Result Bool Trouble). and_then x (λ b. Ok (turned (home_of a) s.held (repeated at e ts) ts b))) is) (while_becomes ts))

    -- what then opens, at this home
    module _ (h : Home) (home : home_of a ≡ h) (b : Bool) (is : r ≡ Ok b) where
      pub if_chosen : (ts : Steps) (other : StatementPart Slot ClassId ℕ) → Turns (conditional at e ts other) (Ok (chosen h s.held ts other b))
      if_chosen ts other =
          subst (λ (x : Result Process Trouble). Turns (conditional at e ts other) x)
          (ap (λ (x : Result Bool Trouble). and_then x (λ c. Ok (chosen (home_of a) s.held ts other c))) is
          ∙ ap (λ (k : Home). let q : Result Process Trouble = Ok (chosen k s.held ts other b) in q) home) (if_becomes ts other)

      pub while_turned : (loop : Step) (ts : Steps) → loop ≡ repeated at e ts → Turns loop (Ok (turned h s.held loop ts b))
      while_turned loop ts loop_is =
          subst (λ (l : Step). Turns l (Ok (turned h s.held loop ts b))) (sym loop_is)
          (subst (λ (x : Result Process Trouble). Turns (repeated at e ts) x)
          (ap (λ (x : Result Bool Trouble). and_then x (λ c. Ok (turned (home_of a) s.held (repeated at e ts) ts c))) is
          ∙ ap (λ (k : Home). let q : Result Process Trouble = Ok (turned k s.held (repeated at e ts) ts b) in q) home
          ∙ ap (λ (l : Step). let q : Result Process Trouble = Ok (turned h s.held l ts b) in q) (sym loop_is)) (while_becomes ts))

  -- a step that is this statement
  pub by_step : {E : Type 0} (r : Result (Result code.Term Trouble) E) (s : StateView) (x y : Step) → x ≡ y
      → IfOk r (λ left. HasPerformed a f (leaf y) at (process_left s left)) → IfOk r (λ left. HasPerformed a f (leaf x) at (process_left s left))
  by_step r s x y is = subst (λ (z : Step). IfOk r (λ left. HasPerformed a f (leaf z) at (process_left s left))) (sym is)

  pub skip_performed : (x : Step) → x ≡ skip at → Performs a f (leaf x) at (process_left a.state (Ok form.Done))
  skip_performed x is =
      subst (λ (q : Result Process Trouble). Performs a f (leaf x) at q) (done_is a.state)
      (subst (λ (z : Step). Performs a f (leaf z) at (Ok (done_in a.state))) (sym is) (actions.skips at))

  pub delay_performed : (x : Step) (e : Code) → x ≡ delay at e → Performs a f (leaf x) at (process_left a.state (Ok form.Done))
  delay_performed x e is =
      subst (λ (q : Result Process Trouble). Performs a f (leaf x) at q) (done_is a.state)
      (subst (λ (z : Step). Performs a f (leaf z) at (Ok (done_in a.state))) (sym is) (actions.elapses at e))

expired : {a : Context} {f left : ℕ} {kind : Kind} {at pos : Pos} → Can a f (wait left at) kind pos → at ≡ pos
expired (actions.expires at) = refl

pub wait_performed : (a : Context) (f : ℕ) (t : Term) (left : ℕ) (kind : Kind) (pos at : Pos) → t ≡ wait left at → Can a f t kind pos → Performs a f t pos (process_left a.state (Ok form.Done))
wait_performed a f t left kind pos at is can =
    let here : at ≡ pos = expired (subst (λ (x : Term). Can a f x kind pos) is can) in
    subst (λ (p : Pos). Performs a f t p (process_left a.state (Ok form.Done))) here
    (subst (λ (q : Result Process Trouble). Performs a f t at q) (done_is a.state) (subst (λ (x : Term). Performs a f x at (Ok (done_in a.state))) (sym is) (actions.expires left at)))
