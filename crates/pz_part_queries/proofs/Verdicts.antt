-- What a receive says to a parcel.
use Rattle.std.proofs.Common.{◌≡◌, ◌⊎◌, inl, inr, refl, sym, ◌∙◌, ap, subst, ℕ, Bool, true, List, [], ◌∷◌, Option, Some, None, Result, Ok}
use Rattle.std.specs.Option.{option_map}
use Rattle.pz_classes_code.specs.pz_syntax.declared.tokens.Pos.{Pos}
use Rattle.pz_classes_code.specs.pz_syntax.declared.names.Id.{Id}
use Rattle.pz_classes_code.specs.pz_syntax.Expressions.{Part}
use Rattle.pz_classes_code.specs.pz_syntax.Statements.{receive}
use Rattle.pz_classes_code.specs.pz_value.declared.value.ClassId.{ClassId}
use Rattle.pz_classes_code.specs.pz_value.declared.value.Value.{Value}
use Rattle.pz_classes_code.specs.declared.code.Code.{Code}
use Rattle.pz_classes_code.specs.declared.slot.Slot.{Slot}
use Rattle.pz_classes_code.specs.CodeView as code
use Rattle.pz_rules.specs.pz_state.declared.fault.FaultKind.TheVariants.{StoreFull}
use Rattle.pz_rules.specs.pz_state.States.{StateView}
use Rattle.pz_rules.specs.pz_copy.Parcels.{ParcelView}
use Rattle.pz_rules.specs.pz_offer.declared.trouble.Trouble.{Trouble}
use Rattle.pz_rules.specs.pz_eval_rules.declared.allowance.Allowance.{Allowance}
use Rattle.pz_rules.specs.pz_eval_rules.declared.outcome.Outcome.{Outcome}
use Rattle.pz_eval.specs.Conditions as conditions
use Rattle.pz_eval.specs.Conditions.{FindsCondition}
use Rattle.pz_eval.specs.Tentative.{WouldFind}
use Rattle.pz_rules.specs.Terms as terms
use Rattle.pz_rules.specs.Terms.{leaf}
use Rattle.pz_rules.specs.Settings.{Context, in_state}
use Rattle.pz_rules.specs.Meanings.{and_then, truth, fault}
use Rattle.pz_rules.specs.Evaluations.{allowance, value_or_trouble}
use Rattle.pz_rules.specs.Messages as messages
use Rattle.pz_rules.specs.Messages.{Fits, bound, variables_of, Judges, Receives}
use Rattle.pz_rules.specs.devices.Computed.{TestsAreComputed}
use Rattle.pz_rules.specs.devices.Found.{tested}
use Rattle.pz_part_queries.specs.Laws.{OneVerdict}

-- The verdict of a receive

module _ (a : Context) (f : ℕ) (parcel : ParcelView) (pos : Pos) (port : ℕ) (name : Id) (into : Option (List Slot)) (after : Part Slot ClassId) where
  abbrev JudgesCode : Option Code → Result Bool Trouble → Type 0
  JudgesCode condition r = Judges a f parcel (leaf (receive pos port name into (option_map code.view condition) after)) r

  pub takes_all : (condition : Option Code) → condition ≡ None → JudgesCode condition (Ok true)
  takes_all condition none = subst (λ (c : Option Code). JudgesCode c (Ok true)) (sym none) (messages.free pos port name into after)

  abbrev Verdict : Outcome → Result Bool Trouble
  Verdict o = and_then (value_or_trouble a.process pos o) (truth a.process pos)

  asked : (test : Code) (o : Outcome) → Fits a parcel → WouldFind a.setting.model a.clock f (bound a f into parcel) (code.view test) (allowance a.setting.limits) o → JudgesCode (Some test) (Verdict o)
  asked test o fits would =
      messages.asks pos port name into (code.view test) after (Verdict o) fits
      (record { found = value_or_trouble a.process pos o; left = would.left; gives = record { outcome = o; finds = would.finds; means = refl }; means = refl })

  found : (test : Code) (o : Outcome) → FindsCondition a.setting.model a.clock f a.state parcel (variables_of into) pos (code.view test) (allowance a.setting.limits) o → JudgesCode (Some test) (Verdict o)
  found test o (conditions.asked fits would) =
      asked test o fits would
  found test _ (conditions.full not_fits) = messages.unfit pos port name into (code.view test) after not_fits

  pub condition_judges : (condition : Option Code) (test : Code) (slots : List Slot) (allowed : Allowance) (o : Outcome) (r : Result Bool Trouble) → condition ≡ Some test → slots ≡ variables_of into → allowed ≡ allowance a.setting.limits
      → FindsCondition a.setting.model a.clock f a.state parcel slots pos (code.view test) allowed o → r ≡ and_then (value_or_trouble a.process pos o) (truth a.process pos) → JudgesCode condition r
  condition_judges condition test slots allowed o r some same limit finds is =
      let here : FindsCondition a.setting.model a.clock f a.state parcel (variables_of into) pos (code.view test) (allowance a.setting.limits) o =
      subst (λ (x : Allowance). FindsCondition a.setting.model a.clock f a.state parcel (variables_of into) pos (code.view test) x o) limit
      (subst (λ (xs : List Slot). FindsCondition a.setting.model a.clock f a.state parcel xs pos (code.view test) allowed o) same finds) in
      subst (λ (c : Option Code). JudgesCode c r) (sym some) (subst (λ (x : Result Bool Trouble). JudgesCode (Some test) x) (sym is) (found test o here))

-- One verdict

module _ (computed : TestsAreComputed) (a : Context) (f : ℕ) where
  abbrev Condition : ParcelView → Pos → Option (List Slot) → Option terms.Code → Result Bool Trouble → Type 0
  Condition parcel at into None q = q ≡ Ok true
  Condition parcel at into (Some test) q = (Fits a parcel × (q ≡ tested (in_state a (bound a f into parcel)) f at test)) ⊎ ((¬ Fits a parcel) × (q ≡ fault StoreFull a.process at))

  abbrev StepJudged : ParcelView → terms.Step → Result Bool Trouble → Type 0
  StepJudged parcel (receive at port name into condition after) q = Condition parcel at into condition q
  StepJudged parcel s q = ⊥

  abbrev Judged : ParcelView → terms.Term → Result Bool Trouble → Type 0
  Judged parcel (leaf s) q = StepJudged parcel s q
  Judged parcel t q = ⊥

  judged : (parcel : ParcelView) (t : terms.Term) (q : Result Bool Trouble) → Judges a f parcel t q → Judged parcel t q
  judged parcel _ _ (messages.free at port name into after) = refl
  judged parcel _ _ (messages.asks at port name into condition after r fits tests) = inl (fits, computed (in_state a (bound a f into parcel)) f at condition r tests)
  judged parcel _ _ (messages.unfit at port name into condition after not_fits) = inr (not_fits, refl)

  condition_once : (parcel : ParcelView) (at : Pos) (into : Option (List Slot)) (condition : Option terms.Code) (q p : Result Bool Trouble) → Condition parcel at into condition q → Condition parcel at into condition p → q ≡ p
  condition_once parcel at into None q p x y = x ∙ sym y
  condition_once parcel at into (Some test) q p (inl x) (inl y) = x.1 ∙ sym y.1
  condition_once parcel at into (Some test) q p (inl x) (inr y) = absurd (y.0 x.0)
  condition_once parcel at into (Some test) q p (inr x) (inl y) = absurd (x.0 y.0)
  condition_once parcel at into (Some test) q p (inr x) (inr y) = x.1 ∙ sym y.1

  step_once : (parcel : ParcelView) (s : terms.Step) (q p : Result Bool Trouble) → StepJudged parcel s q → StepJudged parcel s p → q ≡ p
  step_once parcel (receive at port name into condition after) q p x y = condition_once parcel at into condition q p x y
  step_once parcel s q p x y = absurd x

  term_once : (parcel : ParcelView) (t : terms.Term) (q p : Result Bool Trouble) → Judged parcel t q → Judged parcel t p → q ≡ p
  term_once parcel (leaf s) q p x y = step_once parcel s q p x y
  term_once parcel t q p x y = absurd x

pub one_verdict : TestsAreComputed → OneVerdict
one_verdict computed a f parcel t q r x y = term_once computed a f parcel t q r (judged computed a f parcel t q x) (judged computed a f parcel t r y)
