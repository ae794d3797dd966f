-- In a process of a model that is sound for its edition, whatever opens brings few delays.
use Rattle.std.proofs.Common.{◌≡◌, ◌≤◌, ◌+◌, ℕ, suc, List, [], ◌++◌, Some, refl, ap, arith}
use Rattle.std.specs.List.{sum_by}
use Rattle.std.proofs.lemmas.List.Sums.{sum_by-cons, sum_by-append}
use Rattle.pz_bind_rules.specs.pz_syntax.declared.tokens.Pos.{Pos}
use Rattle.pz_bind_rules.specs.pz_syntax.declared.names.Id.{Id}
use Rattle.pz_bind_rules.specs.pz_syntax.ModelForm.{Each}
use Rattle.pz_bind_rules.specs.pz_syntax.ModelText.{HasFewMarks}
use Rattle.pz_bind_rules.specs.pz_syntax.Expressions.{none, more}
use Rattle.pz_bind_rules.specs.pz_syntax.Statements.{bracketed, guarded, parallel, select, conditional, repeated, abort, interrupt, call, StatementPart, not_written, otherwise, Branches, no_branches, branch}
use Rattle.pz_bind_rules.specs.pz_syntax.Classes.{ModelTree}
use Rattle.pz_bind_rules.specs.pz_value.declared.value.ClassId.{ClassId}
use Rattle.pz_bind_rules.specs.pz_classes_code.declared.slot.Slot.{Slot}
use Rattle.pz_bind_rules.specs.pz_classes_rules.declared.method_id.Counts.TheVariants.{Process as process_counts}
use Rattle.pz_bind_rules.specs.pz_classes_rules.Bodies.{process_body}
use Rattle.pz_bind_rules.specs.pz_classes_rules.Methods.{Signature}
use Rattle.pz_classes_beginnings.specs.Beginning.{begun_all, plain_calls, all_plain_calls, plain_calls_of_part, plain_calls_of_each, statements_in_all, statements_in_part, statements_in_each}
use Rattle.pz_classes_openings.specs.Openings.{of_called, opened_to}
use Rattle.pz_classes_openings.specs.OpeningRules.{Opens}
use Rattle.pz_offer.specs.pz_state.States.{StateView}
use Rattle.pz_rules.specs.declared.limits.Edition.{Edition}
use Rattle.pz_rules.specs.declared.limits.Edition.TheVariants.{One, Two}
use Rattle.pz_rules.specs.Terms.{Codes, Step, Steps}
use Rattle.pz_rules.specs.Settings.{Setting, Home}
use Rattle.pz_rules.specs.Methods.{IsMethod}
use Rattle.pz_rules.specs.Openable.{IsProcessClass, alone, inner, part_of, branches_of}
use Rattle.pz_rules.specs.Opening.{steps_opened, called_body, depth_of, enter_in}
use Rattle.pz_rules.specs.devices.Pending.{pending}
use Rattle.pz_rules.specs.devices.Opened.{delays_in_all, delays_in_part, delays_in_each, spread_of, home_in, IsClosed, Bounds}
use Rattle.pz_rules.specs.devices.Room.{most_delays, HasFewDelays, OpensFew}
use Rattle.pz_rules.proofs.Begun.{begins_with_call}
use Rattle.pz_rules.proofs.Opens.{opened_all_holds, stand_few, enter_few}
use Rattle.pz_rules.proofs.Marks.{bodies_few}
use Rattle.pz_rules.proofs.BodyNumbers.{body_of}
use Rattle.pz_rules.proofs.Sizes.{all_delays_less, all_begun_less, call_opens, opened_is, call_small, body_small}

-- Statements with few delays

few_each : (bs : Branches Slot ClassId ℕ) → delays_in_each bs ≤ most_delays → Each HasFewDelays (branches_of bs)
few_each no_branches h = tt
few_each (branch ts bs) h = (omega (arith, h), few_each bs (omega (arith, h)))

few_part : (other : StatementPart Slot ClassId ℕ) → delays_in_part other ≤ most_delays → Each HasFewDelays (part_of other)
few_part not_written h = tt
few_part (otherwise ts) h = (h, tt)

few_within : (t : Step) → HasFewDelays (alone t) → Each HasFewDelays (inner t)
few_within (bracketed at ts) h = (omega (arith, h), tt)
few_within (guarded at e t) h = (h, tt)
few_within (parallel at bs) h = few_each bs (omega (arith, h))
few_within (select at bs) h = few_each bs (omega (arith, h))
few_within (conditional at e ts other) h = (omega (arith, h), few_part other (omega (arith, h)))
few_within (repeated at e ts) h = (omega (arith, h), tt)
few_within (abort at ts t) h = (omega (arith, h), (omega (arith, h), tt))
few_within (interrupt at ts t) h = (omega (arith, h), (omega (arith, h), tt))
few_within t h = tt

few_closed : IsClosed HasFewDelays
few_closed = record {
  one = λ t ts h. omega (arith, h);
  behind = λ t ts h. omega (arith, h);
  within = few_within;
}

-- Statements out of which few others open

module _ (m : ModelTree) (c most : ℕ) where
  -- no more than so many
  abbrev Little : Steps → Type 0
  Little ts = (depth : ℕ) → spread_of m c depth ts ≤ most

  -- what the plain calls of these names open
  abbrev calls : ℕ → List Id → ℕ
  calls depth = sum_by (call_opens m c depth)

  both : (depth : ℕ) (xs ys : List Id) → calls depth (xs ++ ys) ≡ calls depth xs + calls depth ys
  both depth = sum_by-append (call_opens m c depth)

  alone_is : (depth : ℕ) (t : Step) → calls depth (plain_calls t ++ []) ≡ calls depth (plain_calls t)
  alone_is depth t = omega (arith, both depth (plain_calls t) [])

  little_each : (bs : Branches Slot ClassId ℕ) → ((depth : ℕ) → statements_in_each bs + calls depth (plain_calls_of_each bs) ≤ most) → Each Little (branches_of bs)
  little_each no_branches h = tt
  little_each (branch ts bs) h = (
    λ depth. omega (arith, h depth, both depth (all_plain_calls ts) (plain_calls_of_each bs)),
    little_each bs (λ depth. omega (arith, h depth, both depth (all_plain_calls ts) (plain_calls_of_each bs))),
  )

  little_part : (other : StatementPart Slot ClassId ℕ) → ((depth : ℕ) → statements_in_part other + calls depth (plain_calls_of_part other) ≤ most) → Each Little (part_of other)
  little_part not_written h = tt
  little_part (otherwise ts) h = (h, tt)

  little_within : (t : Step) → Little (alone t) → Each Little (inner t)
  little_within (bracketed at ts) h = (λ depth. omega (arith, h depth, alone_is depth (bracketed at ts)), tt)
  little_within (guarded at e t) h = (λ depth. omega (arith, h depth), tt)
  little_within (parallel at bs) h = little_each bs (λ depth. omega (arith, h depth, alone_is depth (parallel at bs)))
  little_within (select at bs) h = little_each bs (λ depth. omega (arith, h depth, alone_is depth (select at bs)))
  little_within (conditional at e ts other) h = (
    λ depth. omega (arith, h depth, alone_is depth (conditional at e ts other), both depth (all_plain_calls ts) (plain_calls_of_part other)),
    little_part other (λ depth. omega (arith, h depth, alone_is depth (conditional at e ts other), both depth (all_plain_calls ts) (plain_calls_of_part other))),
  )
  little_within (repeated at e ts) h = (λ depth. omega (arith, h depth, alone_is depth (repeated at e ts)), tt)
  little_within (abort at ts t) h = (
    λ depth. omega (arith, h depth, alone_is depth (abort at ts t), both depth (all_plain_calls ts) (plain_calls t)),
    (λ depth. omega (arith, h depth, alone_is depth (abort at ts t), alone_is depth t, both depth (all_plain_calls ts) (plain_calls t)), tt),
  )
  little_within (interrupt at ts t) h = (
    λ depth. omega (arith, h depth, alone_is depth (interrupt at ts t), both depth (all_plain_calls ts) (plain_calls t)),
    (λ depth. omega (arith, h depth, alone_is depth (interrupt at ts t), alone_is depth t, both depth (all_plain_calls ts) (plain_calls t)), tt),
  )
  little_within t h = tt

  pub little_closed : IsClosed Little
  little_closed = record {
    one = λ t ts h depth. omega (arith, h depth, alone_is depth t, both depth (plain_calls t) (all_plain_calls ts));
    behind = λ t ts h depth. omega (arith, h depth, both depth (plain_calls t) (all_plain_calls ts));
    within = little_within;
  }

module _ (m : ModelTree) (c : ℕ) (process : IsProcessClass m c) (opens : Opens m) where
  -- the bodies of the class
  little_body : (name : List ℕ) (inputs outputs locals : ℕ) (body : Steps) → IsMethod m c name inputs outputs locals body → OpensFew Two m c body
  little_body name inputs outputs locals body is depth =
      let s : Signature = record { name = name; counts = process_counts inputs outputs } in
      omega (arith, body_small m c process opens s body (body_of m c s locals body is.is_body) depth)

  -- a call alone
  little_call : (at : Pos) (method : Id) (args : Codes) → OpensFew Two m c (alone (call at method args []))
  little_call at method none depth = omega (arith, call_small m c process opens depth method, sum_by-cons (call_opens m c depth) method [])
  little_call at method (more e es) depth = omega arith

module _ (h : Home) where
  -- a body opens as many as a call of its method
  pub body_opens : (depth : ℕ) (method : Id) (locals : ℕ) (body : Steps) → called_body h method ≡ Some (process_body locals body)
      → statements_in_all body + sum_by (call_opens h.model h.class depth) (begun_all body) ≡ call_opens h.model h.class (suc depth) method
  body_opens depth method locals body is =
      let s : Signature = record { name = method.name; counts = process_counts 0 0 } in
      let b = body_of h.model h.class s locals body is in
      let same : call_opens h.model h.class (suc depth) method ≡ opened_to h.model h.class (suc depth) b.number = ap (of_called (opened_to h.model h.class (suc depth))) b.found in
      omega (arith, opened_is h.model h.class s body b depth, same)

  deeper : (depth : ℕ) (method : Id) (locals : ℕ) (body : Steps) → called_body h method ≡ Some (process_body locals body)
      → delays_in_all body + sum_by (call_opens h.model h.class depth) (begun_all body) ≤ call_opens h.model h.class (suc depth) method
  deeper depth method locals body is = omega (arith, all_delays_less body, body_opens depth method locals body is)

  little_opens : (ts : Steps) (s : StateView) → OpensFew Two h.model h.class ts → pending (steps_opened (enter_in Two h) ts s).term ≤ most_delays
  little_opens ts s few =
      let depth = depth_of h.model in
      omega (arith, enter_few h (call_opens h.model h.class) deeper ts s, all_delays_less ts, all_begun_less (call_opens h.model h.class depth) ts, few depth)

-- In either edition

module _ (m : ModelTree) (c : ℕ) (marks : HasFewMarks m) (process : IsProcessClass m c) where
  closed_in : (e : Edition) → IsClosed (OpensFew e m c)
  closed_in One = few_closed
  closed_in Two = little_closed m c most_delays

  bodies_in : (e : Edition) → (e ≡ Two → Opens m) → (name : List ℕ) (inputs outputs locals : ℕ) (body : Steps) → IsMethod m c name inputs outputs locals body → OpensFew e m c body
  bodies_in One opens = bodies_few m marks c
  bodies_in Two opens = little_body m c process (opens refl)

  call_in : (e : Edition) → (e ≡ Two → Opens m) → (at : Pos) (method : Id) (args : Codes) → OpensFew e m c (alone (call at method args []))
  call_in One opens at method args = omega arith
  call_in Two opens at method args = little_call m c process (opens refl) at method args

opens_in : (e : Edition) (h : Home) (ts : Steps) (s : StateView) → OpensFew e h.model h.class ts → pending (steps_opened (enter_in e h) ts s).term ≤ most_delays
opens_in One h ts s few = omega (arith, stand_few h ts s, few)
opens_in Two h ts s few = little_opens h ts s few

pub few_bounds : (setting : Setting) (c : ℕ) → HasFewMarks setting.model → (setting.limits.edition ≡ Two → Opens setting.model) → IsProcessClass setting.model c
    → Bounds setting c (OpensFew setting.limits.edition setting.model c) most_delays
few_bounds setting c marks opens process =
    let m = setting.model in
    let e = setting.limits.edition in
    let h = home_in setting c in
    record {
      closed = closed_in m c marks process e;
      bodies = bodies_in m c marks process e opens;
      starts = begins_with_call m (λ t. OpensFew e m c (alone t)) (call_in m c marks process e opens) c;
      opens = λ ts s few. (opened_all_holds (OpensFew e m c) (closed_in m c marks process e) h (bodies_in m c marks process e opens) ts s few, opens_in e h ts s few);
    }
