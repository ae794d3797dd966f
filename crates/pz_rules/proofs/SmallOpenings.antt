-- What opens brings no more frames than statements open.
use Rattle.std.proofs.Common.{◌≡◌, ◌≤◌, ◌+◌, ℕ, zero, suc, Bool, true, false, List, [], ◌∷◌, ◌++◌, length, Option, Some, None, refl, sym, subst, arith}
use Rattle.std.specs.Prelude.{nat_lt, Contains}
use Rattle.std.specs.List.{sum_by}
use Rattle.std.proofs.lemmas.List.Sums.{sum_by-cons, sum_by-append}
use Rattle.pz_bind_rules.specs.pz_syntax.declared.tokens.Pos.{Pos}
use Rattle.pz_bind_rules.specs.pz_syntax.declared.names.Id.{Id}
use Rattle.pz_bind_rules.specs.pz_syntax.ModelForm.{Each}
use Rattle.pz_bind_rules.specs.pz_syntax.Expressions.{none, more}
use Rattle.pz_bind_rules.specs.pz_syntax.Statements.{skip, delay, bracketed, block, guarded as guarded_step, parallel as parallel_step, select as select_step, conditional, repeated, abort as abort_step, interrupt, send, receive, call, assignment, value, no_statements, then, Branches, no_branches, branch}
use Rattle.pz_bind_rules.specs.pz_value.declared.value.Value.{Value}
use Rattle.pz_bind_rules.specs.pz_value.declared.value.ClassId.{ClassId}
use Rattle.pz_bind_rules.specs.pz_classes_code.declared.slot.Slot.{Slot}
use Rattle.pz_bind_rules.specs.pz_classes_rules.declared.method_id.Counts.TheVariants.{Process as process_counts}
use Rattle.pz_bind_rules.specs.pz_classes_rules.Bodies.{BodyTree, data_body, process_body}
use Rattle.pz_bind_rules.specs.pz_classes_rules.Methods.{Signature}
use Rattle.pz_classes_beginnings.specs.Beginning.{begun, begun_all, begun_each, statements_in, statements_in_all, statements_in_each}
use Rattle.pz_classes_openings.specs.OpeningRules.{Opens}
use Rattle.pz_offer.specs.pz_state.States.{Frames, StateView, nils, with_frame, opened as with_locals}
use Rattle.pz_rules.specs.declared.limits.Edition.{Edition}
use Rattle.pz_rules.specs.declared.limits.Edition.TheVariants.{Two}
use Rattle.pz_rules.specs.Terms.{Codes, Step, Steps}
use Rattle.pz_rules.specs.Settings.{Process, Home}
use Rattle.pz_rules.specs.FrameNumbers.{least_free}
use Rattle.pz_rules.specs.Opening.{step_opened, steps_opened, branches_opened, called_body, by_body, entered_to, depth_of, enter_in}
use Rattle.pz_rules.specs.Openable.{IsProcessClass, alone, inner, IsPartOf, whole, one, behind, within}
use Rattle.pz_rules.specs.CallLaws.{BodiesBringFewFrames, StartsBringFewFrames}
use Rattle.pz_rules.specs.devices.Opened.{spread_of, IsClosed}
use Rattle.pz_rules.proofs.Begun.{begins_with_call}
use Rattle.pz_rules.proofs.BodyNumbers.{body_of}
use Rattle.pz_rules.proofs.Sizes.{all_begun_less, call_opens, call_small, body_small}
use Rattle.pz_rules.proofs.FewOpen.{little_closed, body_opens}

-- what holds of statements holds of each part of them

each_has : (P : Steps → Type 0) (xs : List Steps) (x : Steps) → Each P xs → Contains xs x → P x
each_has P [] x all (k, is_within, is) = absurd (omega arith)
each_has P (y ∷ ys) x all (zero, is_within, is) = subst P is all.0
each_has P (y ∷ ys) x all (suc k, is_within, is) = each_has P ys x all.1 (k, omega arith, is)

part_holds : (P : Steps → Type 0) (closed : IsClosed P) (body part : Steps) → IsPartOf body part → P body → P part
part_holds P closed body _ whole h = h
part_holds P closed body _ (one t ts p) h = closed.one t ts (part_holds P closed body ((then) t ts) p h)
part_holds P closed body _ (behind t ts p) h = closed.behind t ts (part_holds P closed body ((then) t ts) p h)
part_holds P closed body _ (within t ts part p is) h = each_has P (inner t) part (closed.within t (closed.one t ts (part_holds P closed body ((then) t ts) p h))) is

-- a further frame is one more

one_more : (number : ℕ) (values : List Value) (fs : Frames) → length (with_frame number values fs) ≡ suc (length fs)
one_more number values [] = refl
one_more number values (f ∷ fs) = by_test (nat_lt number f.0) refl (one_more number values fs)
  where
    by_test : (b : Bool) → nat_lt number f.0 ≡ b → length (with_frame number values fs) ≡ suc (length fs) → length (with_frame number values (f ∷ fs)) ≡ suc (suc (length fs))
    by_test true is rest = rw is refl
    by_test false is rest = rw is (omega (arith, rest))

abbrev frames_in : StateView → ℕ
frames_in s = length s.frames

-- where `enter` brings at most one frame more for a plain call than so many

module _ (enter : Step → StateView → Process) (brings : Id → ℕ) (few : (at : Pos) (method : Id) (s : StateView) → frames_in (enter (call at method none []) s).state ≤ suc (frames_in s + brings method)) where
  abbrev all_bring : List Id → ℕ
  all_bring = sum_by brings

  both_bring : (xs ys : List Id) → all_bring (xs ++ ys) ≡ all_bring xs + all_bring ys
  both_bring = sum_by-append brings

  mutual
    step_few : (t : Step) (s : StateView) → frames_in (step_opened enter t s).state ≤ frames_in s + (statements_in t + all_bring (begun t))
    step_few (bracketed at ts) s = omega (arith, steps_few ts s)
    step_few (guarded_step at e t) s = omega (arith, step_few t s)
    step_few (parallel_step at bs) s = omega (arith, branches_few bs s)
    step_few (select_step at bs) s = omega (arith, branches_few bs s)
    step_few (abort_step at ts t) s = omega (arith, steps_few ts s, step_few t (steps_opened enter ts s).state, both_bring (begun_all ts) (begun t))
    step_few (interrupt at ts t) s = omega (arith, steps_few ts s, step_few t (steps_opened enter ts s).state, both_bring (begun_all ts) (begun t))
    step_few (call at method none []) s = omega (arith, few at method s, sum_by-cons brings method [])
    step_few (call at method none (x ∷ xs)) s = omega arith
    step_few (call at method (more e es) results) s = omega arith
    step_few (skip at) s = omega arith
    step_few (delay at e) s = omega arith
    step_few (block at es) s = omega arith
    step_few (conditional at e ts other) s = omega arith
    step_few (repeated at e ts) s = omega arith
    step_few (send at port name args after) s = omega arith
    step_few (receive at port name into condition after) s = omega arith
    step_few (assignment at x e) s = omega arith
    step_few (value at e) s = omega arith

    pub steps_few : (ts : Steps) (s : StateView) → frames_in (steps_opened enter ts s).state ≤ frames_in s + (statements_in_all ts + all_bring (begun_all ts))
    steps_few no_statements s = omega arith
    steps_few ((then) t no_statements) s = omega (arith, step_few t s)
    steps_few ((then) t ((then) r rest)) s = omega (arith, step_few t s)

    branches_few : (bs : Branches Slot ClassId ℕ) (s : StateView) → frames_in (branches_opened enter bs s).state ≤ frames_in s + (statements_in_each bs + all_bring (begun_each bs))
    branches_few no_branches s = omega arith
    branches_few (branch ts bs) s = omega (arith, steps_few ts s, branches_few bs (steps_opened enter ts s).state, both_bring (begun_all ts) (begun_each bs))

-- the frame of the call, and what its body brings

module _ (h : Home) where
  abbrev opens_as : ℕ → Id → ℕ
  opens_as = call_opens h.model h.class

  entered_few : (depth : ℕ) (at : Pos) (method : Id) (s : StateView) → frames_in (entered_to h depth (call at method none []) s).state ≤ suc (frames_in s + opens_as depth method)
  entered_few zero at method s = omega arith
  entered_few (suc depth) at method s = by (called_body h method) refl (entered_few depth)
    where
      by : (o : Option BodyTree) → called_body h method ≡ o → ((at : Pos) (x : Id) (s : StateView) → frames_in (entered_to h depth (call at x none []) s).state ≤ suc (frames_in s + opens_as depth x))
          → frames_in (by_body o (steps_opened (entered_to h depth)) (call at method none []) s).state ≤ suc (frames_in s + opens_as (suc depth) method)
      by None is below = omega arith
      by (Some (data_body locals body)) is below = omega arith
      by (Some (process_body locals body)) is below =
          let number = least_free s.frames in
          omega (
            arith,
            one_more number (nils locals) s.frames,
            steps_few (entered_to h depth) (opens_as depth) below body (with_locals s number locals),
            body_opens h depth method locals body is,
          )

  spread_few : (ts : Steps) (s : StateView) → frames_in (steps_opened (enter_in Two h) ts s).state ≤ frames_in s + spread_of h.model h.class (depth_of h.model) ts
  spread_few ts s =
      let depth = depth_of h.model in
      omega (arith, steps_few (enter_in Two h) (opens_as depth) (entered_few depth) ts s, all_begun_less (opens_as depth) ts)

-- Bodies and starts

in_two : (h : Home) (ts : Steps) (s : StateView) (most : ℕ) → h.edition ≡ Two → spread_of h.model h.class (depth_of h.model) ts ≤ most → frames_in (steps_opened (enter_in h.edition h) ts s).state ≤ frames_in s + most
in_two h ts s most two few =
    subst (λ (e : Edition). frames_in (steps_opened (enter_in e h) ts s).state ≤ frames_in s + most) (sym two) (omega (arith, spread_few h ts s, few))

pub bodies_few : BodiesBringFewFrames
bodies_few h name inputs outputs locals body part s two process opens is is_part =
    let signature : Signature = record { name = name; counts = process_counts inputs outputs } in
    let small = body_small h.model h.class process opens signature body (body_of h.model h.class signature locals body is.is_body) in
    let P : Steps → Type 0 = λ ts. (depth : ℕ) → spread_of h.model h.class depth ts ≤ 1000000 in
    in_two h part s 1000000 two (part_holds P (little_closed h.model h.class 1000000) body part is_part small (depth_of h.model))

call_few : (h : Home) → IsProcessClass h.model h.class → Opens h.model → (at : Pos) (method : Id) (args : Codes)
    → spread_of h.model h.class (depth_of h.model) (alone (call at method args [])) ≤ 1000001
call_few h process opens at method none =
    let depth = depth_of h.model in
    omega (arith, call_small h.model h.class process opens depth method, sum_by-cons (opens_as h depth) method [])
call_few h process opens at method (more e es) = omega arith

pub starts_few : StartsBringFewFrames
starts_few h first s two process opens is =
    in_two h (alone first) s 1000001 two
    (begins_with_call h.model (λ t. spread_of h.model h.class (depth_of h.model) (alone t) ≤ 1000001) (call_few h process opens) h.class first is)
