-- What opens stands in frames that have opened.
use Rattle.std.proofs.Common.{◌≡◌, ◌≤◌, ◌+◌, ℕ, zero, suc, Bool, true, false, eqb, List, [], ◌∷◌, ◌++◌, Option, Some, None, refl, sym, ap, ◌∙◌, arith}
use Rattle.std.specs.Prelude.{if◌then◌else◌, nat_lt, map}
use Rattle.pz_rules.specs.pz_syntax.Expressions as expression
use Rattle.pz_rules.specs.pz_syntax.Statements as statement
use Rattle.pz_rules.specs.pz_syntax.Statements.{Branches, no_branches, branch, no_statements, then}
use Rattle.pz_rules.specs.pz_value.declared.value.ClassId.{ClassId}
use Rattle.pz_rules.specs.pz_value.declared.value.Value.{Value}
use Rattle.pz_rules.specs.pz_classes_code.declared.slot.Slot.{Slot}
use Rattle.pz_rules.specs.pz_classes_rules.Bodies.{BodyTree, data_body, process_body}
use Rattle.pz_rules.specs.pz_state.States.{StateView, Frames, with_frame, nils}
use Rattle.pz_rules.specs.pz_state.States as states
use Rattle.pz_rules.specs.declared.limits.Edition.{Edition}
use Rattle.pz_rules.specs.declared.limits.Edition.TheVariants.{One, Two}
use Rattle.pz_rules.specs.Terms.{Step, Steps, Term, done, leaf, wait, sequence, parallel, select, guarded, frame, abort, idle, handling, frames_in, frames_in_all}
use Rattle.pz_rules.specs.Settings.{Process, Home}
use Rattle.pz_rules.specs.FrameNumbers.{least_free}
use Rattle.pz_rules.specs.Framing.{framed}
use Rattle.pz_rules.specs.Opening.{step_opened, steps_opened, branches_opened, called_body, by_body, entered_to, depth_of, enter_in, enter, opened, opened_all}
use Rattle.pz_tree_standing.specs.FrameCounts.{count_in, times}
use Rattle.pz_tree_standing.specs.Frames.{open_as, HaveOpened}

pub count_append : (n : ℕ) (ms ks : List ℕ) → count_in n (ms ++ ks) ≡ count_in n ms + count_in n ks
count_append n [] ks = (let e : count_in n ks ≡ 0 + count_in n ks = omega arith in e)
count_append n (m ∷ ms) ks = omega (arith, count_append n ms ks)

pub frame_counted : (n number : ℕ) (values : List Value) (fs : Frames) → count_in n (map (λ f. f.0) (with_frame number values fs)) ≡ (if eqb n number then 1 else 0) + count_in n (map (λ f. f.0) fs)
frame_counted n number values [] = refl
frame_counted n number values (f ∷ fs) = by (nat_lt number f.0) (frame_counted n number values fs)
  where
    by : (b : Bool) → count_in n (map (λ f. f.0) (with_frame number values fs)) ≡ (if eqb n number then 1 else 0) + count_in n (map (λ f. f.0) fs)
        → count_in n (map (λ f. f.0) (if b then (number, values) ∷ f ∷ fs else f ∷ with_frame number values fs)) ≡ (if eqb n number then 1 else 0) + count_in n (map (λ f. f.0) (f ∷ fs))
    by true others = refl
    by false others = omega (arith, others)

pub framed_times : (n number inputs : ℕ) (results : List Slot) (t : Term) → times n (framed number inputs results t) ≤ (if eqb n number then 1 else 0) + times n t
framed_times n number inputs (r ∷ rs) t = omega arith
framed_times n number inputs [] (frame inner j [] t) = omega arith
framed_times n number inputs [] (frame inner j (r ∷ rs) t) = omega arith
framed_times n number inputs [] done = omega arith
framed_times n number inputs [] (leaf s) = omega arith
framed_times n number inputs [] (wait left at) = omega arith
framed_times n number inputs [] (sequence t rest) = omega arith
framed_times n number inputs [] (parallel ts) = omega arith
framed_times n number inputs [] (select ts) = omega arith
framed_times n number inputs [] (guarded test at t) = omega arith
framed_times n number inputs [] (abort t u) = omega arith
framed_times n number inputs [] (idle t u again) = omega arith
framed_times n number inputs [] (handling t u again) = omega arith

-- ------------------------------------------------------------ in whatever edition

module _ (n : ℕ) where
  abbrev Few : StateView → Process → Type 0
  Few s x = times n x.term + open_as n s ≤ open_as n x.state

  module _ (enters : Step → StateView → Process) (few : (t : Step) (s : StateView) → Few s (enters t s)) where
    mutual
      step_few : (t : Step) (s : StateView) → Few s (step_opened enters t s)
      step_few (statement.bracketed at ts) s = steps_few ts s
      step_few (statement.guarded at e t) s = step_few t s
      step_few (statement.parallel at bs) s = branches_few bs s
      step_few (statement.select at bs) s = branches_few bs s
      step_few (statement.abort at ts t) s =
          let x = steps_opened enters ts s in
          let y = step_opened enters t x.state in
          omega (arith, steps_few ts s, step_few t x.state, count_append n (frames_in x.term) (frames_in y.term))
      step_few (statement.interrupt at ts t) s =
          let x = steps_opened enters ts s in
          let y = step_opened enters t x.state in
          omega (arith, steps_few ts s, step_few t x.state, count_append n (frames_in x.term) (frames_in y.term))
      step_few (statement.call at method expression.none []) s = few (statement.call at method expression.none []) s
      step_few (statement.call at method expression.none (x ∷ xs)) s = omega arith
      step_few (statement.call at method (expression.more e es) results) s = omega arith
      step_few (statement.skip at) s = omega arith
      step_few (statement.delay at e) s = omega arith
      step_few (statement.block at es) s = omega arith
      step_few (statement.conditional at e ts other) s = omega arith
      step_few (statement.repeated at e ts) s = omega arith
      step_few (statement.send at port name args after) s = omega arith
      step_few (statement.receive at port name into condition after) s = omega arith
      step_few (statement.assignment at x e) s = omega arith
      step_few (statement.value at e) s = omega arith

      steps_few : (ts : Steps) (s : StateView) → Few s (steps_opened enters ts s)
      steps_few no_statements s = omega arith
      steps_few ((then) t no_statements) s = step_few t s
      steps_few ((then) t ((then) r rest)) s = step_few t s

      branches_few : (bs : Branches Slot ClassId ℕ) (s : StateView) → count_in n (frames_in_all (branches_opened enters bs s).terms) + open_as n s ≤ open_as n (branches_opened enters bs s).state
      branches_few no_branches s = omega arith
      branches_few (branch ts bs) s =
          let x = steps_opened enters ts s in
          let xs = branches_opened enters bs x.state in
          omega (arith, steps_few ts s, branches_few bs x.state, count_append n (frames_in x.term) (frames_in_all xs.terms))

  body_few : (b : Option BodyTree) (opens : Steps → StateView → Process) → ((ts : Steps) (s : StateView) → Few s (opens ts s)) → (t : Step) (s : StateView) → Few s (by_body b opens t s)
  body_few None opens h t s = omega arith
  body_few (Some (data_body locals body)) opens h t s = omega arith
  body_few (Some (process_body locals body)) opens h t s =
      let number = least_free s.frames in
      let inner = states.opened s number locals in
      let x = opens body inner in
      omega (arith, h body inner, frame_counted n number (nils locals) s.frames, framed_times n number 0 [] x.term)

  module _ (h : Home) where
    entered_few : (depth : ℕ) (t : Step) (s : StateView) → Few s (entered_to h depth t s)
    entered_few zero t s = omega arith
    entered_few (suc depth) (statement.call at method args results) s = body_few (called_body h method) (steps_opened (entered_to h depth)) (steps_few (entered_to h depth) (entered_few depth)) (statement.call at method args results) s
    entered_few (suc depth) (statement.bracketed at ts) s = omega arith
    entered_few (suc depth) (statement.guarded at e t) s = omega arith
    entered_few (suc depth) (statement.parallel at bs) s = omega arith
    entered_few (suc depth) (statement.select at bs) s = omega arith
    entered_few (suc depth) (statement.abort at ts t) s = omega arith
    entered_few (suc depth) (statement.interrupt at ts t) s = omega arith
    entered_few (suc depth) (statement.skip at) s = omega arith
    entered_few (suc depth) (statement.delay at e) s = omega arith
    entered_few (suc depth) (statement.block at es) s = omega arith
    entered_few (suc depth) (statement.conditional at e ts other) s = omega arith
    entered_few (suc depth) (statement.repeated at e ts) s = omega arith
    entered_few (suc depth) (statement.send at port name args after) s = omega arith
    entered_few (suc depth) (statement.receive at port name into condition after) s = omega arith
    entered_few (suc depth) (statement.assignment at x e) s = omega arith
    entered_few (suc depth) (statement.value at e) s = omega arith

    by_few : (e : Edition) (t : Step) (s : StateView) → Few s (enter_in e h t s)
    by_few One t s = omega arith
    by_few Two t s = entered_few (depth_of h.model) t s

-- ------------------------------------------------------------ in edition One none opens

abbrev pub Still : StateView → Process → Type 0
Still s x = (frames_in x.term ≡ []) × (x.state ≡ s)

module _ (enters : Step → StateView → Process) (still : (t : Step) (s : StateView) → Still s (enters t s)) where
  two_none : (x y : List ℕ) → x ≡ [] → y ≡ [] → x ++ y ≡ []
  two_none x y p q = (λ i. p i ++ q i)

  mutual
    step_still : (t : Step) (s : StateView) → Still s (step_opened enters t s)
    step_still (statement.bracketed at ts) s = steps_still ts s
    step_still (statement.guarded at e t) s = step_still t s
    step_still (statement.parallel at bs) s = branches_still bs s
    step_still (statement.select at bs) s = branches_still bs s
    step_still (statement.abort at ts t) s =
        let x = steps_opened enters ts s in
        let p = steps_still ts s in
        let q = step_still t x.state in
        (two_none (frames_in x.term) (frames_in (step_opened enters t x.state).term) p.0 q.0, q.1 ∙ p.1)
    step_still (statement.interrupt at ts t) s =
        let x = steps_opened enters ts s in
        let p = steps_still ts s in
        let q = step_still t x.state in
        (two_none (frames_in x.term) (frames_in (step_opened enters t x.state).term) p.0 q.0, q.1 ∙ p.1)
    step_still (statement.call at method expression.none []) s = still (statement.call at method expression.none []) s
    step_still (statement.call at method expression.none (x ∷ xs)) s = (refl, refl)
    step_still (statement.call at method (expression.more e es) results) s = (refl, refl)
    step_still (statement.skip at) s = (refl, refl)
    step_still (statement.delay at e) s = (refl, refl)
    step_still (statement.block at es) s = (refl, refl)
    step_still (statement.conditional at e ts other) s = (refl, refl)
    step_still (statement.repeated at e ts) s = (refl, refl)
    step_still (statement.send at port name args after) s = (refl, refl)
    step_still (statement.receive at port name into condition after) s = (refl, refl)
    step_still (statement.assignment at x e) s = (refl, refl)
    step_still (statement.value at e) s = (refl, refl)

    steps_still : (ts : Steps) (s : StateView) → Still s (steps_opened enters ts s)
    steps_still no_statements s = (refl, refl)
    steps_still ((then) t no_statements) s = step_still t s
    steps_still ((then) t ((then) r rest)) s = step_still t s

    branches_still : (bs : Branches Slot ClassId ℕ) (s : StateView) → (frames_in_all (branches_opened enters bs s).terms ≡ []) × ((branches_opened enters bs s).state ≡ s)
    branches_still no_branches s = (refl, refl)
    branches_still (branch ts bs) s =
        let x = steps_opened enters ts s in
        let p = steps_still ts s in
        let q = branches_still bs x.state in
        (two_none (frames_in x.term) (frames_in_all (branches_opened enters bs x.state).terms) p.0 q.0, q.1 ∙ p.1)

-- ------------------------------------------------------------ by the edition

none_opened : (n : ℕ) (s : StateView) (x : Process) → Still s x → times n x.term + open_as n s ≡ open_as n x.state
none_opened n s x still = ap (λ l. count_in n l + open_as n s) still.0 ∙ (let e : 0 + open_as n s ≡ open_as n s = omega arith in e) ∙ ap (open_as n) (sym still.1)

module _ (h : Home) (n : ℕ) where
  by_edition : (e : Edition) (x : StateView → Process) (s : StateView) → ((e ≡ One) → Still s (x s)) → times n (x s).term + open_as n s ≤ open_as n (x s).state → HaveOpened e (times n (x s).term) (open_as n s) (open_as n (x s).state)
  by_edition One x s one few = none_opened n s (x s) (one refl)
  by_edition Two x s one few = few

  enter_still : (e : Edition) → e ≡ One → (t : Step) (s : StateView) → Still s (enter_in e h t s)
  enter_still One is t s = (refl, refl)
  enter_still Two is t s = absurd cc

  pub step_opens : (t : Step) (s : StateView) → HaveOpened h.edition (times n (opened h t s).term) (open_as n s) (open_as n (opened h t s).state)
  step_opens t s = by_edition h.edition (opened h t) s (λ is. step_still (enter h) (enter_still h.edition is) t s) (step_few n (enter h) (by_few n h h.edition) t s)

  pub all_open : (ts : Steps) (s : StateView) → HaveOpened h.edition (times n (opened_all h ts s).term) (open_as n s) (open_as n (opened_all h ts s).state)
  all_open ts s = by_edition h.edition (opened_all h ts) s (λ is. steps_still (enter h) (enter_still h.edition is) ts s) (steps_few n (enter h) (by_few n h h.edition) ts s)

  pub all_still : h.edition ≡ One → (ts : Steps) (s : StateView) → Still s (opened_all h ts s)
  all_still is ts s = steps_still (enter h) (enter_still h.edition is) ts s

-- a frame round what has none
pub framed_alone : (n number inputs : ℕ) (results : List Slot) (t : Term) → frames_in t ≡ [] → times n (framed number inputs results t) ≡ (if eqb n number then 1 else 0) + times n t
framed_alone n number inputs (r ∷ rs) t e = refl
framed_alone n number inputs [] (frame inner j [] t) e = absurd cc
framed_alone n number inputs [] (frame inner j (r ∷ rs) t) e = absurd cc
framed_alone n number inputs [] done e = refl
framed_alone n number inputs [] (leaf s) e = refl
framed_alone n number inputs [] (wait left at) e = refl
framed_alone n number inputs [] (sequence t rest) e = refl
framed_alone n number inputs [] (parallel ts) e = refl
framed_alone n number inputs [] (select ts) e = refl
framed_alone n number inputs [] (guarded test at t) e = refl
framed_alone n number inputs [] (abort t u) e = refl
framed_alone n number inputs [] (idle t u again) e = refl
framed_alone n number inputs [] (handling t u again) e = refl
