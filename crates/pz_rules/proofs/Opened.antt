-- What opens has no delay that has begun, so neither has a process that has just begun, and what is around an action
-- leaves those that there were.
use Rattle.std.proofs.Common.{if◌then◌else◌, ℕ, zero, suc, Bool, true, false, List, [], ◌∷◌, Option, Some, None, sym, subst}
use Rattle.pz_bind_rules.specs.pz_syntax.Expressions as expression
use Rattle.pz_bind_rules.specs.pz_syntax.Statements as statement
use Rattle.pz_bind_rules.specs.pz_syntax.Statements.{Branches, no_branches, branch, no_statements, then, StatementPart, not_written, otherwise}
use Rattle.pz_bind_rules.specs.pz_value.declared.value.ClassId.{ClassId}
use Rattle.pz_bind_rules.specs.pz_classes_code.declared.slot.Slot.{Slot}
use Rattle.pz_bind_rules.specs.pz_classes_rules.Bodies.{BodyTree, data_body, process_body}
use Rattle.pz_bind_levels.specs.Places.{Address}
use Rattle.pz_bind_rules.specs.Values.{values_at}
use Rattle.pz_offer.specs.PlaceOrder.{Place}
use Rattle.pz_offer.specs.pz_state.States.{StateView, initial, opened as with_frame}
use Rattle.pz_rules.specs.declared.limits.Edition.{Edition}
use Rattle.pz_rules.specs.declared.limits.Edition.TheVariants.{One, Two}
use Rattle.pz_rules.specs.Terms.{Step, Steps, Term, done, leaf, wait, sequence, parallel, select, guarded, frame, abort, idle, handling, Terms, no_terms, and, term_at, first_or, child, frame_in}
use Rattle.pz_rules.specs.Settings.{Setting, Process, Home}
use Rattle.pz_rules.specs.FrameNumbers.{least_free}
use Rattle.pz_rules.specs.Framing.{framed}
use Rattle.pz_rules.specs.Opening.{step_opened, steps_opened, branches_opened, called_body, by_body, entered_to, depth_of, enter_in, enter, opened, opened_all, opened_part}
use Rattle.pz_rules.specs.Leaving.{replaced, all_done, joined, handled, aborted, interrupted, around, residual}
use Rattle.pz_rules.specs.Starting.{home_at, StartsAs}
use Rattle.pz_rules.specs.Short.{IsShort, AreShort}

-- ---------------------------------------------------------- what opens

pub framed_short : (number inputs : ℕ) (results : List Slot) (t : Term) → IsShort t → IsShort (framed number inputs results t)
framed_short number inputs (r ∷ rs) t h = h
framed_short number inputs [] (frame inner ins [] t) h = h
framed_short number inputs [] (frame inner ins (r ∷ rs) t) h = h
framed_short number inputs [] done h = h
framed_short number inputs [] (leaf s) h = h
framed_short number inputs [] (wait left at) h = h
framed_short number inputs [] (sequence t rest) h = h
framed_short number inputs [] (parallel ts) h = h
framed_short number inputs [] (select ts) h = h
framed_short number inputs [] (guarded test at t) h = h
framed_short number inputs [] (abort t u) h = h
framed_short number inputs [] (idle t u again) h = h
framed_short number inputs [] (handling t u again) h = h

module _ (enters : Step → StateView → Process) (calm : (t : Step) (s : StateView) → IsShort (enters t s).term) where
  mutual
    step_short : (t : Step) (s : StateView) → IsShort (step_opened enters t s).term
    step_short (statement.bracketed at ts) s = steps_short ts s
    step_short (statement.guarded at e t) s = step_short t s
    step_short (statement.parallel at bs) s = branches_short bs s
    step_short (statement.select at bs) s = branches_short bs s
    step_short (statement.abort at ts t) s = (steps_short ts s, step_short t (steps_opened enters ts s).state)
    step_short (statement.interrupt at ts t) s = (steps_short ts s, step_short t (steps_opened enters ts s).state)
    step_short (statement.call at method expression.none []) s = calm (statement.call at method expression.none []) s
    step_short (statement.call at method expression.none (x ∷ xs)) s = tt
    step_short (statement.call at method (expression.more e es) results) s = tt
    step_short (statement.skip at) s = tt
    step_short (statement.delay at e) s = tt
    step_short (statement.block at es) s = tt
    step_short (statement.conditional at e ts other) s = tt
    step_short (statement.repeated at e ts) s = tt
    step_short (statement.send at port name args after) s = tt
    step_short (statement.receive at port name into condition after) s = tt
    step_short (statement.assignment at x e) s = tt
    step_short (statement.value at e) s = tt

    steps_short : (ts : Steps) (s : StateView) → IsShort (steps_opened enters ts s).term
    steps_short no_statements s = tt
    steps_short ((then) t no_statements) s = step_short t s
    steps_short ((then) t ((then) r rest)) s = step_short t s

    branches_short : (bs : Branches Slot ClassId ℕ) (s : StateView) → AreShort (branches_opened enters bs s).terms
    branches_short no_branches s = tt
    branches_short (branch ts bs) s = (steps_short ts s, branches_short bs (steps_opened enters ts s).state)

body_short : (b : Option BodyTree) (opens : Steps → StateView → Process) → ((ts : Steps) (s : StateView) → IsShort (opens ts s).term) → (t : Step) (s : StateView) → IsShort (by_body b opens t s).term
body_short None opens h t s = tt
body_short (Some (process_body locals body)) opens h t s =
    let number = least_free s.frames in
    framed_short number 0 [] (opens body (with_frame s number locals)).term (h body (with_frame s number locals))
body_short (Some (data_body locals body)) opens h t s = tt

module _ (h : Home) where
  entered_short : (depth : ℕ) (t : Step) (s : StateView) → IsShort (entered_to h depth t s).term
  entered_short zero t s = tt
  entered_short (suc depth) (statement.call at method args results) s = body_short (called_body h method) (steps_opened (entered_to h depth)) (steps_short (entered_to h depth) (entered_short depth)) (statement.call at method args results) s
  entered_short (suc depth) (statement.bracketed at ts) s = tt
  entered_short (suc depth) (statement.guarded at e t) s = tt
  entered_short (suc depth) (statement.parallel at bs) s = tt
  entered_short (suc depth) (statement.select at bs) s = tt
  entered_short (suc depth) (statement.abort at ts t) s = tt
  entered_short (suc depth) (statement.interrupt at ts t) s = tt
  entered_short (suc depth) (statement.skip at) s = tt
  entered_short (suc depth) (statement.delay at e) s = tt
  entered_short (suc depth) (statement.block at es) s = tt
  entered_short (suc depth) (statement.conditional at e ts other) s = tt
  entered_short (suc depth) (statement.repeated at e ts) s = tt
  entered_short (suc depth) (statement.send at port name args after) s = tt
  entered_short (suc depth) (statement.receive at port name into condition after) s = tt
  entered_short (suc depth) (statement.assignment at x e) s = tt
  entered_short (suc depth) (statement.value at e) s = tt

  by_edition : (e : Edition) (t : Step) (s : StateView) → IsShort (enter_in e h t s).term
  by_edition One t s = tt
  by_edition Two t s = entered_short (depth_of h.model) t s

  pub opened_short : (t : Step) (s : StateView) → IsShort (opened h t s).term
  opened_short = step_short (enter h) (by_edition h.edition)

  pub opened_all_short : (ts : Steps) (s : StateView) → IsShort (opened_all h ts s).term
  opened_all_short = steps_short (enter h) (by_edition h.edition)

  pub opened_part_short : (p : StatementPart Slot ClassId ℕ) (s : StateView) → IsShort (opened_part h p s).term
  opened_part_short not_written s = tt
  opened_part_short (otherwise ts) s = opened_all_short ts s

pub start_short : (setting : Setting) (place : Address) (p : Process) → StartsAs setting place p → IsShort p.term
start_short setting place p starts =
    subst (λ (q : Process). IsShort q.term) (sym starts.stands) (opened_short (home_at setting place) starts.call (initial (values_at setting.model place)))

-- ---------------------------------------------------------- what an action leaves

pub at_short : (ts : Terms) (i : ℕ) → AreShort ts → IsShort (term_at ts i)
at_short no_terms i h = tt
at_short (and t ts) zero h = h.0
at_short (and t ts) (suc i) h = at_short ts i h.1

either_short : (t u : Term) (i : ℕ) → IsShort t → IsShort u → IsShort (first_or t u i)
either_short t u zero h g = h
either_short t u (suc zero) h g = g
either_short t u (suc (suc i)) h g = tt

pub child_short : (t : Term) (i : ℕ) → IsShort t → IsShort (child t i)
child_short done i h = tt
child_short (leaf s) i h = tt
child_short (wait left at) i h = tt
child_short (sequence t rest) i h = either_short t done i h tt
child_short (parallel ts) i h = at_short ts i h
child_short (select ts) i h = at_short ts i h
child_short (guarded test at t) i h = either_short t done i h tt
child_short (frame number inputs results t) i h = either_short t done i h tt
child_short (abort t u) i h = either_short t u i h.0 h.1
child_short (idle t u again) i h = either_short t u i h.0 h.1
child_short (handling t u again) i h = either_short t u i h.0 h.1

replaced_short : (ts : Terms) (i : ℕ) (x : Term) → AreShort ts → IsShort x → AreShort (replaced ts i x)
replaced_short no_terms i x h g = tt
replaced_short (and t ts) zero x h g = (g, h.1)
replaced_short (and t ts) (suc i) x h g = (h.0, replaced_short ts i x h.1 g)

joined_short : (ts : Terms) → AreShort ts → IsShort (joined ts)
joined_short ts h = by (all_done ts)
  where
    by : (b : Bool) → IsShort (if b then done else parallel ts)
    by true = tt
    by false = h

aborted_short : (u x : Term) → IsShort u → IsShort x → IsShort (aborted u x)
aborted_short u done h g = tt
aborted_short u (leaf s) h g = (g, h)
aborted_short u (wait left at) h g = (g, h)
aborted_short u (sequence t rest) h g = (g, h)
aborted_short u (parallel ts) h g = (g, h)
aborted_short u (select ts) h g = (g, h)
aborted_short u (guarded test at t) h g = (g, h)
aborted_short u (frame number inputs results t) h g = (g, h)
aborted_short u (abort s t) h g = (g, h)
aborted_short u (idle s t again) h g = (g, h)
aborted_short u (handling s t again) h g = (g, h)

interrupted_short : (u : Term) (again : Step) (x : Term) → IsShort u → IsShort x → IsShort (interrupted u again x)
interrupted_short u again done h g = tt
interrupted_short u again (leaf s) h g = (g, h)
interrupted_short u again (wait left at) h g = (g, h)
interrupted_short u again (sequence t rest) h g = (g, h)
interrupted_short u again (parallel ts) h g = (g, h)
interrupted_short u again (select ts) h g = (g, h)
interrupted_short u again (guarded test at t) h g = (g, h)
interrupted_short u again (frame number inputs results t) h g = (g, h)
interrupted_short u again (abort s t) h g = (g, h)
interrupted_short u again (idle s t more) h g = (g, h)
interrupted_short u again (handling s t more) h g = (g, h)

module _ (h : Home) (s : StateView) where
  handled_short : (t : Term) (again : Step) (x : Term) → IsShort t → IsShort x → IsShort (handled h s t again x).term
  handled_short t again done k g = (k, opened_short h again s)
  handled_short t again (leaf r) k g = (k, g)
  handled_short t again (wait left at) k g = (k, g)
  handled_short t again (sequence u rest) k g = (k, g)
  handled_short t again (parallel us) k g = (k, g)
  handled_short t again (select us) k g = (k, g)
  handled_short t again (guarded test at u) k g = (k, g)
  handled_short t again (frame number inputs results u) k g = (k, g)
  handled_short t again (abort u v) k g = (k, g)
  handled_short t again (idle u v more) k g = (k, g)
  handled_short t again (handling u v more) k g = (k, g)

  module _ (f : ℕ) where
    sequence_short : (t : Term) (rest : Steps) (i : ℕ) (x : Term) → IsShort x → IsShort (around h f s (sequence t rest) i x).term
    sequence_short t rest i done g = opened_all_short h rest s
    sequence_short t rest i (leaf r) g = g
    sequence_short t rest i (wait left at) g = g
    sequence_short t rest i (sequence u more) g = g
    sequence_short t rest i (parallel us) g = g
    sequence_short t rest i (select us) g = g
    sequence_short t rest i (guarded test at u) g = g
    sequence_short t rest i (frame number inputs results u) g = g
    sequence_short t rest i (abort u v) g = g
    sequence_short t rest i (idle u v more) g = g
    sequence_short t rest i (handling u v more) g = g

    frame_short : (number inputs : ℕ) (results : List Slot) (t : Term) (i : ℕ) (x : Term) → IsShort x → IsShort (around h f s (frame number inputs results t) i x).term
    frame_short number inputs results t i done g = tt
    frame_short number inputs results t i (leaf r) g = framed_short number inputs results (leaf r) g
    frame_short number inputs results t i (wait left at) g = framed_short number inputs results (wait left at) g
    frame_short number inputs results t i (sequence u more) g = framed_short number inputs results (sequence u more) g
    frame_short number inputs results t i (parallel us) g = framed_short number inputs results (parallel us) g
    frame_short number inputs results t i (select us) g = framed_short number inputs results (select us) g
    frame_short number inputs results t i (guarded test at u) g = framed_short number inputs results (guarded test at u) g
    frame_short number inputs results t i (frame inner ins outs u) g = framed_short number inputs results (frame inner ins outs u) g
    frame_short number inputs results t i (abort u v) g = framed_short number inputs results (abort u v) g
    frame_short number inputs results t i (idle u v more) g = framed_short number inputs results (idle u v more) g
    frame_short number inputs results t i (handling u v more) g = framed_short number inputs results (handling u v more) g

    around_short : (t : Term) (i : ℕ) (x : Term) → IsShort t → IsShort x → IsShort (around h f s t i x).term
    around_short done i x k g = tt
    around_short (leaf r) i x k g = tt
    around_short (wait left at) i x k g = k
    around_short (sequence t rest) i x k g = sequence_short t rest i x g
    around_short (parallel ts) i x k g = joined_short (replaced ts i x) (replaced_short ts i x k g)
    around_short (select ts) i x k g = g
    around_short (guarded test at t) i x k g = g
    around_short (frame number inputs results t) i x k g = frame_short number inputs results t i x g
    around_short (abort t u) zero x k g = aborted_short u x k.1 g
    around_short (abort t u) (suc i) x k g = g
    around_short (idle t u again) zero x k g = interrupted_short u again x k.1 g
    around_short (idle t u again) (suc i) x k g = handled_short t again x k.0 g
    around_short (handling t u again) i x k g = handled_short t again x k.0 g

pub residual_short : (h : Home) (f : ℕ) (t : Term) (place : Place) (x : Process) → IsShort t → IsShort x.term → IsShort (residual h f t place x).term
residual_short h f t [] x k g = g
residual_short h f t (i ∷ place) x k g =
    let inner = residual h (frame_in t f) (child t i) place x in
    around_short h inner.state f t i inner.term k (residual_short h (frame_in t f) (child t i) place x (child_short t i k) g)
