-- What opens has no delay that has begun.
use Rattle.std.proofs.Common.{ℕ, zero, suc, [], ◌∷◌, Option, Some, None}
use Rattle.pz_classes_code.specs.pz_syntax.Expressions as expression
use Rattle.pz_classes_code.specs.pz_syntax.Statements as statement
use Rattle.pz_classes_code.specs.pz_syntax.Statements.{Branches, no_branches, branch, no_statements, then}
use Rattle.pz_classes_code.specs.pz_value.declared.value.ClassId.{ClassId}
use Rattle.pz_classes_code.specs.declared.slot.Slot.{Slot}
use Rattle.pz_rules.specs.pz_classes_rules.Bodies.{BodyTree, data_body, process_body}
use Rattle.pz_rules.specs.pz_state.States.{StateView, opened as with_frame}
use Rattle.pz_rules.specs.declared.limits.Edition.{Edition}
use Rattle.pz_rules.specs.declared.limits.Edition.TheVariants.{One, Two}
use Rattle.pz_rules.specs.Terms.{Step, Steps, Term, done, leaf, wait, sequence, parallel, select, guarded, frame, abort, idle, handling}
use Rattle.pz_rules.specs.Settings.{Process, Home}
use Rattle.pz_rules.specs.FrameNumbers.{least_free}
use Rattle.pz_rules.specs.Framing.{framed}
use Rattle.pz_rules.specs.Opening.{step_opened, steps_opened, branches_opened, called_body, by_body, entered_to, depth_of, enter_in, enter, opened, opened_all}
use Rattle.pz_tree_nodes.specs.Planting.{EndsInTime, EndInTime}

module _ (c : ℕ) where
  module _ (enters : Step → StateView → Process) (calm : (t : Step) (s : StateView) → EndsInTime c (enters t s).term) where
    mutual
      step_calm : (t : Step) (s : StateView) → EndsInTime c (step_opened enters t s).term
      step_calm (statement.bracketed at ts) s = steps_calm ts s
      step_calm (statement.guarded at e t) s = step_calm t s
      step_calm (statement.parallel at bs) s = branches_calm bs s
      step_calm (statement.select at bs) s = branches_calm bs s
      step_calm (statement.abort at ts t) s = (steps_calm ts s, step_calm t (steps_opened enters ts s).state)
      step_calm (statement.interrupt at ts t) s = (steps_calm ts s, step_calm t (steps_opened enters ts s).state)
      step_calm (statement.call at method expression.none []) s = calm (statement.call at method expression.none []) s
      step_calm (statement.call at method expression.none (x ∷ xs)) s = tt
      step_calm (statement.call at method (expression.more e es) results) s = tt
      step_calm (statement.skip at) s = tt
      step_calm (statement.delay at e) s = tt
      step_calm (statement.block at es) s = tt
      step_calm (statement.conditional at e ts other) s = tt
      step_calm (statement.repeated at e ts) s = tt
      step_calm (statement.send at port name args after) s = tt
      step_calm (statement.receive at port name into condition after) s = tt
      step_calm (statement.assignment at x e) s = tt
      step_calm (statement.value at e) s = tt

      steps_calm : (ts : Steps) (s : StateView) → EndsInTime c (steps_opened enters ts s).term
      steps_calm no_statements s = tt
      steps_calm ((then) t no_statements) s = step_calm t s
      steps_calm ((then) t ((then) r rest)) s = step_calm t s

      branches_calm : (bs : Branches Slot ClassId ℕ) (s : StateView) → EndInTime c (branches_opened enters bs s).terms
      branches_calm no_branches s = tt
      branches_calm (branch ts bs) s = (steps_calm ts s, branches_calm bs (steps_opened enters ts s).state)

  framed_calm : (number : ℕ) (t : Term) → EndsInTime c t → EndsInTime c (framed number 0 [] t)
  framed_calm number (frame inner inputs [] t) h = h
  framed_calm number (frame inner inputs (r ∷ rs) t) h = h
  framed_calm number done h = h
  framed_calm number (leaf s) h = h
  framed_calm number (wait left at) h = h
  framed_calm number (sequence t rest) h = h
  framed_calm number (parallel ts) h = h
  framed_calm number (select ts) h = h
  framed_calm number (guarded test at t) h = h
  framed_calm number (abort t u) h = h
  framed_calm number (idle t u again) h = h
  framed_calm number (handling t u again) h = h

  body_calm : (b : Option BodyTree) (opens : Steps → StateView → Process) → ((ts : Steps) (s : StateView) → EndsInTime c (opens ts s).term) → (t : Step) (s : StateView) → EndsInTime c (by_body b opens t s).term
  body_calm None opens h t s = tt
  body_calm (Some (process_body locals body)) opens h t s =
      let number = least_free s.frames in
      framed_calm number (opens body (with_frame s number locals)).term (h body (with_frame s number locals))
  body_calm (Some (data_body locals body)) opens h t s = tt

  module _ (h : Home) where
    entered_calm : (depth : ℕ) (t : Step) (s : StateView) → EndsInTime c (entered_to h depth t s).term
    entered_calm zero t s = tt
    entered_calm (suc depth) (statement.call at method args results) s = body_calm (called_body h method) (steps_opened (entered_to h depth)) (steps_calm (entered_to h depth) (entered_calm depth)) (statement.call at method args results) s
    entered_calm (suc depth) (statement.bracketed at ts) s = tt
    entered_calm (suc depth) (statement.guarded at e t) s = tt
    entered_calm (suc depth) (statement.parallel at bs) s = tt
    entered_calm (suc depth) (statement.select at bs) s = tt
    entered_calm (suc depth) (statement.abort at ts t) s = tt
    entered_calm (suc depth) (statement.interrupt at ts t) s = tt
    entered_calm (suc depth) (statement.skip at) s = tt
    entered_calm (suc depth) (statement.delay at e) s = tt
    entered_calm (suc depth) (statement.block at es) s = tt
    entered_calm (suc depth) (statement.conditional at e ts other) s = tt
    entered_calm (suc depth) (statement.repeated at e ts) s = tt
    entered_calm (suc depth) (statement.send at port name args after) s = tt
    entered_calm (suc depth) (statement.receive at port name into condition after) s = tt
    entered_calm (suc depth) (statement.assignment at x e) s = tt
    entered_calm (suc depth) (statement.value at e) s = tt

    by_edition : (e : Edition) (t : Step) (s : StateView) → EndsInTime c (enter_in e h t s).term
    by_edition One t s = tt
    by_edition Two t s = entered_calm (depth_of h.model) t s

    pub opened_calm : (t : Step) (s : StateView) → EndsInTime c (opened h t s).term
    opened_calm = step_calm (enter h) (by_edition h.edition)

    pub opened_all_calm : (ts : Steps) (s : StateView) → EndsInTime c (opened_all h ts s).term
    opened_all_calm = steps_calm (enter h) (by_edition h.edition)
