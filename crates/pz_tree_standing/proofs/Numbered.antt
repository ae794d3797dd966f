-- Each number is open once at most: what opens has one that is free.
use Rattle.std.proofs.Common.{◌≡◌, ◌≤◌, ◌+◌, ℕ, zero, suc, Bool, true, false, eqb, nat_eq, List, [], ◌∷◌, Option, Some, None, refl, sym, ap, ◌∙◌, subst, arith, eq-eqb}
use Rattle.std.specs.Prelude.{if◌then◌else◌, map}
use Rattle.std.proofs.lemmas.Bool.{ne_eqb, eqb-true}
use Rattle.pz_rules.specs.pz_syntax.Expressions as expression
use Rattle.pz_rules.specs.pz_syntax.Statements as statement
use Rattle.pz_rules.specs.pz_syntax.Statements.{Branches, no_branches, branch, no_statements, then}
use Rattle.pz_rules.specs.pz_value.declared.value.ClassId.{ClassId}
use Rattle.pz_rules.specs.pz_value.declared.value.Value.{Value}
use Rattle.pz_rules.specs.pz_classes_code.declared.slot.Slot.{Slot}
use Rattle.pz_rules.specs.pz_classes_rules.Bodies.{BodyTree, data_body, process_body}
use Rattle.pz_rules.specs.pz_state.States.{StateView, Frames, locals_in, nils}
use Rattle.pz_rules.specs.pz_state.States as states
use Rattle.pz_rules.specs.declared.limits.Edition.{Edition}
use Rattle.pz_rules.specs.declared.limits.Edition.TheVariants.{One, Two}
use Rattle.pz_rules.specs.Terms.{Step, Steps}
use Rattle.pz_rules.specs.Settings.{Process, Home}
use Rattle.pz_rules.specs.FrameNumbers.{least_free}
use Rattle.pz_rules.specs.Laws.{NumbersAreFree}
use Rattle.pz_rules.specs.Opening.{step_opened, steps_opened, branches_opened, called_body, by_body, entered_to, depth_of, enter_in, enter, opened}
use Rattle.pz_tree_standing.specs.FrameCounts.{count_in}
use Rattle.pz_tree_standing.specs.Frames.{open_as}
use Rattle.pz_tree_standing.proofs.Opening.{frame_counted}

abbrev pub Once : StateView → Type 0
Once s = (n : ℕ) → open_as n s ≤ 1

-- what is not found is not there
free_counted : (n : ℕ) (fs : Frames) → locals_in fs n ≡ None → count_in n (map (λ f. f.0) fs) ≡ 0
free_counted n [] e = refl
free_counted n (f ∷ fs) e = by (nat_eq f.0 n) refl e (free_counted n fs)
  where
    by : (b : Bool) → nat_eq f.0 n ≡ b → (if b then Some f.1 else locals_in fs n) ≡ None → (locals_in fs n ≡ None → count_in n (map (λ g. g.0) fs) ≡ 0) → (if eqb n f.0 then 1 else 0) + count_in n (map (λ g. g.0) fs) ≡ 0
    by true is e others = absurd cc
    by false is e others =
        let apart : eqb n f.0 ≡ false = ne_eqb n f.0 (λ (same : n ≡ f.0). let met : eqb f.0 n ≡ true = eq-eqb f.0 n (sym same) in cc) in
        let further = others e in
        rw apart (omega (arith, further))

module _ (free : NumbersAreFree) where
  numbered_once : (s : StateView) (count : ℕ) → Once s → Once (states.opened s (least_free s.frames) count)
  numbered_once s count once n = by (eqb n (least_free s.frames)) refl (frame_counted n (least_free s.frames) (nils count) s.frames)
    where
      by : (b : Bool) → eqb n (least_free s.frames) ≡ b → open_as n (states.opened s (least_free s.frames) count) ≡ (if b then 1 else 0) + open_as n s → open_as n (states.opened s (least_free s.frames) count) ≤ 1
      by true is counted =
          let same : n ≡ least_free s.frames = eqb-true n (least_free s.frames) is in
          let none : open_as n s ≡ 0 = subst (λ k. open_as k s ≡ 0) (sym same) (free_counted (least_free s.frames) s.frames (free s.frames).free) in
          omega (arith, counted, none)
      by false is counted = let before = once n in omega (arith, counted, before)

  module _ (enters : Step → StateView → Process) (keeps : (t : Step) (s : StateView) → Once s → Once (enters t s).state) where
    mutual
      step_once : (t : Step) (s : StateView) → Once s → Once (step_opened enters t s).state
      step_once (statement.bracketed at ts) s once = steps_once ts s once
      step_once (statement.guarded at e t) s once = step_once t s once
      step_once (statement.parallel at bs) s once = branches_once bs s once
      step_once (statement.select at bs) s once = branches_once bs s once
      step_once (statement.abort at ts t) s once = step_once t (steps_opened enters ts s).state (steps_once ts s once)
      step_once (statement.interrupt at ts t) s once = step_once t (steps_opened enters ts s).state (steps_once ts s once)
      step_once (statement.call at method expression.none []) s once = keeps (statement.call at method expression.none []) s once
      step_once (statement.call at method expression.none (x ∷ xs)) s once = once
      step_once (statement.call at method (expression.more e es) results) s once = once
      step_once (statement.skip at) s once = once
      step_once (statement.delay at e) s once = once
      step_once (statement.block at es) s once = once
      step_once (statement.conditional at e ts other) s once = once
      step_once (statement.repeated at e ts) s once = once
      step_once (statement.send at port name args after) s once = once
      step_once (statement.receive at port name into condition after) s once = once
      step_once (statement.assignment at x e) s once = once
      step_once (statement.value at e) s once = once

      steps_once : (ts : Steps) (s : StateView) → Once s → Once (steps_opened enters ts s).state
      steps_once no_statements s once = once
      steps_once ((then) t no_statements) s once = step_once t s once
      steps_once ((then) t ((then) r rest)) s once = step_once t s once

      branches_once : (bs : Branches Slot ClassId ℕ) (s : StateView) → Once s → Once (branches_opened enters bs s).state
      branches_once no_branches s once = once
      branches_once (branch ts bs) s once = branches_once bs (steps_opened enters ts s).state (steps_once ts s once)

  body_once : (b : Option BodyTree) (opens : Steps → StateView → Process) → ((ts : Steps) (s : StateView) → Once s → Once (opens ts s).state) → (t : Step) (s : StateView) → Once s → Once (by_body b opens t s).state
  body_once None opens h t s once = once
  body_once (Some (data_body count body)) opens h t s once = once
  body_once (Some (process_body count body)) opens h t s once = h body (states.opened s (least_free s.frames) count) (numbered_once s count once)

  module _ (h : Home) where
    entered_once : (depth : ℕ) (t : Step) (s : StateView) → Once s → Once (entered_to h depth t s).state
    entered_once zero t s once = once
    entered_once (suc depth) (statement.call at method args results) s once = body_once (called_body h method) (steps_opened (entered_to h depth)) (steps_once (entered_to h depth) (entered_once depth)) (statement.call at method args results) s once
    entered_once (suc depth) (statement.bracketed at ts) s once = once
    entered_once (suc depth) (statement.guarded at e t) s once = once
    entered_once (suc depth) (statement.parallel at bs) s once = once
    entered_once (suc depth) (statement.select at bs) s once = once
    entered_once (suc depth) (statement.abort at ts t) s once = once
    entered_once (suc depth) (statement.interrupt at ts t) s once = once
    entered_once (suc depth) (statement.skip at) s once = once
    entered_once (suc depth) (statement.delay at e) s once = once
    entered_once (suc depth) (statement.block at es) s once = once
    entered_once (suc depth) (statement.conditional at e ts other) s once = once
    entered_once (suc depth) (statement.repeated at e ts) s once = once
    entered_once (suc depth) (statement.send at port name args after) s once = once
    entered_once (suc depth) (statement.receive at port name into condition after) s once = once
    entered_once (suc depth) (statement.assignment at x e) s once = once
    entered_once (suc depth) (statement.value at e) s once = once

    by_once : (e : Edition) (t : Step) (s : StateView) → Once s → Once (enter_in e h t s).state
    by_once One t s once = once
    by_once Two t s once = entered_once (depth_of h.model) t s once

    pub opened_once : (t : Step) (s : StateView) → Once s → Once (opened h t s).state
    opened_once t s once = step_once (enter h) (by_once h.edition) t s once
