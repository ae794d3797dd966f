-- But for the numbers of frames, what statements open as is computed without a state.
use Rattle.std.proofs.Common.{◌≡◌, refl, sym, ap, ◌∙◌, ℕ, zero, suc, max, List, [], ◌∷◌, Option, Some, None}
use Rattle.pz_bind_rules.specs.pz_syntax.declared.tokens.Pos.{Pos}
use Rattle.pz_bind_rules.specs.pz_syntax.declared.names.Id.{Id}
use Rattle.pz_bind_rules.specs.pz_syntax.Expressions.{none, more}
use Rattle.pz_bind_rules.specs.pz_syntax.Statements.{skip, delay, bracketed, block, guarded, parallel, select, conditional, repeated, abort, interrupt, send, receive, call, assignment, value, no_statements, then, Branches, no_branches, branch}
use Rattle.pz_bind_rules.specs.pz_value.declared.value.ClassId.{ClassId}
use Rattle.pz_bind_rules.specs.pz_classes_code.declared.slot.Slot.{Slot}
use Rattle.pz_bind_rules.specs.pz_classes_rules.Bodies.{BodyTree, data_body, process_body}
use Rattle.pz_offer.specs.pz_state.States.{StateView, initial, opened as with_frame}
use Rattle.pz_rules.specs.declared.limits.Edition.{Edition}
use Rattle.pz_rules.specs.declared.limits.Edition.TheVariants.{One, Two}
use Rattle.pz_rules.specs.Terms as terms
use Rattle.pz_rules.specs.Terms.{Step, Steps, Term, done, leaf, wait, sequence, frame, idle, handling, Terms, no_terms, and, height, greatest_height}
use Rattle.pz_rules.specs.Settings.{Process, Home}
use Rattle.pz_rules.specs.FrameNumbers.{least_free}
use Rattle.pz_rules.specs.Framing.{framed}
use Rattle.pz_rules.specs.Leaving.{is_done}
use Rattle.pz_rules.specs.Opening.{step_opened, steps_opened, branches_opened, in_frame, called_body, by_body, entered_to, depth_of, enter_in, opened_all}
use Rattle.pz_rules.specs.Openable.{alone}
use Rattle.pz_rules.specs.CallLaws.{plain_call, CallsUnfold, CallsStand, CallsOfNoneStand}
use Rattle.pz_rules.specs.devices.Outlines.{outline, outline_each, step_outlined, steps_outlined, branches_outlined, by_body_outlined, outlined_to, outlined_in, outlined_all, OpeningsHaveOutlines, OutlinesUnfold, OutlinesOfNone, OutlinesInOne}

-- where plain calls have outlines, so have statements
module _ (enter : Step → StateView → Process) (flat : Step → Term) (calls : (pos : Pos) (x : Id) (s : StateView) → outline (enter (plain_call pos x) s).term ≡ flat (plain_call pos x)) where
  mutual
    step_outlines : (r : Step) (s : StateView) → outline (step_opened enter r s).term ≡ step_outlined flat r
    step_outlines (bracketed at ts) s = steps_outline ts s
    step_outlines (guarded at e t) s = ap (λ (x : Term). terms.guarded e at x) (step_outlines t s)
    step_outlines (parallel at bs) s = ap terms.parallel (branches_outline bs s)
    step_outlines (select at bs) s = ap terms.select (branches_outline bs s)
    step_outlines (abort at ts t) s =
        ap (λ (x : Term). terms.abort x (outline (step_opened enter t (steps_opened enter ts s).state).term)) (steps_outline ts s)
        ∙ ap (terms.abort (steps_outlined flat ts)) (step_outlines t (steps_opened enter ts s).state)
    step_outlines (interrupt at ts t) s =
        ap (λ (x : Term). idle x (outline (step_opened enter t (steps_opened enter ts s).state).term) t) (steps_outline ts s)
        ∙ ap (λ (y : Term). idle (steps_outlined flat ts) y t) (step_outlines t (steps_opened enter ts s).state)
    step_outlines (call at method none []) s = calls at method s
    step_outlines (call at method none (x ∷ xs)) s = refl
    step_outlines (call at method (more e es) results) s = refl
    step_outlines (skip at) s = refl
    step_outlines (delay at e) s = refl
    step_outlines (block at es) s = refl
    step_outlines (conditional at e ts other) s = refl
    step_outlines (repeated at e ts) s = refl
    step_outlines (send at port name args after) s = refl
    step_outlines (receive at port name into condition after) s = refl
    step_outlines (assignment at x e) s = refl
    step_outlines (value at e) s = refl

    steps_outline : (ts : Steps) (s : StateView) → outline (steps_opened enter ts s).term ≡ steps_outlined flat ts
    steps_outline no_statements s = refl
    steps_outline ((then) r no_statements) s = step_outlines r s
    steps_outline ((then) r ((then) q rest)) s = ap (λ (x : Term). sequence x ((then) q rest)) (step_outlines r s)

    branches_outline : (bs : Branches Slot ClassId ℕ) (s : StateView) → outline_each (branches_opened enter bs s).terms ≡ branches_outlined flat bs
    branches_outline no_branches s = refl
    branches_outline (branch ts bs) s =
        ap (λ (x : Term). and x (outline_each (branches_opened enter bs (steps_opened enter ts s).state).terms)) (steps_outline ts s)
        ∙ ap (and (steps_outlined flat ts)) (branches_outline bs (steps_opened enter ts s).state)

-- the outline of a frame round a term
inner_outline : (number inputs : ℕ) (results : List Slot) (inner inner_inputs : ℕ) (inner_results : List Slot) (t : Term)
    → outline (framed number inputs results (frame inner inner_inputs inner_results t)) ≡ framed 0 inputs results (frame 0 inner_inputs inner_results (outline t))
inner_outline number inputs [] inner inner_inputs [] t = refl
inner_outline number inputs [] inner inner_inputs (x ∷ xs) t = refl
inner_outline number inputs (y ∷ ys) inner inner_inputs xs t = refl

framed_outline : (number inputs : ℕ) (results : List Slot) (x : Term) → outline (framed number inputs results x) ≡ framed 0 inputs results (outline x)
framed_outline number inputs results (frame inner inner_inputs inner_results t) = inner_outline number inputs results inner inner_inputs inner_results t
framed_outline number inputs [] x = refl
framed_outline number inputs (y ∷ ys) x = refl

in_frame_outline : (locals : ℕ) (inside : StateView → Process) (flat : Term) (s : StateView) → ((u : StateView) → outline (inside u).term ≡ flat) → outline (in_frame locals inside s).term ≡ framed 0 0 [] flat
in_frame_outline locals inside flat s same =
    let u = with_frame s (least_free s.frames) locals in
    framed_outline (least_free s.frames) 0 [] (inside u).term ∙ ap (framed 0 0 []) (same u)

module _ (h : Home) where
  entered_outlines : (depth : ℕ) (pos : Pos) (x : Id) (s : StateView) → outline (entered_to h depth (plain_call pos x) s).term ≡ outlined_to h depth (plain_call pos x)
  entered_outlines zero pos x s = refl
  entered_outlines (suc depth) pos x s = by_found (called_body h x) (λ at y u. entered_outlines depth at y u)
    where
      by_found : (o : Option BodyTree) → ((at : Pos) (y : Id) (u : StateView) → outline (entered_to h depth (plain_call at y) u).term ≡ outlined_to h depth (plain_call at y))
          → outline (by_body o (steps_opened (entered_to h depth)) (plain_call pos x) s).term ≡ by_body_outlined o (steps_outlined (outlined_to h depth)) (plain_call pos x)
      by_found None below = refl
      by_found (Some (data_body locals e)) below = refl
      by_found (Some (process_body locals body)) below =
          in_frame_outline locals (steps_opened (entered_to h depth) body) (steps_outlined (outlined_to h depth) body) s
          (λ u. steps_outline (entered_to h depth) (outlined_to h depth) below body u)

  enter_outlines : (e : Edition) (pos : Pos) (x : Id) (s : StateView) → outline (enter_in e h (plain_call pos x) s).term ≡ outlined_in e h (plain_call pos x)
  enter_outlines One pos x s = refl
  enter_outlines Two pos x s = entered_outlines (depth_of h.model) pos x s

pub openings_have_outlines : OpeningsHaveOutlines
openings_have_outlines h ts s = steps_outline (enter_in h.edition h) (outlined_in h.edition h) (enter_outlines h h.edition) ts s

pub outlines_unfold : CallsUnfold → OutlinesUnfold
outlines_unfold calls_unfold h pos method locals body opens is =
    sym (openings_have_outlines h (alone (plain_call pos method)) (initial []))
    ∙ ap (λ (p : Process). outline p.term) (calls_unfold h pos method locals body (initial []) opens is)
    ∙ in_frame_outline locals (opened_all h body) (outlined_all h body) (initial []) (openings_have_outlines h body)

pub outlines_of_none : CallsOfNoneStand → OutlinesOfNone
outlines_of_none stand h pos method is =
    sym (openings_have_outlines h (alone (plain_call pos method)) (initial []))
    ∙ ap (λ (p : Process). outline p.term) (stand h pos method (initial []) is)

pub outlines_in_one : CallsStand → OutlinesInOne
outlines_in_one stand h pos method is =
    sym (openings_have_outlines h (alone (plain_call pos method)) (initial []))
    ∙ ap (λ (p : Process). outline p.term) (stand h pos method (initial []) is)

mutual
  pub as_high : (t : Term) → height (outline t) ≡ height t
  as_high done = refl
  as_high (leaf r) = refl
  as_high (wait left at) = refl
  as_high (sequence t rest) = ap suc (as_high t)
  as_high (terms.parallel ts) = ap suc (each_as_high ts)
  as_high (terms.select ts) = ap suc (each_as_high ts)
  as_high (terms.guarded e at t) = ap suc (as_high t)
  as_high (frame number inputs results t) = ap suc (as_high t)
  as_high (terms.abort t u) = ap (λ (n : ℕ). suc (max n (height (outline u)))) (as_high t) ∙ ap (λ (n : ℕ). suc (max (height t) n)) (as_high u)
  as_high (idle t u again) = ap (λ (n : ℕ). suc (max n (height (outline u)))) (as_high t) ∙ ap (λ (n : ℕ). suc (max (height t) n)) (as_high u)
  as_high (handling t u again) = ap (λ (n : ℕ). suc (max n (height (outline u)))) (as_high t) ∙ ap (λ (n : ℕ). suc (max (height t) n)) (as_high u)

  each_as_high : (ts : Terms) → greatest_height (outline_each ts) ≡ greatest_height ts
  each_as_high no_terms = refl
  each_as_high (and t ts) = ap (λ (n : ℕ). max n (greatest_height (outline_each ts))) (as_high t) ∙ ap (λ (n : ℕ). max (height t) n) (each_as_high ts)

pub as_done : (t : Term) → is_done (outline t) ≡ is_done t
as_done done = refl
as_done t = refl
