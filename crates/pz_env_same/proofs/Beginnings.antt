-- Where the plain calls with which statements begin open the same in two ways, so do the statements.
use Rattle.std.proofs.Common.{◌≡◌, refl, ap, ◌∙◌, ℕ, List, [], ◌∷◌, ◌++◌}
use Rattle.std.specs.List.{AllByRecursion}
use Rattle.pz_rules.specs.pz_syntax.declared.tokens.Pos.{Pos}
use Rattle.pz_rules.specs.pz_syntax.declared.names.Id.{Id}
use Rattle.pz_rules.specs.pz_syntax.Expressions.{none, more}
use Rattle.pz_rules.specs.pz_syntax.Statements.{skip, delay, bracketed, block, guarded, parallel, select, conditional, repeated, abort, interrupt, send, receive, call, assignment, value, no_statements, then, Branches, no_branches, branch}
use Rattle.pz_rules.specs.pz_value.declared.value.ClassId.{ClassId}
use Rattle.pz_rules.specs.pz_classes_code.declared.slot.Slot.{Slot}
use Rattle.pz_classes_beginnings.specs.Beginning.{begun, begun_all, begun_each}
use Rattle.pz_rules.specs.pz_state.States.{StateView, opened as with_frame}
use Rattle.pz_rules.specs.Terms as terms
use Rattle.pz_rules.specs.Terms.{Step, Steps, Terms, and}
use Rattle.pz_rules.specs.Settings.{Process, left_by}
use Rattle.pz_rules.specs.FrameNumbers.{least_free}
use Rattle.pz_rules.specs.Framing.{framed}
use Rattle.pz_rules.specs.Opening.{Beside, step_opened, steps_opened, branches_opened, in_frame}
use Rattle.pz_rules.specs.CallLaws.{plain_call}

module _ (P : Id → Type 0) where
  front : (xs ys : List Id) → AllByRecursion P (xs ++ ys) → AllByRecursion P xs
  front [] ys h = tt
  front (x ∷ xs) ys h = (h.0, front xs ys h.1)

  back : (xs ys : List Id) → AllByRecursion P (xs ++ ys) → AllByRecursion P ys
  back [] ys h = h
  back (x ∷ xs) ys h = back xs ys h.1

module _ (enter other : Step → StateView → Process) where
  abbrev pub Same : Id → Type 0
  Same x = (pos : Pos) (s : StateView) → enter (plain_call pos x) s ≡ other (plain_call pos x) s

  abbrev beside : StateView → Terms → Beside
  beside s ts = record { terms = ts; state = s }

  mutual
    pub step_same : (r : Step) → AllByRecursion Same (begun r) → (s : StateView) → step_opened enter r s ≡ step_opened other r s
    step_same (bracketed at ts) h s = steps_same ts h s
    step_same (guarded at e t) h s = ap (λ (x : Process). left_by x.state (terms.guarded e at x.term)) (step_same t h s)
    step_same (parallel at bs) h s = ap (λ (xs : Beside). left_by xs.state (terms.parallel xs.terms)) (branches_same bs h s)
    step_same (select at bs) h s = ap (λ (xs : Beside). left_by xs.state (terms.select xs.terms)) (branches_same bs h s)
    step_same (abort at ts t) h s =
        ap (λ (x : Process). let y = step_opened enter t x.state in left_by y.state (terms.abort x.term y.term)) (steps_same ts (front Same (begun_all ts) (begun t) h) s)
        ∙ ap (λ (y : Process). left_by y.state (terms.abort (steps_opened other ts s).term y.term)) (step_same t (back Same (begun_all ts) (begun t) h) (steps_opened other ts s).state)
    step_same (interrupt at ts t) h s =
        ap (λ (x : Process). let y = step_opened enter t x.state in left_by y.state (terms.idle x.term y.term t)) (steps_same ts (front Same (begun_all ts) (begun t) h) s)
        ∙ ap (λ (y : Process). left_by y.state (terms.idle (steps_opened other ts s).term y.term t)) (step_same t (back Same (begun_all ts) (begun t) h) (steps_opened other ts s).state)
    step_same (call at method none []) h s = h.0 at s
    step_same (call at method none (x ∷ xs)) h s = refl
    step_same (call at method (more e es) results) h s = refl
    step_same (skip at) h s = refl
    step_same (delay at e) h s = refl
    step_same (block at es) h s = refl
    step_same (conditional at e ts rest) h s = refl
    step_same (repeated at e ts) h s = refl
    step_same (send at port name args after) h s = refl
    step_same (receive at port name into condition after) h s = refl
    step_same (assignment at x e) h s = refl
    step_same (value at e) h s = refl

    pub steps_same : (ts : Steps) → AllByRecursion Same (begun_all ts) → (s : StateView) → steps_opened enter ts s ≡ steps_opened other ts s
    steps_same no_statements h s = refl
    steps_same ((then) r no_statements) h s = step_same r h s
    steps_same ((then) r ((then) q rest)) h s = ap (λ (x : Process). left_by x.state (terms.sequence x.term ((then) q rest))) (step_same r h s)

    branches_same : (bs : Branches Slot ClassId ℕ) → AllByRecursion Same (begun_each bs) → (s : StateView) → branches_opened enter bs s ≡ branches_opened other bs s
    branches_same no_branches h s = refl
    branches_same (branch ts bs) h s =
        ap (λ (x : Process). let xs = branches_opened enter bs x.state in beside xs.state (and x.term xs.terms)) (steps_same ts (front Same (begun_all ts) (begun_each bs) h) s)
        ∙ ap (λ (xs : Beside). beside xs.state (and (steps_opened other ts s).term xs.terms)) (branches_same bs (back Same (begun_all ts) (begun_each bs) h) (steps_opened other ts s).state)

-- a frame round what opens the same
pub framed_same : (locals : ℕ) (inside other : StateView → Process) (s : StateView)
    → inside (with_frame s (least_free s.frames) locals) ≡ other (with_frame s (least_free s.frames) locals) → in_frame locals inside s ≡ in_frame locals other s
framed_same locals inside other s same = ap (λ (x : Process). left_by x.state (framed (least_free s.frames) 0 [] x.term)) same
