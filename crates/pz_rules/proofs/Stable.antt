-- What a plain call opens as does not depend on how deep calls are followed, once that is deep enough.
use Rattle.std.proofs.Common.{◌≡◌, refl, sym, ap, subst, ◌∙◌, ◌≤◌, ℕ, zero, suc, List, [], ◌∷◌, ◌++◌, Option, Some, None, arith, Contains}
use Rattle.std.specs.List.{AllByRecursion}
use Rattle.pz_bind_rules.specs.pz_syntax.declared.tokens.Pos.{Pos}
use Rattle.pz_bind_rules.specs.pz_syntax.declared.names.Id.{Id}
use Rattle.pz_bind_rules.specs.pz_syntax.Expressions.{none, more}
use Rattle.pz_bind_rules.specs.pz_syntax.Classes.{ModelTree}
use Rattle.pz_bind_rules.specs.pz_syntax.Statements.{skip, delay, bracketed, block, guarded, parallel, select, conditional, repeated, abort, interrupt, send, receive, call, assignment, value, no_statements, then, Branches, no_branches, branch}
use Rattle.pz_bind_rules.specs.pz_value.declared.value.ClassId.{ClassId}
use Rattle.pz_bind_rules.specs.pz_classes_code.declared.slot.Slot.{Slot}
use Rattle.pz_bind_rules.specs.pz_classes_rules.Bodies.{BodyTree, data_body, process_body}
use Rattle.pz_bind_rules.specs.pz_classes_rules.FitBodies.{StatementFits, StatementsFit, BranchesFit}
use Rattle.pz_bind_rules.specs.pz_classes_rules.MethodBodies.{HasBody}
use Rattle.pz_bind_rules.specs.pz_classes_rules.Methods.{method_id}
use Rattle.pz_bind_rules.specs.pz_classes_rules.SoundBodies.{BodiesFit, SoundBodiesFit}
use Rattle.pz_classes_beginnings.specs.Beginning.{begun, begun_all, begun_each}
use Rattle.pz_classes_openings.specs.Openings.{called}
use Rattle.pz_offer.specs.pz_state.States.{StateView, opened as with_frame}
use Rattle.pz_rules.specs.declared.limits.Edition.{Edition}
use Rattle.pz_rules.specs.declared.limits.Edition.TheVariants.{One, Two}
use Rattle.pz_rules.specs.Terms as terms
use Rattle.pz_rules.specs.Terms.{Step, Steps, Terms, and}
use Rattle.pz_rules.specs.Settings.{Process, left_by, Home}
use Rattle.pz_rules.specs.FrameNumbers.{least_free}
use Rattle.pz_rules.specs.Framing.{framed}
use Rattle.pz_rules.specs.Opening.{Beside, step_opened, steps_opened, branches_opened, in_frame, called_body, by_body, entered_to, depth_of, enter_in}
use Rattle.pz_rules.specs.Shallow.{Shallow}
use Rattle.pz_rules.specs.CallLaws.{plain_call, OpensCalls, CallsUnfold, CallsStand, CallsOfNoneStand}
use Rattle.pz_rules.proofs.Named.{plain, call_means}
use Rattle.pz_rules.proofs.Deep.{has_called, methods_are_shallow}

module _ (P : Id → Type 0) where
  front : (xs ys : List Id) → AllByRecursion P (xs ++ ys) → AllByRecursion P xs
  front [] ys h = tt
  front (x ∷ xs) ys h = (h.0, front xs ys h.1)

  back : (xs ys : List Id) → AllByRecursion P (xs ++ ys) → AllByRecursion P ys
  back [] ys h = h
  back (x ∷ xs) ys h = back xs ys h.1

  joined : (xs ys : List Id) → AllByRecursion P xs → AllByRecursion P ys → AllByRecursion P (xs ++ ys)
  joined [] ys h k = k
  joined (x ∷ xs) ys h k = (h.0, joined xs ys h.1 k)

pub each_map : (P Q : Id → Type 0) → ((x : Id) → P x → Q x) → (xs : List Id) → AllByRecursion P xs → AllByRecursion Q xs
each_map P Q f [] h = tt
each_map P Q f (x ∷ xs) h = (f x h.0, each_map P Q f xs h.1)

both_of : (P Q : Id → Type 0) (xs : List Id) → AllByRecursion P xs → ((x : Id) → Contains xs x → Q x) → AllByRecursion (λ x. P x × Q x) xs
both_of P Q [] h f = tt
both_of P Q (x ∷ xs) h f = ((h.0, f x (0, omega arith, refl)), both_of P Q xs h.1 (λ y at. f y (suc at.0, (let low = at.1 in omega (arith, low)), at.2)))

-- where the plain calls with which statements begin open the same in two ways, so do the statements
module _ (enter other : Step → StateView → Process) where
  abbrev Same : Id → Type 0
  Same x = (pos : Pos) (s : StateView) → enter (call pos x none []) s ≡ other (call pos x none []) s

  abbrev beside : StateView → Terms → Beside
  beside s ts = record { terms = ts; state = s }

  mutual
    step_same : (r : Step) → AllByRecursion Same (begun r) → (s : StateView) → step_opened enter r s ≡ step_opened other r s
    step_same (bracketed at ts) h s = steps_same ts h s
    step_same (guarded at e t) h s = ap (λ (x : Process). left_by x.state (terms.guarded e at x.term)) (step_same t h s)
    step_same (parallel at bs) h s = ap (λ (xs : Beside). left_by xs.state (terms.parallel xs.terms)) (branches_same bs h s)
    step_same (select at bs) h s = ap (λ (xs : Beside). left_by xs.state (terms.select xs.terms)) (branches_same bs h s)
    step_same (abort at ts t) h s =
        ap (λ (x : Process). let y = step_opened enter t x.state in left_by y.state (terms.abort x.term y.term)) (steps_same ts (front Same (begun_all ts) (begun t) h) s)
        ∙ ap (λ (y : Process). left_by y.state (terms.abort (steps_opened other ts s).term y.term)) (step_same t (back Same (begun_all ts) (begun t) h) (steps_opened other ts s).state)
    step_same (interrupt at ts t) h s =
        ap (λ (x : Process). let y = step_opened enter t x.state in left_by y.state (terms.idle x.term y.term t)) (steps_same ts (front Same (begun_all ts) (begun t) h) s)
        ∙ ap (λ (y : Process). left_by y.state (terms.idle (steps_opened other ts s).term y.term t)) (step_same t (back Same (begun_all ts) (begun t) h) (steps_opened other ts s).state)
    step_same (call at method none []) h s = h.0 at s
    step_same (call at method none (x ∷ xs)) h s = refl
    step_same (call at method (more e es) results) h s = refl
    step_same (skip at) h s = refl
    step_same (delay at e) h s = refl
    step_same (block at es) h s = refl
    step_same (conditional at e ts rest) h s = refl
    step_same (repeated at e ts) h s = refl
    step_same (send at port name args after) h s = refl
    step_same (receive at port name into condition after) h s = refl
    step_same (assignment at x e) h s = refl
    step_same (value at e) h s = refl

    pub steps_same : (ts : Steps) → AllByRecursion Same (begun_all ts) → (s : StateView) → steps_opened enter ts s ≡ steps_opened other ts s
    steps_same no_statements h s = refl
    steps_same ((then) r no_statements) h s = step_same r h s
    steps_same ((then) r ((then) q rest)) h s = ap (λ (x : Process). left_by x.state (terms.sequence x.term ((then) q rest))) (step_same r h s)

    branches_same : (bs : Branches Slot ClassId ℕ) → AllByRecursion Same (begun_each bs) → (s : StateView) → branches_opened enter bs s ≡ branches_opened other bs s
    branches_same no_branches h s = refl
    branches_same (branch ts bs) h s =
        ap (λ (x : Process). let xs = branches_opened enter bs x.state in beside xs.state (and x.term xs.terms)) (steps_same ts (front Same (begun_all ts) (begun_each bs) h) s)
        ∙ ap (λ (xs : Beside). beside xs.state (and (steps_opened other ts s).term xs.terms)) (branches_same bs (back Same (begun_all ts) (begun_each bs) h) (steps_opened other ts s).state)

-- a frame round statements that open the same
framed_same : (locals : ℕ) (inside other : StateView → Process) (s : StateView) → inside (with_frame s (least_free s.frames) locals) ≡ other (with_frame s (least_free s.frames) locals) → in_frame locals inside s ≡ in_frame locals other s
framed_same locals inside other s same = ap (λ (x : Process). left_by x.state (framed (least_free s.frames) 0 [] x.term)) same

module _ (m : ModelTree) (c : ℕ) where
  abbrev pub Has : Id → Type 0
  Has x = HasBody m c (plain x)

  -- the class has the methods that are called where what fits it begins
  mutual
    begun_have : (l : ℕ) (t : Step) → StatementFits m c l t → AllByRecursion Has (begun t)
    begun_have l (bracketed at ts) h = all_begun_have l ts h
    begun_have l (guarded at e t) h = begun_have l t h.1
    begun_have l (parallel at bs) h = each_begun_have l bs h
    begun_have l (select at bs) h = each_begun_have l bs h
    begun_have l (abort at ts t) h = joined Has (begun_all ts) (begun t) (all_begun_have l ts h.0) (begun_have l t h.1)
    begun_have l (interrupt at ts t) h = joined Has (begun_all ts) (begun t) (all_begun_have l ts h.0) (begun_have l t h.1)
    begun_have l (call at method none []) h = (h.0, tt)
    begun_have l (call at method none (x ∷ xs)) h = tt
    begun_have l (call at method (more e es) results) h = tt
    begun_have l (skip at) h = tt
    begun_have l (delay at e) h = tt
    begun_have l (block at es) h = tt
    begun_have l (conditional at e ts rest) h = tt
    begun_have l (repeated at e ts) h = tt
    begun_have l (send at port name args after) h = tt
    begun_have l (receive at port name into condition after) h = tt
    begun_have l (assignment at x e) h = tt
    begun_have l (value at e) h = tt

    all_begun_have : (l : ℕ) (ts : Steps) → StatementsFit m c l ts → AllByRecursion Has (begun_all ts)
    all_begun_have l no_statements h = tt
    all_begun_have l ((then) t ts) h = begun_have l t h.0

    each_begun_have : (l : ℕ) (bs : Branches Slot ClassId ℕ) → BranchesFit m c l bs → AllByRecursion Has (begun_each bs)
    each_begun_have l no_branches h = tt
    each_begun_have l (branch ts bs) h = joined Has (begun_all ts) (begun_each bs) (all_begun_have l ts h.0) (each_begun_have l bs h.1)

module _ (h : Home) (fit : BodiesFit h.model) where
  -- the class has the method that a call of this name means, and that is no deeper
  abbrev pub IsShallow : ℕ → Id → Type 0
  IsShallow n x = Has h.model h.class x × ((l : ℕ) → called h.model h.class x ≡ Some (method_id l) → Shallow h.model h.class n l)

  module _ (n : ℕ) (x : Id) (locals : ℕ) (body : Steps) (deep : IsShallow (suc n) x) (is : called_body h x ≡ Some (process_body locals body)) where
    body_fits : StatementsFit h.model h.class locals body
    body_fits = let all = fit.methods_fit h.class (plain x) (process_body locals body) is in all.1

    -- so are those with which its body begins
    pub begun_shallow : AllByRecursion (IsShallow n) (begun_all body)
    begun_shallow = both_of (Has h.model h.class) (λ y. (l : ℕ) → called h.model h.class y ≡ Some (method_id l) → Shallow h.model h.class n l) (begun_all body) (all_begun_have h.model h.class locals body body_fits) deeper
      where
        deeper : (y : Id) → Contains (begun_all body) y → (l : ℕ) → called h.model h.class y ≡ Some (method_id l) → Shallow h.model h.class n l
        deeper y among l named =
            let means = call_means h.model h.class x locals body deep.0 is in
            deep.1 means.number means.is y l (subst (λ (ys : List Id). Contains ys y) means.begins among) named

  pub not_there : (x : Id) (locals : ℕ) (body : Steps) → IsShallow zero x → called_body h x ≡ Some (process_body locals body) → ⊥
  not_there x locals body deep is = let means = call_means h.model h.class x locals body deep.0 is in deep.1 means.number means.is

  pub stable : (n k : ℕ) (x : Id) → IsShallow n x → n ≤ k → (pos : Pos) (s : StateView) → entered_to h k (plain_call pos x) s ≡ entered_to h n (plain_call pos x) s
  stable zero zero x deep le pos s = refl
  stable zero (suc k) x deep le pos s = by_found (called_body h x) refl
    where
      by_found : (o : Option BodyTree) → called_body h x ≡ o → by_body o (steps_opened (entered_to h k)) (plain_call pos x) s ≡ left_by s (terms.leaf (plain_call pos x))
      by_found None is = refl
      by_found (Some (data_body locals e)) is = refl
      by_found (Some (process_body locals body)) is = absurd (not_there x locals body deep is)
  stable (suc n) zero x deep le pos s = absurd (omega (arith, le))
  stable (suc n) (suc k) x deep le pos s = by_found (called_body h x) refl (λ y shallow at t. stable n k y shallow (omega (arith, le)) at t)
    where
      by_found : (o : Option BodyTree) → called_body h x ≡ o → ((y : Id) → IsShallow n y → Same (entered_to h k) (entered_to h n) y)
          → by_body o (steps_opened (entered_to h k)) (plain_call pos x) s ≡ by_body o (steps_opened (entered_to h n)) (plain_call pos x) s
      by_found None is below = refl
      by_found (Some (data_body locals e)) is below = refl
      by_found (Some (process_body locals body)) is below =
          framed_same locals (steps_opened (entered_to h k) body) (steps_opened (entered_to h n) body) s
          (steps_same (entered_to h k) (entered_to h n) body
          (each_map (IsShallow n) (Same (entered_to h k) (entered_to h n)) below (begun_all body) (begun_shallow n x locals body deep is))
          (with_frame s (least_free s.frames) locals))

  -- a call whose method is no deeper unfolds
  unfolds_at : (d : ℕ) (pos : Pos) (x : Id) (locals : ℕ) (body : Steps) (s : StateView) → IsShallow d x → called_body h x ≡ Some (process_body locals body)
      → entered_to h d (plain_call pos x) s ≡ in_frame locals (steps_opened (entered_to h d) body) s
  unfolds_at zero pos x locals body s deep is = absurd (not_there x locals body deep is)
  unfolds_at (suc n) pos x locals body s deep is =
      ap (λ (o : Option BodyTree). by_body o (steps_opened (entered_to h n)) (plain_call pos x) s) is
      ∙ framed_same locals (steps_opened (entered_to h n) body) (steps_opened (entered_to h (suc n)) body) s
      (steps_same (entered_to h n) (entered_to h (suc n)) body
      (each_map (IsShallow n) (Same (entered_to h n) (entered_to h (suc n))) (λ y shallow at t. sym (stable n (suc n) y shallow (omega arith) at t)) (begun_all body) (begun_shallow n x locals body deep is))
      (with_frame s (least_free s.frames) locals))

-- a plain call of such a class means a method, and that is no deeper than there are methods
pub is_shallow : (h : Home) (fit : BodiesFit h.model) (method : Id) → OpensCalls h → HasBody h.model h.class (plain method) → IsShallow h fit (depth_of h.model) method
is_shallow h fit method opens has = (has, λ l named. methods_are_shallow h.model h.class l opens.process opens.rounds (has_called h.model h.class method l named))

pub calls_unfold : SoundBodiesFit → CallsUnfold
calls_unfold bodies_fit h pos method locals body s opens is =
    let fit = bodies_fit h.model opens.sound in
    subst (λ (e : Edition). enter_in e h (plain_call pos method) s ≡ in_frame locals (steps_opened (enter_in e h) body) s) (sym opens.edition)
    (unfolds_at h fit (depth_of h.model) pos method locals body s (is_shallow h fit method opens is.has) is.is)

pub calls_stand : CallsStand
calls_stand h pos method s is = subst (λ (e : Edition). enter_in e h (plain_call pos method) s ≡ left_by s (terms.leaf (plain_call pos method))) (sym is) refl

pub calls_of_none_stand : CallsOfNoneStand
calls_of_none_stand h pos method s absent = by_edition h.edition
  where
    by_found : (n : ℕ) (o : Option BodyTree) → called_body h method ≡ o → by_body o (steps_opened (entered_to h n)) (plain_call pos method) s ≡ left_by s (terms.leaf (plain_call pos method))
    by_found n None is = refl
    by_found n (Some (data_body locals e)) is = refl
    by_found n (Some (process_body locals body)) is = absurd (absent locals body is)

    by_depth : (n : ℕ) → entered_to h n (plain_call pos method) s ≡ left_by s (terms.leaf (plain_call pos method))
    by_depth zero = refl
    by_depth (suc n) = by_found n (called_body h method) refl

    by_edition : (e : Edition) → enter_in e h (plain_call pos method) s ≡ left_by s (terms.leaf (plain_call pos method))
    by_edition One = refl
    by_edition Two = by_depth (depth_of h.model)
