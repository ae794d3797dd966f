-- What is left of each form of the code's terms.
use Rattle.std.proofs.Common.{◌≡◌, ℕ, ◌-◌, Bool, true, false, List, Result, IfOk, sym, subst, ap, ◌∙◌, rules}
use Rattle.std.specs.Prelude.{if◌then◌else◌}
use Rattle.std.proofs.lemmas.Result.{IfOk-weaker}
use Rattle.pz_classes_code.specs.pz_syntax.declared.tokens.Pos.{Pos}
use Rattle.pz_classes_code.specs.declared.code.Code.{Code}
use Rattle.pz_classes_code.specs.declared.slot.Slot.{Slot}
use Rattle.pz_classes_code.specs.declared.step.Step.{Step}
use Rattle.pz_classes_code.specs.CodeView as code
use Rattle.pz_classes_code.specs.StepView as step
use Rattle.pz_rules.specs.pz_state.Marks.{Seen}
use Rattle.pz_rules.specs.pz_state.declared.state.FrameId.{FrameId}
use Rattle.pz_rules.specs.pz_offer.declared.trouble.Trouble.{Trouble}
use Rattle.pz_rules.specs.declared.term.Term.{Term}
use Rattle.pz_rules.specs.declared.term.Term.TheVariants as form
use Rattle.pz_rules.specs.declared.term.Term.TheFolds.{the_lemmas}
use Rattle.pz_rules.specs.Terms as terms
use Rattle.pz_rules.specs.View.{term_view, terms_view}
use Rattle.pz_rules.specs.Settings.{Context}
use Rattle.pz_rules.specs.Delays.{Passes}
use Rattle.pz_rules.specs.devices.Found.{tested}
use Rattle.pz_rules.specs.devices.Passing.{passed, passed_all, statement_passed, if_open}

shows_Done : term_view form.Done ≡ terms.done
shows_Done = search (rules, the_lemmas)

pub shows_Leaf : (s : Step) → term_view (form.Leaf s) ≡ terms.leaf (step.view s)
shows_Leaf s = search (rules, the_lemmas)

shows_Wait : (left : ℕ) (pos : Pos) → term_view (form.Wait left pos) ≡ terms.wait left pos
shows_Wait left pos = search (rules, the_lemmas)

shows_Seq : (t : Term) (rest : List Step) → term_view (form.Seq t rest) ≡ terms.sequence (term_view t) (step.sequence_view rest)
shows_Seq t rest = search (rules, the_lemmas)

shows_Par : (ts : List Term) → term_view (form.Par ts) ≡ terms.parallel (terms_view ts)
shows_Par ts = search (rules, the_lemmas)

shows_Sel : (ts : List Term) → term_view (form.Sel ts) ≡ terms.select (terms_view ts)
shows_Sel ts = search (rules, the_lemmas)

shows_Guard : (test : Code) (pos : Pos) (t : Term) → term_view (form.Guard test pos t) ≡ terms.guarded (code.view test) pos (term_view t)
shows_Guard test pos t = search (rules, the_lemmas)

shows_Frame : (own : FrameId) (inputs : ℕ) (results : List Slot) (t : Term) → term_view (form.Frame own inputs results t) ≡ terms.frame own.0 inputs results (term_view t)
shows_Frame own inputs results t = search (rules, the_lemmas)

shows_Abort : (t u : Term) → term_view (form.Abort t u) ≡ terms.abort (term_view t) (term_view u)
shows_Abort t u = search (rules, the_lemmas)

shows_Idle : (t u : Term) (again : Step) → term_view (form.Idle t u again) ≡ terms.idle (term_view t) (term_view u) (step.view again)
shows_Idle t u again = search (rules, the_lemmas)

shows_Handling : (t u : Term) (again : Step) → term_view (form.Handling t u again) ≡ terms.handling (term_view t) (term_view u) (step.view again)
shows_Handling t u again = search (rules, the_lemmas)

module _ (a : Context) (d f : ℕ) where
  -- of a term that is seen as this
  as_seen : (t : Term) (u : terms.Term) → term_view t ≡ u → passed a d f u ≡ passed a d f (term_view t)
  as_seen t u is = ap (λ (x : terms.Term). passed a d f x) (sym is)

  pub done_left : (t : Term) → t ≡ form.Done → term_view form.Done ≡ passed a d f (term_view t)
  done_left t is = shows_Done ∙ as_seen t terms.done (ap term_view is ∙ shows_Done)

  pub leaf_left : {E : Type 0} (r : Result Term E) (t : Term) (s : Step) → t ≡ form.Leaf s → IfOk r (λ (x : Term). term_view x ≡ statement_passed a d f (step.view s)) → IfOk r (λ (x : Term). term_view x ≡ passed a d f (term_view t))
  leaf_left r t s is left =
      IfOk-weaker r (λ (x : Term). term_view x ≡ statement_passed a d f (step.view s)) (λ (x : Term). term_view x ≡ passed a d f (term_view t))
      (λ x e. e ∙ as_seen t (terms.leaf (step.view s)) (ap term_view is ∙ shows_Leaf s)) left

  pub wait_left : (t x : Term) (left : ℕ) (pos : Pos) → t ≡ form.Wait left pos → term_view x ≡ terms.wait (left - d) pos → term_view x ≡ passed a d f (term_view t)
  wait_left t x left pos is less = less ∙ as_seen t (terms.wait left pos) (ap term_view is ∙ shows_Wait left pos)

  pub seq_left : (t first x : Term) (rest : List Step) → t ≡ form.Seq first rest → term_view x ≡ passed a d f (term_view first) → term_view (form.Seq x rest) ≡ passed a d f (term_view t)
  seq_left t first x rest is left =
      shows_Seq x rest ∙ ap (λ (y : terms.Term). terms.sequence y (step.sequence_view rest)) left
      ∙ as_seen t (terms.sequence (term_view first) (step.sequence_view rest)) (ap term_view is ∙ shows_Seq first rest)

  pub par_left : (t : Term) (parts xs : List Term) → t ≡ form.Par parts → terms_view xs ≡ passed_all a d f (terms_view parts) → term_view (form.Par xs) ≡ passed a d f (term_view t)
  par_left t parts xs is left =
      shows_Par xs ∙ ap (λ (ts : terms.Terms). terms.parallel ts) left ∙ as_seen t (terms.parallel (terms_view parts)) (ap term_view is ∙ shows_Par parts)

  pub sel_left : (t : Term) (parts xs : List Term) → t ≡ form.Sel parts → terms_view xs ≡ passed_all a d f (terms_view parts) → term_view (form.Sel xs) ≡ passed a d f (term_view t)
  sel_left t parts xs is left =
      shows_Sel xs ∙ ap (λ (ts : terms.Terms). terms.select ts) left ∙ as_seen t (terms.select (terms_view parts)) (ap term_view is ∙ shows_Sel parts)

  pub guard_left : {E : Type 0} (r : Result Term E) (t : Term) (test : Code) (pos : Pos) (body : Term) → t ≡ form.Guard test pos body
      → IfOk r (λ (x : Term). term_view x ≡ passed a d f (terms.guarded (code.view test) pos (term_view body))) → IfOk r (λ (x : Term). term_view x ≡ passed a d f (term_view t))
  guard_left r t test pos body is left =
      IfOk-weaker r (λ (x : Term). term_view x ≡ passed a d f (terms.guarded (code.view test) pos (term_view body))) (λ (x : Term). term_view x ≡ passed a d f (term_view t))
      (λ x e. e ∙ as_seen t (terms.guarded (code.view test) pos (term_view body)) (ap term_view is ∙ shows_Guard test pos body)) left

  pub frame_left : (t body x : Term) (own : FrameId) (inputs : ℕ) (results : List Slot) → t ≡ form.Frame own inputs results body → term_view x ≡ passed a d own.0 (term_view body)
      → term_view (form.Frame own inputs results x) ≡ passed a d f (term_view t)
  frame_left t body x own inputs results is left =
      shows_Frame own inputs results x ∙ ap (λ (y : terms.Term). terms.frame own.0 inputs results y) left
      ∙ as_seen t (terms.frame own.0 inputs results (term_view body)) (ap term_view is ∙ shows_Frame own inputs results body)

  pub handling_left : (t first second y : Term) (again : Step) → t ≡ form.Handling first second again → term_view y ≡ passed a d f (term_view second)
      → term_view (form.Handling first y again) ≡ passed a d f (term_view t)
  handling_left t first second y again is left =
      shows_Handling first y again ∙ ap (λ (z : terms.Term). terms.handling (term_view first) z (step.view again)) left
      ∙ as_seen t (terms.handling (term_view first) (term_view second) (step.view again)) (ap term_view is ∙ shows_Handling first second again)

  pub boxed_left : {E : Type 0} (r : Result Term E) (t inner x : Term) → inner ≡ t → IfOk r (λ (b : Term). b ≡ x) → term_view x ≡ passed a d f (term_view inner) → IfOk r (λ (b : Term). term_view b ≡ passed a d f (term_view t))
  boxed_left r t inner x same is left =
      IfOk-weaker r (λ (b : Term). b ≡ x) (λ (b : Term). term_view b ≡ passed a d f (term_view t)) (λ b e. ap term_view e ∙ left ∙ ap (λ (y : Term). passed a d f (term_view y)) same) is

  -- what a guard lets go on, by what its test came to
  open_as : (r : Result Bool Trouble) (goes : Bool) (test : Code) (pos : Pos) (t : Term) → r ≡ tested a f pos (code.view test) → ((x u : terms.Term) → if_open r x u ≡ (if goes then x else u))
      → (if goes then passed a d f (term_view t) else term_view t) ≡ if_open (tested a f pos (code.view test)) (passed a d f (term_view t)) (term_view t)
  open_as r goes test pos t is opens = sym (opens (passed a d f (term_view t)) (term_view t)) ∙ ap (λ (x : Result Bool Trouble). if_open x (passed a d f (term_view t)) (term_view t)) is

  pub closed_left : (r : Result Bool Trouble) (goes : Bool) (test : Code) (pos : Pos) (t : Term) → r ≡ tested a f pos (code.view test) → ((x u : terms.Term) → if_open r x u ≡ (if goes then x else u)) → goes ≡ false
      → term_view (form.Guard test pos t) ≡ passed a d f (terms.guarded (code.view test) pos (term_view t))
  closed_left r goes test pos t is opens closed =
      shows_Guard test pos t
      ∙ ap (λ (y : terms.Term). terms.guarded (code.view test) pos y)
      (ap (λ (b : Bool). if b then passed a d f (term_view t) else term_view t) (sym closed) ∙ open_as r goes test pos t is opens)

-- a second call begins with the state of the first
module _ (at : Seen → Context) (d f : ℕ) where
  pub open_left : (s later : Seen) (r : Result Bool Trouble) (goes : Bool) (test : Code) (pos : Pos) (t x : Term) → later ≡ s → r ≡ tested (at s) f pos (code.view test)
      → ((y u : terms.Term) → if_open r y u ≡ (if goes then y else u)) → goes ≡ true → term_view x ≡ passed (at later) d f (term_view t)
      → term_view (form.Guard test pos x) ≡ passed (at s) d f (terms.guarded (code.view test) pos (term_view t))
  open_left s later r goes test pos t x same is opens opened left =
      shows_Guard test pos x
      ∙ ap (λ (y : terms.Term). terms.guarded (code.view test) pos y)
      (left ∙ ap (λ (v : Seen). passed (at v) d f (term_view t)) same
      ∙ ap (λ (b : Bool). if b then passed (at s) d f (term_view t) else term_view t) (sym opened) ∙ open_as (at s) d f r goes test pos t is opens)

  pub abort_left : (s later : Seen) (t first second x y : Term) → t ≡ form.Abort first second → later ≡ s → term_view x ≡ passed (at s) d f (term_view first) → term_view y ≡ passed (at later) d f (term_view second)
      → term_view (form.Abort x y) ≡ passed (at s) d f (term_view t)
  abort_left s later t first second x y is same left other =
      shows_Abort x y ∙ ap (λ (z : terms.Term). terms.abort z (term_view y)) left
      ∙ ap (λ (z : terms.Term). terms.abort (passed (at s) d f (term_view first)) z) (other ∙ ap (λ (v : Seen). passed (at v) d f (term_view second)) same)
      ∙ as_seen (at s) d f t (terms.abort (term_view first) (term_view second)) (ap term_view is ∙ shows_Abort first second)

  pub idle_left : (s later : Seen) (t first second x y : Term) (again : Step) → t ≡ form.Idle first second again → later ≡ s → term_view x ≡ passed (at s) d f (term_view first) → term_view y ≡ passed (at later) d f (term_view second)
      → term_view (form.Idle x y again) ≡ passed (at s) d f (term_view t)
  idle_left s later t first second x y again is same left other =
      shows_Idle x y again ∙ ap (λ (z : terms.Term). terms.idle z (term_view y) (step.view again)) left
      ∙ ap (λ (z : terms.Term). terms.idle (passed (at s) d f (term_view first)) z (step.view again)) (other ∙ ap (λ (v : Seen). passed (at v) d f (term_view second)) same)
      ∙ as_seen (at s) d f t (terms.idle (term_view first) (term_view second) (step.view again)) (ap term_view is ∙ shows_Idle first second again)

-- what is computed of a passing is what the rules say of it
pub passes_as : (a : Context) (d : ℕ) (t : terms.Term) → Passes a d 0 t (passed a d 0 t) → {E : Type 0} (r : Result Term E) → IfOk r (λ (x : Term). term_view x ≡ passed a d 0 t) → IfOk r (λ (x : Term). Passes a d 0 t (term_view x))
passes_as a d t passes r left =
    IfOk-weaker r (λ (x : Term). term_view x ≡ passed a d 0 t) (λ (x : Term). Passes a d 0 t (term_view x)) (λ x e. subst (λ (y : terms.Term). Passes a d 0 t y) (sym e) passes) left
