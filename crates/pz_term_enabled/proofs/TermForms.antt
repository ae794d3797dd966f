-- What the walk adds for each form of the code's terms.
use Rattle.std.proofs.Common.{◌≡◌, ℕ, List, [], ◌∷◌, ◌++◌, map, refl, sym, subst, ap, ◌∙◌, rules}
use Rattle.pz_classes_code.specs.pz_syntax.declared.tokens.Pos.{Pos}
use Rattle.pz_classes_code.specs.declared.code.Code.{Code}
use Rattle.pz_classes_code.specs.declared.slot.Slot.{Slot}
use Rattle.pz_classes_code.specs.declared.step.Step.{Step}
use Rattle.pz_classes_code.specs.CodeView as code
use Rattle.pz_classes_code.specs.StepView as step
use Rattle.pz_rules.specs.pz_state.declared.state.FrameId.{FrameId}
use Rattle.pz_rules.specs.pz_offer.PlaceOrder.{Place}
use Rattle.pz_rules.specs.declared.term.Term.{Term}
use Rattle.pz_rules.specs.declared.term.Term.TheVariants as form
use Rattle.pz_rules.specs.declared.term.Term.TheFolds.{the_lemmas}
use Rattle.pz_rules.specs.Terms as terms
use Rattle.pz_rules.specs.View.{term_view, terms_view}
use Rattle.pz_rules.specs.Settings.{Context}
use Rattle.pz_rules.specs.devices.Walk.{here, under, active_parts, active_children}
use Rattle.pz_term_enabled.specs.declared.found.Found.{Found}
use Rattle.pz_term_enabled.specs.devices.Listings.{Adds}
use Rattle.pz_term_enabled.proofs.Notes.{adds_after}

shows_Seq : (t : Term) (rest : List Step) → term_view (form.Seq t rest) ≡ terms.sequence (term_view t) (step.sequence_view rest)
shows_Seq t rest = search (rules, the_lemmas)

shows_Par : (ts : List Term) → term_view (form.Par ts) ≡ terms.parallel (terms_view ts)
shows_Par ts = search (rules, the_lemmas)

shows_Sel : (ts : List Term) → term_view (form.Sel ts) ≡ terms.select (terms_view ts)
shows_Sel ts = search (rules, the_lemmas)

shows_Guard : (test : Code) (pos : Pos) (t : Term) → term_view (form.Guard test pos t) ≡ terms.guarded (code.view test) pos (term_view t)
shows_Guard test pos t = search (rules, the_lemmas)

shows_Frame : (own : FrameId) (inputs : ℕ) (results : List Slot) (t : Term) → term_view (form.Frame own inputs results t) ≡ terms.frame own.0 inputs results (term_view t)
shows_Frame own inputs results t = search (rules, the_lemmas)

shows_Abort : (t u : Term) → term_view (form.Abort t u) ≡ terms.abort (term_view t) (term_view u)
shows_Abort t u = search (rules, the_lemmas)

shows_Idle : (t u : Term) (again : Step) → term_view (form.Idle t u again) ≡ terms.idle (term_view t) (term_view u) (step.view again)
shows_Idle t u again = search (rules, the_lemmas)

shows_Handling : (t u : Term) (again : Step) → term_view (form.Handling t u again) ≡ terms.handling (term_view t) (term_view u) (step.view again)
shows_Handling t u again = search (rules, the_lemmas)

shows_Wait : (left : ℕ) (pos : Pos) → term_view (form.Wait left pos) ≡ terms.wait left pos
shows_Wait left pos = search (rules, the_lemmas)

module _ (a : Context) (f : ℕ) (place : Place) (o n : Found) where
  seen_as : (t : Term) (u : terms.Term) → term_view t ≡ u → Adds a place (active_parts a f u) o n → Adds a place (active_parts a f (term_view t)) o n
  seen_as t u is adds = subst (λ (x : terms.Term). Adds a place (active_parts a f x) o n) (sym is) adds

  pub seq_added : (t first got : Term) (rest : List Step) → t ≡ form.Seq first rest → got ≡ first
      → Adds a place (map (under 0) (active_parts a f (term_view got))) o n → Adds a place (active_parts a f (term_view t)) o n
  seq_added t first got rest is same adds =
      seen_as t (terms.sequence (term_view got) (step.sequence_view rest)) (ap term_view (is ∙ ap (λ (x : Term). form.Seq x rest) (sym same)) ∙ shows_Seq got rest)
      (adds_after a place f (terms.sequence (term_view got) (step.sequence_view rest)) (map (under 0) (active_parts a f (term_view got))) o n refl adds)

  pub par_added : (t : Term) (parts got : List Term) → t ≡ form.Par parts → got ≡ parts
      → Adds a place (active_children a f 0 (terms_view got)) o n → Adds a place (active_parts a f (term_view t)) o n
  par_added t parts got is same adds =
      seen_as t (terms.parallel (terms_view got)) (ap term_view (is ∙ ap (λ (x : List Term). form.Par x) (sym same)) ∙ shows_Par got)
      (adds_after a place f (terms.parallel (terms_view got)) (active_children a f 0 (terms_view got)) o n refl adds)

  pub sel_added : (t : Term) (parts got : List Term) → t ≡ form.Sel parts → got ≡ parts
      → Adds a place (active_children a f 0 (terms_view got)) o n → Adds a place (active_parts a f (term_view t)) o n
  sel_added t parts got is same adds =
      seen_as t (terms.select (terms_view got)) (ap term_view (is ∙ ap (λ (x : List Term). form.Sel x) (sym same)) ∙ shows_Sel got)
      (adds_after a place f (terms.select (terms_view got)) (active_children a f 0 (terms_view got)) o n refl adds)

  pub guard_added : (t body got : Term) (test : Code) (pos : Pos) → t ≡ form.Guard test pos body → got ≡ body
      → Adds a place (active_parts a f (terms.guarded (code.view test) pos (term_view got))) o n → Adds a place (active_parts a f (term_view t)) o n
  guard_added t body got test pos is same adds =
      seen_as t (terms.guarded (code.view test) pos (term_view got)) (ap term_view (is ∙ ap (λ (x : Term). form.Guard test pos x) (sym same)) ∙ shows_Guard test pos got) adds

  pub frame_added : (t body got : Term) (own : FrameId) (inputs : ℕ) (results : List Slot) → t ≡ form.Frame own inputs results body → got ≡ body
      → Adds a place (map (under 0) (active_parts a own.0 (term_view got))) o n → Adds a place (active_parts a f (term_view t)) o n
  frame_added t body got own inputs results is same adds =
      seen_as t (terms.frame own.0 inputs results (term_view got)) (ap term_view (is ∙ ap (λ (x : Term). form.Frame own inputs results x) (sym same)) ∙ shows_Frame own inputs results got)
      (adds_after a place f (terms.frame own.0 inputs results (term_view got)) (map (under 0) (active_parts a own.0 (term_view got))) o n refl adds)

  pub abort_added : (t first second x y : Term) → t ≡ form.Abort first second → x ≡ first → y ≡ second
      → Adds a place (map (under 0) (active_parts a f (term_view x)) ++ map (under 1) (active_parts a f (term_view y))) o n → Adds a place (active_parts a f (term_view t)) o n
  abort_added t first second x y is same other adds =
      seen_as t (terms.abort (term_view x) (term_view y)) (ap term_view (is ∙ ap (λ (z : Term). form.Abort z second) (sym same) ∙ ap (λ (z : Term). form.Abort x z) (sym other)) ∙ shows_Abort x y)
      (adds_after a place f (terms.abort (term_view x) (term_view y)) (map (under 0) (active_parts a f (term_view x)) ++ map (under 1) (active_parts a f (term_view y))) o n refl adds)

  pub idle_added : (t first second x y : Term) (again : Step) → t ≡ form.Idle first second again → x ≡ first → y ≡ second
      → Adds a place (map (under 0) (active_parts a f (term_view x)) ++ map (under 1) (active_parts a f (term_view y))) o n → Adds a place (active_parts a f (term_view t)) o n
  idle_added t first second x y again is same other adds =
      seen_as t (terms.idle (term_view x) (term_view y) (step.view again))
      (ap term_view (is ∙ ap (λ (z : Term). form.Idle z second again) (sym same) ∙ ap (λ (z : Term). form.Idle x z again) (sym other)) ∙ shows_Idle x y again)
      (adds_after a place f (terms.idle (term_view x) (term_view y) (step.view again)) (map (under 0) (active_parts a f (term_view x)) ++ map (under 1) (active_parts a f (term_view y))) o n refl adds)

  pub handling_added : (t first second got : Term) (again : Step) → t ≡ form.Handling first second again → got ≡ second
      → Adds a place (map (under 1) (active_parts a f (term_view got))) o n → Adds a place (active_parts a f (term_view t)) o n
  handling_added t first second got again is same adds =
      seen_as t (terms.handling (term_view first) (term_view got) (step.view again)) (ap term_view (is ∙ ap (λ (z : Term). form.Handling first z again) (sym same)) ∙ shows_Handling first got again)
      (adds_after a place f (terms.handling (term_view first) (term_view got) (step.view again)) (map (under 1) (active_parts a f (term_view got))) o n refl adds)

  pub wait_added : (t : Term) (left : ℕ) (pos : Pos) → t ≡ form.Wait left pos → Adds a place (here f (terms.wait left pos) ∷ []) o n → Adds a place (active_parts a f (term_view t)) o n
  wait_added t left pos is adds = seen_as t (terms.wait left pos) (ap term_view is ∙ shows_Wait left pos) adds
