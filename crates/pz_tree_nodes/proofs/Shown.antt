-- What each form of the code's terms and statements is seen as.
use Rattle.std.proofs.Common.{◌≡◌, ℕ, List, ap, ◌∙◌, rules}
use Rattle.pz_classes_code.specs.pz_syntax.declared.tokens.Pos.{Pos}
use Rattle.pz_classes_code.specs.declared.code.Code.{Code}
use Rattle.pz_classes_code.specs.declared.slot.Slot.{Slot}
use Rattle.pz_classes_code.specs.declared.step.Step.{Step}
use Rattle.pz_classes_code.specs.CodeView as code
use Rattle.pz_classes_code.specs.StepView as step
use Rattle.pz_rules.specs.pz_state.declared.state.FrameId.{FrameId}
use Rattle.pz_rules.specs.declared.term.Term.{Term}
use Rattle.pz_rules.specs.declared.term.Term.TheVariants as form
use Rattle.pz_rules.specs.declared.term.Term.TheFolds.{the_lemmas}
use Rattle.pz_rules.specs.Terms as terms
use Rattle.pz_rules.specs.View.{term_view, terms_view}

pub as_Done : (u : Term) → u ≡ form.Done → term_view u ≡ terms.done
as_Done u is = ap term_view is ∙ shown
  where
    shown : term_view form.Done ≡ terms.done
    shown = search (rules, the_lemmas)

pub as_Leaf : (u : Term) (s : Step) → u ≡ form.Leaf s → term_view u ≡ terms.leaf (step.view s)
as_Leaf u s is = ap term_view is ∙ shown
  where
    shown : term_view (form.Leaf s) ≡ terms.leaf (step.view s)
    shown = search (rules, the_lemmas)

pub as_Wait : (u : Term) (left : ℕ) (pos : Pos) → u ≡ form.Wait left pos → term_view u ≡ terms.wait left pos
as_Wait u left pos is = ap term_view is ∙ shown
  where
    shown : term_view (form.Wait left pos) ≡ terms.wait left pos
    shown = search (rules, the_lemmas)

pub as_Seq : (u t : Term) (rest : List Step) → u ≡ form.Seq t rest → term_view u ≡ terms.sequence (term_view t) (step.sequence_view rest)
as_Seq u t rest is = ap term_view is ∙ shown
  where
    shown : term_view (form.Seq t rest) ≡ terms.sequence (term_view t) (step.sequence_view rest)
    shown = search (rules, the_lemmas)

pub as_Par : (u : Term) (ts : List Term) → u ≡ form.Par ts → term_view u ≡ terms.parallel (terms_view ts)
as_Par u ts is = ap term_view is ∙ shown
  where
    shown : term_view (form.Par ts) ≡ terms.parallel (terms_view ts)
    shown = search (rules, the_lemmas)

pub as_Sel : (u : Term) (ts : List Term) → u ≡ form.Sel ts → term_view u ≡ terms.select (terms_view ts)
as_Sel u ts is = ap term_view is ∙ shown
  where
    shown : term_view (form.Sel ts) ≡ terms.select (terms_view ts)
    shown = search (rules, the_lemmas)

pub as_Guard : (u : Term) (test : Code) (pos : Pos) (t : Term) → u ≡ form.Guard test pos t → term_view u ≡ terms.guarded (code.view test) pos (term_view t)
as_Guard u test pos t is = ap term_view is ∙ shown
  where
    shown : term_view (form.Guard test pos t) ≡ terms.guarded (code.view test) pos (term_view t)
    shown = search (rules, the_lemmas)

pub as_Frame : (u : Term) (own : FrameId) (inputs : ℕ) (results : List Slot) (t : Term) → u ≡ form.Frame own inputs results t → term_view u ≡ terms.frame own.0 inputs results (term_view t)
as_Frame u own inputs results t is = ap term_view is ∙ shown
  where
    shown : term_view (form.Frame own inputs results t) ≡ terms.frame own.0 inputs results (term_view t)
    shown = search (rules, the_lemmas)

pub as_Abort : (u t v : Term) → u ≡ form.Abort t v → term_view u ≡ terms.abort (term_view t) (term_view v)
as_Abort u t v is = ap term_view is ∙ shown
  where
    shown : term_view (form.Abort t v) ≡ terms.abort (term_view t) (term_view v)
    shown = search (rules, the_lemmas)

pub as_Idle : (u t v : Term) (again : Step) → u ≡ form.Idle t v again → term_view u ≡ terms.idle (term_view t) (term_view v) (step.view again)
as_Idle u t v again is = ap term_view is ∙ shown
  where
    shown : term_view (form.Idle t v again) ≡ terms.idle (term_view t) (term_view v) (step.view again)
    shown = search (rules, the_lemmas)

pub as_Handling : (u t v : Term) (again : Step) → u ≡ form.Handling t v again → term_view u ≡ terms.handling (term_view t) (term_view v) (step.view again)
as_Handling u t v again is = ap term_view is ∙ shown
  where
    shown : term_view (form.Handling t v again) ≡ terms.handling (term_view t) (term_view v) (step.view again)
    shown = search (rules, the_lemmas)
