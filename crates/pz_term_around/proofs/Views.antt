-- What each form of the code's terms stands for.
use Rattle.std.proofs.Common.{◌≡◌, ℕ, List, ap, sym, ◌∙◌}
use Rattle.pz_classes_code.specs.pz_syntax.declared.tokens.Pos.{Pos}
use Rattle.pz_classes_code.specs.declared.code.Code.{Code}
use Rattle.pz_classes_code.specs.declared.slot.Slot.{Slot}
use Rattle.pz_classes_code.specs.declared.step.Step.{Step}
use Rattle.pz_classes_code.specs.CodeView as code
use Rattle.pz_classes_code.specs.StepView as step
use Rattle.pz_rules.specs.pz_state.declared.state.FrameId.{FrameId}
use Rattle.pz_rules.specs.declared.term.Term.{Term, fold-roll-Term}
use Rattle.pz_rules.specs.declared.term.Term.TheOpen.{Term-F}
use Rattle.pz_rules.specs.declared.term.Term.TheVariants.{Leaf, Wait, Seq, Par, Sel, Guard, Frame, Abort, Idle, Handling, rolls-Leaf, rolls-Wait, rolls-Seq, rolls-Par, rolls-Sel, rolls-Guard, rolls-Frame, rolls-Abort, rolls-Idle, rolls-Handling}
use Rattle.pz_rules.specs.Terms as terms
use Rattle.pz_rules.specs.View.{term_view, term_step, terms_view}

pub view-Leaf : (s : Step) → term_view (Leaf s) ≡ terms.leaf (step.view s)
view-Leaf s = ap term_view (sym (rolls-Leaf s)) ∙ fold-roll-Term terms.Term term_step (Term-F.Leaf s)

pub view-Wait : (left : ℕ) (pos : Pos) → term_view (Wait left pos) ≡ terms.wait left pos
view-Wait left pos = ap term_view (sym (rolls-Wait left pos)) ∙ fold-roll-Term terms.Term term_step (Term-F.Wait left pos)

pub view-Seq : (t : Term) (rest : List Step) → term_view (Seq t rest) ≡ terms.sequence (term_view t) (step.sequence_view rest)
view-Seq t rest = ap term_view (sym (rolls-Seq t rest)) ∙ fold-roll-Term terms.Term term_step (Term-F.Seq t rest)

pub view-Par : (ts : List Term) → term_view (Par ts) ≡ terms.parallel (terms_view ts)
view-Par ts = ap term_view (sym (rolls-Par ts)) ∙ fold-roll-Term terms.Term term_step (Term-F.Par ts)

pub view-Sel : (ts : List Term) → term_view (Sel ts) ≡ terms.select (terms_view ts)
view-Sel ts = ap term_view (sym (rolls-Sel ts)) ∙ fold-roll-Term terms.Term term_step (Term-F.Sel ts)

pub view-Guard : (test : Code) (pos : Pos) (t : Term) → term_view (Guard test pos t) ≡ terms.guarded (code.view test) pos (term_view t)
view-Guard test pos t = ap term_view (sym (rolls-Guard test pos t)) ∙ fold-roll-Term terms.Term term_step (Term-F.Guard test pos t)

pub view-Frame : (number : FrameId) (inputs : ℕ) (results : List Slot) (t : Term) → term_view (Frame number inputs results t) ≡ terms.frame number.0 inputs results (term_view t)
view-Frame number inputs results t = ap term_view (sym (rolls-Frame number inputs results t)) ∙ fold-roll-Term terms.Term term_step (Term-F.Frame number inputs results t)

pub view-Abort : (t u : Term) → term_view (Abort t u) ≡ terms.abort (term_view t) (term_view u)
view-Abort t u = ap term_view (sym (rolls-Abort t u)) ∙ fold-roll-Term terms.Term term_step (Term-F.Abort t u)

pub view-Idle : (t u : Term) (again : Step) → term_view (Idle t u again) ≡ terms.idle (term_view t) (term_view u) (step.view again)
view-Idle t u again = ap term_view (sym (rolls-Idle t u again)) ∙ fold-roll-Term terms.Term term_step (Term-F.Idle t u again)

pub view-Handling : (t u : Term) (again : Step) → term_view (Handling t u again) ≡ terms.handling (term_view t) (term_view u) (step.view again)
view-Handling t u again = ap term_view (sym (rolls-Handling t u again)) ∙ fold-roll-Term terms.Term term_step (Term-F.Handling t u again)
