-- What the forms of statements and terms of the code stand for.
use Rattle.std.proofs.Common.{◌≡◌, ℕ, List, Option, ap, ◌∙◌, rules}
use Rattle.std.specs.Option.{option_map}
use Rattle.pz_classes_code.specs.pz_syntax.declared.tokens.Pos.{Pos}
use Rattle.pz_classes_code.specs.pz_syntax.declared.names.Id.{Id}
use Rattle.pz_classes_code.specs.pz_syntax.Statements.{skip, delay, conditional, send, receive}
use Rattle.pz_classes_code.specs.declared.code.Code.{Code}
use Rattle.pz_classes_code.specs.declared.slot.Slot.{Slot}
use Rattle.pz_classes_code.specs.declared.step.Step.{Step}
use Rattle.pz_classes_code.specs.declared.step.StepForm.{StepForm}
use Rattle.pz_classes_code.specs.declared.step.StepForm.TheVariants as form
use Rattle.pz_classes_code.specs.declared.step.StepForm.TheFolds.{the_lemmas}
use Rattle.pz_classes_code.specs.CodeView as code
use Rattle.pz_classes_code.specs.StepView as step
use Rattle.pz_rules.specs.pz_state.declared.state.FrameId.{FrameId}
use Rattle.pz_rules.specs.declared.term.Term.{Term}
use Rattle.pz_rules.specs.declared.term.Term.TheVariants as term
use Rattle.pz_rules.specs.declared.term.Term.TheFolds as folds
use Rattle.pz_rules.specs.Terms as terms
use Rattle.pz_rules.specs.View.{term_view}
use Rattle.pz_part_actions.specs.devices.Parts.{otherwise_view}

shows_step : (pos : Pos) (x : StepForm) → step.view (record { pos = pos; form = x }) ≡ step.form_view x pos
shows_step pos x = search (rules, the_lemmas)

-- the statement of a step of this form
step_is : (s : Step) (x : StepForm) (t : terms.Step) → s.form ≡ x → step.form_view x s.pos ≡ t → step.view s ≡ t
step_is s x t is shows = shows_step s.pos s.form ∙ ap (λ (y : StepForm). step.form_view y s.pos) is ∙ shows

shows_Skip : (pos : Pos) → step.form_view form.Skip pos ≡ skip pos
shows_Skip pos = search (rules, the_lemmas)

shows_Delay : (pos : Pos) (e : Code) → step.form_view (form.Delay e) pos ≡ delay pos (code.view e)
shows_Delay pos e = search (rules, the_lemmas)

shows_If : (pos : Pos) (test : Code) (part : List Step) (other : Option (List Step)) → step.form_view (form.If test part other) pos ≡ conditional pos (code.view test) (step.sequence_view part) (otherwise_view other)
shows_If pos test part other = search (rules, the_lemmas)

shows_Send : (pos : Pos) (port : ℕ) (name : Id) (args after : Option (List Code)) → step.form_view (form.Send port name args after) pos ≡ send pos port name (code.part_view args) (code.part_view after)
shows_Send pos port name args after = search (rules, the_lemmas)

shows_Receive : (pos : Pos) (port : ℕ) (name : Id) (into : Option (List Slot)) (condition : Option Code) (after : Option (List Code))
    → step.form_view (form.Receive port name into condition after) pos ≡ receive pos port name into (option_map code.view condition) (code.part_view after)
shows_Receive pos port name into condition after = search (rules, the_lemmas)

module _ (s : Step) where
  pub is_skip : s.form ≡ form.Skip → step.view s ≡ skip s.pos
  is_skip is = step_is s form.Skip (skip s.pos) is (shows_Skip s.pos)

  pub is_delay : (e : Code) → s.form ≡ form.Delay e → step.view s ≡ delay s.pos (code.view e)
  is_delay e is = step_is s (form.Delay e) (delay s.pos (code.view e)) is (shows_Delay s.pos e)

  pub is_if : (test : Code) (part : List Step) (other : Option (List Step)) → s.form ≡ form.If test part other → step.view s ≡ conditional s.pos (code.view test) (step.sequence_view part) (otherwise_view other)
  is_if test part other is = step_is s (form.If test part other) (conditional s.pos (code.view test) (step.sequence_view part) (otherwise_view other)) is (shows_If s.pos test part other)

shows_Leaf : (s : Step) → term_view (term.Leaf s) ≡ terms.leaf (step.view s)
shows_Leaf s = search (rules, folds.the_lemmas)

shows_Wait : (left : ℕ) (pos : Pos) → term_view (term.Wait left pos) ≡ terms.wait left pos
shows_Wait left pos = search (rules, folds.the_lemmas)

pub shows_Seq : (t : Term) (rest : List Step) → term_view (term.Seq t rest) ≡ terms.sequence (term_view t) (step.sequence_view rest)
shows_Seq t rest = search (rules, folds.the_lemmas)

pub shows_Frame : (own : FrameId) (inputs : ℕ) (results : List Slot) (t : Term) → term_view (term.Frame own inputs results t) ≡ terms.frame own.0 inputs results (term_view t)
shows_Frame own inputs results t = search (rules, folds.the_lemmas)

pub shows_Done : term_view term.Done ≡ terms.done
shows_Done = search (rules, folds.the_lemmas)

module _ (t : Term) where
  pub is_leaf : (s : Step) → t ≡ term.Leaf s → term_view t ≡ terms.leaf (step.view s)
  is_leaf s is = ap term_view is ∙ shows_Leaf s

  pub is_wait : (left : ℕ) (pos : Pos) → t ≡ term.Wait left pos → term_view t ≡ terms.wait left pos
  is_wait left pos is = ap term_view is ∙ shows_Wait left pos

  pub is_send : (s : Step) (port : ℕ) (name : Id) (args after : Option (List Code)) → t ≡ term.Leaf s → s.form ≡ form.Send port name args after
      → term_view t ≡ terms.leaf (send s.pos port name (code.part_view args) (code.part_view after))
  is_send s port name args after is form_is =
      is_leaf s is ∙ ap (λ (x : terms.Step). terms.leaf x) (step_is s (form.Send port name args after) (send s.pos port name (code.part_view args) (code.part_view after)) form_is (shows_Send s.pos port name args after))

  pub is_receive : (s : Step) (port : ℕ) (name : Id) (into : Option (List Slot)) (condition : Option Code) (after : Option (List Code)) → t ≡ term.Leaf s → s.form ≡ form.Receive port name into condition after
      → term_view t ≡ terms.leaf (receive s.pos port name into (option_map code.view condition) (code.part_view after))
  is_receive s port name into condition after is form_is =
      is_leaf s is
      ∙ ap (λ (x : terms.Step). terms.leaf x) (step_is s (form.Receive port name into condition after) (receive s.pos port name into (option_map code.view condition) (code.part_view after)) form_is (shows_Receive s.pos port name into condition after))
