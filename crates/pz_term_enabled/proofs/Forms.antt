-- What is noted of each form of a statement.
use Rattle.std.proofs.Common.{◌≡◌, ℕ, List, map, length, Option, refl, sym, ap, ◌∙◌, rules}
use Rattle.std.specs.Option.{option_map}
use Rattle.pz_classes_code.specs.pz_syntax.declared.tokens.Pos.{Pos}
use Rattle.pz_classes_code.specs.pz_syntax.declared.names.Id.{Id}
use Rattle.pz_classes_code.specs.pz_syntax.Statements.{skip, delay, bracketed, block, guarded, parallel, select, conditional, repeated, abort, interrupt, send, receive, call, value}
use Rattle.pz_classes_code.specs.declared.code.Code.{Code}
use Rattle.pz_classes_code.specs.declared.slot.Slot.{Slot}
use Rattle.pz_classes_code.specs.declared.step.Step.{Step}
use Rattle.pz_classes_code.specs.declared.step.StepForm.{StepForm}
use Rattle.pz_classes_code.specs.declared.step.StepForm.TheVariants as form
use Rattle.pz_classes_code.specs.declared.step.StepForm.TheFolds.{the_lemmas}
use Rattle.pz_classes_code.specs.CodeView as code
use Rattle.pz_classes_code.specs.StepView as step
use Rattle.pz_rules.specs.declared.action.Kind.TheVariants as kind
use Rattle.pz_rules.specs.Terms as terms
use Rattle.pz_rules.specs.Terms.{leaf}
use Rattle.pz_rules.specs.Settings.{Context}
use Rattle.pz_rules.specs.Messages.{variables_of}
use Rattle.pz_term_enabled.specs.devices.Listings.{Notes, notes_of, nothing, only_does, only_receives}

shows_step : (pos : Pos) (x : StepForm) → step.view (record { pos = pos; form = x }) ≡ step.form_view x pos
shows_step pos x = search (rules, the_lemmas)

-- the statement of a step of this form
pub step_is : (s : Step) (x : StepForm) (t : terms.Step) → s.form ≡ x → step.form_view x s.pos ≡ t → step.view s ≡ t
step_is s x t is shows = shows_step s.pos s.form ∙ ap (λ (y : StepForm). step.form_view y s.pos) is ∙ shows

pub shows_Skip : (pos : Pos) → step.form_view form.Skip pos ≡ skip pos
shows_Skip pos = search (rules, the_lemmas)

pub shows_Eval : (pos : Pos) (e : Code) → step.form_view (form.Eval e) pos ≡ value pos (code.view e)
shows_Eval pos e = search (rules, the_lemmas)

pub shows_Block : (pos : Pos) (es : List Code) → step.form_view (form.Block es) pos ≡ block pos (code.list_view es)
shows_Block pos es = search (rules, the_lemmas)

pub shows_If : (pos : Pos) (test : Code) (part : List Step) (rest : Option (List Step)) → step.form_view (form.If test part rest) pos ≡ conditional pos (code.view test) (step.sequence_view part) (step.otherwise_of (option_map (map step.view) rest))
shows_If pos test part rest = search (rules, the_lemmas)

pub shows_While : (pos : Pos) (test : Code) (part : List Step) → step.form_view (form.While test part) pos ≡ repeated pos (code.view test) (step.sequence_view part)
shows_While pos test part = search (rules, the_lemmas)

pub shows_Call : (pos : Pos) (method : Id) (args : List Code) (results : List Slot) → step.form_view (form.Call method args results) pos ≡ call pos method (code.list_view args) results
shows_Call pos method args results = search (rules, the_lemmas)

pub shows_Group : (pos : Pos) (ts : List Step) → step.form_view (form.Group ts) pos ≡ bracketed pos (step.sequence_view ts)
shows_Group pos ts = search (rules, the_lemmas)

pub shows_Guard : (pos : Pos) (test : Code) (t : Step) → step.form_view (form.Guard test t) pos ≡ guarded pos (code.view test) (step.view t)
shows_Guard pos test t = search (rules, the_lemmas)

pub shows_Par : (pos : Pos) (bs : List (List Step)) → step.form_view (form.Par bs) pos ≡ parallel pos (step.branches_of (map (map step.view) bs))
shows_Par pos bs = search (rules, the_lemmas)

pub shows_Sel : (pos : Pos) (bs : List (List Step)) → step.form_view (form.Sel bs) pos ≡ select pos (step.branches_of (map (map step.view) bs))
shows_Sel pos bs = search (rules, the_lemmas)

pub shows_Abort : (pos : Pos) (ts : List Step) (t : Step) → step.form_view (form.Abort ts t) pos ≡ abort pos (step.sequence_view ts) (step.view t)
shows_Abort pos ts t = search (rules, the_lemmas)

pub shows_Interrupt : (pos : Pos) (ts : List Step) (t : Step) → step.form_view (form.Interrupt ts t) pos ≡ interrupt pos (step.sequence_view ts) (step.view t)
shows_Interrupt pos ts t = search (rules, the_lemmas)

pub shows_Delay : (pos : Pos) (e : Code) → step.form_view (form.Delay e) pos ≡ delay pos (code.view e)
shows_Delay pos e = search (rules, the_lemmas)

pub shows_Send : (pos : Pos) (port : ℕ) (name : Id) (args after : Option (List Code)) → step.form_view (form.Send port name args after) pos ≡ send pos port name (code.part_view args) (code.part_view after)
shows_Send pos port name args after = search (rules, the_lemmas)

pub shows_Receive : (pos : Pos) (port : ℕ) (name : Id) (into : Option (List Slot)) (test : Option Code) (after : Option (List Code))
    → step.form_view (form.Receive port name into test after) pos ≡ receive pos port name into (option_map code.view test) (code.part_view after)
shows_Receive pos port name into test after = search (rules, the_lemmas)

module _ (a : Context) (f : ℕ) (s : Step) where
  noted : (t : terms.Step) (x : Notes) → step.view s ≡ t → notes_of a f (leaf t) ≡ x → notes_of a f (leaf (step.view s)) ≡ x
  noted t x is notes = ap (λ (u : terms.Step). notes_of a f (leaf u)) is ∙ notes

  pub notes_Skip : s.form ≡ form.Skip → notes_of a f (leaf (step.view s)) ≡ only_does kind.Skip s.pos
  notes_Skip is = noted (skip s.pos) (only_does kind.Skip s.pos) (step_is s form.Skip (skip s.pos) is (shows_Skip s.pos)) refl

  pub notes_Eval : (e : Code) → s.form ≡ (form.Eval e) → notes_of a f (leaf (step.view s)) ≡ only_does kind.Eval s.pos
  notes_Eval e is = noted (value s.pos (code.view e)) (only_does kind.Eval s.pos) (step_is s (form.Eval e) (value s.pos (code.view e)) is (shows_Eval s.pos e)) refl

  pub notes_Block : (es : List Code) → s.form ≡ (form.Block es) → notes_of a f (leaf (step.view s)) ≡ only_does kind.Eval s.pos
  notes_Block es is = noted (block s.pos (code.list_view es)) (only_does kind.Eval s.pos) (step_is s (form.Block es) (block s.pos (code.list_view es)) is (shows_Block s.pos es)) refl

  pub notes_If : (test : Code) (part : List Step) (rest : Option (List Step)) → s.form ≡ (form.If test part rest) → notes_of a f (leaf (step.view s)) ≡ only_does kind.Test s.pos
  notes_If test part rest is = noted (conditional s.pos (code.view test) (step.sequence_view part) (step.otherwise_of (option_map (map step.view) rest))) (only_does kind.Test s.pos) (step_is s (form.If test part rest) (conditional s.pos (code.view test) (step.sequence_view part) (step.otherwise_of (option_map (map step.view) rest))) is (shows_If s.pos test part rest)) refl

  pub notes_While : (test : Code) (part : List Step) → s.form ≡ (form.While test part) → notes_of a f (leaf (step.view s)) ≡ only_does kind.Test s.pos
  notes_While test part is = noted (repeated s.pos (code.view test) (step.sequence_view part)) (only_does kind.Test s.pos) (step_is s (form.While test part) (repeated s.pos (code.view test) (step.sequence_view part)) is (shows_While s.pos test part)) refl

  pub notes_Call : (method : Id) (args : List Code) (results : List Slot) → s.form ≡ (form.Call method args results) → notes_of a f (leaf (step.view s)) ≡ only_does kind.Call s.pos
  notes_Call method args results is = noted (call s.pos method (code.list_view args) results) (only_does kind.Call s.pos) (step_is s (form.Call method args results) (call s.pos method (code.list_view args) results) is (shows_Call s.pos method args results)) refl

  pub notes_Group : (ts : List Step) → s.form ≡ (form.Group ts) → notes_of a f (leaf (step.view s)) ≡ nothing
  notes_Group ts is = noted (bracketed s.pos (step.sequence_view ts)) nothing (step_is s (form.Group ts) (bracketed s.pos (step.sequence_view ts)) is (shows_Group s.pos ts)) refl

  pub notes_Guard : (test : Code) (t : Step) → s.form ≡ (form.Guard test t) → notes_of a f (leaf (step.view s)) ≡ nothing
  notes_Guard test t is = noted (guarded s.pos (code.view test) (step.view t)) nothing (step_is s (form.Guard test t) (guarded s.pos (code.view test) (step.view t)) is (shows_Guard s.pos test t)) refl

  pub notes_Par : (bs : List (List Step)) → s.form ≡ (form.Par bs) → notes_of a f (leaf (step.view s)) ≡ nothing
  notes_Par bs is = noted (parallel s.pos (step.branches_of (map (map step.view) bs))) nothing (step_is s (form.Par bs) (parallel s.pos (step.branches_of (map (map step.view) bs))) is (shows_Par s.pos bs)) refl

  pub notes_Sel : (bs : List (List Step)) → s.form ≡ (form.Sel bs) → notes_of a f (leaf (step.view s)) ≡ nothing
  notes_Sel bs is = noted (select s.pos (step.branches_of (map (map step.view) bs))) nothing (step_is s (form.Sel bs) (select s.pos (step.branches_of (map (map step.view) bs))) is (shows_Sel s.pos bs)) refl

  pub notes_Abort : (ts : List Step) (t : Step) → s.form ≡ (form.Abort ts t) → notes_of a f (leaf (step.view s)) ≡ nothing
  notes_Abort ts t is = noted (abort s.pos (step.sequence_view ts) (step.view t)) nothing (step_is s (form.Abort ts t) (abort s.pos (step.sequence_view ts) (step.view t)) is (shows_Abort s.pos ts t)) refl

  pub notes_Interrupt : (ts : List Step) (t : Step) → s.form ≡ (form.Interrupt ts t) → notes_of a f (leaf (step.view s)) ≡ nothing
  notes_Interrupt ts t is = noted (interrupt s.pos (step.sequence_view ts) (step.view t)) nothing (step_is s (form.Interrupt ts t) (interrupt s.pos (step.sequence_view ts) (step.view t)) is (shows_Interrupt s.pos ts t)) refl

  pub notes_Receive : (port : ℕ) (name : Id) (into : Option (List Slot)) (test : Option Code) (after : Option (List Code)) (count : ℕ) → s.form ≡ form.Receive port name into test after → count ≡ length (variables_of into)
      → notes_of a f (leaf (step.view s)) ≡ only_receives s.pos port name.name count
  notes_Receive port name into test after count is counted =
      noted (receive s.pos port name into (option_map code.view test) (code.part_view after)) (only_receives s.pos port name.name (length (variables_of into)))
      (step_is s (form.Receive port name into test after) _ is (shows_Receive s.pos port name into test after)) refl
      ∙ ap (λ (n : ℕ). only_receives s.pos port name.name n) (sym counted)
