-- Parts of which nothing is left, and a frame that ends.
use Rattle.std.proofs.Common.{◌≡◌, ◌<◌, ◌+◌, ℕ, Bool, true, false, ◌&&◌, List, length, take, drop, get_or, refl, sym, subst, ap, ◌∙◌}
use Rattle.std.specs.Prelude.{if◌then◌else◌}
use Rattle.std.proofs.lemmas.Bool.{true≢false}
use Rattle.std.proofs.lemmas.List.{drop_more}
use Rattle.pz_classes_code.specs.pz_value.declared.value.Value.{Value}
use Rattle.pz_classes_code.specs.declared.slot.Slot.{Slot}
use Rattle.pz_classes_code.specs.declared.step.Step.{Step}
use Rattle.pz_classes_code.specs.StepView as step
use Rattle.pz_rules.specs.pz_state.States.{StateView, locals}
use Rattle.pz_rules.specs.pz_state.Marks.{Seen, changed}
use Rattle.pz_rules.specs.declared.term.Term.{Term, fold-roll-Term}
use Rattle.pz_rules.specs.declared.term.Term.TheOpen.{Term-F}
use Rattle.pz_rules.specs.declared.term.Term.TheVariants.{Done, Seq, Par, Idle, Handling, rolls-Done}
use Rattle.pz_rules.specs.Terms as terms
use Rattle.pz_rules.specs.Terms.{Terms}
use Rattle.pz_rules.specs.Settings.{Process, left_by, Home}
use Rattle.pz_eval_binding.specs.Binding.{set_slots}
use Rattle.pz_rules.specs.Leaving.{is_done, all_done, joined, returned}
use Rattle.pz_rules.specs.View.{term_view, term_step, terms_view}
use Rattle.pz_rules.specs.Becoming.{Became}
use Rattle.pz_rules.specs.Leaving.{around, handled}
use Rattle.pz_rules.specs.Opening.{opened, opened_all}
use Rattle.pz_term_around.proofs.SlotsSet.{taken_set}
use Rattle.pz_term_around.proofs.Views.{view-Seq, view-Par, view-Idle, view-Handling}

pub view-Done : term_view Done ≡ terms.done
view-Done = ap term_view (sym rolls-Done) ∙ fold-roll-Term terms.Term term_step Term-F.Done

pub joined_done : (ts : List Term) (b : Bool) → b ≡ all_done (terms_view ts) → b ≡ true → term_view Done ≡ joined (terms_view ts)
joined_done ts b tells is_true = view-Done ∙ ap (λ (x : Bool). if x then terms.done else terms.parallel (terms_view ts)) (sym is_true ∙ tells)

pub joined_undone : (ts : List Term) (b : Bool) → b ≡ all_done (terms_view ts) → b ≡ false → term_view (Par ts) ≡ joined (terms_view ts)
joined_undone ts b tells is_false = view-Par ts ∙ ap (λ (x : Bool). if x then terms.done else terms.parallel (terms_view ts)) (sym is_false ∙ tells)

-- a term of which nothing is left
ends : (t : terms.Term) → true ≡ is_done t → terms.done ≡ t
ends terms.done e = refl
ends t e = absurd (true≢false e)

-- where the state stays
in_place : (p : Process) (t : terms.Term) (s : Seen) → p ≡ left_by s.held t → Became p t s s
in_place p t s is = record { term = sym (ap (λ (q : Process). q.term) is); state = ap (λ (q : Process). changed s q.state) (sym is) }

module _ (h : Home) where
  -- what is open, with statements behind it

  sequence_stays : (f : ℕ) (s : StateView) (first : terms.Term) (rest : terms.Steps) (i : ℕ) (x : terms.Term) → false ≡ is_done x → around h f s (terms.sequence first rest) i x ≡ left_by s (terms.sequence x rest)
  sequence_stays f s first rest i terms.done undone = absurd (true≢false (sym undone))
  sequence_stays f s first rest i x undone = refl

  pub sequence_ends : (rest : terms.Steps) (left t : terms.Term) (old new : Seen) (b : Bool) → b ≡ is_done left → b ≡ true → Became (opened_all h rest old.held) t old new
      → (f : ℕ) (first : terms.Term) (i : ℕ) → Became (around h f old.held (terms.sequence first rest) i left) t old new
  sequence_ends rest left t old new b tells is_true became f first i =
      subst (λ (x : terms.Term). Became (around h f old.held (terms.sequence first rest) i x) t old new) (ends left (sym is_true ∙ tells)) became

  pub sequence_goes_on : (rest : List Step) (left boxed : Term) (old : Seen) (b : Bool) → b ≡ is_done (term_view left) → b ≡ false → boxed ≡ left
      → (f : ℕ) (first : terms.Term) (i : ℕ) → Became (around h f old.held (terms.sequence first (step.sequence_view rest)) i (term_view left)) (term_view (Seq boxed rest)) old old
  sequence_goes_on rest left boxed old b tells is_false same f first i =
      in_place (around h f old.held (terms.sequence first (step.sequence_view rest)) i (term_view left)) (term_view (Seq boxed rest)) old
      (sequence_stays f old.held first (step.sequence_view rest) i (term_view left) (sym is_false ∙ tells)
      ∙ ap (λ (x : Term). left_by old.held (terms.sequence (term_view x) (step.sequence_view rest))) (sym same)
      ∙ ap (left_by old.held) (sym (view-Seq boxed rest)))

  -- what is interrupted

  handled_stays : (s : StateView) (first : terms.Term) (again : terms.Step) (x : terms.Term) → false ≡ is_done x → handled h s first again x ≡ left_by s (terms.handling first x again)
  handled_stays s first again terms.done undone = absurd (true≢false (sym undone))
  handled_stays s first again x undone = refl

  pub handled_ends : (first : terms.Term) (again : terms.Step) (left t : terms.Term) (old new : Seen) (b : Bool) → b ≡ is_done left → b ≡ true
      → Became (handled h old.held first again terms.done) t old new → Became (handled h old.held first again left) t old new
  handled_ends first again left t old new b tells is_true became = subst (λ (x : terms.Term). Became (handled h old.held first again x) t old new) (ends left (sym is_true ∙ tells)) became

  pub handled_goes_on : (first left boxed : Term) (again : Step) (old : Seen) (b : Bool) → b ≡ is_done (term_view left) → b ≡ false → boxed ≡ left
      → Became (handled h old.held (term_view first) (step.view again) (term_view left)) (term_view (Handling first boxed again)) old old
  handled_goes_on first left boxed again old b tells is_false same =
      in_place (handled h old.held (term_view first) (step.view again) (term_view left)) (term_view (Handling first boxed again)) old
      (handled_stays old.held (term_view first) (step.view again) (term_view left) (sym is_false ∙ tells)
      ∙ ap (λ (x : Term). left_by old.held (terms.handling (term_view first) (term_view x) (step.view again))) (sym same)
      ∙ ap (left_by old.held) (sym (view-Handling first boxed again)))

  pub opened_afresh : (first second : Term) (again got : Step) (old new : Seen) → got ≡ again → Became (opened h (step.view got) old.held) (term_view second) old new
      → Became (handled h old.held (term_view first) (step.view again) terms.done) (term_view (Idle first second again)) old new
  opened_afresh first second again got old new same became =
      let is = subst (λ (x : Step). Became (opened h (step.view x) old.held) (term_view second) old new) same became in
      record { term = view-Idle first second again ∙ ap (λ (x : terms.Term). terms.idle (term_view first) x (step.view again)) is.term; state = is.state }

  -- a frame
  pub frame_ends : (f number inputs : ℕ) (results : List Slot) (left : Term) (outputs : List Value) (old new : Seen) (b : Bool) → b ≡ is_done (term_view left) → b ≡ true
      → outputs ≡ take (length results) (drop inputs (locals old.held number)) → new ≡ changed old (set_slots f results outputs old.held)
      → (body : terms.Term) (i : ℕ) → Became (around h f old.held (terms.frame number inputs results body) i (term_view left)) (term_view Done) old new
  frame_ends f number inputs results left outputs old new b tells is_true copied set body i =
      let same : around h f old.held (terms.frame number inputs results body) i (term_view left) ≡ left_by (returned f number inputs results old.held) terms.done =
      ap (λ (t : terms.Term). around h f old.held (terms.frame number inputs results body) i t) (sym (ends (term_view left) (sym is_true ∙ tells))) in
      record {
        term = view-Done ∙ sym (ap (λ (p : Process). p.term) same);
        state = set ∙ ap (λ (vs : List Value). changed old (set_slots f results vs old.held)) copied
            ∙ ap (changed old) (taken_set f results (drop inputs (locals old.held number)) old.held ∙ sym (ap (λ (p : Process). p.state) same));
      }
