-- What a level makes of what is left inside.
use Rattle.std.proofs.Common.{◌≡◌, ℕ, List, sym, subst, ap}
use Rattle.pz_classes_code.specs.declared.slot.Slot.{Slot}
use Rattle.pz_classes_code.specs.declared.step.Step.{Step}
use Rattle.pz_classes_code.specs.StepView.{view, sequence_view}
use Rattle.pz_rules.specs.pz_state.declared.state.FrameId.{FrameId}
use Rattle.pz_rules.specs.pz_state.Marks.{Seen}
use Rattle.pz_rules.specs.declared.term.Term as code
use Rattle.pz_rules.specs.Terms.{Term, done, sequence, frame}
use Rattle.pz_rules.specs.Settings.{Process, left_by, Home}
use Rattle.pz_rules.specs.Leaving.{around, handled}
use Rattle.pz_rules.specs.View.{term_view}
use Rattle.pz_rules.specs.Becoming.{Became}
use Rattle.pz_term_residual.specs.declared.levels.Level.{Level}
use Rattle.pz_term_residual.specs.declared.levels.Level.TheVariants as level
use Rattle.pz_term_residual.specs.devices.Unwound.{put_round}

module _ (h : Home) where
  pub round_sequence : (l : Level) (rest : List Step) (s t : Seen) (left term : Term) → l ≡ level.Sequence rest
      → ((f : ℕ) (first : Term) (i : ℕ) → Became (around h f s.held (sequence first (sequence_view rest)) i left) term s t)
      → Became (put_round h l (left_by s.held left)) term s t
  round_sequence l rest s t left term is up = subst (λ (p : Process). Became p term s t) (sym (ap (λ (k : Level). put_round h k (left_by s.held left)) is)) (up 0 done 0)

  pub round_frame : (l : Level) (outer own : FrameId) (inputs : ℕ) (results : List Slot) (s t : Seen) (left term : Term) → l ≡ level.Frame outer own inputs results
      → ((home : Home) (body : Term) (i : ℕ) → Became (around home outer.0 s.held (frame own.0 inputs results body) i left) term s t)
      → Became (put_round h l (left_by s.held left)) term s t
  round_frame l outer own inputs results s t left term is up =
      subst (λ (p : Process). Became p term s t) (sym (ap (λ (k : Level). put_round h k (left_by s.held left)) is)) (up h done 0)

  pub round_handling : (l : Level) (first : code.Term) (again : Step) (s t : Seen) (left term : Term) → l ≡ level.Handling first again
      → Became (handled h s.held (term_view first) (view again) left) term s t → Became (put_round h l (left_by s.held left)) term s t
  round_handling l first again s t left term is up = subst (λ (p : Process). Became p term s t) (sym (ap (λ (k : Level). put_round h k (left_by s.held left)) is)) up
