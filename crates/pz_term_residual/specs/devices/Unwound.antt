-- A term taken apart into levels, and what the levels make of what is left inside.
use Rattle.std.specs.Prelude.{◌≡◌, ◌<◌, ℕ, List, [], ◌∷◌, length}
use Rattle.pz_classes_code.specs.StepView.{view, sequence_view}
use Rattle.pz_rules.specs.pz_state.States.{StateView}
use Rattle.pz_rules.specs.Terms.{Term, done, sequence, parallel, frame, abort, idle, handling, child, frame_in}
use Rattle.pz_rules.specs.Settings.{Process, left_by, Home}
use Rattle.pz_rules.specs.Leaving.{around}
use Rattle.pz_rules.specs.View.{term_view, terms_view}
use Rattle.pz_term_residual.specs.declared.levels.Level.{Level}
use Rattle.pz_term_residual.specs.declared.levels.Level.TheVariants as level
use Rattle.pz_term_residual.specs.declared.levels.Inside.{Inside}

-- A level round what is left inside. The rules never look at the child that has become another, so it
-- counts as done here; and they look at the frame of a term only where the term is a frame.
abbrev pub put_round : Home → Level → Process → Process
put_round h level.Gone p = p
put_round h (level.Sequence rest) p = around h 0 p.state (sequence done (sequence_view rest)) 0 p.term
put_round h (level.Parallel parts acting) p = around h 0 p.state (parallel (terms_view parts)) acting p.term
put_round h (level.Frame outer own inputs results) p = around h outer.0 p.state (frame own.0 inputs results done) 0 p.term
put_round h (level.Abort second) p = around h 0 p.state (abort done (term_view second)) 0 p.term
put_round h (level.Idle second again) p = around h 0 p.state (idle done (term_view second) (view again)) 0 p.term
put_round h (level.Handling first again) p = around h 0 p.state (handling (term_view first) done (view again)) 1 p.term

-- levels from the whole to the part, each round what the further ones make
abbrev pub unwound : Home → List Level → Process → Process
unwound h [] p = p
unwound h (l ∷ ls) p = put_round h l (unwound h ls p)

-- among parts side by side there is one of the number that acts
abbrev pub HasItsPlace : Level → Type 0
HasItsPlace (level.Parallel parts acting) = acting < length parts
HasItsPlace _ = Unit {0}

-- what is inside of a term in frame f: the child of this number
pub record IsInside (f : ℕ) (t : Term) (i : ℕ) (inside : Inside) : Type 0 where
  pub part : term_view inside.term ≡ child t i
  pub stands : inside.frame.0 ≡ frame_in t f
  pub round : (h : Home) (s : StateView) (x : Term) → around h f s t i x ≡ put_round h inside.level (left_by s x)
  pub place : HasItsPlace inside.level
