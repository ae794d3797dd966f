-- What a subject knows of its state, so that it names only what is there.
use Rattle.std.specs.Prelude.{◌≡◌, ℕ, List, [], ◌∷◌, length, reverse, Option, Some}
use Rattle.std.specs.Option.{option_map}
use Rattle.pz_copy.specs.pz_state.States.{StateView, locals_in}
use Rattle.rows_state.specs.declared.subject.Frame.{Frame}
use Rattle.rows_state.specs.declared.subject.Saved.{Saved}
use Rattle.rows_state.specs.declared.subject.Subject.TheInside.{Inside}

-- so many variables, and the frame is open and has so many locals
pub record IsKnown (variables : ℕ) (frame : Option Frame) (s : StateView) : Type 0 where
  pub vars : length s.vars ≡ variables
  pub named : (f : Frame) → frame ≡ Some f → option_map length (locals_in s.frames f.id.0) ≡ Some f.locals

-- the same of each marked state, the latest first
abbrev pub AreSaved : ℕ → List Saved → List (ℕ × StateView) → Type 0
AreSaved variables [] [] = Unit {0}
AreSaved variables (x ∷ xs) (m ∷ ms) = (x.point ≡ m.0) × IsKnown variables x.frame m.1 × AreSaved variables xs ms
AreSaved variables _ _ = ⊥

pub record IsShadowed (s : Inside) : Type 0 where
  pub now : IsKnown s.variables s.frame s.state.held
  pub saved : AreSaved s.variables (reverse s.saved.items) s.state.marks
