-- Laws of plain calls, those without inputs and without results.
use Rattle.std.specs.Prelude.{◌≡◌, ◌≤◌, ◌+◌, ℕ, List, [], length, Some}
use Rattle.pz_bind_rules.specs.pz_syntax.declared.tokens.Pos.{Pos}
use Rattle.pz_bind_rules.specs.pz_syntax.declared.names.Id.{Id}
use Rattle.pz_bind_rules.specs.pz_syntax.Expressions.{none}
use Rattle.pz_bind_rules.specs.pz_syntax.Statements.{call}
use Rattle.pz_bind_rules.specs.pz_syntax.Classes.{ModelTree}
use Rattle.pz_bind_rules.specs.pz_check_violations.declared.violation.Violation.{Violation}
use Rattle.pz_bind_rules.specs.pz_classes_rules.declared.method_id.Counts.TheVariants.{Process as process_counts}
use Rattle.pz_bind_rules.specs.pz_classes_rules.Bodies.{process_body}
use Rattle.pz_bind_rules.specs.pz_classes_rules.MethodBodies.{HasBody}
use Rattle.pz_bind_rules.specs.pz_classes_rules.Soundness.{IsSound}
use Rattle.pz_bind_rules.specs.pz_classes_rules.Starts.{init}
use Rattle.pz_classes_openings.specs.Openings.{HasMethod}
use Rattle.pz_classes_openings.specs.OpeningRules.{BreaksC23, Opens}
use Rattle.pz_offer.specs.pz_state.States.{StateView}
use Rattle.pz_rules.specs.declared.limits.Edition.TheVariants.{One, Two}
use Rattle.pz_rules.specs.Terms.{Step, Steps, leaf}
use Rattle.pz_rules.specs.Settings.{left_by, Home}
use Rattle.pz_rules.specs.Openable.{IsProcessClass, IsPartOf}
use Rattle.pz_rules.specs.Methods.{IsMethod}
use Rattle.pz_rules.specs.Opening.{in_frame, called_body, depth_of, opened, opened_all}
use Rattle.pz_rules.specs.Shallow.{Shallow}

abbrev pub plain_call : Pos → Id → Step
plain_call pos method = call pos method none []

-- no method begins with itself
abbrev pub NoRounds : ModelTree → Type 0
NoRounds m = (v : Violation) → BreaksC23 m v → ⊥

-- then no more methods open in one another than there are
abbrev pub MethodsAreShallow : Type 0
MethodsAreShallow = (m : ModelTree) (c k : ℕ) → IsProcessClass m c → NoRounds m → HasMethod m c k → Shallow m c (depth_of m) k

-- a process class of a sound model in edition Two, in which no method begins with itself
pub record OpensCalls (h : Home) : Type 0 where
  pub edition : h.edition ≡ Two
  pub sound : IsSound h.model
  pub process : IsProcessClass h.model h.class
  pub rounds : NoRounds h.model

-- the class has the method that a plain call of this name means, with so many locals and this body
pub record IsCalled (h : Home) (method : Id) (locals : ℕ) (body : Steps) : Type 0 where
  pub has : HasBody h.model h.class (record { name = method.name; counts = process_counts 0 0 })
  pub is : called_body h method ≡ Some (process_body locals body)

-- There a plain call opens as a frame round the body of its method, which opens in it: so the depth to which
-- calls are followed plays no part.
abbrev pub CallsUnfold : Type 0
CallsUnfold = (h : Home) (pos : Pos) (method : Id) (locals : ℕ) (body : Steps) (s : StateView) → OpensCalls h → IsCalled h method locals body
    → opened h (plain_call pos method) s ≡ in_frame locals (opened_all h body) s

-- in edition One it stands as it is
abbrev pub CallsStand : Type 0
CallsStand = (h : Home) (pos : Pos) (method : Id) (s : StateView) → h.edition ≡ One → opened h (plain_call pos method) s ≡ left_by s (leaf (plain_call pos method))

-- so does, in either edition, a call of what is no method of a process class
abbrev pub CallsOfNoneStand : Type 0
CallsOfNoneStand = (h : Home) (pos : Pos) (method : Id) (s : StateView)
    → ((locals : ℕ) (body : Steps) → called_body h method ≡ Some (process_body locals body) → ⊥)
    → opened h (plain_call pos method) s ≡ left_by s (leaf (plain_call pos method))

-- In edition Two, in a model that violates neither C23 nor C24, what opens out of a body of a method that a
-- process class has, or out of a part of it, brings at most 1,000,000 frames.
abbrev pub BodiesBringFewFrames : Type 0
BodiesBringFewFrames = (h : Home) (name : List ℕ) (inputs outputs locals : ℕ) (body part : Steps) (s : StateView) → h.edition ≡ Two → IsProcessClass h.model h.class → Opens h.model
    → IsMethod h.model h.class name inputs outputs locals body → IsPartOf body part
    → length (opened_all h part s).state.frames ≤ length s.frames + 1000000

-- the call with which a process starts brings its own frame, and at most 1,000,000 more
abbrev pub StartsBringFewFrames : Type 0
StartsBringFewFrames = (h : Home) (first : Step) (s : StateView) → h.edition ≡ Two → IsProcessClass h.model h.class → Opens h.model → init h.model h.class ≡ Some first
    → length (opened h first s).state.frames ≤ length s.frames + 1000001
