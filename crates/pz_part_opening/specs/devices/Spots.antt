-- Where statements open, in the code's words; and where what stands there has no inside.
use Rattle.std.specs.Prelude.{◌≡◌, ◌⊎◌, ℕ, [], Option, Some, None}
use Rattle.pz_classes_code.specs.pz_syntax.declared.tokens.Pos.{Pos}
use Rattle.pz_classes_code.specs.pz_syntax.declared.names.Id.{Id}
use Rattle.pz_classes_code.specs.pz_syntax.Expressions.{none}
use Rattle.pz_classes_code.specs.pz_syntax.Statements.{bracketed, call, no_statements, then}
use Rattle.pz_classes.specs.pz_classes_rules.Bodies.{process_body}
use Rattle.pz_classes_code.specs.StepView.{view, sequence_view}
use Rattle.pz_rules.specs.declared.limits.Edition.TheVariants.{One as first_edition}
use Rattle.pz_rules.specs.Terms.{Step, Steps}
use Rattle.pz_rules.specs.Settings.{Home}
use Rattle.pz_rules.specs.Openable.{alone}
use Rattle.pz_rules.specs.Opening.{called_body}
use Rattle.pz_rules.specs.CallLaws.{plain_call, OpensCalls, IsCalled}
use Rattle.pz_part_opening.specs.declared.spot.Spot.{Spot}
use Rattle.pz_part_opening.specs.declared.spot.Spot.TheVariants.{One, Several}
use Rattle.pz_part_opening.specs.declared.spot.Way.{Way}

-- the statements that stand there
abbrev pub spot_view : Spot → Steps
spot_view (One step) = alone (view step.now)
spot_view (Several steps) = sequence_view steps.now

-- a plain call of this name stands as it is: edition One, or no such method
abbrev pub CallStands : Home → Id → Type 0
CallStands h method = (h.edition ≡ first_edition) ⊎ ((locals : ℕ) (body : Steps) → called_body h method ≡ Some (process_body locals body) → ⊥)

-- neither a bracket, nor a plain call that opens
abbrev pub StepStands : Home → Step → Type 0
StepStands h (bracketed pos ts) = ⊥
StepStands h (call pos method none []) = CallStands h method
StepStands h r = Unit {0}

-- none of these is all that stands there
abbrev pub Stands : Home → Steps → Type 0
Stands h ((then) r no_statements) = StepStands h r
Stands h ts = Unit {0}

-- a bracket is all that stands there, and these stand in it
pub record IsBracketOf (whole inner : Steps) : Type 0 where
  pub pos : Pos
  pub is : whole ≡ alone (bracketed pos inner)

-- a plain call is, and opens as a frame with so many locals round these
pub record IsCallOf (h : Home) (whole : Steps) (locals : ℕ) (inner : Steps) : Type 0 where
  pub pos : Pos
  pub method : Id
  pub is : whole ≡ alone (plain_call pos method)
  pub opens : OpensCalls h
  pub called : IsCalled h method locals inner

abbrev pub IsInside : Home → Steps → Option ℕ → Steps → Type 0
IsInside h whole None inner = IsBracketOf whole inner
IsInside h whole (Some locals) inner = IsCallOf h whole locals inner

abbrev pub IsWay : Home → Steps → Way → Type 0
IsWay h whole way = IsInside h whole way.locals (sequence_view way.steps.now)
