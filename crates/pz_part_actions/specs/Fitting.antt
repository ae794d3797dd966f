-- Parts that fit the process class in which they stand.
use Rattle.std.specs.Prelude.{ℕ}
use Rattle.pz_classes_code.specs.pz_syntax.Classes.{ModelTree}
use Rattle.pz_classes_code.specs.pz_value.declared.value.ClassId.{ClassId}
use Rattle.pz_part_queries.specs.pz_classes.Tables.{HasClass}
use Rattle.pz_rules.specs.pz_classes_rules.SoundBodies.{BodiesFit}
use Rattle.pz_rules.specs.Terms.{Term}
use Rattle.pz_rules.specs.Fitting.{TermFits}
use Rattle.pz_part_queries.specs.declared.standpoint.Standpoint.{Standpoint}
use Rattle.pz_part_queries.specs.Standpoints.{Knows}

-- the classes are those of a model whose bodies fit, the class is one of them, and the part fits it, in
-- a frame with so many locals
pub record FitsHere (here : Standpoint) (class : ClassId) (part : Term) : Type 0 where
  pub model : ModelTree
  pub knows : Knows model here
  pub bodies : BodiesFit model
  pub belongs : HasClass here.classes.now class
  pub locals : ℕ
  pub fits : TermFits model class.0 locals part
