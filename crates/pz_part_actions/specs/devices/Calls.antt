-- Methods that can be called, and frames round their bodies.
use Rattle.std.specs.Prelude.{ℕ, List}
use Rattle.pz_classes_code.specs.pz_syntax.Classes.{ModelTree}
use Rattle.pz_classes_code.specs.pz_value.declared.value.ClassId.{ClassId}
use Rattle.pz_classes_code.specs.declared.slot.Slot.{Slot}
use Rattle.pz_part_queries.specs.pz_classes.declared.classes.Classes.{Classes}
use Rattle.pz_rules.specs.pz_classes_rules.declared.method_id.Counts.TheVariants.{Process}
use Rattle.pz_rules.specs.pz_classes_rules.MethodBodies.{HasBody}
use Rattle.pz_rules.specs.pz_classes_rules.SoundBodies.{BodiesFit}
use Rattle.pz_part_queries.specs.pz_classes.Tables.{HasClass}
use Rattle.pz_part_queries.specs.pz_classes.devices.Rows.{AreClasses}
use Rattle.pz_rules.specs.Framing.{framed}
use Rattle.pz_rules.specs.Settings as settings
use Rattle.pz_rules.specs.Settings.{left_by}

-- the classes are those of a model whose bodies fit, and this one has the method
pub record IsCallable (classes : Classes) (class : ClassId) (name : List ℕ) (inputs outputs : ℕ) : Type 0 where
  pub model : ModelTree
  pub tabled : ∥ AreClasses model classes ∥₁
  pub bodies : BodiesFit model
  pub belongs : HasClass classes class
  pub there : HasBody model class.0 (record { name = name; counts = Process inputs outputs })

-- a frame of this number round a body that has opened
abbrev pub round_body : ℕ → ℕ → List Slot → settings.Process → settings.Process
round_body number inputs results x = left_by x.state (framed number inputs results x.term)
