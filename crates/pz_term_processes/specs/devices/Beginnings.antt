-- How high a process begins.
use Rattle.std.specs.Prelude.{◌≡◌, ◌≤◌, ◌<◌, ℕ, [], Some, slice_get}
use Rattle.pz_classes_code.specs.pz_syntax.declared.tokens.Pos.{Pos}
use Rattle.pz_classes_code.specs.pz_syntax.declared.names.Id.{Id}
use Rattle.pz_classes_code.specs.pz_syntax.Statements.{call}
use Rattle.pz_rules.specs.pz_classes_rules.Starts.{init}
use Rattle.pz_bind_levels.specs.Places.{Address}
use Rattle.pz_rules.specs.pz_bind_rules.Nest.{processes, class_at}
use Rattle.pz_rules.specs.pz_offer.declared.trouble.Trouble.{Trouble}
use Rattle.pz_rules.specs.pz_offer.declared.trouble.Trouble.TheVariants.{High}
use Rattle.pz_rules.specs.Terms.{Codes, height}
use Rattle.pz_rules.specs.Settings.{Setting}
use Rattle.pz_rules.specs.devices.Start.{start_at}

abbrev pub BeginsLow : Setting → ℕ → Type 0
BeginsLow setting i = (place : Address) → slice_get (processes setting.model) i ≡ Some place → height (start_at setting place).term ≤ setting.limits.height

-- too high, with the trouble that names the place of its call
pub record IsHighAt (setting : Setting) (i : ℕ) (place : Address) (trouble : Trouble) : Type 0 where
  pub high : setting.limits.height < height (start_at setting place).term
  pub pos : Pos
  pub method : Id
  pub args : Codes
  pub begins : init setting.model (class_at setting.model place) ≡ Some (call pos method args [])
  pub says : trouble ≡ High i pos

abbrev pub BeginsHigh : Setting → ℕ → Trouble → Type 0
BeginsHigh setting i trouble = (place : Address) → slice_get (processes setting.model) i ≡ Some place → IsHighAt setting i place trouble
