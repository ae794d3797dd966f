-- What the first line of a trace tells of the run: by which edition of the rules it was made, and with
-- which limits.
use Rattle.std.specs.Prelude.{◌≡◌, ◌≤◌, ◌<◌, ◌^◌, ℕ, nat_eq, if◌then◌else◌, List, ◌++◌}
use Rattle.pz_rules.specs.declared.limits.Edition.{Edition}
use Rattle.pz_rules.specs.declared.limits.Edition.TheVariants as edition
use Rattle.pz_rules.specs.declared.limits.Limits.{Limits}
use Rattle.pz_trace.specs.declared.forms.Form.{Form}
use Rattle.pz_trace.specs.declared.forms.Form.TheVariants.{One, Two, Three}
use Rattle.pz_trace.specs.Lines.{header}

-- the depth of an evaluation where the first line tells no units, and where it does
abbrev pub early_depth : ℕ
early_depth = 400

abbrev pub late_depth : ℕ
late_depth = 20000

-- the first edition; the second with the early depth; and the second with any other
abbrev pub form_by : Edition → ℕ → ℕ → Form
form_by edition.One depth units = One
form_by edition.Two depth units = if nat_eq depth early_depth then Two else Three units

abbrev pub form_of : Limits → Form
form_of limits = form_by limits.edition limits.depth limits.units

abbrev pub with_limits : ℕ → ℕ → Edition → Limits
with_limits units depth by = record { units = units; depth = depth; height = 1000; edition = by }

-- the limits that it tells, with so many units where it tells none
abbrev pub limits_of : Form → ℕ → Limits
limits_of One units = with_limits units early_depth edition.One
limits_of Two units = with_limits units early_depth edition.Two
limits_of (Three told) units = with_limits told late_depth edition.Two

-- the units with which it is read
abbrev pub AreUnits : ℕ → Type 0
AreUnits units = (1 ≤ units) × (units ≤ 1000000000)

abbrev pub IsForm : Form → Type 0
IsForm One = Unit {0}
IsForm Two = Unit {0}
IsForm (Three units) = AreUnits units

-- and those with which one is written
abbrev pub IsWritten : Form → Type 0
IsWritten One = Unit {0}
IsWritten Two = Unit {0}
IsWritten (Three units) = units < 2 ^ 64

-- a text begins with the header of this form
pub record HasHeader (form : Form) (text : List ℕ) : Type 0 where
  pub is_form : IsForm form
  pub rest : List ℕ
  pub begins : text ≡ header form ++ rest
