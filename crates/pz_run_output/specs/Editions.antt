-- What the first line of a trace that is replayed asks of the model.
use Rattle.std.specs.Prelude.{ℕ, List}
use Rattle.pz_bind.specs.pz_syntax.Classes.{ModelTree}
use Rattle.pz_classes_openings.specs.OpeningRules.{Opens}
use Rattle.pz_trace.specs.declared.forms.Form.{Form}
use Rattle.pz_trace.specs.declared.forms.Form.TheVariants.{One}
use Rattle.pz_trace.specs.Forms.{HasHeader}

-- no line of it is the first, or one that is no header
abbrev pub HasNoHeader : List ℕ → Type 0
HasNoHeader trace = (form : Form) → HasHeader form trace → ⊥

-- The first edition is told by its header alone: any other first line, and none, is of the second.
abbrev pub IsOfSecondEdition : List ℕ → Type 0
IsOfSecondEdition trace = HasHeader One trace → ⊥

-- C23 and C24 are rules of the second edition
abbrev pub OpensFor : List ℕ → ModelTree → Type 0
OpensFor trace m = IsOfSecondEdition trace → Opens m
