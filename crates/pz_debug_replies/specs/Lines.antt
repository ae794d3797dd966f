-- The lines that a session prints beside those of traces.
use Rattle.std.specs.Prelude.{ℕ, ◌+◌, List, [], ◌∷◌, ◌++◌, codes}
use Rattle.std.specs.Fmt.{decimal}
use Rattle.pz_classes_code.specs.pz_syntax.Classes.{ModelTree}
use Rattle.pz_rules.specs.pz_classes_rules.ClassNames.{class_names}
use Rattle.pz_rules.specs.pz_copy.Parcels.{ParcelView}
use Rattle.pz_rules.specs.pz_copy.ParcelText.{parcel_text}
use Rattle.pz_rules.specs.declared.action.Action.{Action}
use Rattle.pz_trace.specs.Labels.{label}
use Rattle.pz_trace.specs.Lines.{newline}

-- `clock actions n`
abbrev pub menu_line : ℕ → ℕ → List ℕ
menu_line clock n = decimal clock ++ (codes " actions " ++ (decimal n ++ newline))

-- `offer k label`
abbrev pub offer_line : ModelTree → ℕ → Action → List ℕ
offer_line m k a = codes "offer " ++ (decimal k ++ (codes " " ++ (label m a ++ newline)))

-- a line for each, from number k on
abbrev pub offers_text : ModelTree → ℕ → List Action → List ℕ
offers_text m k [] = []
offers_text m k (a ∷ actions) = offer_line m k a ++ offers_text m (k + 1) actions

-- `clock waiting d`
abbrev pub waiting_line : ℕ → ℕ → List ℕ
waiting_line clock d = decimal clock ++ (codes " waiting " ++ (decimal d ++ newline))

-- `clock refused k of n`
abbrev pub refused_pick_line : ℕ → ℕ → ℕ → List ℕ
refused_pick_line clock k n = decimal clock ++ (codes " refused " ++ (decimal k ++ (codes " of " ++ (decimal n ++ newline))))

-- `clock refused pass`
abbrev pub refused_pass_line : ℕ → List ℕ
refused_pass_line clock = decimal clock ++ codes " refused pass\n"

-- `back to steps clock clock`: the steps that are left, and the clock after them
abbrev pub back_line : ℕ → ℕ → List ℕ
back_line steps clock = codes "back to " ++ (decimal steps ++ (codes " clock " ++ (decimal clock ++ newline)))

-- `refused back n of steps`
abbrev pub refused_back_line : ℕ → ℕ → List ℕ
refused_back_line n steps = codes "refused back " ++ (decimal n ++ (codes " of " ++ (decimal steps ++ newline)))

-- `path name = (value){..}`
abbrev pub show_line : ModelTree → List ℕ → List ℕ → ParcelView → List ℕ
show_line m path name parcel = path ++ (codes " " ++ (name ++ (codes " = " ++ (parcel_text (class_names m) parcel ++ newline))))

abbrev pub refused_show_line : List ℕ
refused_show_line = codes "refused show\n"

-- `refused command line`
abbrev pub refused_command_line : ℕ → List ℕ
refused_command_line line = codes "refused command " ++ (decimal line ++ newline)
