-- Where statements open, in the code's words.
use Rattle.pz_classes_code.specs.pz_syntax.Classes.{ModelTree}
use Rattle.pz_classes_code.specs.pz_value.declared.value.ClassId.{ClassId}
use Rattle.pz_classes.specs.CheckedView.{checked_model}
use Rattle.pz_rules.specs.declared.limits.Limits.{Limits}
use Rattle.pz_rules.specs.Settings as rules
use Rattle.pz_part_opening.specs.declared.home.Home.{Home}

abbrev pub home_in : ModelTree → ClassId → Limits → rules.Home
home_in m class limits = record { model = m; edition = limits.edition; class = class.0 }

-- what a home of the code stands for
abbrev pub home_view : Home → rules.Home
home_view h = record { model = checked_model h.checked.now; edition = h.edition; class = h.class.0 }
