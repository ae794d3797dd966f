-- What a checked model holds.
use Rattle.pz_classes_code.specs.pz_syntax.Classes.{ModelTree}
use Rattle.pz_classes_code.specs.pz_syntax.ClassView.{model_view}
use Rattle.pz_classes.specs.declared.classes.Classes.{Classes}
use Rattle.pz_classes.specs.declared.checked.Checked.{Checked}

abbrev pub checked_model : Checked → ModelTree
checked_model c = model_view c.model

abbrev pub checked_classes : Checked → Classes
checked_classes c = c.classes
