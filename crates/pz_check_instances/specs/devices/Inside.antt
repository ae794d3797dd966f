-- What the code keeps of a declaration that has instances.
use Rattle.std.specs.Prelude.{◌≡◌, ℕ, List}
use Rattle.pz_classes_code.specs.pz_syntax.ClassView.{decl_view}
use Rattle.pz_classes_code.specs.NumberIn.{number_in}
use Rattle.pz_classes.specs.pz_classes_rules.Instances.{instances}
use Rattle.pz_check_instances.specs.devices.Ends.{place_named}
use Rattle.pz_check_instances.specs.declared.needs.Inside.{Inside}

-- the places are those of its instances
abbrev pub IsInside : Inside → Type 0
IsInside i = (q : List ℕ) → number_in i.places.now q ≡ place_named 0 (instances (decl_view i.decl.now)) q
