-- What the code holds of the names around a method.
use Rattle.std.specs.Prelude.{◌≡◌, ℕ, List}
use Rattle.pz_classes_code.specs.pz_syntax.declared.names.Id.{Id}
use Rattle.pz_classes_code.specs.pz_syntax.Classes.{ModelTree}
use Rattle.pz_classes_code.specs.declared.numbering.Numbering.{Numbering}
use Rattle.pz_classes_code.specs.NumberIn.{number_in}
use Rattle.pz_classes_code.specs.Resolution.{Scope}
use Rattle.pz_classes_rules.specs.Numbers.{class}
use Rattle.pz_classes_rules.specs.Members.{spelled}
use Rattle.pz_classes_code.specs.Places.{place_in}
use Rattle.pz_classes.specs.declared.surroundings.Surroundings.{Surroundings}

-- what names stand for in a method with these of its own
abbrev pub scope_around : Surroundings → Numbering → List Id → Scope
scope_around around classes locals = record {
  locals = place_in (spelled locals);
  shared = place_in around.shared.now.names;
  ports = place_in around.ports.now.names;
  classes = number_in classes;
}

-- the numbering has the classes of the model
abbrev pub Numbers : ModelTree → Numbering → Type 0
Numbers m classes = (q : List ℕ) → number_in classes q ≡ class m q
