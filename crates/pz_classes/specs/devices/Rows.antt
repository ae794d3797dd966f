-- What the table of a model's classes holds.
use Rattle.std.specs.Prelude.{◌≡◌, ℕ, suc, List, [], ◌∷◌, map, Option}
use Rattle.std.specs.Option.{option_map}
use Rattle.pz_classes_code.specs.pz_syntax.Classes.{DeclTree, ModelTree}
use Rattle.pz_classes_rules.specs.Numbers.{class}
use Rattle.pz_classes_rules.specs.ClassNames.{class_names}
use Rattle.pz_classes_rules.specs.Ancestors.{parent}
use Rattle.pz_classes_rules.specs.Members.{fields, variables, ports, spelled}
use Rattle.pz_classes_rules.specs.Methods.{Signature, own_method}
use Rattle.pz_classes.specs.devices.MethodIn.{method_in}
use Rattle.pz_classes_rules.specs.Bodies.{bodies}
use Rattle.pz_classes_rules.specs.Preorder.{IsPreorderOf}
use Rattle.pz_classes_rules.specs.BodyView.{body_view}
use Rattle.pz_classes_rules.specs.Starts.{own_call}
use Rattle.pz_classes_code.specs.NumberIn.{number_in}
use Rattle.pz_classes_code.specs.StepView.{Tree}
use Rattle.pz_classes_code.specs.StepView as step
use Rattle.pz_classes_rules.specs.declared.method_id.MethodId.{MethodId}
use Rattle.pz_classes.specs.declared.entry.Entry.{Entry}
use Rattle.pz_classes.specs.declared.classes.Classes.{Classes}

-- what is kept of a class
pub record Row : Type 0 where
  pub parent : Option ℕ
  pub fields : List (List ℕ)
  pub variables : List (List ℕ)
  pub ports : List (List ℕ)
  pub start : Option Tree
  pub methods : Signature → Option MethodId

-- the row of the class of this number
abbrev pub row : ModelTree → ℕ → Row
row m c = record {
  parent = parent m c;
  fields = spelled (fields m c);
  variables = spelled (variables m c);
  ports = spelled (ports m c);
  start = own_call m c;
  methods = λ s. own_method m s c;
}

-- the rows of these classes, of which the first has number n
abbrev pub rows_from : ModelTree → ℕ → List DeclTree → List Row
rows_from m n [] = []
rows_from m n (d ∷ ds) = row m n ∷ rows_from m (suc n) ds

-- the row of Array and those of the declarations
abbrev pub rows : ModelTree → List Row
rows m = row m 0 ∷ rows_from m 1 m.decls

abbrev pub row_view : Entry → Row
row_view e = record {
  parent = e.parent;
  fields = e.members.fields;
  variables = e.members.variables;
  ports = e.members.ports;
  start = option_map step.view e.start;
  methods = method_in e.methods;
}

-- these are the classes of the model
pub record AreClasses (m : ModelTree) (classes : Classes) : Type 0 where
  pub names : classes.names ≡ class_names m
  pub numbers : (name : List ℕ) → number_in classes.numbering name ≡ class m name
  pub rows : map row_view classes.entries ≡ rows m
  pub bodies : map body_view classes.bodies ≡ bodies m
  pub preorder : IsPreorderOf m classes.preorder
