-- What the code knows of a model and of a class when it comes to a word.
use Rattle.std.specs.Prelude.{◌≡◌, ℕ, Bool, List, [], ◌∷◌}
use Rattle.std.specs.List.{list_any}
use Rattle.pz_classes_code.specs.pz_syntax.Classes.{DeclTree, ModelTree}
use Rattle.pz_classes_code.specs.pz_syntax.ClassView.{decl_view, model_view}
use Rattle.pz_classes.specs.pz_classes_rules.declared.method_id.Counts.TheVariants.{Data}
use Rattle.pz_classes.specs.pz_classes_rules.Ancestors.{ancestors}
use Rattle.pz_classes.specs.pz_classes_rules.Methods.{Signature, same_signature}
use Rattle.pz_classes.specs.pz_classes_rules.CallRules.{is_declared}
use Rattle.pz_classes.specs.devices.Rows.{AreClasses}
use Rattle.pz_check_names.specs.devices.Sets.{has_selector}
use Rattle.pz_check_names.specs.devices.Shown.{ShowsNames}
use Rattle.pz_check_names.specs.devices.Inherited.{IsOpen}
use Rattle.pz_check_names.specs.declared.declared.Declared.{Declared}
use Rattle.pz_check_names.specs.declared.class_scope.ClassScope.{ClassScope}
use Rattle.pz_check_names.specs.declared.stretch.Stretch.{Stretch}

-- the data method that a selector with so many arguments asks for
abbrev pub asked : List ℕ → ℕ → Signature
asked name count = record { name = name; counts = Data count }

abbrev pub is_one_of : Signature → List Signature → Bool
is_one_of s ss = list_any (same_signature s) ss

abbrev pub model_of : Declared → ModelTree
model_of declared = model_view declared.model.now

pub record AreDeclared (declared : Declared) : Type 0 where
  pub classes : AreClasses (model_of declared) declared.classes.now
  pub selectors : (q : List ℕ) (n : ℕ) → has_selector declared.selectors.now q n ≡ is_declared (model_of declared) (asked q n)

abbrev pub decl_of : ClassScope → DeclTree
decl_of scope = decl_view scope.decl.now

-- what the class of this scope and its ancestors declare is known
abbrev pub IsScope : Declared → ClassScope → Type 0
IsScope declared scope = IsOpen (model_of declared) (ancestors (model_of declared) scope.class.0) scope.inherited.now

-- the local names of the part are noted, in one scope
abbrev pub HasLocals : Stretch → Type 0
HasLocals s = ShowsNames (s.part.now.locals ∷ []) s.locals
