-- The classes and methods that look-ups give are those of the model.
use Rattle.std.proofs.Common.{◌≡◌, refl, sym, ap, ◌∙◌, ℕ, suc, ◌+◌, ◌<◌, List, [], ◌∷◌, map, length, Option, Some, None, arith}
use Rattle.std.specs.Option.{option_map, IfSome}
use Rattle.std.proofs.lemmas.List.{length-map}
use Rattle.pz_classes_code.specs.pz_syntax.Classes.{DeclTree, ModelTree}
use Rattle.pz_classes.specs.declared.entry.Entry.{Entry}
use Rattle.pz_classes_rules.specs.declared.method_id.MethodId.{MethodId}
use Rattle.pz_classes_rules.specs.Numbers.{class}
use Rattle.pz_classes_rules.specs.Ancestors.{parent}
use Rattle.pz_classes_rules.specs.Methods.{Signature, method_with}
use Rattle.pz_classes_rules.specs.Bodies.{BodyTree, bodies}
use Rattle.pz_classes_rules.specs.BodyView.{body_view}
use Rattle.pz_classes.specs.declared.classes.Classes.{Classes}
use Rattle.pz_classes_code.specs.pz_value.declared.value.ClassId.{ClassId}
use Rattle.pz_classes_rules.specs.ClassNames.{class_id}
use Rattle.pz_classes.specs.Tables.{HasClass, HasMethod}
use Rattle.pz_classes.specs.devices.Rows.{rows, rows_from, row_view, AreClasses}
use Rattle.pz_classes_rules.proofs.Within.{class_within, parent_within, method_within, bodies_length}

rows_from_length : (m : ModelTree) (n : ℕ) (ds : List DeclTree) → length (rows_from m n ds) ≡ length ds
rows_from_length m n [] = refl
rows_from_length m n (d ∷ ds) = ap (λ (k : ℕ). suc k) (rows_from_length m (suc n) ds)

pub entries_length : (m : ModelTree) (es : List Entry) → map row_view es ≡ rows m → length es ≡ suc (length m.decls)
entries_length m es are = sym (length-map es row_view) ∙ ap (λ (rs : List _). length rs) are ∙ ap (λ (k : ℕ). suc k) (rows_from_length m 1 m.decls)

module _ (m : ModelTree) (classes : Classes) (are : AreClasses m classes) where
  entries_are : length classes.entries ≡ suc (length m.decls)
  entries_are = entries_length m classes.entries are.rows

  bodies_are : length classes.bodies ≡ length (bodies m)
  bodies_are = sym (length-map classes.bodies body_view) ∙ ap (λ (bs : List BodyTree). length bs) are.bodies

  pub count_is : (n : ℕ) → n ≡ length classes.entries → n ≡ length m.decls + 1
  count_is n is = let count : length classes.entries ≡ suc (length m.decls) = entries_are in omega arith

  pub class_belongs : (o : Option ℕ) (found : Option ClassId) (name : List ℕ) → o ≡ class m name → found ≡ option_map class_id o → IfSome found (HasClass classes)
  class_belongs None found name is gives = rw gives tt
  class_belongs (Some c) found name is gives =
      let within : c < suc (length m.decls) = class_within m c name (sym is) in
      let count : length classes.entries ≡ suc (length m.decls) = entries_are in
      let belongs : c < length classes.entries = omega arith in
      rw gives belongs

  pub parent_belongs : (o : Option ℕ) (found : Option ClassId) (c : ℕ) → o ≡ parent m c → found ≡ option_map class_id o → IfSome found (HasClass classes)
  parent_belongs None found c is gives = rw gives tt
  parent_belongs (Some p) found c is gives =
      let within : p < suc (length m.decls) = parent_within m c p (sym is) in
      let count : length classes.entries ≡ suc (length m.decls) = entries_are in
      let belongs : p < length classes.entries = omega arith in
      rw gives belongs

  pub method_belongs : (s : Signature) (c : ℕ) (found : Option MethodId) → found ≡ method_with m c s → IfSome found (HasMethod classes)
  method_belongs s c None is = tt
  method_belongs s c (Some r) is =
      let within : r.0 < length (bodies m) = method_within m s c r (sym is) in
      let count : length classes.bodies ≡ length (bodies m) = bodies_are in
      omega arith
