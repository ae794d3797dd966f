-- The method that a plain call means, in the classes of a checked model.
use Rattle.std.proofs.Common.{◌≡◌, ◌<◌, ℕ, zero, suc, Bool, true, false, IsTrue, List, [], ◌∷◌, map, length, Option, Some, None, refl, sym, ap, subst, ◌∙◌, arith}
use denote.Enum.Bare.{sameb}
use Rattle.std.specs.Coded.{Coded-set, coded_option, le_prop}
use Rattle.std.specs.List.{slice_get}
use Rattle.std.specs.Option.{option_and_then, option_map_or}
use Rattle.std.proofs.Math.Logic.{∥∥₁_elim}
use Rattle.std.proofs.lemmas.List.{length-map}
use Rattle.std.proofs.lemmas.Option.{slice_get_within}
use Rattle.pz_classes_code.specs.pz_syntax.declared.names.Id.{Id}
use Rattle.pz_classes_code.specs.pz_syntax.Classes.{DeclTree, ModelTree}
use Rattle.pz_classes_code.specs.pz_value.declared.value.ClassId.{ClassId}
use Rattle.pz_classes_code.specs.declared.body.Body.{Body}
use Rattle.pz_classes_code.specs.declared.body.Body.TheVariants as form
use Rattle.pz_classes_code.specs.declared.code.Code.{Code}
use Rattle.pz_classes_code.specs.declared.step.Step.{Step}
use Rattle.pz_classes_code.specs.CodeView.{list_view}
use Rattle.pz_classes_code.specs.StepView.{sequence_view}
use Rattle.pz_classes.specs.declared.classes.Classes.{Classes}
use Rattle.pz_classes.specs.pz_classes_rules.declared.method_id.MethodId.{MethodId}
use Rattle.pz_classes.specs.pz_classes_rules.contracts.method_id.MethodId as method_id
use Rattle.pz_classes.specs.pz_classes_rules.Bodies.{BodyTree, data_body, process_body, bodies}
use Rattle.pz_classes.specs.pz_classes_rules.BodyView.{body_view}
use Rattle.pz_classes.specs.pz_classes_rules.Kinds.{is_process}
use Rattle.pz_classes.specs.pz_classes_rules.MethodBodies.{process_method_body}
use Rattle.pz_classes.specs.pz_classes_rules.Methods.{process_method}
use Rattle.pz_classes.specs.declared.entry.Entry.{Entry}
use Rattle.pz_classes.specs.devices.Rows.{AreClasses, Row, rows, rows_from, row_view}
use Rattle.pz_rules.specs.declared.limits.Edition.{Edition}
use Rattle.pz_rules.specs.declared.limits.Edition.TheVariants.{One, Two}
use Rattle.pz_rules.specs.contracts.limits.Edition as edition
use Rattle.pz_rules.specs.Openable.{IsProcessClass}
use Rattle.pz_rules.specs.Settings.{Home}
use Rattle.pz_rules.specs.Terms.{Steps}
use Rattle.pz_rules.specs.Opening.{called_body}
use Rattle.pz_rules.specs.CallLaws.{IsCalled}

methods_set : IsSet (Option MethodId)
methods_set = Coded-set (coded_option method_id.the_row.coded)

-- a process class has its row

process_within : (m : ModelTree) (c : ℕ) → IsProcessClass m c → c < suc (length m.decls)
process_within m zero process = cc
process_within m (suc i) process = by (slice_get m.decls i) refl
  where
    by : (o : Option DeclTree) → slice_get m.decls i ≡ o → suc i < suc (length m.decls)
    by None none = let never : IsTrue false = subst (λ (o : Option DeclTree). IsTrue (option_map_or is_process o false)) none process in cc
    by (Some d) there = let within = slice_get_within m.decls i d there in omega (arith, within)

rows_length : (m : ModelTree) (n : ℕ) (ds : List DeclTree) → length (rows_from m n ds) ≡ length ds
rows_length m n [] = refl
rows_length m n (d ∷ ds) = ap (λ (k : ℕ). suc k) (rows_length m (suc n) ds)

entries_length : (m : ModelTree) (es : List Entry) → map row_view es ≡ rows m → length es ≡ suc (length m.decls)
entries_length m es are = sym (length-map es row_view) ∙ ap (λ (rs : List Row). length rs) are ∙ ap (λ (k : ℕ). suc k) (rows_length m 1 m.decls)

class_there : (m : ModelTree) (classes : Classes) (class : ClassId) → IsProcessClass m class.0 → AreClasses m classes → class.0 < length classes.entries
class_there m classes class process are =
    let count : length classes.entries ≡ suc (length m.decls) = entries_length m classes.entries are.rows in
    let within : class.0 < suc (length m.decls) = process_within m class.0 process in
    omega arith

pub has_class : (m : ModelTree) (classes : Classes) (class : ClassId) → IsProcessClass m class.0 → ∥ AreClasses m classes ∥₁ → class.0 < length classes.entries
has_class m classes class process known = ∥∥₁_elim known le_prop (λ are. class_there m classes class process are)

-- the editions are two
pub is_two : (e : Edition) (r : Bool) → r ≡ sameb edition.the_type e One → r ≡ false → e ≡ Two
is_two One r is other = let both : true ≡ false = sym is ∙ other in cc
is_two Two r is other = refl

-- what the look-up of a plain call's name says, and what the table holds at the number that it gives

module _ (h : Home) (method : Id) (classes : Classes) (known : ∥ AreClasses h.model classes ∥₁) (name : List ℕ) (spelled : name ≡ method.name) where
  abbrev Numbered : Option MethodId → List ℕ → Type 0
  Numbered found spelling = (m : ModelTree) → AreClasses m classes → found ≡ process_method m h.class spelling 0 0

  abbrev Bodied : Option MethodId → List ℕ → Type 0
  Bodied found spelling = (m : ModelTree) → AreClasses m classes → option_and_then (λ n. slice_get (bodies m) n.0) found ≡ process_method_body m h.class spelling 0 0

  abbrev There : MethodId → Body → Type 0
  There number b = (m : ModelTree) → AreClasses m classes → slice_get (bodies m) number.0 ≡ Some (body_view b)

  pub none_called : Bodied None name → (locals : ℕ) (body : Steps) → called_body h method ≡ Some (process_body locals body) → ⊥
  none_called bodied locals body is = ∥∥₁_elim known (λ x y. absurd x) (λ are.
      let none = subst (Bodied None) spelled bodied h.model are in
      let both : None ≡ Some (process_body locals body) = none ∙ is in
      cc)

  pub data_called : (number : MethodId) (b : Body) (count : ℕ) (code : List Code) → Bodied (Some number) name → There number b → b ≡ form.Data count code
      → (locals : ℕ) (body : Steps) → called_body h method ≡ Some (process_body locals body) → ⊥
  data_called number b count code bodied there is_data locals body is = ∥∥₁_elim known (λ x y. absurd x) (λ are.
      let found = subst (Bodied (Some number)) spelled bodied h.model are in
      let both : Some (data_body count (list_view code)) ≡ Some (process_body locals body) = sym (ap (λ (x : Body). Some (body_view x)) is_data) ∙ sym (there h.model are) ∙ found ∙ is in
      cc)

  pub is_called : (set : IsSet (Option BodyTree)) (number : MethodId) (b : Body) (locals : ℕ) (steps : List Step) → Numbered (Some number) name → Bodied (Some number) name → There number b
      → b ≡ form.Process locals steps → IsCalled h method locals (sequence_view steps)
  is_called set number b locals steps numbered bodied there process =
      let body = process_body locals (sequence_view steps) in
      let stands : ∥ AreClasses h.model classes ∥₁ → slice_get (bodies h.model) number.0 ≡ Some body =
      λ known. ∥∥₁_elim known (set (slice_get (bodies h.model) number.0) (Some body)) (λ are. there h.model are ∙ ap (λ (x : Body). Some (body_view x)) process) in
      let looked : process_method_body h.model h.class method.name 0 0 ≡ slice_get (bodies h.model) number.0 =
      ∥∥₁_elim known (set (process_method_body h.model h.class method.name 0 0) (slice_get (bodies h.model) number.0)) (λ are. sym (subst (Bodied (Some number)) spelled bodied h.model are)) in
      record {
        has = record {
          number = number;
          found = ∥∥₁_elim known (methods_set (process_method h.model h.class method.name 0 0) (Some number)) (λ are. sym (subst (Numbered (Some number)) spelled numbered h.model are));
          body = body;
          is = looked ∙ stands known;
          there = stands known;
        };
        is = looked ∙ stands known;
      }
