-- The method that is called is there.
use Rattle.std.proofs.Common.{◌≡◌, ℕ, suc, List, [], ◌∷◌, length, Option, Some, None, refl, sym, ap, ◌∙◌, subst}
use Rattle.std.specs.List.{slice_get}
use Rattle.std.proofs.Math.Logic.{∥∥₁_elim}
use Rattle.std.specs.Coded.{le_prop}
use Rattle.pz_classes_code.specs.pz_syntax.declared.tokens.Pos.{Pos}
use Rattle.pz_classes_code.specs.pz_syntax.declared.names.Id.{Id}
use Rattle.pz_classes_code.specs.pz_syntax.Statements.{call}
use Rattle.pz_classes_code.specs.pz_syntax.Classes.{ModelTree}
use Rattle.pz_classes_code.specs.pz_value.declared.value.ClassId.{ClassId}
use Rattle.pz_classes_code.specs.declared.body.Body.{Body}
use Rattle.pz_classes_code.specs.declared.body.Body.TheVariants as form
use Rattle.pz_classes_code.specs.declared.code.Code.{Code}
use Rattle.pz_classes_code.specs.declared.slot.Slot.{Slot}
use Rattle.pz_classes_code.specs.declared.step.Step.{Step}
use Rattle.pz_classes_code.specs.CodeView.{list_view}
use Rattle.pz_classes_code.specs.StepView.{sequence_view}
use Rattle.pz_part_queries.specs.pz_classes.declared.classes.Classes.{Classes}
use Rattle.pz_rules.specs.pz_classes_rules.declared.method_id.Counts.TheVariants.{Process}
use Rattle.pz_rules.specs.pz_classes_rules.declared.method_id.MethodId.{MethodId}
use Rattle.pz_rules.specs.pz_classes_rules.Bodies.{BodyTree, data_body, process_body, bodies}
use Rattle.pz_rules.specs.pz_classes_rules.BodyView.{body_view}
use Rattle.pz_rules.specs.pz_classes_rules.FitBodies.{how_many}
use Rattle.pz_rules.specs.pz_classes_rules.MethodBodies.{HasBody, process_method_body}
use Rattle.pz_rules.specs.pz_classes_rules.Methods.{process_method}
use Rattle.pz_part_queries.specs.pz_classes.Tables.{HasMethod}
use Rattle.pz_part_queries.specs.pz_classes.devices.Rows.{AreClasses}
use Rattle.pz_rules.specs.Terms.{leaf}
use Rattle.pz_rules.specs.Methods.{IsMethod}
use Rattle.pz_part_queries.specs.declared.standpoint.Standpoint.{Standpoint}
use Rattle.pz_part_actions.specs.Fitting.{FitsHere}
use Rattle.pz_part_actions.specs.devices.Calls.{IsCallable}

none_is_some : {A : Type 0} (x : A) → None ≡ Some x → ⊥
none_is_some x e = cc

module _ (classes : Classes) (class : ClassId) (name : List ℕ) (inputs outputs : ℕ) where
  -- what the look-up says of the number, and of the body at it
  abbrev Numbered : Option MethodId → Type 0
  Numbered found = (m : ModelTree) → AreClasses m classes → found ≡ process_method m class.0 name inputs outputs

  abbrev Bodied : MethodId → Type 0
  Bodied method = (m : ModelTree) → AreClasses m classes → slice_get (bodies m) method.0 ≡ process_method_body m class.0 name inputs outputs

  abbrev Stands : MethodId → Body → Type 0
  Stands method b = (m : ModelTree) → AreClasses m classes → slice_get (bodies m) method.0 ≡ Some (body_view b)

  pub is_method : (set : IsSet (Option BodyTree)) (method : MethodId) (b : Body) (locals : ℕ) (steps slice : List Step) → b ≡ form.Process locals steps → slice ≡ steps → Bodied method → Stands method b
      → (m : ModelTree) → ∥ AreClasses m classes ∥₁ → IsMethod m class.0 name inputs outputs locals (sequence_view slice)
  is_method set method b locals steps slice is same bodied stands m known = record {
    is_body = ∥∥₁_elim known (set (process_method_body m class.0 name inputs outputs) (Some (process_body locals (sequence_view slice)))) (λ k.
        sym (bodied m k) ∙ stands m k ∙ ap (λ (x : Body). Some (body_view x)) is ∙ ap (λ (ss : List Step). Some (process_body locals (sequence_view ss))) (sym same));
  }

  module _ (can : IsCallable classes class name inputs outputs) where
    pub not_missing : (found : Option MethodId) → found ≡ None → Numbered found → ⊥
    not_missing found none numbered = ∥∥₁_elim can.tabled (λ x y. absurd x) (λ k. none_is_some can.there.number (sym none ∙ numbered can.model k ∙ can.there.found))

    pub method_belongs : (method : MethodId) → ((m : ModelTree) → AreClasses m classes → HasMethod classes method) → HasMethod classes method
    method_belongs method belongs = ∥∥₁_elim can.tabled le_prop (λ k. belongs can.model k)

    -- no data method fits
    pub not_data : (method : MethodId) (b : Body) (locals : ℕ) (code : List Code) → b ≡ form.Data locals code → Bodied method → Stands method b → ⊥
    not_data method b locals code is bodied stands =
        ∥∥₁_elim can.tabled (λ x y. absurd x) (λ k.
        can.bodies.methods_fit class.0 (record { name = name; counts = Process inputs outputs }) (data_body locals (list_view code))
        (sym (bodied can.model k) ∙ stands can.model k ∙ ap (λ (x : Body). Some (body_view x)) is))

list_count : (es : List Code) → how_many (list_view es) ≡ length es
list_count [] = refl
list_count (e ∷ es) = ap suc (list_count es)

-- what fits has its method
callable : (here : Standpoint) (class : ClassId) (pos : Pos) (method : Id) (args : List Code) (results : List Slot) (name : List ℕ) (inputs outputs : ℕ) → name ≡ method.name → inputs ≡ length args → outputs ≡ length results
    → FitsHere here class (leaf (call pos method (list_view args) results)) → IsCallable here.classes.now class name inputs outputs
callable here class pos method args results name inputs outputs spelled ins outs fits = record {
  model = fits.model;
  tabled = fits.knows;
  bodies = fits.bodies;
  belongs = fits.belongs;
  there =
      subst (λ (n : List ℕ). HasBody fits.model class.0 (record { name = n; counts = Process inputs outputs })) (sym spelled)
      (subst (λ (n : ℕ). HasBody fits.model class.0 (record { name = method.name; counts = Process n outputs })) (list_count args ∙ sym ins)
      (subst (λ (n : ℕ). HasBody fits.model class.0 (record { name = method.name; counts = Process (how_many (list_view args)) n })) (sym outs) fits.fits.0));
}

-- the same of the bare fact
pub merely_callable : (here : Standpoint) (class : ClassId) (pos : Pos) (method : Id) (args : List Code) (results : List Slot) (name : List ℕ) (inputs outputs : ℕ) → name ≡ method.name → inputs ≡ length args → outputs ≡ length results
    → ∥ FitsHere here class (leaf (call pos method (list_view args) results)) ∥₁ → ∥ IsCallable here.classes.now class name inputs outputs ∥₁
merely_callable here class pos method args results name inputs outputs spelled ins outs fits =
    ∥∥₁_elim fits squash₁ (λ k. ∣ callable here class pos method args results name inputs outputs spelled ins outs k ∣₁)

-- in the words of a call
pub is_called : (m : ModelTree) (class : ℕ) (method : Id) (args : List Code) (results : List Slot) (name : List ℕ) (inputs outputs locals : ℕ) (steps : List Step) → name ≡ method.name → inputs ≡ length args → outputs ≡ length results
    → IsMethod m class name inputs outputs locals (sequence_view steps) → IsMethod m class method.name (how_many (list_view args)) (length results) locals (sequence_view steps)
is_called m class method args results name inputs outputs locals steps spelled ins outs is =
    subst (λ (n : List ℕ). IsMethod m class n (how_many (list_view args)) (length results) locals (sequence_view steps)) spelled
    (subst (λ (n : ℕ). IsMethod m class name n (length results) locals (sequence_view steps)) (ins ∙ sym (list_count args))
    (subst (λ (n : ℕ). IsMethod m class name inputs n locals (sequence_view steps)) outs is))
