use Rattle.std.proofs.Common.{◌≡◌, ◌∙◌, sym, ap, None, Some, ℕ, List}
use Rattle.std.specs.Option.{option_map}
use Rattle.pz_classes_code.specs.pz_syntax.ClassView.{model_view}
use Rattle.pz_classes_rules.specs.Numbers.{class}
use Rattle.pz_classes_rules.specs.ClassNames.{class_id}
use Rattle.pz_classes.proofs.Merely.{number_merely, below_merely}
use Rattle.pz_classes.proofs.InstanceClasses.{id_of_none, id_of_some, unknown_has_none, known_has, known_has_none}
use Rattle.pz_classes.proofs.instances.class_of_instance.Goals as goal

pub returns-then-may_have_instances-clause-class : goal.returns-then-may_have_instances-clause-class
returns-then-may_have_instances-clause-class c =
    let m = model_view c.args.model.now in
    let spelt : c.as_bytes.result.now ≡ c.args.name.now = c.as_bytes.ensures.value ∙ c.as_str.ensures in
    let found : class m c.args.name.now ≡ Some c.in-Some.class.0 = number_merely _ _ c.requires (λ known. id_of_some (class m c.args.name.now) c.in-Some.class (c.in-Some.ensures.class m known ∙ ap (λ (q : List ℕ). option_map class_id (class m q)) spelt)) in
    known_has m c.args.name.now c.in-Some.class (sym c.is_unsupported.ensures ∙ c.if-is_unsupported.false) (sym c.is_primitive.ensures ∙ c.if-is_primitive.false) found (sym c.if-may_have_instances.true ∙ c.may_have_instances.ensures)

pub returns-else-may_have_instances-clause-class : goal.returns-else-may_have_instances-clause-class
returns-else-may_have_instances-clause-class c =
    let m = model_view c.args.model.now in
    let spelt : c.as_bytes.result.now ≡ c.args.name.now = c.as_bytes.ensures.value ∙ c.as_str.ensures in
    let found : class m c.args.name.now ≡ Some c.in-Some.class.0 = number_merely _ _ c.requires (λ known. id_of_some (class m c.args.name.now) c.in-Some.class (c.in-Some.ensures.class m known ∙ ap (λ (q : List ℕ). option_map class_id (class m q)) spelt)) in
    known_has_none m c.args.name.now c.in-Some.class (sym c.is_unsupported.ensures ∙ c.if-is_unsupported.false) (sym c.is_primitive.ensures ∙ c.if-is_primitive.false) found (sym c.if-may_have_instances.false ∙ c.may_have_instances.ensures)

pub returns-in-None-clause-class : goal.returns-in-None-clause-class
returns-in-None-clause-class c =
    let m = model_view c.args.model.now in
    let spelt : c.as_bytes.result.now ≡ c.args.name.now = c.as_bytes.ensures.value ∙ c.as_str.ensures in
    let found : class m c.args.name.now ≡ None = number_merely _ _ c.requires (λ known. id_of_none (class m c.args.name.now) (c.in-None.ensures.class m known ∙ ap (λ (q : List ℕ). option_map class_id (class m q)) spelt)) in
    unknown_has_none m c.args.name.now (sym c.is_unsupported.ensures ∙ c.if-is_unsupported.false) (sym c.is_primitive.ensures ∙ c.if-is_primitive.false) found

pub returns-then-may_have_instances-clause-belongs : goal.returns-then-may_have_instances-clause-belongs
returns-then-may_have_instances-clause-belongs c = below_merely _ _ c.requires (λ known. c.in-Some.ensures.belongs (model_view c.args.model.now) known)
