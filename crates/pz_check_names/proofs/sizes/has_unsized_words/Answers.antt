use Rattle.std.proofs.Common.{◌≡◌, ◌⊎◌, true, false}
use Rattle.pz_classes_code.specs.pz_syntax.declared.tokens.Pos.{Pos}
use Rattle.pz_classes_code.specs.pz_syntax.ClassView.{model_view}
use Rattle.pz_check_violations.specs.Order.{violation}
use Rattle.pz_classes.specs.pz_classes_rules.WordRules.{BreaksWord}
use Rattle.pz_check_names.specs.devices.Unsized.{is_unsized_model}
use Rattle.pz_check_names.proofs.Sets.{if_ok}
use Rattle.pz_check_names.proofs.Unsized.{some_broken, none_broken}
use Rattle.pz_check_names.proofs.sizes.has_unsized_words.Goals as goal

pub returns-clause-found : goal.returns-clause-found
returns-clause-found c =
    let m = model_view c.args.model.now in
    if_ok (λ has. has ≡ is_unsized_model m) (λ has. has ≡ true → (pos : Pos) × (BreaksWord m (violation 13 pos) ⊎ BreaksWord m (violation 18 pos))) c.has_unsized_class.result
    (some_broken m) c.has_unsized_class.ensures

pub returns-clause-none : goal.returns-clause-none
returns-clause-none c =
    let m = model_view c.args.model.now in
    if_ok (λ has. has ≡ is_unsized_model m) (λ has. has ≡ false → (pos : Pos) → BreaksWord m (violation 13 pos) ⊎ BreaksWord m (violation 18 pos) → ⊥) c.has_unsized_class.result
    (none_broken m) c.has_unsized_class.ensures
