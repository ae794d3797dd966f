use Rattle.std.proofs.Common.{◌≡◌, List, ℕ, ◌||◌, map, drop}
use Rattle.pz_classes_code.specs.pz_syntax.ClassView.{data_method_view}
use Rattle.pz_classes.specs.pz_classes_rules.Methods.{data_signature}
use Rattle.pz_check_names.specs.devices.Sets.{has_selector}
use Rattle.pz_check_names.specs.devices.Scopes.{is_one_of, asked}
use Rattle.pz_check_names.proofs.selectors.Selectors.add_methods.Given as goal

abbrev pub invariant-loop-method : goal.invariant-loop-method
invariant-loop-method l = (q : List ℕ) (n : ℕ) → (has_selector l.self q n || is_one_of (asked q n) (map data_signature (map data_method_view (drop l.method-index l.methods))))
    ≡ (has_selector l.initial.self q n || is_one_of (asked q n) (map data_signature (map data_method_view l.methods)))
