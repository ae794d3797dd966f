use Rattle.std.proofs.Common.{◌≡◌, List, ℕ, ◌||◌, map, drop}
use Rattle.std.specs.List.{list_any}
use Rattle.pz_classes_code.specs.pz_syntax.ClassView.{decl_view, model_view}
use Rattle.pz_classes.specs.pz_classes_rules.Methods.{signatures}
use Rattle.pz_classes.specs.pz_classes_rules.CallRules.{is_declared}
use Rattle.pz_check_names.specs.devices.Sets.{has_selector}
use Rattle.pz_check_names.specs.devices.Scopes.{is_one_of, asked}
use Rattle.pz_check_names.proofs.selectors.selectors_of.Given as goal

abbrev pub invariant-loop-decl : goal.invariant-loop-decl
invariant-loop-decl l = (q : List ℕ) (n : ℕ) → (has_selector l.selectors q n || list_any (λ d. is_one_of (asked q n) (signatures d)) (map decl_view (drop l.decl-index l.decl-items)))
    ≡ is_declared (model_view l.model) (asked q n)
