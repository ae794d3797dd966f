-- The least violation, class by class.
use Rattle.std.proofs.Common.{◌≡◌, sym, ap, ◌∙◌, ℕ, suc, ◌<◌, List, ◌∷◌, ◌++◌, map, drop, length, get_or, drop-cons, Option}
use Rattle.pz_classes_code.specs.pz_syntax.declared.clusters.Decl.{Decl}
use Rattle.pz_classes_code.specs.pz_syntax.Classes.{ModelTree}
use Rattle.pz_classes_code.specs.pz_syntax.ClassView.{decl_view}
use Rattle.pz_check_violations.specs.declared.violation.Violation.{Violation}
use Rattle.pz_check_violations.specs.Least.{least_from}
use Rattle.pz_classes_rules.specs.devices.ViolationList.{of_class, among}
use Rattle.pz_check_violations.proofs.Leasts.{least_from_append}

-- one class further
pub among_step : (m : ModelTree) (ds : List Decl) (d : Decl) (i j n next : ℕ) (least now whole : Option Violation) → i < length ds → d ≡ get_or ds i d → j ≡ suc i → next ≡ suc n
    → now ≡ least_from least (of_class m next (decl_view d))
    → least_from least (among m (suc n) (map decl_view (drop i ds))) ≡ whole
    → least_from now (among m (suc next) (map decl_view (drop j ds))) ≡ whole
among_step m ds d i j n next least now whole within here after counted found before =
    let first : drop i ds ≡ d ∷ drop (suc i) ds = drop-cons ds i d within ∙ ap (λ (x : Decl). x ∷ drop (suc i) ds) (sym here) in
    let split : least_from least (of_class m (suc n) (decl_view d) ++ among m (suc (suc n)) (map decl_view (drop (suc i) ds))) ≡ whole = rw first at before in
    rw (found, counted, after) (sym (least_from_append least (of_class m (suc n) (decl_view d)) (among m (suc (suc n)) (map decl_view (drop (suc i) ds)))) ∙ split)
