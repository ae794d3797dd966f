-- A process class declares no selectors.
use Rattle.std.proofs.Common.{◌≡◌, refl, ℕ, false, List, [], ◌∷◌, map}
use Rattle.pz_classes_code.specs.pz_syntax.Classes.{ProcessMethodTree}
use Rattle.pz_classes.specs.pz_classes_rules.Methods.{process_signature}
use Rattle.pz_check_names.specs.devices.Scopes.{is_one_of, asked}

pub no_selector : (q : List ℕ) (n : ℕ) (rs : List ProcessMethodTree) → is_one_of (asked q n) (map process_signature rs) ≡ false
no_selector q n [] = refl
no_selector q n (r ∷ rs) = no_selector q n rs
