-- What is drawn from words that are told one after the other.
use Rattle.std.proofs.Common.{◌≡◌, ◌∙◌, refl, sym, Bool, true, false, ◌||◌, List, [], ◌∷◌, Option}
use Rattle.std.specs.List.{flat_map, list_any}
use Rattle.pz_classes_mentions.specs.declared.mention.Mention.{Mention}
use Rattle.pz_classes_mentions.specs.Words.{told}
use Rattle.pz_check_violations.specs.declared.violation.Violation.{Violation}
use Rattle.pz_check_violations.specs.Least.{least_from}
use Rattle.pz_check_violations.proofs.Leasts.{least_from_append}

-- the least, where each word has violations of its own
pub told_least : (at : Mention → List Violation) (least : Option Violation) (xs : List Mention) → told (λ found x. least_from found (at x)) least xs ≡ least_from least (flat_map at xs)
told_least at least [] = refl
told_least at least (x ∷ xs) = told_least at (least_from least (at x)) xs ∙ sym (least_from_append least (at x) (flat_map at xs))

-- whether the test holds of one of them
pub told_any : (test : Mention → Bool) (has : Bool) (xs : List Mention) → told (λ has x. has || test x) has xs ≡ (has || list_any test xs)
told_any test true [] = refl
told_any test true (x ∷ xs) = told_any test true xs
told_any test false [] = refl
told_any test false (x ∷ xs) = told_any test (test x) xs
