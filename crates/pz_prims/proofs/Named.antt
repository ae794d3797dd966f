-- Rows whose answers go by a list of names.
use Rattle.std.proofs.Common.{◌≡◌, ℕ, List, [], ◌∷◌, map, Bool, true, false, Option, Some, None, sym, ◌∙◌, ap, refl}
use Rattle.std.specs.Prelude.{bytes_eq, if◌then◌else◌, option_map}
use Rattle.pz_state.specs.pz_value.declared.value.Value.{Value}
use Rattle.pz_prims.specs.Rows.{Rows, Answer, beside, answered}

abbrev pub row_of : {A B : Type 0} → (A → B) → List ℕ × A → List ℕ × B
row_of f row = (row.0, f row.1)

by_test : {A B : Type 0} (f : A → B) (test : Bool) (x : A) (later : Option B) (o : Option A) → later ≡ option_map f o → (if test then Some (f x) else later) ≡ option_map f (if test then Some x else o)
by_test f true x later o e = refl
by_test f false x later o e = e

pub beside-map : {A B : Type 0} (f : A → B) (selector : List ℕ) (rows : List (List ℕ × A)) → beside selector (map (row_of f) rows) ≡ option_map f (beside selector rows)
beside-map f selector [] = refl
beside-map f selector (row ∷ rows) = by_test f (bytes_eq selector row.0) row.1 _ _ (beside-map f selector rows)

-- with one argument
pub answered_by_name : {X N : Type 0} (rows : Rows X) (meaning : N → Value → Answer X) (names : List (List ℕ × N)) → rows.with_one ≡ map (row_of meaning) names → (selector : List ℕ) (v : Value) (found : Option N) → found ≡ beside selector names → answered rows selector (v ∷ []) ≡ option_map (λ n. meaning n v) found
unfolding answered
answered_by_name rows meaning names are selector v found is =
    ap (λ r. option_map (λ answer. answer v) (beside selector r)) are
    ∙ ap (option_map (λ answer. answer v)) (beside-map meaning selector names)
    ∙ once_mapped (beside selector names)
    ∙ ap (option_map (λ n. meaning n v)) (sym is)
  where
    once_mapped : (o : Option _) → option_map (λ answer. answer v) (option_map meaning o) ≡ option_map (λ n. meaning n v) o
    once_mapped None = refl
    once_mapped (Some n) = refl
