-- A name that is added to a numbering.
use Rattle.std.proofs.Common.{◌≡◌, refl, sym, subst, ℕ, Bool, true, false, List, [], ◌∷◌, Some, None, if◌then◌else◌}
use Rattle.std.specs.Option.{option_or}
use Rattle.std.specs.Str.{bytes_eq}
use Rattle.std.specs.Map.{lookup}
use Rattle.indexmap.specs.IndexMap.{insert_entry}

module _ {K : Type 0} (bytes : K → List ℕ) where
  abbrev pub finds : List ℕ → K → Bool
  finds q x = bytes_eq q (bytes x)

  abbrev pub same : K → K → Bool
  same a b = bytes_eq (bytes a) (bytes b)

  -- a key that was not there is found behind all the others
  pub lookup-insert_entry : {V : Type 0} (es : List (K × V)) (k : K) (v : V) (q : List ℕ) → lookup (same k) es ≡ None
      → lookup (finds q) (insert_entry same es k v) ≡ option_or (lookup (finds q) es) (if bytes_eq q (bytes k) then Some v else None)
  lookup-insert_entry [] k v q absent = refl
  lookup-insert_entry {V} (e ∷ es) k v q absent = by_key (λ later. lookup-insert_entry es k v q later) (same k e.0) refl
    where
      Found : List (K × V) → List (K × V) → Type 0
      Found new old = lookup (finds q) new ≡ option_or (lookup (finds q) old) (if bytes_eq q (bytes k) then Some v else None)

      by_key : (lookup (same k) es ≡ None → Found (insert_entry same es k v) es) → (b : Bool) → same k e.0 ≡ b → Found (insert_entry same (e ∷ es) k v) (e ∷ es)
      by_key rest true is = let gone : Some e.1 ≡ None = rw is at absent in cc
      by_key rest false is = rw is (by_name (finds q e.0) refl)
        where
          later : lookup (same k) es ≡ None
          later = rw is at absent

          by_name : (b : Bool) → finds q e.0 ≡ b → Found (e ∷ insert_entry same es k v) (e ∷ es)
          by_name true here = rw here refl
          by_name false here = rw here (rest later)

  pub lookup-insert_named : {V : Type 0} (es : List (K × V)) (k : K) (v : V) (name q : List ℕ) → bytes k ≡ name → lookup (finds name) es ≡ None
      → lookup (finds q) (insert_entry same es k v) ≡ option_or (lookup (finds q) es) (if bytes_eq q name then Some v else None)
  lookup-insert_named es k v name q spelled absent = rw (← spelled) (lookup-insert_entry es k v q (subst (λ (n : List ℕ). lookup (finds n) es ≡ None) (sym spelled) absent))
