-- What a parameter is given, once one more is.
use Rattle.std.proofs.Common.{◌≡◌, refl, ℕ, Bool, true, false, List, [], ◌∷◌, Option, Some, None, Bor, if◌then◌else◌}
use Rattle.std.specs.Map.{lookup}
use Rattle.std.specs.Option.{option_map, option_or}
use Rattle.std.specs.Str.{bytes_eq}
use Rattle.indexmap.specs.IndexMap.{insert_entry}
use Rattle.pz_bind_rules.specs.pz_value.declared.value.Value.{Value}
use Rattle.pz_bind.specs.declared.bindings.Meaning.{Meaning}
use Rattle.pz_bind.specs.devices.Bindings.{meaning_value}

abbrev Key : Type 0
Key = Bor (List ℕ)

abbrev names_it : List ℕ → Key → Bool
names_it q k = bytes_eq q k.now

abbrev same_key : Key → Key → Bool
same_key a b = bytes_eq a.now b.now

abbrev read : List (Key × Meaning) → List ℕ → Option Value
read es q = option_map meaning_value (lookup (names_it q) es)

-- what was not there is found behind all others
pub added : (es : List (Key × Meaning)) (k : Key) (v : Meaning) (q : List ℕ) → lookup (names_it k.now) es ≡ None
    → read (insert_entry same_key es k v) q ≡ option_or (read es q) (if bytes_eq q k.now then Some (meaning_value v) else None)
added [] k v q absent = by_test (bytes_eq q k.now)
  where
    by_test : (b : Bool) → option_map meaning_value (if b then Some v else None) ≡ (if b then Some (meaning_value v) else None)
    by_test true = refl
    by_test false = refl
added (e ∷ es) k v q absent = by_key (same_key k e.0) refl (λ later. added es k v q later)
  where
    by_key : (b : Bool) → same_key k e.0 ≡ b → (lookup (names_it k.now) es ≡ None → read (insert_entry same_key es k v) q ≡ option_or (read es q) (if bytes_eq q k.now then Some (meaning_value v) else None))
        → read (insert_entry same_key (e ∷ es) k v) q ≡ option_or (read (e ∷ es) q) (if bytes_eq q k.now then Some (meaning_value v) else None)
    by_key true is rest = let gone : Some e.1 ≡ None = rw is at absent in cc
    by_key false is rest = rw is (by_name (names_it q e.0) refl)
      where
        later : lookup (names_it k.now) es ≡ None
        later = rw is at absent

        by_name : (b : Bool) → names_it q e.0 ≡ b → read (e ∷ insert_entry same_key es k v) q ≡ option_or (read (e ∷ es) q) (if bytes_eq q k.now then Some (meaning_value v) else None)
        by_name true here = rw here refl
        by_name false here = rw here (rest later)
