-- Keys of a set, by what they stand for.
use Rattle.std.proofs.Common.{◌≡◌, refl, ap, ap₂, ◌∙◌, Bool, true, false, ◌||◌, List, [], ◌∷◌, ◌++◌, map}
use Rattle.std.specs.Prelude.{if◌then◌else◌}
use Rattle.std.specs.List.{list_any}
use Rattle.std.proofs.lemmas.List.{map-append}

module _ {E K : Type 0} (view : E → K) (is : K → K → Bool) (eq : E → Bool) (n : K) (same : (k : E) → eq k ≡ is n (view k)) where
  pub any_key : (ks : List E) → list_any eq ks ≡ list_any (is n) (map view ks)
  any_key [] = refl
  any_key (k ∷ ks) = ap₂ (λ a b. a || b) (same k) (any_key ks)

  pub key_added : (ks : List E) (key : E) → view key ≡ n → map view (if list_any eq ks then ks else ks ++ key ∷ []) ≡ (if list_any (is n) (map view ks) then map view ks else map view ks ++ n ∷ [])
  key_added ks key is_key = by (list_any eq ks) (any_key ks)
    where
      by : (b : Bool) → b ≡ list_any (is n) (map view ks) → map view (if b then ks else ks ++ key ∷ []) ≡ (if list_any (is n) (map view ks) then map view ks else map view ks ++ n ∷ [])
      by true e = ap (λ (b : Bool). if b then map view ks else map view ks ++ n ∷ []) e
      by false e =
          map-append view ks (key ∷ []) ∙ ap (λ (x : K). map view ks ++ x ∷ []) is_key
          ∙ ap (λ (b : Bool). if b then map view ks else map view ks ++ n ∷ []) e
