-- A key that is put into a table.
use Rattle.std.proofs.Common.{◌≡◌, refl, sym, ◌∙◌, ap, true≢false, Bool, true, false, List, [], ◌∷◌, Option, Some, if◌then◌else◌}
use Rattle.std.specs.Cmp.{IsEquivalence}
use Rattle.std.specs.Map.{lookup}
use Rattle.indexmap.specs.IndexMap.{insert_entry}

module _ {K V : Type 0} (eq : K → K → Bool) (laws : IsEquivalence eq) where
  -- equal keys find the same
  pub lookup_equal : (es : List (K × V)) (q r : K) → eq q r ≡ true → lookup (eq q) es ≡ lookup (eq r) es
  lookup_equal [] q r is = refl
  lookup_equal (e ∷ es) q r is = rw (laws.congr q r e.0 is, lookup_equal es q r is) refl

  -- an equal key finds what was put in, and any other what it found before
  pub lookup_inserted : (es : List (K × V)) (k : K) (v : V) (q : K)
      → lookup (eq q) (insert_entry eq es k v) ≡ (if eq q k then Some v else lookup (eq q) es)
  lookup_inserted [] k v q = refl
  lookup_inserted (e ∷ es) k v q = by_key (lookup_inserted es k v q) (eq k e.0) refl
    where
      Says : Type 0
      Says = lookup (eq q) (insert_entry eq (e ∷ es) k v) ≡ (if eq q k then Some v else lookup (eq q) (e ∷ es))

      there : eq k e.0 ≡ true → (b : Bool) → eq q e.0 ≡ b → lookup (eq q) ((e.0, v) ∷ es) ≡ (if eq q k then Some v else lookup (eq q) (e ∷ es))
      there is b here =
          let to : eq q k ≡ eq q e.0 = laws.symm q k ∙ (laws.congr k e.0 q is ∙ laws.symm e.0 q) in
          by b here to
        where
          by : (b : Bool) → eq q e.0 ≡ b → eq q k ≡ eq q e.0 → lookup (eq q) ((e.0, v) ∷ es) ≡ (if eq q k then Some v else lookup (eq q) (e ∷ es))
          by true here to = rw (to, here) refl
          by false here to = rw (to, here) refl

      apart : eq k e.0 ≡ false → eq q e.0 ≡ true → (b : Bool) → eq q k ≡ b → eq q k ≡ false
      apart is here true too = absurd (true≢false (sym too ∙ (laws.congr q e.0 k here ∙ (laws.symm e.0 k ∙ is))))
      apart is here false too = too

      not_there : lookup (eq q) (insert_entry eq es k v) ≡ (if eq q k then Some v else lookup (eq q) es) → eq k e.0 ≡ false
          → (b : Bool) → eq q e.0 ≡ b → lookup (eq q) (e ∷ insert_entry eq es k v) ≡ (if eq q k then Some v else lookup (eq q) (e ∷ es))
      not_there later is true here = rw (here, apart is here (eq q k) refl) refl
      not_there later is false here = rw here later

      by_key : lookup (eq q) (insert_entry eq es k v) ≡ (if eq q k then Some v else lookup (eq q) es) → (b : Bool) → eq k e.0 ≡ b → Says
      by_key later true is = rw is (there is (eq q e.0) refl)
      by_key later false is = rw is (not_there later is (eq q e.0) refl)

  -- what is put in at a key is made of what was found there: so it is made of what an equal key found
  pub noted : (es : List (K × V)) (k : K) (v : V) (made : Option V → Option V) → made (lookup (eq k) es) ≡ Some v
      → (q : K) → lookup (eq q) (insert_entry eq es k v) ≡ (if eq q k then made (lookup (eq q) es) else lookup (eq q) es)
  noted es k v made is q = lookup_inserted es k v q ∙ by (eq q k) refl
    where
      by : (b : Bool) → eq q k ≡ b → (if eq q k then Some v else lookup (eq q) es) ≡ (if eq q k then made (lookup (eq q) es) else lookup (eq q) es)
      by true same = rw same (sym is ∙ ap made (sym (lookup_equal es q k same)))
      by false other = rw other refl
