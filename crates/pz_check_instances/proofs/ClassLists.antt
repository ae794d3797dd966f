-- Rows of things by their classes, as one is added.
use Rattle.std.proofs.Common.{◌≡◌, refl, sym, ap, subst, ◌∙◌, ℕ, zero, suc, ◌<◌, ◌==◌, if◌then◌else◌, Bool, true, false, List, [], ◌∷◌, ◌++◌, length, map, set, get_or, eqb, Vec, arith}
use Rattle.std.specs.declared.alloc.Global.{Global}
use Rattle.std.proofs.lemmas.Bool.{eqb-true}
use Rattle.std.proofs.lemmas.Bool.Decides.{nat_tests}
use Rattle.std.proofs.lemmas.List.{length-map, map-set, map-append, get_or-set_same, get_or-set_other}

-- nothing was added
pub added_none : {X : Type 0} (old : List X) → old ≡ old ++ []
added_none [] = refl
added_none {X} (x ∷ old) = ap (λ (l : List X). x ∷ l) (added_none old)

not_same : (a b : ℕ) → eqb a b ≡ false → a ≡ b → ⊥
not_same a b other same = grind (arith, nat_tests)

module _ {T : Type 0} where
  abbrev pub lists_of : List (Vec T Global) → List (List T)
  lists_of rows = map (λ r. r.items) rows

  abbrev pub row_of : List (Vec T Global) → ℕ → List T
  row_of rows k = get_or (lists_of rows) k []

  -- one more row, with nothing in it
  pub push_empty : (rows : List (Vec T Global)) (v : Vec T Global) → v.items ≡ [] → ((k : ℕ) → row_of rows k ≡ []) → (k : ℕ) → row_of (rows ++ v ∷ []) k ≡ []
  push_empty [] v empty all zero = empty
  push_empty [] v empty all (suc k) = refl
  push_empty (r ∷ rows) v empty all zero = all zero
  push_empty (r ∷ rows) v empty all (suc k) = push_empty rows v empty (λ q. all (suc q)) k

  pub read_row : (rows : List (Vec T Global)) (i : ℕ) (r : Vec T Global) → i < length rows → r ≡ get_or rows i r → row_of rows i ≡ r.items
  read_row [] i r within is = absurd (omega (arith, within))
  read_row (s ∷ rows) zero r within is = ap (λ (x : Vec T Global). x.items) (sym is)
  read_row (s ∷ rows) (suc i) r within is = read_row rows i r (omega (arith, within)) is

  -- one more thing at the end of a row
  pub set_row : (rows : List (Vec T Global)) (i : ℕ) (r v : Vec T Global) (x : T) → i < length rows → r ≡ get_or rows i r → v.items ≡ r.items ++ x ∷ []
      → (k : ℕ) → row_of (set rows i v) k ≡ row_of rows k ++ (if i == k then x ∷ [] else [])
  set_row rows i r v x within was is k = by_test (eqb i k) refl
    where
      placed : row_of (set rows i v) k ≡ get_or (set (lists_of rows) i v.items) k []
      placed = ap (λ (l : List (List T)). get_or l k []) (map-set (λ (s : Vec T Global). s.items) rows i v)

      by_test : (b : Bool) → eqb i k ≡ b → row_of (set rows i v) k ≡ row_of rows k ++ (if b then x ∷ [] else [])
      by_test true same =
          let at : i ≡ k = eqb-true i k same in
          let there : get_or (set (lists_of rows) i v.items) i [] ≡ v.items = get_or-set_same (lists_of rows) i v.items [] (omega (arith, within, length-map rows (λ (s : Vec T Global). s.items))) in
          let old : row_of rows i ≡ r.items = read_row rows i r within was in
          placed ∙ subst (λ (q : ℕ). get_or (set (lists_of rows) i v.items) q [] ≡ row_of rows q ++ x ∷ []) at (there ∙ is ∙ ap (λ (l : List T). l ++ x ∷ []) (sym old))
      by_test false other = placed ∙ get_or-set_other (lists_of rows) i k v.items [] (λ same. not_same i k other (sym same)) ∙ added_none (row_of rows k)

-- what was added, as something else
pub added_as : {T X : Type 0} (f : T → X) (old new : List T) (x : T) (b : Bool) → new ≡ old ++ (if b then x ∷ [] else []) → map f new ≡ map f old ++ (if b then f x ∷ [] else [])
added_as f old new x true is = rw is (map-append f old (x ∷ []))
added_as f old new x false is = rw is (map-append f old [])
