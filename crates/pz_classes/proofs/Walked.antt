-- A walk in preorder has the ancestors of each class open when it comes to it.
use Rattle.std.proofs.Common.{◌≡◌, refl, sym, ap, ◌∙◌, subst, ℕ, zero, suc, ◌<◌, ◌-◌, List, [], ◌∷◌, ◌++◌, append_assoc, length, drop, take, Option, Some, None, slice_get, arith, ◌⊎◌, inl, inr}
use Rattle.std.specs.List.{Contains}
use Rattle.std.specs.Option.{option_map_or}
use Rattle.std.proofs.lemmas.List.Elements.{Contains-append_left, Contains-push}
use Rattle.pz_classes_code.specs.pz_syntax.Classes.{ModelTree}
use Rattle.pz_classes_lineage.specs.declared.visit.Visit.{Visit}
use Rattle.pz_classes_lineage.specs.Reached.{GoesRound}
use Rattle.pz_classes_lineage.specs.Preorder.{innermost, outermost, Visits, visited, IsPreorder}
use Rattle.pz_classes_rules.specs.Ancestors.{parent, ancestors}
use Rattle.pz_classes_rules.specs.Preorder.{Opens, IsPreorderOf}
use Rattle.pz_classes_rules.proofs.Acyclic.{above}

first_of : (x : ℕ) (xs : List ℕ) → Contains (x ∷ xs) x
first_of x xs = (0, omega arith, refl)

among_rest : (x q : ℕ) (xs : List ℕ) → Contains xs q → Contains (x ∷ xs) q
among_rest x q xs (k, below, is) = (suc k, omega arith, is)

first_or_rest : (x q : ℕ) (xs : List ℕ) → Contains (x ∷ xs) q → (x ≡ q) ⊎ Contains xs q
first_or_rest x q xs (zero, below, is) = inl is
first_or_rest x q xs (suc k, below, is) = inr (k, omega arith, is)

among_dropped : (n q : ℕ) (xs : List ℕ) → Contains (drop n xs) q → Contains xs q
among_dropped zero q xs here = here
among_dropped (suc n) q [] here = here
among_dropped (suc n) q (x ∷ xs) here = among_rest x q xs (among_dropped n q xs here)

is_innermost : (p : ℕ) (xs : List ℕ) → innermost xs ≡ Some p → Contains xs p
is_innermost p [] is = cc
is_innermost p (x ∷ xs) is = let same : x ≡ p = cc in subst (λ (q : ℕ). Contains (x ∷ xs) q) same (first_of x xs)

-- a class comes behind its parent
module _ (up : ℕ → Option ℕ) where
  behind : (done line : List ℕ) (vs : List Visit) → Visits up line vs → ((q : ℕ) → Contains line q → Contains done q)
      → (i p : ℕ) (v : Visit) → slice_get vs i ≡ Some v → up v.class ≡ Some p → Contains (done ++ visited (take i vs)) p
  behind done line [] walks among i p v here extends = cc
  behind done line (w ∷ vs) (fits, parent_is, rest) among zero p v here extends =
      let same : w ≡ v = cc in
      let inner : innermost (outermost w.depth line) ≡ Some p = sym parent_is ∙ ap (λ (x : Visit). up x.class) same ∙ extends in
      Contains-append_left done [] p (among p (among_dropped (length line - w.depth) p line (is_innermost p (outermost w.depth line) inner)))
  behind done line (w ∷ vs) (fits, parent_is, rest) among (suc i) p v here extends =
      subst (λ (xs : List ℕ). Contains xs p) (append_assoc done (w.class ∷ []) (visited (take i vs)))
      (behind (done ++ w.class ∷ []) (w.class ∷ outermost w.depth line) vs rest open_now i p v here extends)
    where
      by_place : (q : ℕ) → (w.class ≡ q) ⊎ Contains (outermost w.depth line) q → Contains (done ++ w.class ∷ []) q
      by_place q (inl is) = subst (λ (x : ℕ). Contains (done ++ w.class ∷ []) x) is (Contains-push done w.class)
      by_place q (inr outer) = Contains-append_left done (w.class ∷ []) q (among q (among_dropped (length line - w.depth) q line outer))

      open_now : (q : ℕ) → Contains (w.class ∷ outermost w.depth line) q → Contains (done ++ w.class ∷ []) q
      open_now q at = by_place q (first_or_rest w.class q (outermost w.depth line) at)

pub behind_its_parent : (up : ℕ → Option ℕ) (vs : List Visit) → Visits up [] vs → (i p : ℕ) (v : Visit) → slice_get vs i ≡ Some v → up v.class ≡ Some p → Contains (visited (take i vs)) p
behind_its_parent up vs walks i p v here extends = behind up [] [] vs walks (λ q none. none) i p v here extends

module _ (m : ModelTree) (flat : (c : ℕ) → GoesRound (parent m) c → ⊥) where
  -- a class with its ancestors, or none
  abbrev IsLine : List ℕ → Type 0
  IsLine line = line ≡ option_map_or (ancestors m) (innermost line) []

  abbrev AreWithin : List ℕ → Type 0
  AreWithin line = (q : ℕ) → Contains line q → q < suc (length m.decls)

  rest_is : (c : ℕ) (line : List ℕ) → c < suc (length m.decls) → IsLine (c ∷ line) → IsLine line
  rest_is c line below is = let both : c ∷ line ≡ c ∷ option_map_or (ancestors m) (parent m c) [] = is ∙ above m flat c below in by_parent (parent m c) (cc)
    where
      by_parent : (o : Option ℕ) → line ≡ option_map_or (ancestors m) o [] → IsLine line
      by_parent None none = rw none refl
      by_parent (Some p) some = rw some refl

  dropped_is : (n : ℕ) (line : List ℕ) → AreWithin line → IsLine line → IsLine (drop n line)
  dropped_is zero line within is = is
  dropped_is (suc n) [] within is = refl
  dropped_is (suc n) (c ∷ line) within is = dropped_is n line (λ q at. within q (among_rest c q line at)) (rest_is c line (within c (first_of c line)) is)

  opens : (line : List ℕ) (vs : List Visit) → AreWithin line → AreWithin (visited vs) → IsLine line → Visits (parent m) line vs → Opens m line vs
  opens line [] within inside is walks = tt
  opens line (v ∷ vs) within inside is (fits, parent_is, rest) =
      (fits, are, opens (ancestors m v.class) vs within_now (λ q at. inside q (among_rest v.class q (visited vs) at)) refl (subst (λ (l : List ℕ). Visits (parent m) l vs) (sym are) rest))
    where
      outer : IsLine (outermost v.depth line)
      outer = dropped_is (length line - v.depth) line within is

      are : ancestors m v.class ≡ v.class ∷ outermost v.depth line
      are = above m flat v.class (inside v.class (first_of v.class (visited vs))) ∙ ap (λ (o : Option ℕ). v.class ∷ option_map_or (ancestors m) o []) parent_is
          ∙ ap (λ (l : List ℕ). v.class ∷ l) (sym outer)

      by_place : (q : ℕ) → (v.class ≡ q) ⊎ Contains (outermost v.depth line) q → q < suc (length m.decls)
      by_place q (inl same) = subst (λ (x : ℕ). x < suc (length m.decls)) same (inside v.class (first_of v.class (visited vs)))
      by_place q (inr among) = within q (among_dropped (length line - v.depth) q line among)

      within_now : AreWithin (ancestors m v.class)
      within_now q at = by_place q (first_or_rest v.class q (outermost v.depth line) (subst (λ (l : List ℕ). Contains l q) are at))

  pub preorder_of : (vs : List Visit) (count : ℕ) → count ≡ suc (length m.decls) → IsPreorder (parent m) count vs → IsPreorderOf m vs
  preorder_of vs count counted is = record {
    nested = opens [] vs (λ q none. absurd (no_class q none)) (λ q at. subst (λ (n : ℕ). q < n) counted (is.within q at)) refl is.nested;
    whole = λ c below. is.whole c (omega arith);
    within = λ c among. let below : c < count = is.within c among in omega arith;
  }
    where
      no_class : (q : ℕ) → Contains {X = ℕ} [] q → ⊥
      no_class q (k, below, at) = absurd (omega arith)
