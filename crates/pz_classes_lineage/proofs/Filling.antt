-- Rows that are filled from the last class to the first.
use Rattle.std.proofs.Common.{◌≡◌, refl, sym, ap, subst, ◌∙◌, ℕ, ◌<◌, ◌≤◌, ◌+◌, ◌-◌, Bool, true, false, cond, if◌then◌else◌, List, [], ◌∷◌, ◌++◌, length, map, get_or, Option, Some, None, slice_get, ⊎_elim, arith}
use Rattle.std.specs.Option.{is_none, option_and_then, IfSome}
use Rattle.std.proofs.lemmas.Bool.{cases_eq}
use Rattle.std.proofs.lemmas.Bool.Decides.{nat_tests}
use Rattle.std.proofs.lemmas.List.{append-nil, map-append}
use Rattle.std.proofs.lemmas.Option.{slice_get-get_or}
use Rattle.pz_classes_lineage.specs.declared.visit.Visit.{Visit}
use Rattle.pz_classes_lineage.specs.Parents.{AreWithin}
use Rattle.pz_classes_lineage.specs.Preorder.{visited}
use Rattle.pz_classes_lineage.specs.devices.Rows.{one_if, times, among_roots, at_depth}
use Rattle.pz_classes_lineage.proofs.RowCounts.{times_push}

-- a row has each class from n on as often as it is wanted there, and no others
pub record FilledFrom (want : ℕ → ℕ) (n : ℕ) (has : ℕ → ℕ) : Type 0 where
  pub before : (c : ℕ) → c < n → has c ≡ 0
  pub after : (c : ℕ) → n ≤ c → has c ≡ want c

-- what one class adds where it is put into the row, if it is
added : (b : Bool) (c k : ℕ) → (c ≡ k → cond b (one_if c k) 0 ≡ cond b 1 0) × ((c ≡ k → ⊥) → cond b (one_if c k) 0 ≡ 0)
added false c k = (λ same. refl, λ other. refl)
added true c k = (λ same. grind (arith, nat_tests), λ other. grind (arith, nat_tests))

pub fill : (want has now : ℕ → ℕ) (n : ℕ) (b : Bool) → 0 < n → want (n - 1) ≡ cond b 1 0 → ((c : ℕ) → now c ≡ has c + cond b (one_if c (n - 1)) 0) → FilledFrom want n has → FilledFrom want (n - 1) now
fill want has now n b some wanted put filled = record { before = before_it; after = after_it }
  where
    before_it : (c : ℕ) → c < n - 1 → now c ≡ 0
    before_it c below =
        let none = (added b c (n - 1)).1 (λ same. omega arith) in
        let was = filled.before c (omega arith) in
        omega (arith, put c)

    after_it : (c : ℕ) → n - 1 ≤ c → now c ≡ want c
    after_it c from = ⊎_elim here beyond (cases_eq c (n - 1))
      where
        here : c ≡ n - 1 → now c ≡ want c
        here same =
            let one = (added b c (n - 1)).0 same in
            let was = filled.before c (omega arith) in
            let wanted_here : want c ≡ cond b 1 0 = ap want same ∙ wanted in
            omega (arith, put c)

        beyond : (c ≡ n - 1 → ⊥) → now c ≡ want c
        beyond other =
            let none = (added b c (n - 1)).1 other in
            let was = filled.after c (omega (arith, other)) in
            omega (arith, put c)

-- the last class that is not yet filled in
pub at_last : (parents : List (Option ℕ)) (n : ℕ) (o : Option ℕ) → 0 < n → n ≤ length parents → get_or parents (n - 1) None ≡ o → slice_get parents (n - 1) ≡ Some o
at_last parents n o some within is = slice_get-get_or parents (n - 1) None (omega arith) ∙ ap Some is

-- the parent of a class is one of the classes
pub parent_within : (parents : List (Option ℕ)) (n : ℕ) → 0 < n → n ≤ length parents → AreWithin parents → IfSome (get_or parents (n - 1) None) (λ p. p < length parents)
parent_within parents n some fits within = by_case (get_or parents (n - 1) None) refl
  where
    by_case : (o : Option ℕ) → get_or parents (n - 1) None ≡ o → IfSome o (λ p. p < length parents)
    by_case None is = tt
    by_case (Some p) is = within (n - 1) p (ap (option_and_then (λ q. q)) (at_last parents n (Some p) some fits is))

pub visited_push : (vs : List Visit) (v : Visit) (c : ℕ) → times c (visited (vs ++ v ∷ [])) ≡ times c (visited vs) + one_if c v.class
visited_push vs v c = ap (times c) (map-append (λ (w : Visit). w.class) vs (v ∷ [])) ∙ times_push c (visited vs) v.class

-- a list of roots, and a class that is put there if it has no parent
abbrev pub with_root : List Visit → Option ℕ → ℕ → List Visit
with_root vs o c = vs ++ (if is_none o then at_depth 0 c ∷ [] else [])

pub root_put : (o : Option ℕ) (vs : List Visit) (k c : ℕ) → times c (visited (with_root vs o k)) ≡ times c (visited vs) + cond (is_none o) (one_if c k) 0
root_put None vs k c = visited_push vs (at_depth 0 k) c
root_put (Some p) vs k c = ap (λ (l : List Visit). times c (visited l)) (append-nil vs) ∙ add_none (times c (visited vs))
  where
    add_none : (n : ℕ) → n ≡ n + 0
    add_none n = omega arith

pub root_wanted : (o : Option ℕ) → among_roots (Some o) ≡ cond (is_none o) 1 0
root_wanted None = refl
root_wanted (Some p) = refl

pub outermost_put : (o : Option ℕ) (vs : List Visit) (c : ℕ) → vs ≡ map (at_depth 0) (visited vs) → with_root vs o c ≡ map (at_depth 0) (visited (with_root vs o c))
outermost_put None vs c is =
    let classes : visited (vs ++ at_depth 0 c ∷ []) ≡ visited vs ++ c ∷ [] = map-append (λ (w : Visit). w.class) vs (at_depth 0 c ∷ []) in
    let made : map (at_depth 0) (visited vs ++ c ∷ []) ≡ map (at_depth 0) (visited vs) ++ at_depth 0 c ∷ [] = map-append (at_depth 0) (visited vs) (c ∷ []) in
    cc
outermost_put (Some p) vs c is = subst (λ (l : List Visit). l ≡ map (at_depth 0) (visited l)) (sym (append-nil vs)) is
