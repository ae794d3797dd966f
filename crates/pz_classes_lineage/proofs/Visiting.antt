-- The classes that visits leave open, and visits that can come next.
use Rattle.std.proofs.Common.{◌≡◌, refl, sym, subst, ℕ, suc, ◌<◌, ◌≤◌, ◌+◌, ◌-◌, List, [], ◌∷◌, ◌++◌, length, map, reverse, Option, arith}
use Rattle.std.proofs.lemmas.List.{append-nil, append_assoc, length-drop, reverse-append}
use Rattle.pz_classes_lineage.specs.declared.visit.Visit.{Visit}
use Rattle.pz_classes_lineage.specs.Preorder.{innermost, outermost, Visits}
use Rattle.pz_classes_lineage.specs.devices.Rows.{one_if, times, at_depth}
use Rattle.pz_classes_lineage.proofs.RowCounts.{one_if_same}

-- the classes that these visits leave open
abbrev pub line_after : List ℕ → List Visit → List ℕ
line_after line [] = line
line_after line (v ∷ vs) = line_after (v.class ∷ outermost v.depth line) vs

-- each of these visits can come next, also after those before it
abbrev pub Pending : (ℕ → Option ℕ) → List ℕ → List Visit → Type 0
Pending up line [] = Unit {0}
Pending up line (v ∷ vs) = (v.depth ≤ length line) × (up v.class ≡ innermost (outermost v.depth line)) × Pending up (outermost v.depth line) vs

pub length_outermost : (n : ℕ) (xs : List ℕ) → n ≤ length xs → length (outermost n xs) ≡ n
length_outermost n xs within = let long : length (outermost n xs) ≡ length xs - (length xs - n) = length-drop (length xs - n) xs in omega arith

outermost_of_more : (n x : ℕ) (xs : List ℕ) → n ≤ length xs → outermost n (x ∷ xs) ≡ outermost n xs
outermost_of_more n x xs within = let one : suc (length xs) - n ≡ suc (length xs - n) = omega arith in rw one refl

outermost_all : (n : ℕ) (xs : List ℕ) → n ≡ length xs → outermost n xs ≡ xs
outermost_all n xs all = let none : length xs - n ≡ 0 = omega arith in rw none refl

pub length_line : (line : List ℕ) (vs : List Visit) → length (line_after line vs) ≤ length line + length vs
length_line line [] = omega arith
length_line line (v ∷ vs) =
    let rest : length (line_after (v.class ∷ outermost v.depth line) vs) ≤ suc (length (outermost v.depth line)) + length vs = length_line (v.class ∷ outermost v.depth line) vs in
    let long : length (outermost v.depth line) ≡ length line - (length line - v.depth) = length-drop (length line - v.depth) line in
    omega arith

pub line_push : (line : List ℕ) (vs : List Visit) (v : Visit) → line_after line (vs ++ v ∷ []) ≡ v.class ∷ outermost v.depth (line_after line vs)
line_push line [] v = refl
line_push line (w ∷ vs) v = line_push (w.class ∷ outermost w.depth line) vs v

pub reverse_push : (vs : List Visit) (v : Visit) → reverse (vs ++ v ∷ []) ≡ v ∷ reverse vs
reverse_push vs v = reverse-append vs (v ∷ [])

module _ (up : ℕ → Option ℕ) where
  pub visits_push : (line : List ℕ) (vs : List Visit) (v : Visit) → Visits up line vs → v.depth ≤ length (line_after line vs) → up v.class ≡ innermost (outermost v.depth (line_after line vs)) → Visits up line (vs ++ v ∷ [])
  visits_push line [] v made fits below = (fits, below, tt)
  visits_push line (w ∷ vs) v made fits below = (made.0, made.1, visits_push (w.class ∷ outermost w.depth line) vs v made.2 fits below)

  -- what is pending stays so where one more class is open
  pub more_open : (x : ℕ) (line : List ℕ) (vs : List Visit) → Pending up line vs → Pending up (x ∷ line) vs
  more_open x line [] pending = tt
  more_open x line (v ∷ vs) pending =
      let same : outermost v.depth (x ∷ line) ≡ outermost v.depth line = outermost_of_more v.depth x line pending.0 in
      (omega (arith, pending.0), subst (λ (l : List ℕ). up v.class ≡ innermost l) (sym same) pending.1, subst (λ (l : List ℕ). Pending up l vs) (sym same) pending.2)

  -- visits of classes that are right below the innermost
  pub push_all : (line : List ℕ) (depth : ℕ) (stack : List Visit) (classes : List ℕ) → depth ≡ length line → ((c : ℕ) → 0 < times c classes → up c ≡ innermost line) → Pending up line (reverse stack) → Pending up line (reverse (stack ++ map (at_depth depth) classes))
  push_all line depth stack [] deep below pending = subst (λ (vs : List Visit). Pending up line (reverse vs)) (sym (append-nil stack)) pending
  push_all line depth stack (x ∷ xs) deep below pending =
      subst (λ (vs : List Visit). Pending up line (reverse vs)) (append_assoc stack (at_depth depth x ∷ []) (map (at_depth depth) xs))
      (push_all line depth (stack ++ at_depth depth x ∷ []) xs deep later (subst (Pending up line) (sym (reverse_push stack (at_depth depth x))) next))
    where
      later : (c : ℕ) → 0 < times c xs → up c ≡ innermost line
      later c some = below c (omega arith)

      next : Pending up line (at_depth depth x ∷ reverse stack)
      next =
          let whole : line ≡ outermost depth line = sym (outermost_all depth line deep) in
          let one : one_if x x ≡ 1 = one_if_same x in
          (omega arith, subst (λ (l : List ℕ). up x ≡ innermost l) whole (below x (omega arith)), subst (λ (l : List ℕ). Pending up l (reverse stack)) whole pending)
