-- Which classes declare one of some methods, one class after another.
use Rattle.std.proofs.Common.{◌≡◌, refl, sym, ap, subst, ◌∙◌, ℕ, zero, suc, ◌+◌, ◌-◌, ◌<◌, ◌≤◌, ◌⊎◌, inl, inr, min, Bool, true, false, IsTrue, List, [], ◌∷◌, ◌++◌, map, take, length, get_or, Option, Some, slice_get, arith}
use Rattle.std.specs.List.{sum_by}
use Rattle.std.specs.Option.{option_map, unwrap_or}
use Rattle.std.proofs.lemmas.List.Sums.{sum_by_more}
use Rattle.std.proofs.lemmas.Option.{slice_get-map, slice_get-get_or, slice_get_within, get_or_from_slice_get}
use Rattle.pz_classes.specs.pz_syntax.Classes.{DeclTree, ModelTree}
use Rattle.pz_classes.specs.pz_syntax.ClassView.{decl_view}
use Rattle.pz_classes.specs.pz_syntax.declared.clusters.Decl.{Decl}
use Rattle.pz_classes.specs.pz_classes_rules.Methods.{signatures, methods_before}
use Rattle.pz_check_openings.specs.declared.outline.Outline.{Outline}
use Rattle.pz_check_openings.specs.devices.Suspects.{is_marked, AreMarked}

place : (u w : ℕ) → (u < w) ⊎ (w ≤ u)
place u w = grind arith

-- one number more at which no method stands
pub none_more : (those : List (Option Outline)) (first i : ℕ) (here : Bool) → ((o : Outline) → slice_get those i ≡ Some (Some o) → IsTrue here) → here ≡ false
    → ((k : ℕ) (o : Outline) → first ≤ k → k < i → slice_get those k ≡ Some (Some o) → ⊥) → (k : ℕ) (o : Outline) → first ≤ k → k < i + 1 → slice_get those k ≡ Some (Some o) → ⊥
none_more those first i here tells falls before k o low high at = by_place (place k i)
  where
    by_place : (k < i) ⊎ (i ≤ k) → ⊥
    by_place (inl less) = before k o low less at
    by_place (inr last) =
        let same : k ≡ i = omega arith in
        let wrong : here ≡ true = tells o (subst (λ (j : ℕ). slice_get those j ≡ Some (Some o)) same at) in
        cc

at_left : (xs : List Bool) (y : Bool) (k : ℕ) → k < length xs → slice_get (xs ++ y ∷ []) k ≡ slice_get xs k
at_left [] y k below = absurd (omega arith)
at_left (x ∷ xs) y zero below = refl
at_left (x ∷ xs) y (suc k) below = at_left xs y k (omega arith)

at_end : (xs : List Bool) (y : Bool) → slice_get (xs ++ y ∷ []) (length xs) ≡ Some y
at_end [] y = refl
at_end (x ∷ xs) y = at_end xs y

longer : (xs : List Bool) (y : Bool) → length (xs ++ y ∷ []) ≡ length xs + 1
longer [] y = refl
longer (x ∷ xs) y = let rest : length (xs ++ y ∷ []) ≡ length xs + 1 = longer xs y in omega (arith, rest)

-- the marks of Array and of the first n declarations, and the number of the first method behind them
pub record AreSoFar (m : ModelTree) (those : List (Option Outline)) (marks : List Bool) (n first : ℕ) : Type 0 where
  pub many : length marks ≡ n + 1
  pub before : first ≡ min (sum_by (λ d. length (signatures d)) (take n m.decls)) (length those)
  pub marked : (i k : ℕ) (d : DeclTree) (o : Outline) → i < n → slice_get m.decls i ≡ Some d → slice_get those k ≡ Some (Some o)
      → methods_before m (suc i) ≤ k → k < methods_before m (suc i) + length (signatures d) → IsTrue (is_marked marks (suc i))

pub none_so_far : (m : ModelTree) (those : List (Option Outline)) (marks : List Bool) → length marks ≡ 1 → AreSoFar m those marks 0 0
none_so_far m those marks one = record { many = one; before = (let none : sum_by (λ (d : DeclTree). length (signatures d)) [] ≡ 0 = refl in omega (arith, none)); marked = λ i k d o below. absurd (omega arith) }

module _ (m : ModelTree) (those : List (Option Outline)) where
  before_is : (i : ℕ) → methods_before m (suc i) ≡ sum_by (λ d. length (signatures d)) (take i m.decls)
  before_is i = let same : suc i - 1 ≡ i = omega arith in ap (λ (j : ℕ). sum_by (λ d. length (signatures d)) (take j m.decls)) same

  pub one_more_mark : (n first next count : ℕ) (d : DeclTree) (here : Bool) (marks new : List Bool) → AreSoFar m those marks n first → slice_get m.decls n ≡ Some d → count ≡ length (signatures d)
      → next ≡ min (first + count) (length those) → ((k : ℕ) (o : Outline) → first ≤ k → k < next → slice_get those k ≡ Some (Some o) → IsTrue here) → new ≡ marks ++ here ∷ [] → AreSoFar m those new (n + 1) next
  one_more_mark n first next count d here marks new so at counted step tells pushed = record {
    many = (let more : length (marks ++ here ∷ []) ≡ length marks + 1 = longer marks here in let size : length marks ≡ n + 1 = so.many in ap length pushed ∙ omega (arith, more, size));
    before = after;
    marked = λ i k e o below. by_place i k e o (place i n) below;
  }
    where
      inside : n < length m.decls
      inside = slice_get_within m.decls n d at

      read : get_or m.decls n d ≡ d
      read = get_or_from_slice_get m.decls n d d at

      sum_is : sum_by (λ e. length (signatures e)) (take (n + 1) m.decls) ≡ sum_by (λ e. length (signatures e)) (take n m.decls) + length (signatures d)
      sum_is = sum_by_more (λ (e : DeclTree). length (signatures e)) m.decls n d inside ∙ ap (λ (e : DeclTree). sum_by (λ x. length (signatures x)) (take n m.decls) + length (signatures e)) read

      after : next ≡ min (sum_by (λ e. length (signatures e)) (take (n + 1) m.decls)) (length those)
      after = let first_is : first ≡ min (sum_by (λ e. length (signatures e)) (take n m.decls)) (length those) = so.before in omega (arith, sum_is, first_is)

      by_place : (i k : ℕ) (e : DeclTree) (o : Outline) → (i < n) ⊎ (n ≤ i) → i < n + 1 → slice_get m.decls i ≡ Some e → slice_get those k ≡ Some (Some o)
          → methods_before m (suc i) ≤ k → k < methods_before m (suc i) + length (signatures e) → IsTrue (is_marked new (suc i))
      by_place i k e o (inl less) below there stands low high =
          let old : IsTrue (is_marked marks (suc i)) = so.marked i k e o less there stands low high in
          let size : length marks ≡ n + 1 = so.many in
          ap (λ (l : List Bool). unwrap_or (slice_get l (suc i)) false) pushed ∙ (ap (λ (x : Option Bool). unwrap_or x false) (at_left marks here (suc i) (omega (arith, size))) ∙ old)
      by_place i k e o (inr last) below there stands low high =
          let same : i ≡ n = omega arith in
          let size : length marks ≡ n + 1 = so.many in
          let place_is : suc i ≡ length marks = omega (arith, size) in
          let found : Some e ≡ Some d = sym there ∙ (ap (slice_get m.decls) same ∙ at) in
          let e_is : e ≡ d = cc in
          let same_count : length (signatures e) ≡ length (signatures d) = ap (λ (x : DeclTree). length (signatures x)) e_is in
          let start : methods_before m (suc i) ≡ sum_by (λ x. length (signatures x)) (take n m.decls) = before_is i ∙ ap (λ (j : ℕ). sum_by (λ x. length (signatures x)) (take j m.decls)) same in
          let first_is : first ≡ min (sum_by (λ x. length (signatures x)) (take n m.decls)) (length those) = so.before in
          let within : k < length those = slice_get_within those k (Some o) stands in
          let holds : here ≡ true = tells k o (omega (arith, start, first_is)) (omega (arith, start, first_is, same_count)) stands in
          ap (λ (l : List Bool). unwrap_or (slice_get l (suc i)) false) pushed
          ∙ (ap (λ (j : ℕ). unwrap_or (slice_get (marks ++ here ∷ []) j) false) place_is ∙ (ap (λ (x : Option Bool). unwrap_or x false) (at_end marks here) ∙ holds))

  pub all_marked : (marks : List Bool) (n first : ℕ) → length m.decls ≤ n → AreSoFar m those marks n first → AreMarked m those marks
  all_marked marks n first all so i k d o there stands low high = let inside : i < length m.decls = slice_get_within m.decls i d there in so.marked i k d o (omega (arith, inside, all)) there stands low high

-- the declaration that is read
pub read_decl : (ds seen : List Decl) (i : ℕ) (d : Decl) → seen ≡ ds → i < length seen → d ≡ get_or seen i d → slice_get (map decl_view ds) i ≡ Some (decl_view d)
read_decl ds seen i d are inside is =
    slice_get-map decl_view ds i ∙ ap (option_map decl_view) (ap (λ (l : List Decl). slice_get l i) (sym are) ∙ (slice_get-get_or seen i d inside ∙ ap (λ (x : Decl). Some x) (sym is)))

pub all_read : (ds seen : List Decl) (i : ℕ) → seen ≡ ds → length seen ≤ i → length (map decl_view ds) ≤ i
all_read ds seen i are past = let size : length (map decl_view ds) ≡ length ds = mapped ds in let same : length seen ≡ length ds = ap length are in omega (arith, size, same)
  where
    mapped : (xs : List Decl) → length (map decl_view xs) ≡ length xs
    mapped [] = refl
    mapped (x ∷ xs) = ap suc (mapped xs)
