-- What stands in the rows is what the model says.
use Rattle.std.proofs.Common.{◌≡◌, refl, sym, ap, subst, ◌∙◌, ℕ, zero, suc, ◌+◌, ◌<◌, ◌≤◌, ◌⊎◌, inl, inr, List, [], ◌∷◌, map, length, Option, Some, None, slice_get, get_or, arith}
use Rattle.std.specs.Option.{option_map, option_and_then}
use Rattle.std.proofs.lemmas.Option.{slice_get-map, slice_get_read, slice_get_cases, get_or_from_slice_get}
use Rattle.pz_classes_code.specs.pz_syntax.Classes.{DeclTree, ModelTree}
use Rattle.pz_classes.specs.declared.entry.Entry.{Entry}
use Rattle.pz_classes_rules.specs.Ancestors.{parent, parent_of, followed}
use Rattle.pz_classes_rules.specs.Methods.{Signature, own_method, nearest, method_with}
use Rattle.pz_classes_rules.specs.Starts.{own_call, init}
use Rattle.pz_classes.specs.devices.Rows.{Row, row, rows_from, rows, row_view}
use Rattle.pz_classes.specs.devices.Found.{up_in, own_in, found_in, start_in, start_found}
use Rattle.pz_classes.proofs.Lines.{line_same}

module _ (m : ModelTree) where
  rows_from_at : (n : ℕ) (ds : List DeclTree) (i k : ℕ) → k ≡ i + n → slice_get (rows_from m n ds) i ≡ option_map (λ d. row m k) (slice_get ds i)
  rows_from_at n [] i k is = refl
  rows_from_at n (d ∷ ds) zero k is = let same : n ≡ k = omega arith in ap (λ (x : ℕ). Some (row m x)) same
  rows_from_at n (d ∷ ds) (suc i) k is = rows_from_at (suc n) ds i k (omega arith)

  pub rows_at : (i : ℕ) → slice_get (rows m) (suc i) ≡ option_map (λ d. row m (suc i)) (slice_get m.decls i)
  rows_at i = rows_from_at 1 m.decls i (suc i) (omega arith)

  rows_from_length : (n : ℕ) (ds : List DeclTree) → length (rows_from m n ds) ≡ length ds
  rows_from_length n [] = refl
  rows_from_length n (d ∷ ds) = ap (λ (k : ℕ). suc k) (rows_from_length (suc n) ds)

  pub rows_length : length (rows m) ≡ suc (length m.decls)
  rows_length = ap (λ (k : ℕ). suc k) (rows_from_length 1 m.decls)

  pub row_at : (c : ℕ) → c < suc (length m.decls) → get_or (rows m) c (row m c) ≡ row m c
  row_at zero below = refl
  row_at (suc i) below = by_decl (slice_get_cases m.decls i).1
    where
      by_decl : ((d : DeclTree) × (i < length m.decls) × (slice_get m.decls i ≡ Some d) × (get_or m.decls i d ≡ d)) ⊎ ((length m.decls ≤ i) × (slice_get m.decls i ≡ None)) → get_or (rows m) (suc i) (row m (suc i)) ≡ row m (suc i)
      by_decl (inl at) = get_or_from_slice_get (rows m) (suc i) (row m (suc i)) (row m (suc i)) (rows_at i ∙ ap (λ (o : Option DeclTree). option_map (λ d. row m (suc i)) o) at.2)
      by_decl (inr past) = let beyond = past.0 in absurd (omega arith)

  some_row : (c : ℕ) (r : Row) → slice_get (rows m) c ≡ Some r → r ≡ row m c
  some_row zero r here = cc
  some_row (suc i) r here = by_decl (slice_get m.decls i) (sym (rows_at i) ∙ here)
    where
      by_decl : (o : Option DeclTree) → option_map (λ d. row m (suc i)) o ≡ Some r → r ≡ row m (suc i)
      by_decl None is = cc
      by_decl (Some d) is = cc

  up_is : (c : ℕ) → up_in (rows m) c ≡ parent m c
  up_is zero = refl
  up_is (suc i) = rw (rows_at i) (by_decl (slice_get m.decls i) refl)
    where
      by_decl : (o : Option DeclTree) → slice_get m.decls i ≡ o → option_and_then (λ r. r.parent) (option_map (λ d. row m (suc i)) o) ≡ option_and_then (parent_of m) (slice_get m.decls i)
      by_decl None is = rw is refl
      by_decl (Some d) is = refl

  own_is : (s : Signature) (c : ℕ) → own_in (rows m) s c ≡ own_method m s c
  own_is s zero = refl
  own_is s (suc i) = rw (rows_at i) (by_decl (slice_get m.decls i) refl)
    where
      by_decl : (o : Option DeclTree) → slice_get m.decls i ≡ o → option_and_then (λ r. r.methods s) (option_map (λ d. row m (suc i)) o) ≡ own_method m s (suc i)
      by_decl None is = rw is refl
      by_decl (Some d) is = refl

  start_is : (c : ℕ) → start_in (rows m) c ≡ own_call m c
  start_is zero = refl
  start_is (suc i) = rw (rows_at i) (by_decl (slice_get m.decls i) refl)
    where
      by_decl : (o : Option DeclTree) → slice_get m.decls i ≡ o → option_and_then (λ r. r.start) (option_map (λ d. row m (suc i)) o) ≡ own_call m (suc i)
      by_decl None is = rw is refl
      by_decl (Some d) is = refl

  nearest_same : {A : Type 0} (f g : ℕ → Option A) → ((c : ℕ) → f c ≡ g c) → (line : List ℕ) → nearest f line ≡ nearest g line
  nearest_same f g agree [] = refl
  nearest_same f g agree (c ∷ line) = rw (agree c, nearest_same f g agree line) refl

  pub found_is : (listed : List Row) → listed ≡ rows m → (s : Signature) (c : ℕ) → found_in listed s c ≡ method_with m c s
  found_is listed is s c =
      rw is (nearest_same (own_in (rows m) s) (own_method m s) (own_is s) (followed (up_in (rows m)) (length (rows m)) c)
      ∙ ap (λ (line : List ℕ). nearest (own_method m s) line) (line_same (up_in (rows m)) (parent m) up_is (length (rows m)) (suc (length m.decls)) c rows_length))

  pub start_found_is : (listed : List Row) → listed ≡ rows m → (c : ℕ) → start_found listed c ≡ init m c
  start_found_is listed is c =
      rw is (nearest_same (start_in (rows m)) (own_call m) start_is (followed (up_in (rows m)) (length (rows m)) c)
      ∙ ap (λ (line : List ℕ). nearest (own_call m) line) (line_same (up_in (rows m)) (parent m) up_is (length (rows m)) (suc (length m.decls)) c rows_length))

  pub entry_is : (es : List Entry) (e : Entry) (c : ℕ) → map row_view es ≡ rows m → c < length es → e ≡ get_or es c e → row_view e ≡ row m c
  entry_is es e c are within here =
      let read : slice_get es c ≡ Some e = slice_get_read es (length es) c e refl within here in
      some_row c (row_view e) (subst (λ (rs : List Row). slice_get rs c ≡ Some (row_view e)) are (slice_get-map row_view es c ∙ ap (λ (o : Option Entry). option_map row_view o) read))
