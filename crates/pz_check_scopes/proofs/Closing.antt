-- Scopes and notes that are left.
use Rattle.std.proofs.Common.{◌≡◌, refl, ap, subst, ◌∙◌, ℕ, ◌+◌, ◌-◌, ◌<◌, ◌≤◌, max, Bool, ◌⊎◌, inl, inr, List, [], ◌∷◌, ◌++◌, length, take, drop, get_or, vec_len, arith}
use Rattle.std.proofs.lemmas.Grind.{flat_map-append}
use Rattle.std.proofs.lemmas.List.{length_push, length-drop, take-append-drop, take-append-le, take_all, get_or_append_left, get_or_push}
use Rattle.std.proofs.lemmas.Bool.{cases_lt}
use Rattle.std.proofs.lemmas.List.Prefix.{end_rest}
use Rattle.pz_check_scopes.specs.Scopes.{Note, notes_of, outermost}
use Rattle.pz_check_scopes.specs.devices.Holding.{starts_of, Keeps}
use Rattle.pz_check_scopes.specs.declared.nested.Nested.{Nested}
use Rattle.pz_check_scopes.proofs.Outermost.{outermost_all, outermost_rest, outermost_more}
use Rattle.pz_check_scopes.proofs.Keeping.{length_changes}

module _ {K V : Type 0} where
  pub notes_split : (n : ℕ) (scopes : List (List (Note K V))) → notes_of scopes ≡ notes_of (take n scopes) ++ notes_of (drop n scopes)
  notes_split n scopes = rw (← flat_map-append (λ (scope : List (Note K V)). scope) (take n scopes) (drop n scopes), take-append-drop n scopes) refl

  -- the notes of the outermost scopes are the outermost of all notes
  pub outermost_notes : (depth : ℕ) (scopes : List (List (Note K V))) → outermost (length (notes_of (outermost depth scopes))) (notes_of scopes) ≡ notes_of (outermost depth scopes)
  outermost_notes depth scopes =
      let n = length scopes - depth in
      end_rest (notes_of scopes) (notes_of (drop n scopes)) (notes_of (take n scopes)) (notes_split n scopes)

  pub length_starts : (scopes : List (List (Note K V))) → length (starts_of scopes) ≡ length scopes
  length_starts [] = refl
  length_starts (scope ∷ outer) = rw (length_push (starts_of outer) (length (notes_of outer)), length_starts outer) omega arith

  -- one scope more, which starts behind these notes
  pub starts_more : (scopes : List (List (Note K V))) (starts : List ℕ) (count : ℕ) → starts ≡ starts_of scopes → count ≡ length (notes_of scopes)
      → starts ++ count ∷ [] ≡ starts_of ([] ∷ scopes)
  starts_more scopes starts count is many = rw (is, many) refl

  -- where the outermost of the scopes that are left starts
  pub start_of : (depth : ℕ) (scopes : List (List (Note K V))) → depth < length scopes → (d : ℕ)
      → get_or (starts_of scopes) depth d ≡ length (notes_of (outermost depth scopes))
  start_of depth [] within d = absurd (omega (arith, within))
  start_of depth (scope ∷ outer) within d = by_cases (start_of depth outer) (cases_lt depth (length outer))
    where
      by_cases : (depth < length outer → (e : ℕ) → get_or (starts_of outer) depth e ≡ length (notes_of (outermost depth outer)))
          → (depth < length outer) ⊎ (length outer ≤ depth) → get_or (starts_of (scope ∷ outer)) depth d ≡ length (notes_of (outermost depth (scope ∷ outer)))
      by_cases later (inl inner) =
          let starts = length_starts outer in
          rw (outermost_rest depth scope outer (omega (arith, inner)), get_or_append_left (starts_of outer) (length (notes_of outer) ∷ []) d depth (omega (arith, inner, starts))) (later inner d)
      by_cases later (inr least) =
          let starts = length_starts outer in
          rw (outermost_rest depth scope outer (omega (arith, least, within)), outermost_all depth outer least)
          (get_or_push (starts_of outer) (length (notes_of outer)) d depth (omega (arith, least, within, starts)))

  -- the starts of the scopes that stay
  pub outermost_starts : (depth : ℕ) (scopes : List (List (Note K V))) → take depth (starts_of scopes) ≡ starts_of (outermost depth scopes)
  outermost_starts depth [] =
      let none : List (List (Note K V)) = [] in
      let all : outermost depth none ≡ none = outermost_all depth none (omega arith) in
      rw all (take_all depth [] (omega arith))
  outermost_starts depth (scope ∷ outer) = by_cases (outermost_starts depth outer) (cases_lt (length outer) depth)
    where
      by_cases : take depth (starts_of outer) ≡ starts_of (outermost depth outer)
          → (length outer < depth) ⊎ (depth ≤ length outer) → take depth (starts_of (scope ∷ outer)) ≡ starts_of (outermost depth (scope ∷ outer))
      by_cases later (inl more) =
          let starts = length_starts (scope ∷ outer) in
          rw (outermost_all depth (scope ∷ outer) (omega (arith, more))) (take_all depth (starts_of (scope ∷ outer)) (omega (arith, more, starts)))
      by_cases later (inr within) =
          let starts = length_starts outer in
          rw (outermost_rest depth scope outer within, take-append-le depth (starts_of outer) (length (notes_of outer) ∷ []) (omega (arith, within, starts))) later

module _ {K V : Type 0} (eq : K → K → Bool) where
  -- all notes stay where there are no more than so many
  pub keeps_all : (count : ℕ) (notes : List (Note K V)) (nested : Nested K V) → Keeps eq notes nested → Keeps eq (outermost (max count (vec_len nested.changes)) notes) nested
  keeps_all count notes nested kept =
      let many : vec_len nested.changes ≡ length notes = nested.changes.ok.0 ∙ (ap length kept.changes ∙ length_changes eq notes) in
      rw (outermost_all (max count (vec_len nested.changes)) notes (omega (arith, many))) kept

  -- the last of n + 1 notes is taken back
  pub keeps_fewer : (n : ℕ) (notes : List (Note K V)) (before after : Nested K V)
      → vec_len before.changes ≡ n + 1
      → ((last : Note K V) (rest : List (Note K V)) → Keeps eq (last ∷ rest) before → Keeps eq rest after)
      → Keeps eq (outermost (n + 1) notes) before → Keeps eq (outermost n notes) after
  keeps_fewer n notes before after more back kept =
      let many : vec_len before.changes ≡ length (outermost (n + 1) notes) = before.changes.ok.0 ∙ (ap length kept.changes ∙ length_changes eq (outermost (n + 1) notes)) in
      let all : length (outermost (n + 1) notes) ≡ length notes - (length notes - (n + 1)) = length-drop (length notes - (n + 1)) notes in
      let next = outermost_more n notes (omega (arith, many, all, more)) in
      back next.0 (outermost n notes) (subst (λ xs. Keeps eq xs before) next.1 kept)
