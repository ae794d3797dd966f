-- A table of selectors, gone through row by row.
use Rattle.std.proofs.Common.{◌≡◌, ℕ, ◌+◌, ◌<◌, ◌≤◌, List, length, drop, get_or, map, true, false, Some, None, sym, ◌∙◌, ap}
use Rattle.std.specs.Borrow.{Bor}
use Rattle.std.specs.Prelude.{bytes_eq, if◌then◌else◌}
use Rattle.std.proofs.lemmas.List.{drop_more, drop_all}
use Rattle.std.proofs.lemmas.Bool.{cond-true, cond-false}
use Rattle.pz_prims.specs.Rows.{beside}
use Rattle.pz_prims.specs.devices.Entries.{entry_of}

module _ {A : Type 0} (table : List (Bor (List ℕ) × A)) (selector : List ℕ) where
  beside-drop : (i : ℕ) (e : Bor (List ℕ) × A) → i < length table → e ≡ get_or table i e → beside selector (map entry_of (drop i table)) ≡ (if bytes_eq selector e.0.now then Some e.1 else beside selector (map entry_of (drop (i + 1) table)))
  beside-drop i e within is =
      ap (λ t. beside selector (map entry_of t)) (drop_more table i e within)
      ∙ ap (λ x. if bytes_eq selector x.0.now then Some x.1 else beside selector (map entry_of (drop (i + 1) table))) (sym is)

  pub beside_at : (i : ℕ) (e : Bor (List ℕ) × A) → i < length table → e ≡ get_or table i e → bytes_eq selector e.0.now ≡ true → beside selector (map entry_of (drop i table)) ≡ Some e.1
  beside_at i e within is same = beside-drop i e within is ∙ cond-true _ _ _ same

  pub beside_later : (i : ℕ) (e : Bor (List ℕ) × A) → i < length table → e ≡ get_or table i e → bytes_eq selector e.0.now ≡ false → beside selector (map entry_of (drop i table)) ≡ beside selector (map entry_of (drop (i + 1) table))
  beside_later i e within is apart = beside-drop i e within is ∙ cond-false _ _ _ apart

  pub beside_nowhere : (i : ℕ) → length table ≤ i → beside selector (map entry_of (drop i table)) ≡ None
  beside_nowhere i past = ap (λ t. beside selector (map entry_of t)) (drop_all i table past)
