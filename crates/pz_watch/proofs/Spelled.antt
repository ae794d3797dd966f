-- Tables of keywords, gone through entry by entry.
use Rattle.std.proofs.Common.{◌≡◌, ℕ, ◌+◌, ◌<◌, ◌≤◌, true, false, List, length, drop, get_or, map, Some, None, sym, ◌∙◌, ap}
use Rattle.std.specs.Borrow.{Bor}
use Rattle.std.specs.Prelude.{bytes_eq, if◌then◌else◌}
use Rattle.std.proofs.lemmas.List.{drop_more, drop_all}
use Rattle.std.proofs.lemmas.Bool.{cond-true, cond-false}
use Rattle.pz_lexer.specs.Spellings.{spelled, entry_of}

module _ {X : Type 0} (table : List (Bor (List ℕ) × X)) (text : List ℕ) where
  spelled-drop : (i : ℕ) (e : Bor (List ℕ) × X) → i < length table → e ≡ get_or table i e → spelled (map entry_of (drop i table)) text ≡ (if bytes_eq e.0.now text then Some e.1 else spelled (map entry_of (drop (i + 1) table)) text)
  spelled-drop i e within is =
      ap (λ t. spelled (map entry_of t) text) (drop_more table i e within)
      ∙ ap (λ x. if bytes_eq x.0.now text then Some x.1 else spelled (map entry_of (drop (i + 1) table)) text) (sym is)

  pub spelled_at : (i : ℕ) (e : Bor (List ℕ) × X) → i < length table → e ≡ get_or table i e → bytes_eq e.0.now text ≡ true → spelled (map entry_of (drop i table)) text ≡ Some e.1
  spelled_at i e within is same = spelled-drop i e within is ∙ cond-true _ _ _ same

  pub spelled_later : (i : ℕ) (e : Bor (List ℕ) × X) → i < length table → e ≡ get_or table i e → bytes_eq e.0.now text ≡ false → spelled (map entry_of (drop i table)) text ≡ spelled (map entry_of (drop (i + 1) table)) text
  spelled_later i e within is apart = spelled-drop i e within is ∙ cond-false _ _ _ apart

  pub spelled_nowhere : (i : ℕ) → length table ≤ i → spelled (map entry_of (drop i table)) text ≡ None
  spelled_nowhere i past = ap (λ t. spelled (map entry_of t) text) (drop_all i table past)
