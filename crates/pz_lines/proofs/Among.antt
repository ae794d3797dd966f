-- Lists of words, gone through entry by entry.
use Rattle.std.proofs.Common.{◌≡◌, refl, ℕ, ◌+◌, ◌<◌, ◌≤◌, Bool, true, false, ◌||◌, List, [], ◌∷◌, length, drop, get_or, map, Some, sym, ◌∙◌, ap}
use Rattle.std.specs.Borrow.{Bor}
use Rattle.std.specs.Prelude.{bytes_eq, if◌then◌else◌, is_some}
use Rattle.std.specs.List.{list_any}
use Rattle.std.proofs.lemmas.List.{drop_more, drop_all}
use Rattle.pz_lexer.specs.Spellings.{spelled}

abbrev pub is_one_of : List ℕ → List (Bor (List ℕ)) → Bool
is_one_of text words = list_any (λ w. bytes_eq w text) (map (λ w. w.now) words)

or_true : (a b : Bool) → a ≡ true → a || b ≡ true
or_true true b e = refl
or_true false b e = absurd cc

or_false : (a b : Bool) → a ≡ false → a || b ≡ b
or_false true b e = absurd cc
or_false false b e = refl

module _ (words : List (Bor (List ℕ))) (text : List ℕ) where
  among-drop : (i : ℕ) (w : Bor (List ℕ)) → i < length words → w ≡ get_or words i w → is_one_of text (drop i words) ≡ bytes_eq w.now text || is_one_of text (drop (i + 1) words)
  among-drop i w within is =
      ap (λ (t : List (Bor (List ℕ))). is_one_of text t) (drop_more words i w within)
      ∙ ap (λ (x : Bor (List ℕ)). bytes_eq x.now text || is_one_of text (drop (i + 1) words)) (sym is)

  pub among_at : (i : ℕ) (w : Bor (List ℕ)) → i < length words → w ≡ get_or words i w → bytes_eq w.now text ≡ true → is_one_of text (drop i words) ≡ true
  among_at i w within is same = among-drop i w within is ∙ or_true (bytes_eq w.now text) (is_one_of text (drop (i + 1) words)) same

  pub among_later : (i : ℕ) (w : Bor (List ℕ)) → i < length words → w ≡ get_or words i w → bytes_eq w.now text ≡ false → is_one_of text (drop i words) ≡ is_one_of text (drop (i + 1) words)
  among_later i w within is apart = among-drop i w within is ∙ or_false (bytes_eq w.now text) (is_one_of text (drop (i + 1) words)) apart

  pub among_nowhere : (i : ℕ) → length words ≤ i → is_one_of text (drop i words) ≡ false
  among_nowhere i past = ap (λ (t : List (Bor (List ℕ))). is_one_of text t) (drop_all i words past)

-- a text that a table spells is among its words
pub among_spelled : {X : Type 0} (text : List ℕ) (table : List (List ℕ × X)) → list_any (λ w. bytes_eq w text) (map (λ e. e.0) table) ≡ is_some (spelled table text)
among_spelled text [] = refl
among_spelled text (e ∷ table) = by (bytes_eq e.0 text) e.1 (among_spelled text table)
  where
    by : (v : Bool) (x : _) → list_any (λ w. bytes_eq w text) (map (λ e. e.0) table) ≡ is_some (spelled table text) → v || list_any (λ w. bytes_eq w text) (map (λ e. e.0) table) ≡ is_some (if v then Some x else spelled table text)
    by true x later = refl
    by false x later = later
