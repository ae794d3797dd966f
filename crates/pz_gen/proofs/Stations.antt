-- The texts of stations, one after another.
use Rattle.std.proofs.Common.{◌≡◌, refl, sym, ◌∙◌, ap, ℕ, ◌+◌, List, [], ◌∷◌, ◌++◌, map, append_assoc, arith}
use Rattle.std.specs.List.{flat_map, range_with_len}
use Rattle.std.proofs.lemmas.List.{append-nil}
use Rattle.std.proofs.lemmas.List.FromFn.{map-range_with_len_more}
use Rattle.std.proofs.lemmas.Grind.{flat_map-append}
use Rattle.pz_gen.specs.Ring.{each}

module _ where
  map_same : (xs : List ℕ) → map (λ x. x) xs ≡ xs
  map_same [] = refl
  map_same (x ∷ xs) = ap (λ (l : List ℕ). x ∷ l) (map_same xs)

  range_more : (i : ℕ) → range_with_len 0 (i + 1) ≡ range_with_len 0 i ++ i ∷ []
  range_more i = sym (map_same (range_with_len 0 (i + 1))) ∙ map-range_with_len_more (λ x. x) 0 i i (omega arith) ∙ ap (λ (l : List ℕ). l ++ i ∷ []) (map_same (range_with_len 0 i))

  pub each-more : (text : ℕ → List ℕ) (i : ℕ) → each (i + 1) text ≡ each i text ++ text i
  each-more text i =
      ap (flat_map text) (range_more i)
      ∙ flat_map-append text (range_with_len 0 i) (i ∷ [])
      ∙ ap (λ (l : List ℕ). each i text ++ l) (append-nil (text i))

  -- the text of one more behind what was begun with
  pub goes_on : (text : ℕ → List ℕ) (i : ℕ) (begun now later line : List ℕ) → now ≡ begun ++ each i text → later ≡ now ++ line → line ≡ text i → later ≡ begun ++ each (i + 1) text
  goes_on text i begun now later line so_far more is =
      more ∙ ap (λ (l : List ℕ). l ++ line) so_far
      ∙ append_assoc begun (each i text) line
      ∙ ap (λ (l : List ℕ). begun ++ (each i text ++ l)) is
      ∙ ap (λ (l : List ℕ). begun ++ l) (sym (each-more text i))

  -- parts that were added one after another
  pub all_parts : (a b c d e first second third fourth whole : List ℕ) → first ≡ a → second ≡ first ++ b → third ≡ second ++ c → fourth ≡ third ++ d → whole ≡ fourth ++ e → whole ≡ a ++ (b ++ (c ++ (d ++ e)))
  all_parts a b c d e first second third fourth whole is_first is_second is_third is_fourth is_whole =
      let two : second ≡ a ++ b = is_second ∙ ap (λ (l : List ℕ). l ++ b) is_first in
      let three : third ≡ (a ++ b) ++ c = is_third ∙ ap (λ (l : List ℕ). l ++ c) two in
      let four : fourth ≡ ((a ++ b) ++ c) ++ d = is_fourth ∙ ap (λ (l : List ℕ). l ++ d) three in
      is_whole ∙ ap (λ (l : List ℕ). l ++ e) four
      ∙ append_assoc ((a ++ b) ++ c) d e ∙ append_assoc (a ++ b) c (d ++ e) ∙ append_assoc a b (c ++ (d ++ e))
