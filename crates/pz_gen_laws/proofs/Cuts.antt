-- Bits that fit are pieces.
use Rattle.std.proofs.Common.{◌≡◌, refl, sym, ◌∙◌, ap, subst, ℕ, ◌≤◌, true, ⊎_elim, List, [], ◌∷◌, ◌++◌, length, map, Option, Some, None, IsSome, is_some, bytes_eq, append_assoc, leb-true, ltb-true, eq-eqb}
use Rattle.std.specs.Prelude.{unwrap_or}
use Rattle.std.specs.List.{list_all, flat_map}
use Rattle.std.proofs.lemmas.Bool.{false≢true, and_parts, and_from, or_cases, cond-false, not-true, both_ways, cases_Bool}
use Rattle.std.proofs.lemmas.Slice.Eq.{bytes_eq-Decides}
use Rattle.pz_classes_rules.specs.pz_syntax.declared.tokens.Symbol.{Symbol}
use Rattle.pz_lexer.specs.Pieces.{IsPiece, joined, ArePieces, a_blank, a_word, an_integer, a_symbol}
use Rattle.pz_lexer.specs.Spellings.{spelled}
use Rattle.pz_lexer.specs.Symbols.{symbols}
use Rattle.pz_gen_laws.specs.devices.Bits.{Bit, blank, word, number, sign, station, spelling, sort_of, piece_of, text_of, stands, is_no_longer, fits, all_fit}
use Rattle.pz_gen_laws.proofs.Names.{is_name}

module _ where
  stands_there : (xs ys : List ℕ) → stands xs (xs ++ ys) ≡ true
  stands_there [] ys = refl
  stands_there (x ∷ xs) ys = and_from _ _ (eq-eqb x x refl) (stands_there xs ys)

  some_is : {X : Type 0} (o : Option X) (d : X) → is_some o ≡ true → o ≡ Some (unwrap_or o d)
  some_is None d some = absurd (false≢true some)
  some_is (Some x) d some = refl

  no_longer : (w rest more after : List ℕ) → is_no_longer more w rest ≡ true → w ++ rest ≡ more ++ after → length more ≤ length w
  no_longer w rest more after is same =
      ⊎_elim (λ short. leb-true (length more) (length w) short)
      (λ absent. absurd (both_ways (stands more (w ++ rest)) (not-true _ absent) (ap (stands more) same ∙ stands_there more after)))
      (or_cases _ _ is)

  longest : {X : Type 0} (table : List (List ℕ × X)) (w rest more after : List ℕ) → list_all (λ e. is_no_longer e.0 w rest) table ≡ true → w ++ rest ≡ more ++ after → IsSome (spelled table more) → length more ≤ length w
  longest [] w rest more after all same some = absurd (false≢true some)
  longest (e ∷ table) w rest more after all same some =
      let parts = and_parts _ _ all in
      ⊎_elim (λ this. no_longer w rest more after (subst (λ t. is_no_longer t w rest ≡ true) ((bytes_eq-Decides e.0 more).0 this) parts.0) same)
      (λ other. longest table w rest more after parts.1 same (ap is_some (sym (cond-false (bytes_eq e.0 more) (Some e.1) (spelled table more) other)) ∙ some))
      (cases_Bool (bytes_eq e.0 more))

  is_bit : (b : Bit) (rest : List ℕ) → fits b rest ≡ true → IsPiece (spelling b) (sort_of b) rest
  is_bit (blank b) rest fit = a_blank fit
  is_bit (word w) rest fit =
      let first = and_parts _ _ fit in
      let inside = and_parts _ _ first.1 in
      a_word (record { first = first.0; inside = inside.0; whole = not-true _ inside.1 })
  is_bit (number w) rest fit =
      let first = and_parts _ _ fit in
      let inside = and_parts _ _ first.1 in
      let whole = and_parts _ _ inside.1 in
      let last = and_parts _ _ whole.1 in
      an_integer (record { digits = record { some = first.0; all = inside.0 }; whole = not-true _ whole.0; no_fraction = not-true _ last.0; stands_for = refl; fits = ltb-true _ _ last.1 })
  is_bit (sign w) rest fit =
      let spells = and_parts _ _ fit in
      let longer = and_parts _ _ spells.1 in
      a_symbol (record { spells = some_is (spelled symbols w) Symbol.Dot spells.0; longest = λ more after same some. longest symbols w rest more after longer.0 same some; apart = not-true _ longer.1 })
  is_bit (station i) rest fit = is_name i rest (not-true _ fit)

  -- the text of pieces is that of the bits
  pub joined_bits : (bs : List Bit) → joined (map piece_of bs) ≡ text_of bs
  joined_bits [] = refl
  joined_bits (b ∷ bs) = ap (λ (t : List ℕ). spelling b ++ t) (joined_bits bs)

  pub are_pieces : (bs : List Bit) (rest : List ℕ) → all_fit bs rest ≡ true → ArePieces (map piece_of bs) rest
  are_pieces [] rest all = tt
  are_pieces (b ∷ bs) rest all =
      let parts = and_parts _ _ all in
      (subst (λ (t : List ℕ). IsPiece (spelling b) (sort_of b) (t ++ rest)) (sym (joined_bits bs)) (is_bit b (text_of bs ++ rest) parts.0), are_pieces bs rest parts.1)

  pub text_of-append : (bs cs : List Bit) → text_of (bs ++ cs) ≡ text_of bs ++ text_of cs
  text_of-append [] cs = refl
  text_of-append (b ∷ bs) cs = ap (λ (t : List ℕ). spelling b ++ t) (text_of-append bs cs) ∙ sym (append_assoc (spelling b) (text_of bs) (text_of cs))

  pub text_of-flat_map : {A : Type 0} (f : A → List Bit) (g : A → List ℕ) → ((x : A) → text_of (f x) ≡ g x) → (xs : List A) → text_of (flat_map f xs) ≡ flat_map g xs
  text_of-flat_map f g each [] = refl
  text_of-flat_map f g each (x ∷ xs) = text_of-append (f x) (flat_map f xs) ∙ ap (λ (t : List ℕ). t ++ text_of (flat_map f xs)) (each x) ∙ ap (λ (t : List ℕ). g x ++ t) (text_of-flat_map f g each xs)

  -- bits that fit before others
  pub all_fit-append : (bs cs : List Bit) (rest : List ℕ) → all_fit bs (text_of cs ++ rest) ≡ true → all_fit cs rest ≡ true → all_fit (bs ++ cs) rest ≡ true
  all_fit-append [] cs rest front back = back
  all_fit-append (b ∷ bs) cs rest front back =
      let parts = and_parts _ _ front in
      let same : text_of (bs ++ cs) ++ rest ≡ text_of bs ++ (text_of cs ++ rest) = ap (λ (t : List ℕ). t ++ rest) (text_of-append bs cs) ∙ append_assoc (text_of bs) (text_of cs) rest in
      and_from _ _ (ap (fits b) same ∙ parts.0) (all_fit-append bs cs rest parts.1 back)

-- they fit, whatever follows
abbrev pub Fit : List Bit → Type 0
Fit bs = (rest : List ℕ) → all_fit bs rest ≡ true

module _ where
  pub Fit-append : (bs cs : List Bit) → Fit bs → Fit cs → Fit (bs ++ cs)
  Fit-append bs cs front back rest = all_fit-append bs cs rest (front (text_of cs ++ rest)) (back rest)

  pub Fit-flat_map : {A : Type 0} (f : A → List Bit) → ((x : A) → Fit (f x)) → (xs : List A) → Fit (flat_map f xs)
  Fit-flat_map f each [] = λ rest. refl
  Fit-flat_map f each (x ∷ xs) = Fit-append (f x) (flat_map f xs) (each x) (Fit-flat_map f each xs)
