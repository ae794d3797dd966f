-- A file is one list of watches at most, or it is refused, at one line.
use Rattle.std.proofs.Common.{◌≡◌, ◌≢◌, refl, sym, ap, ◌∙◌, append_assoc, append-nil, ℕ, suc, ◌+◌, ◌≤◌, Bool, List, [], ◌∷◌, ◌++◌, length, arith}
use Rattle.std.specs.Prelude.{codes}
use Rattle.std.specs.List.{All, join_with_byte}
use Rattle.std.proofs.lemmas.List.{length-append}
use Rattle.pz_lines.specs.devices.Lacking.{Lacks}
use Rattle.pz_lines.proofs.Cutting.{lacks_both, tails, cut, lacks_blank, lacks_end, joined_lacks_end, each_lacks_blank, joins}
use Rattle.pz_watch.specs.Formulas.{Formula}
use Rattle.pz_watch.specs.Words.{words_of}
use Rattle.pz_watch.specs.Files.{NamedFormula, watch_text, watches_text, IsWatch, AreWatches, BeginsWithNone, IsRefusedAt, empty, no_watch, too_many}
use Rattle.pz_watch.specs.Laws.{NamesAreWords}
use Rattle.pz_watch.proofs.FormulaWords.{some_words, one_reading}
use Rattle.pz_watch.proofs.Inside.{words_inside}

split : (w : NamedFormula) (ws : List NamedFormula) (r : List ℕ) → watches_text (w ∷ ws) ++ r ≡ watch_text w ++ (10 ∷ (watches_text ws ++ r))
split w ws r = append_assoc (watch_text w) (10 ∷ watches_text ws) r

-- no line is nothing
pub some_bytes : (w : NamedFormula) (rest : List ℕ) → [] ≡ watch_text w ++ (10 ∷ rest) → ⊥
some_bytes w rest e =
    let count : length (watch_text w ++ (10 ∷ rest)) ≡ length (watch_text w) + length (10 ∷ rest) = length-append (watch_text w) (10 ∷ rest) in
    let zeros : 0 ≡ length (watch_text w ++ (10 ∷ rest)) = ap (λ (t : List ℕ). length t) e in
    omega arith

nothing : (a b : List ℕ) → [] ≡ a ++ b → b ≡ []
nothing [] b e = sym e
nothing (x ∷ a) b e = absurd cc

module _ (is_name : List ℕ → Bool) (words : NamesAreWords is_name) where
  abbrev Watch : NamedFormula → Type 0
  Watch = IsWatch is_name

  first : (w : NamedFormula) (ws : List NamedFormula) → All Watch (w ∷ ws) → Watch w
  first w ws all = all 0 w (omega arith)

  others : (w : NamedFormula) (ws : List NamedFormula) → All Watch (w ∷ ws) → All Watch ws
  others w ws all = λ k d lt. all (suc k) d (omega arith)

  pub lacks_an_end : (w : NamedFormula) → Watch w → Lacks 10 (watch_text w)
  lacks_an_end w is =
      lacks_both
      10
      w.name
      (codes " : " ++ join_with_byte 32 (words_of w.formula))
      (lacks_end w.name (words w.name is.named).inside)
      (λ (e : 32 ≡ 10). omega arith, (λ (e : 58 ≡ 10). omega arith, (λ (e : 32 ≡ 10). omega arith, joined_lacks_end (words_of w.formula) (words_inside w.formula is.written))))

  same_line : (w v : NamedFormula) → Watch w → Watch v → watch_text w ≡ watch_text v → w ≡ v
  same_line w v is are e =
      let a : List ℕ = join_with_byte 32 (words_of w.formula) in
      let b : List ℕ = join_with_byte 32 (words_of v.formula) in
      let parts =
      cut
      32
      w.name
      v.name
      (58 ∷ (32 ∷ a))
      (58 ∷ (32 ∷ b))
      (lacks_blank w.name (words w.name is.named).inside)
      (lacks_blank v.name (words v.name are.named).inside)
      e
      in
      let text : a ≡ b = tails 32 32 a b (tails 58 58 (32 ∷ a) (32 ∷ b) parts.1) in
      let same : words_of w.formula ≡ words_of v.formula =
      joins
      (words_of w.formula)
      (words_of v.formula)
      (some_words w.formula)
      (some_words v.formula)
      (each_lacks_blank (words_of w.formula) (words_inside w.formula is.written))
      (each_lacks_blank (words_of v.formula) (words_inside v.formula are.written))
      text
      in
      let formula : w.formula ≡ v.formula =
      (one_reading w.formula v.formula [] [] is.written are.written (ap (λ (ws : List (List ℕ)). ws ++ []) same)).0
      in
      let renamed : w ≡ record { name = v.name; formula = w.formula } =
      ap (λ (n : List ℕ). let u : NamedFormula = record { name = n; formula = w.formula } in u) parts.0
      in
      renamed ∙ ap (λ (f : Formula). let u : NamedFormula = record { name = v.name; formula = f } in u) formula

  first_line : (w v : NamedFormula) (r s : List ℕ) → Watch w → Watch v → watch_text w ++ (10 ∷ r) ≡ watch_text v ++ (10 ∷ s) → (w ≡ v) × (r ≡ s)
  first_line w v r s is are e =
      let parts = cut 10 (watch_text w) (watch_text v) r s (lacks_an_end w is) (lacks_an_end v are) e in
      (same_line w v is are parts.0, parts.1)

  both_split : (w v : NamedFormula) (ws vs : List NamedFormula) (r s : List ℕ) → watches_text (w ∷ ws) ++ r ≡ watches_text (v ∷ vs) ++ s → watch_text w ++ (10 ∷ (watches_text ws ++ r)) ≡ watch_text v ++ (10 ∷ (watches_text vs ++ s))
  both_split w v ws vs r s e = sym (split w ws r) ∙ e ∙ split v vs s

  -- where no further line is one, there are not more watches
  no_more : (ws vs : List NamedFormula) (r s : List ℕ) → All Watch ws → All Watch vs → watches_text ws ++ r ≡ watches_text vs ++ s → BeginsWithNone is_name r → length vs ≤ length ws
  no_more ws [] r s aw av e none = omega arith
  no_more [] (v ∷ vs) r s aw av e none =
      absurd (none v (watches_text vs ++ s) (first v vs av) (e ∙ split v vs s))
  no_more (w ∷ ws) (v ∷ vs) r s aw av e none =
      let parts =
      first_line w v (watches_text ws ++ r) (watches_text vs ++ s) (first w ws aw) (first v vs av) (both_split w v ws vs r s e)
      in
      let fewer : length vs ≤ length ws = no_more ws vs r s (others w ws aw) (others v vs av) parts.1 none in
      omega arith

  -- as many watches are the same ones
  same_lists : (ws vs : List NamedFormula) (r s : List ℕ) → All Watch ws → All Watch vs → watches_text ws ++ r ≡ watches_text vs ++ s → length ws ≡ length vs → (ws ≡ vs) × (r ≡ s)
  same_lists [] [] r s aw av e count = (refl, e)
  same_lists [] (v ∷ vs) r s aw av e count = absurd (omega arith)
  same_lists (w ∷ ws) [] r s aw av e count = absurd (omega arith)
  same_lists (w ∷ ws) (v ∷ vs) r s aw av e count =
      let parts =
      first_line w v (watches_text ws ++ r) (watches_text vs ++ s) (first w ws aw) (first v vs av) (both_split w v ws vs r s e)
      in
      let rest = same_lists ws vs r s (others w ws aw) (others v vs av) parts.1 (omega arith) in
      (ap (λ (x : NamedFormula). x ∷ ws) parts.0 ∙ ap (λ (xs : List NamedFormula). v ∷ xs) rest.0, rest.1)

  at_end : BeginsWithNone is_name []
  at_end = λ w rest is e. some_bytes w rest e

  whole : (text : List ℕ) (ws : List NamedFormula) → AreWatches is_name text ws → watches_text ws ++ [] ≡ text
  whole text ws is = append-nil (watches_text ws) ∙ sym is.lines

  pub one_list : (text : List ℕ) (ws vs : List NamedFormula) → AreWatches is_name text ws → AreWatches is_name text vs → ws ≡ vs
  one_list text ws vs is are =
      let e : watches_text ws ++ [] ≡ watches_text vs ++ [] = whole text ws is ∙ sym (whole text vs are) in
      let one : length vs ≤ length ws = no_more ws vs [] [] is.each are.each e at_end in
      let two : length ws ≤ length vs = no_more vs ws [] [] are.each is.each (sym e) at_end in
      (same_lists ws vs [] [] is.each are.each e (omega arith)).0

  some_text : (ws : List NamedFormula) → ws ≢ [] → [] ≡ watches_text ws → ⊥
  some_text [] some e = some refl
  some_text (w ∷ ws) some e = some_bytes w (watches_text ws) e

  pub never_both : (text : List ℕ) (ws : List NamedFormula) (l : ℕ) → AreWatches is_name text ws → IsRefusedAt is_name text l → ⊥
  never_both text ws _ is (empty none) = some_text ws is.some (sym none ∙ is.lines)
  never_both text ws _ is (no_watch vs rest each few lines more none) =
      let e : watches_text ws ++ [] ≡ watches_text vs ++ rest = whole text ws is ∙ lines in
      let one : length vs ≤ length ws = no_more ws vs [] rest is.each each e at_end in
      let two : length ws ≤ length vs = no_more vs ws rest [] each is.each (sym e) none in
      more (sym (same_lists ws vs [] rest is.each each e (omega arith)).1)
  never_both text ws _ is (too_many vs rest each count lines more) =
      let e : watches_text ws ++ [] ≡ watches_text vs ++ rest = whole text ws is ∙ lines in
      let one : length vs ≤ length ws = no_more ws vs [] rest is.each each e at_end in
      let most : length ws ≤ 100 = is.few in
      let full : length vs ≡ 100 = count in
      more (sym (same_lists ws vs [] rest is.each each e (omega arith)).1)

  pub one_line : (text : List ℕ) (l k : ℕ) → IsRefusedAt is_name text l → IsRefusedAt is_name text k → l ≡ k
  one_line text _ _ (empty none) (empty nil) = refl
  one_line text _ _ (empty none) (no_watch vs rest each few lines more bad) =
      absurd (more (nothing (watches_text vs) rest (sym none ∙ lines)))
  one_line text _ _ (empty none) (too_many vs rest each count lines more) =
      absurd (more (nothing (watches_text vs) rest (sym none ∙ lines)))
  one_line text _ _ (no_watch vs rest each few lines more bad) (empty none) =
      absurd (more (nothing (watches_text vs) rest (sym none ∙ lines)))
  one_line text _ _ (too_many vs rest each count lines more) (empty none) =
      absurd (more (nothing (watches_text vs) rest (sym none ∙ lines)))
  one_line text _ _ (no_watch ws r aw few lines more bad) (no_watch vs s av less texts other worse) =
      let e : watches_text ws ++ r ≡ watches_text vs ++ s = sym lines ∙ texts in
      let one : length vs ≤ length ws = no_more ws vs r s aw av e bad in
      let two : length ws ≤ length vs = no_more vs ws s r av aw (sym e) worse in
      omega arith
  one_line text _ _ (no_watch ws r aw few lines more bad) (too_many vs s av count texts other) =
      let e : watches_text ws ++ r ≡ watches_text vs ++ s = sym lines ∙ texts in
      let one : length vs ≤ length ws = no_more ws vs r s aw av e bad in
      absurd (omega arith)
  one_line text _ _ (too_many ws r aw count lines more) (no_watch vs s av few texts other bad) =
      let e : watches_text vs ++ s ≡ watches_text ws ++ r = sym texts ∙ lines in
      let one : length ws ≤ length vs = no_more vs ws s r av aw e bad in
      absurd (omega arith)
  one_line text _ _ (too_many ws r aw count lines more) (too_many vs s av full texts other) = omega arith
