-- The first byte of a text decides what is read.
use Rattle.std.proofs.Common.{◌≡◌, ℕ, ◌<◌, List, [], ◌∷◌, length, get_or, true, false, Result, refl, ap, arith}
use Rattle.std.proofs.lemmas.Bool.{ne_eqb}
use Rattle.pz_lexer.specs.declared.sorts.Sort.{Sort}
use Rattle.pz_lexer.specs.declared.sorts.Found.{Found}
use Rattle.pz_lexer.specs.declared.sorts.Stop.{Stop}
use Rattle.pz_lexer.specs.Bytes.{is_blank, is_letter, is_digit}
use Rattle.pz_lexer.specs.Pieces.{a_blank}
use Rattle.pz_lexer.specs.devices.Reading.{Reads, IsFound}
use Rattle.pz_lexer.specs.devices.SymbolStep.{symbol_step}
use Rattle.pz_lexer.specs.devices.Gives.{Gives}
use Rattle.pz_lexer.proofs.Classes.{IsOther, class_other}
use Rattle.pz_lexer.proofs.SymbolSteps.{begins_symbol, symbol_right}
use Rattle.pz_lexer.proofs.FirstStep.{no_slash_apart}
use Rattle.pz_lexer.proofs.ReadSteps.{reads_from, found_from}

pub blank_reads : (text : List ℕ) → 0 < length text → is_blank (get_or text 0 0) ≡ true → IsFound text (record { sort = Sort.Blank; len = 1 })
blank_reads [] some is = absurd (omega arith)
blank_reads (b ∷ bs) some is = found_from (b ∷ bs) (b ∷ []) bs Sort.Blank _ (refl, tt, a_blank is) refl refl

pub other_reads : (text : List ℕ) (result : Result Found Stop) → 0 < length text → is_blank (get_or text 0 0) ≡ false → is_letter (get_or text 0 0) ≡ false → is_digit (get_or text 0 0) ≡ false → (get_or text 0 0 ≡ 34 → ⊥) → (get_or text 0 0 ≡ 39 → ⊥) → (get_or text 0 0 ≡ 47 → ⊥) → Gives (symbol_step text) result → Reads text result
other_reads [] result some blank letter digit double single slash gives = absurd (omega arith)
other_reads (b ∷ bs) result some blank letter digit double single slash gives =
    let is : IsOther b = record { no_blank = blank; no_letter = letter; no_digit = digit; no_double_quote = ne_eqb b 34 double; no_single_quote = ne_eqb b 39 single; no_slash = ne_eqb b 47 slash } in
    reads_from (b ∷ bs) (symbol_step (b ∷ bs)) result (symbol_right b bs (ap begins_symbol (class_other b is)) (no_slash_apart b bs is.no_slash)) gives
