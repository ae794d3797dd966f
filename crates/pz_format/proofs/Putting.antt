-- A layout, piece by piece.
use Rattle.std.proofs.Common.{◌≡◌, ℕ, zero, suc, ◌+◌, ◌≤◌, List, [], ◌∷◌, ◌++◌, Bool, true, false, refl, sym, ◌∙◌, ap, ap₂, append_assoc, arith, length}
use Rattle.pz_lexer.specs.declared.kept.Piece.{Piece as Kept}
use Rattle.pz_format.specs.declared.levels.Level.{Level}
use Rattle.pz_format.specs.Writing.{piece_text}
use Rattle.pz_format.specs.Lines.{begins_line}
use Rattle.pz_format.specs.Levels.{count, behind, depth, indent, blanks, token_is, deepens, closes}
use Rattle.pz_format.specs.Layout.{gap, text_behind}

pub put_more : (whole text first second : List ℕ) (level next : Level) (before piece : Kept) (rest after : List Kept) → text ++ text_behind level before rest ≡ whole → rest ≡ piece ∷ after → first ≡ text ++ gap level before piece → second ≡ first ++ piece_text piece → next ≡ behind level piece → second ++ text_behind next piece after ≡ whole
put_more whole text first second level next before piece rest after so_far split gap_is piece_is next_is =
    ap₂ (λ t n. t ++ text_behind n piece after) (piece_is ∙ ap (λ t. t ++ piece_text piece) gap_is) next_is
    ∙ append_assoc (text ++ gap level before piece) (piece_text piece) (text_behind (behind level piece) piece after)
    ∙ append_assoc text (gap level before piece) (piece_text piece ++ text_behind (behind level piece) piece after)
    ∙ ap (λ r. text ++ text_behind level before r) (sym split) ∙ so_far

pub count_small : (b : Bool) → count b ≤ 1
count_small true = omega arith
count_small false = omega arith

pub level_more : (level next : Level) (piece : Kept) (rest after : List Kept) (most : ℕ) → next ≡ behind level piece → rest ≡ piece ∷ after → level.opened + length rest ≤ most → level.closed + length rest ≤ most → (next.opened + length after ≤ most) × (next.closed + length after ≤ most)
level_more level next piece rest after most next_is split opened closed =
    let len = ap length split in (
      omega (arith, ap (λ (l : Level). l.opened) next_is, count_small (token_is deepens piece), len, opened),
      omega (arith, ap (λ (l : Level). l.closed) next_is, count_small (token_is closes piece), len, closed),
    )

blanks_end : (n : ℕ) → blanks (suc n) ≡ blanks n ++ 32 ∷ []
blanks_end zero = refl
blanks_end (suc n) = ap (λ l. 32 ∷ l) (blanks_end n)

pub blanks_more : (n : ℕ) → blanks (n + 1) ≡ blanks n ++ 32 ∷ []
blanks_more n = let same : n + 1 ≡ suc n = omega arith in ap blanks same ∙ blanks_end n

pub put_last : (whole text last : List ℕ) (level : Level) (before : Kept) (rest : List Kept) → text ++ text_behind level before rest ≡ whole → rest ≡ [] → last ≡ text ++ 10 ∷ [] → last ≡ whole
put_last whole text last level before rest so_far none is = is ∙ ap (λ r. text ++ text_behind level before r) (sym none) ∙ so_far

pub gap_line : (level : Level) (p x : Kept) (text first second : List ℕ) (width : ℕ) → begins_line p x ≡ true → first ≡ text ++ 10 ∷ [] → width ≡ indent (depth level x) → second ≡ first ++ blanks width → second ≡ text ++ gap level p x
gap_line level p x text first second width e first_is width_is is =
    is ∙ ap₂ (λ t n. t ++ blanks n) first_is width_is ∙ append_assoc text (10 ∷ []) (blanks (indent (depth level x))) ∙ ap (λ g. text ++ g) (rw e refl)
