-- A layout reads back.
use Rattle.std.proofs.Common.{◌≡◌, ℕ, List, [], ◌∷◌, ◌++◌, map, true, refl, sym, ◌∙◌, ap, ap₂, subst}
use Rattle.std.specs.List.{list_all}
use Rattle.pz_syntax.specs.Heads.{role, is_head}
use Rattle.pz_lexer.specs.declared.kept.Piece.{Piece as Kept}
use Rattle.pz_lexer.specs.Pieces.{Piece}
use Rattle.pz_lexer.specs.Places.{origin}
use Rattle.pz_lexer.specs.Tokens.{tokens_of}
use Rattle.pz_lexer.specs.Kept.{with_comments, AreKept}
use Rattle.pz_lexer.specs.devices.Marking.{roles_of, marked_before, with_heads}
use Rattle.pz_lexer.specs.devices.Cutting.{unmarked}
use Rattle.pz_lexer.proofs.Cuts.{one_cut}
use Rattle.pz_lexer.proofs.CutReads.{heads_unmarked}
use Rattle.pz_format.specs.declared.levels.Level.{Level}
use Rattle.pz_format.specs.Writing.{piece_text}
use Rattle.pz_format.specs.Levels.{start, behind}
use Rattle.pz_format.specs.Layout.{gap, text_behind, layout}
use Rattle.pz_format.specs.ReadingBack.{StandApart, without_place, ReadsBack, is_byte}
use Rattle.pz_format.proofs.LayoutCut.{AreReadable, cut_of_layout, joined_layout, pieces_layout, plain, plain_layout}
use Rattle.pz_format.proofs.ReadPieces.{cut_readable}

roles_plain : (xs : List Kept) → roles_of (map plain xs) ≡ roles_of xs
roles_plain [] = refl
roles_plain (Kept.Token t ∷ xs) = ap (λ l. role t.mark.kind ∷ l) (roles_plain xs)
roles_plain (Kept.Line text ∷ xs) = roles_plain xs
roles_plain (Kept.Block text ∷ xs) = roles_plain xs

heads_plain : (xs : List Kept) → map without_place (with_heads xs) ≡ with_heads (map plain xs)
heads_plain [] = refl
heads_plain (Kept.Token t ∷ xs) =
    ap₂ (λ r l. Kept.Token (record { mark = record { kind = t.mark.kind; head = is_head (role t.mark.kind) r }; pos = origin }) ∷ l) (sym (roles_plain xs)) (heads_plain xs)
heads_plain (Kept.Line text ∷ xs) = ap (λ l. Kept.Line text ∷ l) (heads_plain xs)
heads_plain (Kept.Block text ∷ xs) = ap (λ l. Kept.Block text ∷ l) (heads_plain xs)

roles_heads : (xs : List Kept) → roles_of (with_heads xs) ≡ roles_of xs
roles_heads [] = refl
roles_heads (Kept.Token t ∷ xs) = ap (λ l. role t.mark.kind ∷ l) (roles_heads xs)
roles_heads (Kept.Line text ∷ xs) = roles_heads xs
roles_heads (Kept.Block text ∷ xs) = roles_heads xs

heads_twice : (xs : List Kept) → with_heads (with_heads xs) ≡ with_heads xs
heads_twice [] = refl
heads_twice (Kept.Token t ∷ xs) = ap₂ (λ r l. marked_before (Kept.Token t) r ∷ l) (roles_heads xs) (heads_twice xs)
heads_twice (Kept.Line text ∷ xs) = ap (λ l. Kept.Line text ∷ l) (heads_twice xs)
heads_twice (Kept.Block text ∷ xs) = ap (λ l. Kept.Block text ∷ l) (heads_twice xs)

readable_heads : (xs : List Kept) → AreReadable xs → AreReadable (with_heads xs)
readable_heads [] are = tt
readable_heads (Kept.Token t ∷ xs) are = (are.0, readable_heads xs are.1)
readable_heads (Kept.Line text ∷ xs) are = (are.0, readable_heads xs are.1)
readable_heads (Kept.Block text ∷ xs) are = (are.0, readable_heads xs are.1)

-- pieces of a text are marked by the tokens behind them
kept_heads : (ps : List Piece) (xs : List Kept) → with_comments ps (tokens_of ps) ≡ xs → with_heads (unmarked origin ps) ≡ xs
kept_heads ps xs e = heads_unmarked origin ps ∙ e

pub reads_back : (text : List ℕ) (xs : List Kept) → AreKept text xs → list_all is_byte text ≡ true → StandApart xs → ReadsBack (layout xs) xs
reads_back text xs is bytes apart = record {
  read = with_comments cut (tokens_of cut);
  is_read = record { pieces = cut; spelling = joined_layout xs; cut = pieces_layout xs readable apart; kept_are = refl };
  same =
      ap (map without_place) (sym (heads_unmarked origin cut))
      ∙ heads_plain (unmarked origin cut)
      ∙ ap with_heads (plain_layout xs readable)
      ∙ sym (heads_plain xs)
      ∙ ap (map without_place) (ap with_heads (sym given) ∙ heads_twice (unmarked origin is.pieces) ∙ given);
}
  where
    cut : List Piece
    cut = cut_of_layout xs

    given : with_heads (unmarked origin is.pieces) ≡ xs
    given = kept_heads is.pieces xs is.kept_are

    readable : AreReadable xs
    readable = subst AreReadable given (readable_heads (unmarked origin is.pieces) (cut_readable is.pieces [] origin is.cut (ap (list_all is_byte) is.spelling ∙ bytes)))

-- A layout does not look at places.

behind_placeless : (level : Level) (p : Kept) (xs : List Kept) → text_behind level p xs ≡ text_behind level (without_place p) (map without_place xs)
behind_placeless level (Kept.Token t) [] = refl
behind_placeless level (Kept.Line text) [] = refl
behind_placeless level (Kept.Block text) [] = refl
behind_placeless level (Kept.Token t) (Kept.Token u ∷ xs) = ap (λ l. gap level (Kept.Token t) (Kept.Token u) ++ (piece_text (Kept.Token u) ++ l)) (behind_placeless (behind level (Kept.Token u)) (Kept.Token u) xs)
behind_placeless level (Kept.Token t) (Kept.Line text ∷ xs) = ap (λ l. gap level (Kept.Token t) (Kept.Line text) ++ (text ++ l)) (behind_placeless (behind level (Kept.Line text)) (Kept.Line text) xs)
behind_placeless level (Kept.Token t) (Kept.Block text ∷ xs) = ap (λ l. gap level (Kept.Token t) (Kept.Block text) ++ (text ++ l)) (behind_placeless (behind level (Kept.Block text)) (Kept.Block text) xs)
behind_placeless level (Kept.Line before) (Kept.Token u ∷ xs) = ap (λ l. gap level (Kept.Line before) (Kept.Token u) ++ (piece_text (Kept.Token u) ++ l)) (behind_placeless (behind level (Kept.Token u)) (Kept.Token u) xs)
behind_placeless level (Kept.Line before) (Kept.Line text ∷ xs) = ap (λ l. gap level (Kept.Line before) (Kept.Line text) ++ (text ++ l)) (behind_placeless (behind level (Kept.Line text)) (Kept.Line text) xs)
behind_placeless level (Kept.Line before) (Kept.Block text ∷ xs) = ap (λ l. gap level (Kept.Line before) (Kept.Block text) ++ (text ++ l)) (behind_placeless (behind level (Kept.Block text)) (Kept.Block text) xs)
behind_placeless level (Kept.Block before) (Kept.Token u ∷ xs) = ap (λ l. gap level (Kept.Block before) (Kept.Token u) ++ (piece_text (Kept.Token u) ++ l)) (behind_placeless (behind level (Kept.Token u)) (Kept.Token u) xs)
behind_placeless level (Kept.Block before) (Kept.Line text ∷ xs) = ap (λ l. gap level (Kept.Block before) (Kept.Line text) ++ (text ++ l)) (behind_placeless (behind level (Kept.Line text)) (Kept.Line text) xs)
behind_placeless level (Kept.Block before) (Kept.Block text ∷ xs) = ap (λ l. gap level (Kept.Block before) (Kept.Block text) ++ (text ++ l)) (behind_placeless (behind level (Kept.Block text)) (Kept.Block text) xs)

layout_placeless : (xs : List Kept) → layout xs ≡ layout (map without_place xs)
layout_placeless [] = refl
layout_placeless (Kept.Token t ∷ xs) = ap (λ l. piece_text (Kept.Token t) ++ l) (behind_placeless (behind start (Kept.Token t)) (Kept.Token t) xs)
layout_placeless (Kept.Line text ∷ xs) = ap (λ l. text ++ l) (behind_placeless (behind start (Kept.Line text)) (Kept.Line text) xs)
layout_placeless (Kept.Block text ∷ xs) = ap (λ l. text ++ l) (behind_placeless (behind start (Kept.Block text)) (Kept.Block text) xs)

-- pieces that differ in their places alone have one layout
pub same_layout : (xs ys : List Kept) → map without_place xs ≡ map without_place ys → layout xs ≡ layout ys
same_layout xs ys e = layout_placeless xs ∙ ap layout e ∙ sym (layout_placeless ys)

-- whatever is read of a layout has that layout
pub read_again : (model : List ℕ) (xs : List Kept) (text : List ℕ) → text ≡ layout xs → AreKept model xs → list_all is_byte model ≡ true → StandApart xs → (read : List Kept) → AreKept text read → layout read ≡ text
read_again model xs text is kept bytes apart read reads =
    let back = reads_back model xs kept bytes apart in
    let same : read ≡ back.read = one_cut text read back.read reads (subst (λ t. AreKept t back.read) (sym is) back.is_read) in
    ap layout same ∙ same_layout back.read xs back.same ∙ sym is
