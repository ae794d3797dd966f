-- The layout of the text of a model reads back as a text of the same model.
use Rattle.std.proofs.Common.{◌≡◌, ℕ, List, [], ◌∷◌, map, refl, sym, ap, ◌∙◌}
use Rattle.pz_syntax.specs.declared.tokens.Mark.{Mark}
use Rattle.pz_syntax.specs.Classes.{ModelTree}
use Rattle.pz_syntax.specs.ModelText as mt
use Rattle.pz_lexer.specs.declared.kept.Piece.{Piece}
use Rattle.pz_lexer.specs.Kept.{AreKept, tokens_among}
use Rattle.pz_lexer.proofs.Cuts.{one_cut}
use Rattle.pz_format.specs.Layout.{layout}
use Rattle.pz_format.specs.ReadingBack.{StandApart, ReadsBack, IsModelText, without_place}
use Rattle.pz_format.proofs.Models.{model_apart}
use Rattle.pz_format.proofs.ReadBack.{reads_back, read_again}

abbrev marks : List Piece → List Mark
marks xs = map (λ t. t.mark) (tokens_among xs)

-- places are no part of marks
marks_placeless : (xs : List Piece) → marks (map without_place xs) ≡ marks xs
marks_placeless [] = refl
marks_placeless (Piece.Token t ∷ xs) = ap (λ l. t.mark ∷ l) (marks_placeless xs)
marks_placeless (Piece.Line text ∷ xs) = marks_placeless xs
marks_placeless (Piece.Block text ∷ xs) = marks_placeless xs

pub same_marks : (xs ys : List Piece) → map without_place xs ≡ map without_place ys → marks xs ≡ marks ys
same_marks xs ys same = sym (marks_placeless xs) ∙ ap marks same ∙ marks_placeless ys

module _ (model : ModelTree) (given : List ℕ) (pieces : List Piece) (is : IsModelText model given pieces) where
  apart : StandApart pieces
  apart = model_apart model pieces is.is_model is.is_text

  pub pieces_back : ReadsBack (layout pieces) pieces
  pieces_back = reads_back given pieces is.kept is.bytes apart

  pub model_back : (read : List Piece) → AreKept (layout pieces) read → marks read ≡ mt.text model
  model_back read are =
      let back = pieces_back in
      ap marks (one_cut (layout pieces) read back.read are back.is_read) ∙ same_marks back.read pieces back.same ∙ is.is_text

  pub layout_back : (read : List Piece) → AreKept (layout pieces) read → layout read ≡ layout pieces
  layout_back read are = read_again given pieces (layout pieces) refl is.kept is.bytes apart read are
