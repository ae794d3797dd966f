-- What is read of a layout.
use Rattle.std.proofs.Common.{◌≡◌, ℕ, List, [], ◌∷◌, map, true, refl, sym, ap, subst, ◌∙◌, arith}
use Rattle.std.specs.List.{list_all}
use Rattle.pz_classes.specs.pz_syntax.declared.tokens.Token.{Token}
use Rattle.pz_classes.specs.pz_syntax.Classes.{ModelTree}
use Rattle.pz_classes.specs.pz_syntax.ModelForm.{IsModel}
use Rattle.pz_classes.specs.pz_syntax.ModelText as mt
use Rattle.pz_lexer.specs.declared.kept.Piece.{Piece}
use Rattle.pz_lexer.specs.Tokens.{AreTokens}
use Rattle.pz_lexer.specs.Kept.{AreKept, tokens_among}
use Rattle.pz_parser_cursor.specs.Places.{positions}
use Rattle.pz_parser.specs.ModelPlaces.{place_model}
use Rattle.pz_parser.specs.Parsing.{marks, IsTextOf}
use Rattle.pz_parser.specs.OneTree.{HasOnePlacedTree, PlacesAlone}
use Rattle.pz_parser.proofs.ModelRules.{model_complete}
use Rattle.pz_parser.proofs.Parses as parses
use Rattle.pz_format.specs.Layout.{layout}
use Rattle.pz_format.specs.ReadingBack.{StandApart, ReadsBack, without_place, is_byte}
use Rattle.pz_run_reading.specs.Models.{nesting_limit, IsModelOf}
use Rattle.pz_run_reading.proofs.Trees.{OneList}
use Rattle.pz_run_formatting.specs.Layouts.{IsLayoutOf, IsTextOfSame}

-- ---- what the crates below say

abbrev TokensKept : Type 0
TokensKept = (text : List ℕ) (pieces : List Piece) → AreKept text pieces → AreTokens text (tokens_among pieces)

abbrev ModelsStandApart : Type 0
ModelsStandApart = (model : ModelTree) (pieces : List Piece) → IsModel model → map (λ t. t.mark) (tokens_among pieces) ≡ mt.text model → StandApart pieces

abbrev PiecesReadBack : Type 0
PiecesReadBack = (text : List ℕ) (pieces : List Piece) → AreKept text pieces → list_all is_byte text ≡ true → StandApart pieces → ReadsBack (layout pieces) pieces

abbrev PiecesStay : Type 0
PiecesStay = (text : List ℕ) (pieces : List Piece) → AreKept text pieces → list_all is_byte text ≡ true → StandApart pieces → (read : List Piece) → AreKept (layout pieces) read → layout read ≡ layout pieces

-- ---- the places of tokens are no part of their marks

marks_placeless : (xs : List Piece) → marks (tokens_among (map without_place xs)) ≡ marks (tokens_among xs)
marks_placeless [] = refl
marks_placeless (Piece.Token t ∷ xs) = ap (λ l. t.mark ∷ l) (marks_placeless xs)
marks_placeless (Piece.Line text ∷ xs) = marks_placeless xs
marks_placeless (Piece.Block text ∷ xs) = marks_placeless xs

same_marks : (xs ys : List Piece) → map without_place xs ≡ map without_place ys → marks (tokens_among xs) ≡ marks (tokens_among ys)
same_marks xs ys same = sym (marks_placeless xs) ∙ ap (λ l. marks (tokens_among l)) same ∙ marks_placeless ys

-- a tree at the places of the tokens of its text
placed_text : (tokens : List Token) (m : ModelTree) → IsTextOf nesting_limit tokens m → IsTextOf nesting_limit tokens (place_model (positions tokens) 0 m)
placed_text tokens m is = parses.found nesting_limit tokens (place_model (positions tokens) 0 m) [] (model_complete nesting_limit tokens m (is.0, omega (arith, is.1)) is.2)

module _ (one_list : OneList) (kept : TokensKept) (apart : ModelsStandApart) where
  -- the tokens of a text have its tree as their text
  tokens_text : (text : List ℕ) (m : ModelTree) (pieces : List Piece) → IsModelOf text m → AreKept text pieces → IsTextOf nesting_limit (tokens_among pieces) m
  tokens_text text m pieces is are =
      subst (λ (ts : List Token). IsTextOf nesting_limit ts m) (one_list text is.tokens (tokens_among pieces) is.are_tokens (kept text pieces are)) is.is_tree.is_text

  pieces_apart : (text : List ℕ) (m : ModelTree) (pieces : List Piece) → IsModelOf text m → AreKept text pieces → StandApart pieces
  pieces_apart text m pieces is are = let x = tokens_text text m pieces is are in apart m pieces x.0 x.2

  pub keeps_pieces : PiecesReadBack → (text out : List ℕ) (x : IsLayoutOf text out) → list_all is_byte text ≡ true → ReadsBack out x.pieces
  keeps_pieces back text out x bytes =
      subst (λ (t : List ℕ). ReadsBack t x.pieces) (sym x.laid_out)
      (back text x.pieces x.are_kept bytes (pieces_apart text x.model x.pieces x.is_model.is_model x.are_kept))

  pub stays : PiecesStay → (text out : List ℕ) → IsLayoutOf text out → list_all is_byte text ≡ true → (read : List Piece) → AreKept out read → layout read ≡ out
  stays stay text out x bytes read are =
      stay text x.pieces x.are_kept bytes (pieces_apart text x.model x.pieces x.is_model.is_model x.are_kept) read
      (subst (λ (t : List ℕ). AreKept t read) x.laid_out are)
      ∙ sym x.laid_out

  pub keeps_tree : PiecesReadBack → HasOnePlacedTree → PlacesAlone → (text out : List ℕ) (x : IsLayoutOf text out) → list_all is_byte text ≡ true → IsTextOfSame out x.model
  keeps_tree back one placed text out x bytes = record {
    tree = place_model (positions tokens) 0 x.model;
    same = placed (positions tokens) 0 x.model;
    tokens = tokens;
    are_tokens = kept out read.read read.is_read;
    is_tree = record {
      is_text = placed_text tokens x.model is_text;
      in_place = sym (one nesting_limit tokens (place_model (positions tokens) 0 x.model) x.model (placed_text tokens x.model is_text) is_text);
    };
  }
    where
      read : ReadsBack out x.pieces
      read = keeps_pieces back text out x bytes

      tokens : List Token
      tokens = tokens_among read.read

      is_text : IsTextOf nesting_limit tokens x.model
      is_text = let given = tokens_text text x.model x.pieces x.is_model.is_model x.are_kept in (given.0, given.1, same_marks read.read x.pieces read.same ∙ given.2)
