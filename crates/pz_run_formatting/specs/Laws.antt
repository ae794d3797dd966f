-- What is read of the layout of a model's text. The text is one of bytes.
use Rattle.std.specs.Prelude.{◌≡◌, ℕ, List, true}
use Rattle.std.specs.List.{list_all}
use Rattle.pz_lexer.specs.declared.kept.Piece.{Piece}
use Rattle.pz_lexer.specs.Kept.{AreKept}
use Rattle.pz_format.specs.Layout.{layout}
use Rattle.pz_format.specs.ReadingBack.{ReadsBack, is_byte}
use Rattle.pz_run_formatting.specs.Layouts.{IsLayoutOf, IsTextOfSame}

-- the tree of the model, but for places
abbrev pub LayoutsKeepTrees : Type 0
LayoutsKeepTrees = (text out : List ℕ) (x : IsLayoutOf text out) → list_all is_byte text ≡ true → IsTextOfSame out x.model

-- the tokens and comments of the text, head marks included, but for places
abbrev pub LayoutsKeepPieces : Type 0
LayoutsKeepPieces = (text out : List ℕ) (x : IsLayoutOf text out) → list_all is_byte text ≡ true → ReadsBack out x.pieces

-- so their layout is the text that they are read of
abbrev pub LayoutsStay : Type 0
LayoutsStay = (text out : List ℕ) → IsLayoutOf text out → list_all is_byte text ≡ true → (read : List Piece) → AreKept out read → layout read ≡ out
