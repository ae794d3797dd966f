-- What is read of what `format` prints for a model that it accepts.
use Rattle.std.specs.Prelude.{◌≡◌, ℕ, List, true, Some}
use Rattle.std.specs.List.{list_all}
use Rattle.pz_io.specs.Outside.{Entries, lookup}
use Rattle.pz_lexer.specs.declared.kept.Piece.{Piece}
use Rattle.pz_lexer.specs.Kept.{AreKept}
use Rattle.pz_format.specs.Layout as format
use Rattle.pz_format.specs.ReadingBack.{ReadsBack, is_byte}
use Rattle.pz_words.specs.declared.jobs.Job.TheVariants.{Format}
use Rattle.pz_run_formatting.specs.Layouts.{IsLayoutOf, IsTextOfSame}
use Rattle.pz_run_output.specs.declared.status.Status.TheVariants.{Done}
use Rattle.pz_run_output.specs.Output.{Prints}

-- the output is the layout of the text: a text of the same tree, with the same tokens and comments, but for
-- places, and its own layout
pub record IsSameModel (text out : List ℕ) : Type 0 where
  pub layout : IsLayoutOf text out
  pub tree : IsTextOfSame out layout.model
  pub pieces : ReadsBack out layout.pieces
  pub again : (read : List Piece) → AreKept out read → format.layout read ≡ out

-- where the text of the model is one of bytes
abbrev pub FormatsReadBack : Type 0
FormatsReadBack = (files : Entries) (model text out : List ℕ) → lookup files model ≡ Some text → list_all is_byte text ≡ true → Prints files (Some (Format model)) out Done → IsSameModel text out
