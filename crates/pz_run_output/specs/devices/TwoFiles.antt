-- What was done with the two files of a job: that of a model, which has to open, and a second one.
use Rattle.std.specs.Prelude.{◌≡◌, ℕ, List}
use Rattle.pz_io.specs.Outside.{FilesState, SinkState}
use Rattle.pz_bind.specs.pz_syntax.Classes.{ModelTree}
use Rattle.pz_run_lines.specs.pz_run_reading.declared.refusal.Refusal.{Refusal}
use Rattle.pz_run_lines.specs.pz_run_reading.Openings.{IsOpenModelOf, IsRefusedToOpen}
use Rattle.pz_run_lines.specs.Lines.{model_refused_line}
use Rattle.pz_run_output.specs.declared.status.Status.{Status}
use Rattle.pz_run_output.specs.declared.status.Status.TheVariants.{ModelRefused}
use Rattle.pz_run_output.specs.Files.{JobFile, model_file}
use Rattle.pz_run_output.specs.devices.Saying.{Answers}
use Rattle.pz_run_output.specs.devices.Reading.{ReadsFile}
use Rattle.pz_run_output.specs.devices.Replaying.{WasRead}

-- why no model of a text opens
pub data PrintsClosed (text : List ℕ) : List ℕ → Status → Type 0 where
  closed : (r : Refusal) → IsRefusedToOpen text r → ((m : ModelTree) → IsOpenModelOf text m → ⊥) → PrintsClosed text (model_refused_line r) ModelRefused

-- the text has this model that opens and no other, and is not refused
pub record IsOnlyOpen (text : List ℕ) (m : ModelTree) : Type 0 where
  pub is_model : IsOpenModelOf text m
  pub only : (n : ModelTree) → IsOpenModelOf text n → m ≡ n
  pub unrefused : (r : Refusal) → IsRefusedToOpen text r → ⊥

-- of the second file, on a model, this is to be printed by its text
module _ (second : JobFile) (Q : ModelTree → List ℕ → List ℕ → Status → Type 0) (f g : FilesState) (before now : SinkState) (given : Status) where
  -- once the model's text was read: why no model of it opens was said, or the second file was read
  pub data AnswersText (text : List ℕ) : Type 0 where
    refuses : g ≡ f → Answers (PrintsClosed text) before now given → AnswersText text
    goes_on : (m : ModelTree) → IsOnlyOpen text m → ReadsFile second (Q m) f g before now given → AnswersText text

-- from the model's file on
pub data AnswersFiles (model : List ℕ) (second : JobFile) (Q : ModelTree → List ℕ → List ℕ → Status → Type 0) (f g : FilesState) (before now : SinkState) (given : Status) : Type 0 where
  no_model : ReadsFile (model_file model) PrintsClosed f g before now given → AnswersFiles model second Q f g before now given
  reads_on : (mid : FilesState) (text : List ℕ) (m : ModelTree) → WasRead (model_file model) text f mid → IsOnlyOpen text m
      → ReadsFile second (Q m) mid g before now given → AnswersFiles model second Q f g before now given
