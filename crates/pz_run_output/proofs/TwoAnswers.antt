-- What was done with the two files of a job, from what was done with each.
use Rattle.std.proofs.Common.{◌≡◌, inl, inr, ℕ, List, [], ◌∷◌, ◌++◌, sym, subst}
use Rattle.pz_io.specs.Outside.{FilesState, SinkState, raised}
use Rattle.pz_bind.specs.pz_syntax.Classes.{ModelTree}
use Rattle.pz_run_lines.specs.pz_run_reading.Answers.{OnRefused}
use Rattle.pz_run_lines.specs.pz_run_reading.declared.read_error.ReadModelError.{ReadModelError}
use Rattle.pz_run_lines.specs.pz_run_reading.declared.read_error.ReadModelError.TheVariants.{NoMemory, Refused}
use Rattle.pz_run_lines.specs.pz_run_reading.declared.refusal.Refusal.{Refusal}
use Rattle.pz_run_lines.specs.pz_run_reading.Openings.{IsOpenModelOf, IsRefusedToOpen}
use Rattle.pz_run_lines.specs.Lines.{model_refused_line}
use Rattle.pz_run_output.specs.declared.status.Status.{Status}
use Rattle.pz_run_output.specs.declared.status.Status.TheVariants.{ModelRefused}
use Rattle.pz_run_output.specs.Files.{JobFile, model_file}
use Rattle.pz_run_output.specs.devices.TwoFiles.{PrintsClosed, closed, AnswersText, refuses, goes_on, AnswersFiles, no_model, reads_on}
use Rattle.pz_run_output.specs.devices.Reading.{FileOutcome, wanting, fault, long, whole, ReadsFile}
use Rattle.pz_run_output.specs.devices.Replaying.{WasRead}
use Rattle.pz_run_output.specs.devices.Saying.{Answers}
use Rattle.pz_run_output.specs.devices.Texts.{SaysRefusal}
use Rattle.pz_run_output.proofs.Sayings.{answers_by}

-- ---- what is to be printed of a file by one is to be printed by another

module _ (file : JobFile) (P Q : List ℕ → List ℕ → Status → Type 0) (becomes : (text bytes : List ℕ) (status : Status) → P text bytes status → Q text bytes status) (f g : FilesState) (before now : SinkState) (given : Status) where
  outcome_by : FileOutcome file P f g before now given → FileOutcome file Q f g before now given
  outcome_by (wanting same none) = wanting same none
  outcome_by (fault cause said) = fault cause said
  outcome_by (long same handed exceeds said) = long same handed exceeds said
  outcome_by (whole text same short held answers) = whole text same short held (answers_by (P text) (Q text) (becomes text) before now given answers)

  pub reading_by : ReadsFile file P f g before now given → ReadsFile file Q f g before now given
  reading_by x = record { opened = x.opened; names = x.names; outcome = outcome_by x.outcome }

-- ---- the text of a model that is refused

differ : (r : Refusal) → Refused r ≡ NoMemory → ⊥
differ r same = cc

pub closed_said : (text : List ℕ) (before now : SinkState) (given : Status) (e : ReadModelError) → OnRefused (IsRefusedToOpen text) e → ((m : ModelTree) → IsOpenModelOf text m → e ≡ NoMemory)
    → SaysRefusal e before now given → Answers (PrintsClosed text) before now given
closed_said text before now given NoMemory is only says = inl says
closed_said text before now given (Refused r) is only says =
    inr (record { bytes = model_refused_line r; wanted = ModelRefused; prints = closed r is (λ m model. differ r (only m model)); said = says })

-- ---- from the model's file on

module _ (model : List ℕ) (second : JobFile) (Q : ModelTree → List ℕ → List ℕ → Status → Type 0) (f mid g : FilesState) (before now : SinkState) (given : Status) where
  pub from_text : (text : List ℕ) → WasRead (model_file model) text f mid → AnswersText second Q mid g before now given text → AnswersFiles model second Q f g before now given
  from_text text was (refuses same answers) = no_model (record {
    opened = subst (λ (s : FilesState). s.opens ≡ raised f.opens) (sym same) was.opened;
    names = subst (λ (s : FilesState). s.opened ≡ f.opened ++ (model ∷ [])) (sym same) was.names;
    outcome = whole text (subst (λ (s : FilesState). s.faults ≡ f.faults) (sym same) was.faults) was.short was.content answers;
  })
  from_text text was (goes_on m is reading) = reads_on mid text m was is reading
