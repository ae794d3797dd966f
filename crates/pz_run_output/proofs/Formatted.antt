-- The promises of the layout of a model.
use Rattle.std.proofs.Common.{◌≡◌, inl, inr, ℕ, List, [], Some, refl}
use Rattle.pz_io.specs.Outside.{Entries, FilesState, SinkState}
use Rattle.pz_trace.specs.pz_rules.Runs.{Ending}
use Rattle.pz_words.specs.declared.jobs.Job.TheVariants.{Replay, Format}
use Rattle.pz_run_lines.specs.pz_run_reading.declared.read_error.ReadModelError.{ReadModelError}
use Rattle.pz_run_lines.specs.pz_run_reading.declared.read_error.ReadModelError.TheVariants.{NoMemory, Refused}
use Rattle.pz_run_lines.specs.pz_run_reading.Openings.{IsRefusedToOpen}
use Rattle.pz_run_lines.specs.pz_run_reading.Answers.{OnRefused}
use Rattle.pz_run_lines.specs.pz_run_reading.Laws.{NoOpenModelIsRefused}
use Rattle.pz_run_formatting.specs.Layouts.{IsLayoutOf}
use Rattle.pz_run_lines.specs.Lines.{model_refused_line}
use Rattle.pz_run_output.specs.declared.play.Play.{Play}
use Rattle.pz_run_output.specs.declared.status.Status.{Status}
use Rattle.pz_run_output.specs.declared.status.Status.TheVariants.{Done, ModelRefused}
use Rattle.pz_run_output.specs.Files.{model_file}
use Rattle.pz_run_output.specs.Plays.{play_of}
use Rattle.pz_run_output.specs.Output.{PrintsLayout, opens_not, lays_out}
use Rattle.pz_run_output.specs.Promises.{HasTrace, HasEnding, of_choice, of_trace, of_watches, of_script}
use Rattle.pz_run_output.specs.devices.Formatting.{PrintsFormat}
use Rattle.pz_run_output.specs.devices.Keeping.{KeepsPromises}
use Rattle.pz_run_output.specs.devices.Reading.{ReadsFile}
use Rattle.pz_run_output.specs.devices.Saying.{Said, Answers}
use Rattle.pz_run_output.specs.devices.Texts.{SaysRefusal}
use Rattle.pz_run_output.proofs.Outcomes.{Outcome, no_model, checked, unjudged, undriven}
use Rattle.pz_run_output.proofs.OneFiles.{OneFile, keeps_file}
use Rattle.pz_run_output.proofs.OfJobs.{file_lacks, file_long, file_read}

module _ (text : List ℕ) (before now : SinkState) (given : Status) where
  -- the text was laid out
  pub layout_said : NoOpenModelIsRefused → (out : List ℕ) → IsLayoutOf text out → Said before now out Done given → Answers (PrintsFormat text) before now given
  layout_said never out is said = inr (record {
    bytes = out;
    wanted = Done;
    prints = record { prints = lays_out out is; refused = λ r refused. absurd (never text is.model r is.is_model refused) };
    said = said;
  })

  -- it is refused, or memory was wanting
  pub no_layout_said : (e : ReadModelError) → OnRefused (IsRefusedToOpen text) e → SaysRefusal e before now given → Answers (PrintsFormat text) before now given
  no_layout_said NoMemory refused says = inl says
  no_layout_said (Refused r) refused says = inr (record {
    bytes = model_refused_line r;
    wanted = ModelRefused;
    prints = record { prints = opens_not r refused; refused = λ _ _. refl };
    said = says;
  })

-- ---- a layout has no run

no_play : (model : List ℕ) (p : Play) → play_of (Format model) ≡ Some p → ⊥
no_play model p e = cc

format_told : {X : Type 0} (model : List ℕ) (held : Entries) (text : List ℕ) → HasTrace held (Format model) text → X
format_told model held text x = let same : Format model ≡ Replay x.model_word x.trace_word x.units = x.is_replay in cc

format_ended : {X : Type 0} (model : List ℕ) (held : Entries) (text : List ℕ) (e : Ending) → HasEnding held (Format model) text e → X
format_ended model held text e (of_choice x) = absurd (no_play model x.play x.is_play)
format_ended model held text e (of_trace x) = format_told model held text x.replay
format_ended model held text e (of_watches x) = unjudged held (Format model) text tt x.judged.on
format_ended model held text e (of_script x) = undriven held (Format model) text tt x.driven.on

format_outcome : (f : FilesState) (model text bytes : List ℕ) (status : Status) → PrintsLayout text bytes status → Outcome f (Format model) text status
format_outcome f model text _ _ (opens_not r is) = no_model r (λ _. is)
format_outcome f model text _ _ (lays_out bytes is) = checked

formats_file : (model : List ℕ) → OneFile (Format model) model PrintsFormat
formats_file model = record {
  more = [];
  files = refl;
  has = tt;
  named = refl;
  lacks = λ held missing. file_lacks held model PrintsLayout missing;
  long = λ held text is long. file_long held model PrintsLayout text is long;
  reads = λ held text bytes status is short x. file_read held model PrintsLayout text bytes status is short x.prints;
  outcome = λ f text bytes status x. format_outcome f model text bytes status x.prints;
  only = λ held text bytes status prints e x. format_ended model held text e x;
  no_run = λ held text bytes status prints none. format_told model held text none.replay;
  breaks = λ held text bytes status prints breaks. unjudged held (Format model) text tt breaks.judged.on;
  no_list = λ held text bytes status prints none. unjudged held (Format model) text tt none.on;
  no_script = λ held text bytes status prints none. undriven held (Format model) text tt none.on;
  refused = λ held text bytes status x. x.refused;
}

pub keeps_format : (f g : FilesState) (before now : SinkState) (given : Status) (model : List ℕ) → ReadsFile (model_file model) PrintsFormat f g before now given → KeepsPromises (Some (Format model)) f g before now given
keeps_format f g before now given model done = keeps_file (Format model) model PrintsFormat (formats_file model) f g before now given done
