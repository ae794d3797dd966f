-- What is said of the text of a model, by how its reading went.
use Rattle.std.proofs.Common.{◌≡◌, inl, inr, ℕ, List, refl, subst}
use Rattle.pz_io.specs.Outside.{SinkState}
use Rattle.pz_bind.specs.pz_syntax.Classes.{ModelTree}
use Rattle.pz_env_closing.specs.pz_run_playing.Laws.{HasOneRun}
use Rattle.pz_run_lines.specs.pz_run_reading.declared.refusal.Refusal.{Refusal}
use Rattle.pz_run_lines.specs.pz_run_reading.declared.read_error.ReadModelError.{ReadModelError}
use Rattle.pz_run_lines.specs.pz_run_reading.declared.read_error.ReadModelError.TheVariants.{NoMemory, Refused}
use Rattle.pz_run_lines.specs.pz_run_reading.Openings.{IsOpenModelOf, IsRefusedToOpen}
use Rattle.pz_run_lines.specs.pz_run_reading.Sizes.{IsAccepted}
use Rattle.pz_run_lines.specs.pz_run_reading.Answers.{OnRefused}
use Rattle.pz_run_lines.specs.pz_run_reading.Laws.{NoOpenModelIsRefused}
use Rattle.pz_run_lines.specs.Lines.{accepted_line, model_refused_line}
use Rattle.pz_run_output.specs.declared.play.Play.{Play}
use Rattle.pz_run_output.specs.declared.status.Status.{Status}
use Rattle.pz_run_output.specs.declared.status.Status.TheVariants.{Done, ModelRefused}
use Rattle.pz_run_output.specs.Plays.{RunOf}
use Rattle.pz_run_output.specs.Status.{status_of}
use Rattle.pz_run_output.specs.Output.{PrintsRun, accepts, refuses, of_model}
use Rattle.pz_run_output.specs.devices.Saying.{Said, Answers}
use Rattle.pz_run_output.specs.devices.Texts.{EndsOnlySo, IsRefusedSo, PrintsPlay, PrintsCheck, SaysRefusal}
use Rattle.pz_run_output.proofs.Sayings.{answers_by}
use Rattle.pz_run_output.proofs.OneEnd.{ends_so}

differ : (r : Refusal) → Refused r ≡ NoMemory → ⊥
differ r same = cc

-- the text of a model that opens is not refused
not_refused : NoOpenModelIsRefused → (text : List ℕ) (m : ModelTree) (status : Status) → IsOpenModelOf text m → IsRefusedSo text status
not_refused never text m status is r refused = absurd (never text m r is refused)

module _ (text : List ℕ) (before now : SinkState) (given : Status) where
  -- its model is this one, and was run
  pub run_said : HasOneRun → NoOpenModelIsRefused → (p : Play) (m : ModelTree) → IsOpenModelOf text m → ((n : ModelTree) → IsOpenModelOf text n → m ≡ n)
      → Answers (PrintsRun p m) before now given → Answers (PrintsPlay p text) before now given
  run_said one never p m is only = answers_by (PrintsRun p m) (PrintsPlay p text) printed before now given
    where
      ends : (bytes : List ℕ) (status : Status) → PrintsRun p m bytes status → EndsOnlySo p text status
      ends bytes status prints n other =
          subst (λ (k : ModelTree). (run : RunOf p k) → status ≡ status_of run.ending) (only n other) (ends_so one p m is.is_model.sound bytes status prints)

      printed : (bytes : List ℕ) (status : Status) → PrintsRun p m bytes status → PrintsPlay p text bytes status
      printed bytes status prints = record { prints = of_model m bytes status is prints; only = ends bytes status prints; refused = not_refused never text m status is }

  -- it is refused, or memory was wanting
  pub refusal_said : (p : Play) (e : ReadModelError) → OnRefused (IsRefusedToOpen text) e → ((m : ModelTree) → IsOpenModelOf text m → e ≡ NoMemory)
      → SaysRefusal e before now given → Answers (PrintsPlay p text) before now given
  refusal_said p NoMemory refused only says = inl says
  refusal_said p (Refused r) refused only says = inr (record {
    bytes = model_refused_line r;
    wanted = ModelRefused;
    prints = record { prints = refuses r refused; only = λ m is run. absurd (differ r (only m is)); refused = λ _ _. refl };
    said = says;
  })

  -- the same of a check
  pub size_said : NoOpenModelIsRefused → (processes wires : ℕ) → IsAccepted text processes wires → Said before now (accepted_line processes wires) Done given → Answers (PrintsCheck text) before now given
  size_said never processes wires is said = inr (record {
    bytes = accepted_line processes wires;
    wanted = Done;
    prints = record {
      prints = of_model is.model (accepted_line processes wires) Done is.is_model (accepts processes wires is.size);
      refused = not_refused never text is.model Done is.is_model;
    };
    said = said;
  })

  pub no_size_said : (e : ReadModelError) → OnRefused (IsRefusedToOpen text) e → SaysRefusal e before now given → Answers (PrintsCheck text) before now given
  no_size_said NoMemory refused says = inl says
  no_size_said (Refused r) refused says = inr (record { bytes = model_refused_line r; wanted = ModelRefused; prints = record { prints = refuses r refused; refused = λ _ _. refl }; said = says })
