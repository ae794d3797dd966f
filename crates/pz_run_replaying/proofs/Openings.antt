-- Where a replay begins: the header of a trace, and what is behind it.
use Rattle.std.proofs.Common.{◌≡◌, refl, sym, subst, ℕ, List, [], ◌++◌, drop, Some, None, Vec, Result, Ok, Err}
use Rattle.std.specs.Prelude.{IfOk}
use Rattle.std.specs.declared.alloc.Global.{Global}
use Rattle.std.specs.Result.{result_err}
use Rattle.pz_io.specs.Outside.{SinkState}
use Rattle.pz_io.specs.declared.writing.Halt.{Halt}
use Rattle.pz_io.specs.declared.writing.Halt.TheVariants.{NoMemory}
use Rattle.pz_io.specs.Writing.{Wrote}
use Rattle.pz_rules.specs.pz_classes_rules.Soundness.{IsSound}
use Rattle.pz_rules.specs.Settings.{Setting}
use Rattle.pz_rules.specs.Runs.{whole}
use Rattle.pz_trace.specs.TraceText.{trace_header}
use Rattle.pz_term_simulator.specs.Simulations.{Simulation, stands, Starts, starts}
use Rattle.pz_run_replaying.specs.declared.replayed.Replayed.{Replayed}
use Rattle.pz_run_replaying.specs.declared.replayed.Replayed.TheVariants.{Refused}
use Rattle.pz_run_replaying.specs.Stages.{Stage, unbegun, underway, nothing_told}
use Rattle.pz_run_replaying.specs.Expected.{Expects, the_header}
use Rattle.pz_run_replaying.specs.Replays.{TellsLines, IsReplayed, refusal_text}
use Rattle.pz_run_replaying.specs.devices.Known.{Known}
use Rattle.pz_run_replaying.specs.devices.Fronts.{StartsWith}
use Rattle.pz_term_simulator.specs.Simulations.{setting_in, model_in}
use Rattle.pz_run_replaying.specs.devices.Readiness.{IsReady}
use Rattle.pz_run_replaying.specs.devices.Taking.{Takes, header_taken, arrived, Differs}
use Rattle.pz_run_replaying.specs.devices.Progress.{Progress, Answers}
use Rattle.pz_run_replaying.proofs.Goings.{answers_memory, answers_cut, answers_refused, since_none, since_on, since_answers}
use Rattle.pz_run_replaying.proofs.Looping.{AnswersAll}
use Rattle.pz_run_replaying.proofs.Outcomes.{SomeReplay, some_replay}

pub starts_in : (setting : Setting) (s : Simulation) → Starts setting s → Starts (setting_in s) s
starts_in setting _ (starts c is) = starts c is

pub ready_there : Known → (setting : Setting) (s : Simulation) → Starts setting s → IsSound (model_in s) → IsReady s
ready_there known setting _ (starts c is) sound =
    let fits = known.start_fits setting c sound is in
    record { sound = sound; wires = known.wires setting.model sound; all = fits.0; fit = fits.1; failed = tt }

-- nothing of a trace was taken yet
progress_none : Known → (setting : Setting) (s : Simulation) (trace : List ℕ) → Starts setting s → IsSound (model_in s) → Progress setting trace [] unbegun trace
progress_none known setting _ trace (starts c is) sound =
    record { start = c; is_start = is; leads = nothing_told; path = arrived unbegun; kept = (sound, known.wires setting.model sound); is_trace = refl }

only_header : (setting : Setting) (trace line left : List ℕ) (t : Stage) → ((rest : List ℕ) → trace ≡ trace_header setting ++ rest → ⊥) → trace ≡ line ++ left → Takes setting unbegun line t → ⊥
only_header setting trace _ left _ none is (header_taken start is_start) = none left is

no_header : (setting : Setting) (trace : List ℕ) → ((rest : List ℕ) → trace ≡ trace_header setting ++ rest → ⊥) → Differs setting unbegun trace
no_header setting trace none = record { untaken = λ line left t is_line is takes. only_header setting trace line left t none is takes; unfinished = λ c standing e same nothing. cc }

module _ (known : Known) (setting : Setting) (trace : List ℕ) (tells : TellsLines setting) (before : SinkState) where
  pub header_wanting : (s at : Simulation) → Starts setting s → IsSound (model_in s) → Answers setting trace [] before before at (Err NoMemory)
  header_wanting s at begins sound = answers_memory known setting trace [] unbegun trace (progress_none known setting s trace begins sound) tells before at

  pub header_refused : (s : Simulation) (now : SinkState) (made : Vec ℕ Global) (result : Result Replayed Halt) → Starts setting s → IsSound (model_in s) → made.items ≡ trace_header (setting_in s)
      → ((rest : List ℕ) → trace ≡ trace_header (setting_in s) ++ rest → ⊥) → Wrote before now (refusal_text 1 (Some made.items)) (result_err result) → IfOk result (λ replayed. replayed ≡ Refused 1)
      → Answers setting trace [] before now s result
  header_refused _ now made result (starts c begins) sound of none wrote is =
      let s = stands setting c whole in
      let x = progress_none known setting s trace (starts c begins) sound in
      answers_refused known setting trace [] unbegun trace x tells before now s result (Some made.items) x.kept (no_header setting trace none)
      (subst (λ (l : List ℕ). Expects setting trace unbegun (Some l)) (sym of) the_header) (starts c begins) wrote is

  pub header_cut : (s at : Simulation) (now : SinkState) (halt : Halt) (len : ℕ) → Starts setting s → IsSound (model_in s) → StartsWith trace (trace_header (setting_in s)) len → Wrote before now (trace_header (setting_in s)) (Some halt)
      → Answers setting trace [] before now at (Err halt)
  header_cut _ at now halt len (starts c is) sound front wrote =
      answers_cut known setting trace [] unbegun trace (progress_none known setting (stands setting c whole) trace (starts c is) sound) tells before now at
      (trace_header setting) (drop len trace) (underway c whole) halt tt (header_taken c is) front.splits wrote

  -- what is behind it was gone through
  pub header_followed : (s at : Simulation) (mid now : SinkState) (result : Result Replayed Halt) (len : ℕ) → Starts setting s → IsSound (model_in s) → StartsWith trace (trace_header (setting_in s)) len → Wrote before mid (trace_header (setting_in s)) None
      → AnswersAll s (drop len trace) 2 mid now at result → Answers setting trace [] before now at result
  header_followed _ at mid now result len (starts c is) sound front wrote answers =
      let none = since_none known setting trace [] unbegun trace 1 before (progress_none known setting (stands setting c whole) trace (starts c is) sound) refl in
      let y = since_on known setting trace [] unbegun trace 1 before before none mid (trace_header setting) (drop len trace) (underway c whole) tt (header_taken c is) front.splits wrote in
      since_answers known setting trace [] (underway c whole) (drop len trace) 2 before mid y now at result (answers trace y.more tells y.progress y.counted)

-- What a replay has come to, or would

pub replayed_so : (setting : Setting) (trace : List ℕ) (before now : SinkState) (end : Simulation) (result : Result Replayed Halt) → SomeReplay setting trace → Answers setting trace [] before now end result → IsReplayed setting trace end before now result
replayed_so setting trace before now end (Ok replayed) some answer =
    record { text = answer.text; outcome = replayed; end = end; replays = answer.replays; wrote = answer.wrote; is_outcome = refl; arrives = refl }
replayed_so setting trace before now end (Err halt) some answer =
    let cut = answer some.text some.outcome some.end some.replays in record {
      text = some.text;
      outcome = some.outcome;
      end = some.end;
      replays = some.replays;
      wrote = subst (λ (l : List ℕ). Wrote before now l (Some halt)) (sym cut.is_text) cut.wrote;
      is_outcome = tt;
      arrives = tt;
    }

pub some_outcome : Known → (setting : Setting) (s : Simulation) (trace : List ℕ) → TellsLines setting → Starts setting s → IsSound (model_in s) → SomeReplay setting trace
some_outcome known setting _ trace tells (starts c is) sound = some_replay known setting tells c is (sound, known.wires setting.model sound) trace
