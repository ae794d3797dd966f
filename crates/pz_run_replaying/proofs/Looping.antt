-- The loop over the lines of a trace.
use Rattle.std.proofs.Common.{◌≡◌, ◌<◌, ◌+◌, ◌^◌, refl, subst, ap, ◌∙◌, ℕ, suc, List, ◌++◌, length, drop, Option, Some, None, Vec, Result, Err, arith, length-drop}
use Rattle.std.specs.Prelude.{IfOk}
use Rattle.std.specs.declared.alloc.Global.{Global}
use Rattle.std.specs.Option.{option_map}
use Rattle.std.specs.Result.{result_err}
use Rattle.pz_io.specs.Outside.{SinkState}
use Rattle.pz_io.specs.declared.writing.Halt.{Halt}
use Rattle.pz_io.specs.declared.writing.Halt.TheVariants.{NoMemory}
use Rattle.pz_io.specs.Writing.{Wrote}
use Rattle.pz_rules.specs.Settings.{Setting}
use Rattle.pz_trace.specs.declared.ending.Ending.{Ending}
use Rattle.pz_trace.specs.Lines.{end_line}
use Rattle.pz_term_simulator.specs.Simulations.{Simulation, stands, broken, setting_in}
use Rattle.pz_run_replaying.specs.declared.judging.Move.{Move}
use Rattle.pz_run_replaying.specs.declared.judging.Judged.TheVariants as judged
use Rattle.pz_run_replaying.specs.declared.replayed.Replayed.{Replayed}
use Rattle.pz_run_replaying.specs.declared.replayed.Replayed.TheVariants.{Refused}
use Rattle.pz_run_replaying.specs.Stages.{unbegun, IsAt}
use Rattle.pz_run_replaying.specs.Expected.{Expects}
use Rattle.pz_run_replaying.specs.Replays.{TellsLines, refusal_text}
use Rattle.pz_run_replaying.specs.devices.Known.{Known}
use Rattle.pz_run_replaying.specs.devices.Fronts.{StartsWith}
use Rattle.pz_term_simulator.specs.Simulations.{model_in, clock_in}
use Rattle.pz_run_replaying.specs.devices.Readiness.{stage_of, IsReady, EndsIn, HasFewOffers}
use Rattle.pz_run_replaying.specs.devices.Taking.{Takes, HasFew, IsKept, Differs}
use Rattle.pz_run_replaying.specs.devices.Judging.{MayMove, Moves, IsMoveLine, Judges, goes, ends, differs, Concludes}
use Rattle.pz_run_replaying.specs.devices.Progress.{Progress, Answers, Going}
use Rattle.pz_run_replaying.proofs.Goings.{answers_memory, answers_cut, answers_refused, answers_concluded, since_none, since_on, since_answers}
use Rattle.pz_run_replaying.proofs.Simulated.{concluded_of}
use Rattle.pz_run_replaying.proofs.Moved.{moved_taken, ready_moved, some_move, ended_taken, few_in, sound_in}
use Rattle.pz_run_replaying.proofs.Found.{move_some}

-- what was found

pub record FoundMove (s : Simulation) (rest : List ℕ) (step : Move) (len : ℕ) : Type 0 where
  pub line : List ℕ
  pub may : MayMove s step
  pub of : IsMoveLine s step line
  pub begins : StartsWith rest line len

pub found_move : (s : Simulation) (rest : List ℕ) (step : Move) (len : ℕ) → Judges s rest (judged.Goes step len) → FoundMove s rest step len
found_move s rest _ _ (goes step len line may of begins) = record { line = line; may = may; of = of; begins = begins }

pub record FoundEnd (s : Simulation) (rest : List ℕ) (e : Ending) (len : ℕ) : Type 0 where
  pub so : EndsIn s e
  pub begins : StartsWith rest (end_line (model_in s) (clock_in s) e) len

pub found_end : (s : Simulation) (rest : List ℕ) (e : Ending) (len : ℕ) → Judges s rest (judged.Ends e len) → FoundEnd s rest e len
found_end s rest _ _ (ends e len so begins) = record { so = so; begins = begins }

pub record FoundOther (s : Simulation) (rest : List ℕ) (expected : Option (Vec ℕ Global)) : Type 0 where
  pub other : Differs (setting_in s) (stage_of s) rest
  pub expects : Expects (setting_in s) rest (stage_of s) (option_map (λ line. line.items) expected)

pub found_other : (s : Simulation) (rest : List ℕ) (expected : Option (Vec ℕ Global)) → Judges s rest (judged.Differs expected) → FoundOther s rest expected
found_other s rest _ (differs expected other expects) = record { other = other; expects = expects }

-- the loop begins
pub going_none : (known : Known) (first : Simulation) (text : List ℕ) (from : ℕ) (before : SinkState) → IsReady first → from + length text < 2 ^ 64 → Going first text from before first text from before
going_none known first text from before ready short = record {
  ready = ready;
  setting = refl;
  short = short;
  since = λ trace lines tells x counted. since_none known (setting_in first) trace lines (stage_of first) text from before x counted;
}

-- what it ends with, whichever trace it goes through
abbrev pub AnswersAll : Simulation → List ℕ → ℕ → SinkState → SinkState → Simulation → Result Replayed Halt → Type 0
AnswersAll first text from before now at result =
    (whole : List ℕ) (lines : List (List ℕ)) → TellsLines (setting_in first) → Progress (setting_in first) whole lines (stage_of first) text → from ≡ suc (length lines) → Answers (setting_in first) whole lines before now at result

stands_there : (setting : Setting) (s : Simulation) → IsReady s → setting_in s ≡ setting → IsAt setting (stage_of s) s
stands_there setting (stands own c standing) ready same = ap (λ (z : Setting). stands z c standing) same
stands_there setting (broken own) ready same = absurd ready

module _ (known : Known) (first : Simulation) (text : List ℕ) (from : ℕ) (before : SinkState) (s : Simulation) (rest : List ℕ) (number : ℕ) (now : SinkState) (x : Going first text from before s rest number now) where
  sound_first : IsKept (setting_in first) unbegun
  sound_first = subst (λ (z : Setting). IsKept z unbegun) x.setting (sound_in s x.ready)

  pub going_memory : (at : Simulation) → AnswersAll first text from before now at (Err NoMemory)
  going_memory at whole lines tells p counted =
      let y = x.since whole lines tells p counted in
      since_answers known (setting_in first) whole lines (stage_of s) rest number before now y now at (Err NoMemory)
      (answers_memory known (setting_in first) whole (lines ++ y.more) (stage_of s) rest y.progress tells now at)

  pub going_refused : (after : SinkState) (expected : Option (Vec ℕ Global)) (result : Result Replayed Halt) → FoundOther s rest expected
      → Wrote now after (refusal_text number (option_map (λ line. line.items) expected)) (result_err result) → IfOk result (λ replayed. replayed ≡ Refused number) → AnswersAll first text from before after s result
  going_refused after expected result found wrote is whole lines tells p counted =
      let y = x.since whole lines tells p counted in
      let line = option_map (λ (l : Vec ℕ Global). l.items) expected in
      since_answers known (setting_in first) whole lines (stage_of s) rest number before now y after s result
      (answers_refused known (setting_in first) whole (lines ++ y.more) (stage_of s) rest y.progress tells now after s result line sound_first
      (subst (λ (z : Setting). Differs z (stage_of s) rest) x.setting found.other) (subst (λ (z : Setting). Expects z rest (stage_of s) line) x.setting found.expects)
      (stands_there (setting_in first) s x.ready x.setting)
      (subst (λ (n : ℕ). Wrote now after (refusal_text n line) (result_err result)) y.counted wrote) (subst (λ (n : ℕ). IfOk result (λ replayed. replayed ≡ Refused n)) y.counted is))

  module _ (few : HasFewOffers s) where
    few_first : HasFew (setting_in first) (stage_of s)
    few_first = subst (λ (z : Setting). HasFew z (stage_of s)) x.setting (few_in s few)

    module _ (step : Move) (len : ℕ) (found : FoundMove s rest step len) where
      taken_first : (t : Simulation) → Moves step s t → Takes (setting_in first) (stage_of s) found.line (stage_of t)
      taken_first t to = subst (λ (z : Setting). Takes z (stage_of s) found.line (stage_of t)) x.setting (moved_taken known step s t found.line found.may found.of to)

      pub going_cut : (after : SinkState) (at : Simulation) (halt : Halt) → Wrote now after found.line (Some halt) → AnswersAll first text from before after at (Err halt)
      going_cut after at halt wrote whole lines tells p counted =
          let y = x.since whole lines tells p counted in
          let t = some_move known step s x.ready found.may in
          since_answers known (setting_in first) whole lines (stage_of s) rest number before now y after at (Err halt)
          (answers_cut known (setting_in first) whole (lines ++ y.more) (stage_of s) rest y.progress tells now after at found.line (drop len rest) (stage_of t.0) halt few_first (taken_first t.0 t.1) found.begins.splits wrote)

      pub left_less : length (drop len rest) < length rest
      left_less = omega (arith, length-drop len rest, found.begins.counted, found.begins.within, move_some s step found.line found.of)

      pub going_on : (t : Simulation) (after : SinkState) → Moves step s t → setting_in t ≡ setting_in s → Wrote now after found.line None → Going first text from before t (drop len rest) (number + 1) after
      going_on t after to same wrote = record {
        ready = ready_moved known step s t x.ready to;
        setting = same ∙ x.setting;
        short = omega (arith, x.short, left_less);
        since = λ whole lines tells p counted.
            since_on known (setting_in first) whole lines (stage_of s) rest number before now (x.since whole lines tells p counted) after found.line (drop len rest) (stage_of t) few_first (taken_first t to) found.begins.splits wrote;
      }

    module _ (e : Ending) (len : ℕ) (found : FoundEnd s rest e len) where
      last_taken : Takes (setting_in first) (stage_of s) (end_line (model_in s) (clock_in s) e) (concluded_of s e)
      last_taken = subst (λ (z : Setting). Takes z (stage_of s) (end_line (model_in s) (clock_in s) e) (concluded_of s e)) x.setting (ended_taken s e found.so)

      pub end_cut : (after : SinkState) (at : Simulation) (halt : Halt) → Wrote now after (end_line (model_in s) (clock_in s) e) (Some halt) → AnswersAll first text from before after at (Err halt)
      end_cut after at halt wrote whole lines tells p counted =
          let y = x.since whole lines tells p counted in
          since_answers known (setting_in first) whole lines (stage_of s) rest number before now y after at (Err halt)
          (answers_cut known (setting_in first) whole (lines ++ y.more) (stage_of s) rest y.progress tells now after at (end_line (model_in s) (clock_in s) e) (drop len rest) (concluded_of s e) halt few_first last_taken found.begins.splits wrote)

      pub going_concluded : (mid after : SinkState) (result : Result Replayed Halt) → Wrote now mid (end_line (model_in s) (clock_in s) e) None → Concludes e (number + 1) (drop len rest) mid after result → AnswersAll first text from before after s result
      going_concluded mid after result wrote is whole lines tells p counted =
          let y = since_on known (setting_in first) whole lines (stage_of s) rest number before now (x.since whole lines tells p counted) mid
          (end_line (model_in s) (clock_in s) e) (drop len rest) (concluded_of s e) few_first last_taken found.begins.splits wrote in
          since_answers known (setting_in first) whole lines (concluded_of s e) (drop len rest) (number + 1) before mid y after s result
          (there s x.ready x.setting whole (lines ++ y.more) tells y.progress y.counted)
        where
          there : (z : Simulation) → IsReady z → setting_in z ≡ setting_in first → (trace : List ℕ) (all : List (List ℕ)) → TellsLines (setting_in first) → Progress (setting_in first) trace all (concluded_of z e) (drop len rest)
              → number + 1 ≡ suc (length all) → Answers (setting_in first) trace all mid after z result
          there (stands own c standing) ready same trace all tells p counted =
              answers_concluded known (setting_in first) tells trace all c standing e (drop len rest) p sound_first mid after (stands own c standing) (number + 1) result (ap (λ (q : Setting). stands q c standing) same) counted is
          there (broken own) ready same trace all tells p counted = absurd ready
