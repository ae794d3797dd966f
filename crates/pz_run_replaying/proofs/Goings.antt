-- A replay on its way: where it begins, what a line leaves of it, and how it ends.
use Rattle.std.proofs.Common.{◌≡◌, ◌+◌, sym, subst, ap, ◌∙◌, ℕ, suc, List, [], ◌∷◌, ◌++◌, length, Option, Some, None, Result, Ok, Err, arith, append_assoc, length-append}
use Rattle.std.specs.Prelude.{IfOk}
use Rattle.std.specs.List.{concat}
use Rattle.std.specs.Result.{result_err}
use Rattle.std.proofs.lemmas.List.{append-nil}
use Rattle.std.proofs.lemmas.List.Folds.{concat-append}
use Rattle.pz_io.specs.Outside.{SinkState}
use Rattle.pz_io.specs.declared.writing.Halt.{Halt}
use Rattle.pz_io.specs.declared.writing.Halt.TheVariants.{NoMemory}
use Rattle.pz_io.specs.Writing.{Wrote}
use Rattle.pz_rules.specs.Settings.{Setting}
use Rattle.pz_rules.specs.Configurations.{Config}
use Rattle.pz_rules.specs.Runs.{Standing}
use Rattle.pz_trace.specs.declared.ending.Ending.{Ending}
use Rattle.pz_term_simulator.specs.Simulations.{Simulation, stands}
use Rattle.pz_run_replaying.specs.declared.replayed.Replayed.{Replayed}
use Rattle.pz_run_replaying.specs.declared.replayed.Replayed.TheVariants.{Ended, Refused}
use Rattle.pz_run_replaying.specs.Stages.{Stage, unbegun, concluded, IsAt}
use Rattle.pz_run_replaying.specs.Expected.{Expects, nothing_more}
use Rattle.pz_run_replaying.specs.Replays.{Replays, refuses, TellsLines, refusal_text}
use Rattle.pz_run_replaying.specs.devices.Known.{Known}
use Rattle.pz_run_replaying.specs.devices.Taking.{Takes, HasFew, IsKept, Differs}
use Rattle.pz_run_replaying.specs.devices.Judging.{Concludes}
use Rattle.pz_run_replaying.specs.devices.Progress.{Progress, IsAnswer, Answers, Since}
use Rattle.pz_run_replaying.proofs.Cuts.{concat_both, concat_one}
use Rattle.pz_run_replaying.proofs.Takings.{kept_taken}
use Rattle.pz_run_replaying.proofs.Roads.{path_on, leads_on, accepted, lines_told}
use Rattle.pz_run_replaying.proofs.Refused.{refused_there, any_front}
use Rattle.pz_run_replaying.proofs.Expectings.{any_refusal}

module _ (known : Known) (setting : Setting) (trace : List ℕ) (lines : List (List ℕ)) (stage : Stage) (rest : List ℕ) (x : Progress setting trace lines stage rest) where
  -- a line is taken
  pub progress_on : (line left : List ℕ) (to : Stage) → HasFew setting stage → Takes setting stage line to → rest ≡ line ++ left → Progress setting trace (lines ++ line ∷ []) to left
  progress_on line left to few takes is = record {
    start = x.start;
    is_start = x.is_start;
    leads = leads_on setting lines stage to line x.leads takes;
    path = path_on setting unbegun stage to line lines x.path few takes;
    kept = kept_taken known setting stage to line x.kept takes;
    is_trace = x.is_trace ∙ ap (λ (l : List ℕ). concat lines ++ l) is ∙ sym (concat_one lines line left);
  }

  module _ (tells : TellsLines setting) where
    -- memory is wanting before anything more is written
    pub answers_memory : (s : SinkState) (at : Simulation) → Answers setting trace lines s s at (Err NoMemory)
    answers_memory s at = λ text replayed last replays.
        let front = any_front known setting tells trace lines stage rest x text replayed last replays in
        record { more = front.more; is_text = front.is_text; wrote = known.wants s s [] front.more (known.nothing s) }

    -- a line that is taken halts
    pub answers_cut : (before now : SinkState) (at : Simulation) (line left : List ℕ) (to : Stage) (halt : Halt) → HasFew setting stage → Takes setting stage line to → rest ≡ line ++ left
        → Wrote before now line (Some halt) → Answers setting trace lines before now at (Err halt)
    answers_cut before now at line left to halt few takes is wrote = λ text replayed last replays.
        let front = any_front known setting tells trace (lines ++ line ∷ []) to left (progress_on line left to few takes is) text replayed last replays in
        record { more = line ++ front.more; is_text = front.is_text ∙ concat_one lines line front.more; wrote = known.halts before now line front.more halt wrote }

    -- a line is refused
    pub answers_refused : (before now : SinkState) (at : Simulation) (result : Result Replayed Halt) (expected : Option (List ℕ)) → IsKept setting unbegun → Differs setting stage rest → Expects setting rest stage expected → IsAt setting stage at
        → Wrote before now (refusal_text (suc (length lines)) expected) (result_err result) → IfOk result (λ replayed. replayed ≡ Refused (suc (length lines))) → Answers setting trace lines before now at result
    answers_refused before now at (Ok replayed) expected sound other expects is_at wrote is = record {
      text = refusal_text (suc (length lines)) expected;
      replays = subst (λ (r : Replayed). Replays setting trace (concat lines ++ refusal_text (suc (length lines)) expected) r at) (sym is)
          (refuses lines rest stage expected at (refused_there known setting tells trace lines stage rest x sound other) (lines_told known setting tells lines stage x.leads) x.is_trace x.leads expects is_at);
      wrote = wrote;
    }
    answers_refused before now at (Err halt) expected sound other expects is_at wrote is = λ text replayed last replays. record {
      more = refusal_text (suc (length lines)) expected;
      is_text = any_refusal known setting tells trace lines stage rest x sound other expected expects text replayed last replays;
      wrote = wrote;
    }

-- after the last line of a run

alone_ends : (known : Known) (setting : Setting) (trace : List ℕ) (lines : List (List ℕ)) (c : Config) (standing : Standing) (e : Ending) (s : SinkState)
    → Progress setting trace lines (concluded c standing e) [] → IsAnswer setting trace lines s s (stands setting c standing) (Ended e)
alone_ends known setting trace lines c standing e s x =
    let text : trace ≡ concat lines = x.is_trace ∙ append-nil (concat lines) in
    record {
      text = [];
      replays = subst (λ (l : List ℕ). Replays setting trace l (Ended e) (stands setting c standing)) x.is_trace (accepted setting trace lines c standing e x.leads text);
      wrote = known.nothing s;
    }

pub answers_concluded : (known : Known) (setting : Setting) (tells : TellsLines setting) (trace : List ℕ) (lines : List (List ℕ)) (c : Config) (standing : Standing) (e : Ending) (rest : List ℕ)
    → Progress setting trace lines (concluded c standing e) rest → IsKept setting unbegun → (before now : SinkState) (at : Simulation) (number : ℕ) (result : Result Replayed Halt)
    → at ≡ stands setting c standing → number ≡ suc (length lines) → Concludes e number rest before now result → Answers setting trace lines before now at result
answers_concluded known setting tells trace lines c standing e [] x sound before now at number result is_at counted is =
    subst (Answers setting trace lines before now at) (sym is.0)
    (subst (λ (s : SinkState). IsAnswer setting trace lines before s at (Ended e)) (sym is.1)
    (subst (λ (s : Simulation). IsAnswer setting trace lines before before s (Ended e)) (sym is_at) (alone_ends known setting trace lines c standing e before x)))
answers_concluded known setting tells trace lines c standing e (b ∷ rest) x sound before now at number result is_at counted is =
    answers_refused known setting trace lines (concluded c standing e) (b ∷ rest) x tells before now at result None sound no_more (nothing_more c standing e) is_at
    (subst (λ (n : ℕ). Wrote before now (refusal_text n None) (result_err result)) counted is.0) (subst (λ (n : ℕ). IfOk result (λ replayed. replayed ≡ Refused n)) counted is.1)
  where
    no_more : Differs setting (concluded c standing e) (b ∷ rest)
    no_more = record { untaken = λ line left t is_line same takes. nothing_taken t line takes; unfinished = λ d s f same none. cc }
      where
        nothing_taken : (t : Stage) (line : List ℕ) → Takes setting (concluded c standing e) line t → ⊥
        nothing_taken t line takes = elim takes [ ]

-- lines that were taken one after the other

pub since_none : (known : Known) (setting : Setting) (trace : List ℕ) (lines : List (List ℕ)) (stage : Stage) (rest : List ℕ) (number : ℕ) (s : SinkState)
    → Progress setting trace lines stage rest → number ≡ suc (length lines) → Since setting trace lines stage rest number s s
since_none known setting trace lines stage rest number s x counted = record {
  more = [];
  progress = subst (λ (ls : List (List ℕ)). Progress setting trace ls stage rest) (sym (append-nil lines)) x;
  counted = counted ∙ ap (λ (ls : List (List ℕ)). suc (length ls)) (sym (append-nil lines));
  wrote = known.nothing s;
}

module _ (known : Known) (setting : Setting) (trace : List ℕ) (lines : List (List ℕ)) (stage : Stage) (rest : List ℕ) (number : ℕ) (before mid : SinkState) (x : Since setting trace lines stage rest number before mid) where
  pub since_on : (now : SinkState) (line left : List ℕ) (to : Stage) → HasFew setting stage → Takes setting stage line to → rest ≡ line ++ left → Wrote mid now line None → Since setting trace lines to left (number + 1) before now
  since_on now line left to few takes is wrote =
      let more = x.more ++ line ∷ [] in
      let text : concat x.more ++ line ≡ concat more = ap (λ (l : List ℕ). concat x.more ++ l) (sym (append-nil line)) ∙ sym (concat-append x.more (line ∷ [])) in
      record {
        more = more;
        progress = subst (λ (ls : List (List ℕ)). Progress setting trace ls to left) (append_assoc lines x.more (line ∷ [])) (progress_on known setting trace (lines ++ x.more) stage rest x.progress line left to few takes is);
        counted = omega (arith, x.counted, length-append lines x.more, length-append lines more, length-append x.more (line ∷ []));
        wrote = subst (λ (l : List ℕ). Wrote before now l None) text (known.joins before mid now (concat x.more) line None x.wrote wrote);
      }

  -- what is printed since
  pub since_answers : (now : SinkState) (at : Simulation) (result : Result Replayed Halt) → Answers setting trace (lines ++ x.more) mid now at result → Answers setting trace lines before now at result
  since_answers now at (Ok replayed) answer = record {
    text = concat x.more ++ answer.text;
    replays = subst (λ (l : List ℕ). Replays setting trace l replayed at) (concat_both lines x.more answer.text) answer.replays;
    wrote = known.joins before mid now (concat x.more) answer.text None x.wrote answer.wrote;
  }
  since_answers now at (Err halt) answer = λ text replayed last replays.
      let cut = answer text replayed last replays in
      record {
        more = concat x.more ++ cut.more;
        is_text = cut.is_text ∙ concat_both lines x.more cut.more;
        wrote = known.joins before mid now (concat x.more) cut.more (Some halt) x.wrote cut.wrote;
      }
