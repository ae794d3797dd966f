-- The words of a last line, what they name, and its text.
use Rattle.std.proofs.Common.{◌≡◌, ◌∙◌, sym, ap, subst, refl, ℕ, List, ◌++◌, codes}
use Rattle.std.specs.Fmt.{decimal}
use Rattle.pz_rules.specs.pz_syntax.Classes.{ModelTree}
use Rattle.pz_bind.specs.declared.net.Net.{Net}
use Rattle.pz_rules.specs.Runs.{Ending}
use Rattle.pz_watch_points.specs.pz_trace.declared.ending.Ending.{Ending as LastEnding}
use Rattle.pz_watch_points.specs.pz_trace.declared.ending.Ending.TheVariants as ending
use Rattle.pz_watch_points.specs.pz_trace.Lines.{newline, end_words, end_line}
use Rattle.pz_watch_points.specs.pz_trace.Named.{IsNamedAtEnd}
use Rattle.pz_watch_points.specs.pz_trace.TraceText.{trace_header, events_text, run_ending}
use Rattle.pz_rules.specs.Runs.{Ends}
use Rattle.pz_rules.specs.Laws.{IsOwn, ChosenRunsAreRuns}
use Rattle.pz_run_playing.specs.Endings.{ending_words, last_line}
use Rattle.pz_run_playing.specs.RunText.{run_text}
use Rattle.pz_run_playing.specs.devices.Rests.{HasTroubledAtEnd}
use Rattle.pz_run_playing.specs.Laws.{RunTextsAreTraceTexts, ChosenRunsAreTraces}

-- the words are those of a trace
pub same_words : (m : ModelTree) (e : LastEnding) → end_words m e ≡ ending_words m (run_ending e)
same_words m ending.End = refl
same_words m ending.Deadlock = refl
same_words m ending.Stop = refl
same_words m (ending.Trouble trouble) = refl

end_is_last : (m : ModelTree) (clock : ℕ) (e : LastEnding) → last_line m clock (run_ending e) ≡ end_line m clock e
end_is_last m clock e = ap (λ (words : List ℕ). decimal clock ++ (codes " " ++ (words ++ newline))) (sym (same_words m e))

-- what they name is there
pub named_at_end : (net : Net) (e : LastEnding) → HasTroubledAtEnd net (run_ending e) → IsNamedAtEnd net e
named_at_end net ending.End has = tt
named_at_end net ending.Deadlock has = tt
named_at_end net ending.Stop has = tt
named_at_end net (ending.Trouble trouble) has = has trouble refl

pub texts_are_trace_texts : RunTextsAreTraceTexts
texts_are_trace_texts setting events clock e = ap (λ (l : List ℕ). trace_header setting ++ (events_text setting.model events ++ l)) (end_is_last setting.model clock e)

own_of : (e : LastEnding) → IsOwn (run_ending e)
own_of ending.End = tt
own_of ending.Deadlock = tt
own_of ending.Stop = tt
own_of (ending.Trouble trouble) = tt

pub chosen_runs_are_traces : ChosenRunsAreRuns → ChosenRunsAreTraces
chosen_runs_are_traces are_runs setting policy run e is =
    let r = (are_runs setting policy 0 run.start run.events run.end run.ending run.is_chosen).0 (subst IsOwn (sym is) (own_of e)) in
    record {
      start = run.start;
      is_start = run.is_start;
      events = run.events;
      last = run.end;
      standing = r.standing;
      reaches = r.reaches;
      ending = e;
      ends = subst (λ (x : Ending). Ends setting run.end r.standing x) is r.ends;
      is_text = ap (run_text setting run.events run.end.clock) is ∙ texts_are_trace_texts setting run.events run.end.clock e;
    }
