-- What the status says with which the model of a text ends.
use Rattle.std.proofs.Common.{◌≡◌, ◌≢◌, ◌≤◌, ℕ, List, true, Some, length, refl, sym, subst, ap, ◌∙◌}
use Rattle.pz_io.specs.Outside.{Entries, FilesState, lookup}
use Rattle.pz_trace.specs.pz_offer.declared.trouble.Trouble.{Trouble}
use Rattle.pz_trace.specs.pz_rules.Runs.{Ending, ended, deadlocked, troubled, halted, refused}
use Rattle.pz_trace.specs.declared.ending.Ending as trace
use Rattle.pz_trace.specs.declared.ending.Ending.TheVariants as ending
use Rattle.pz_trace.specs.TraceText.{run_ending}
use Rattle.pz_words.specs.declared.jobs.Choice.{Choice}
use Rattle.pz_words.specs.declared.jobs.RunLimits.{RunLimits}
use Rattle.pz_words.specs.declared.jobs.Job.{Job}
use Rattle.pz_words.specs.declared.jobs.Job.TheVariants.{Run, Menu, Replay, Check, Make, Ring, Format, Watch, Drive}
use Rattle.pz_gen.specs.Ring.{model as ring_text}
use Rattle.pz_run_lines.specs.pz_run_reading.declared.refusal.Refusal.{Refusal}
use Rattle.pz_run_output.specs.Limits.{model_limit}
use Rattle.pz_run_output.specs.declared.play.Play.{Play}
use Rattle.pz_run_output.specs.declared.status.Status.{Status}
use Rattle.pz_run_output.specs.declared.status.Status.TheVariants.{Done, Deadlock, ModelRefused, ModelFault, ChoiceRefused, TraceRefused, TooLong, ReadFault, WatchBroken, WatchRefused, ScriptRefused}
use Rattle.pz_run_output.specs.Plays.{play_of}
use Rattle.pz_run_output.specs.Status.{status_of}
use Rattle.pz_run_output.specs.Promises.{IsRefusedFor, IsNoModel, HasModel, HasRun, model_name, stations_of, IsTextFor, of_file, of_ring, HasEnding, RunEnds, TellsNoRun, IsNoTrace, HasWatches, BreaksWatch, IsBrokenAt, RefusesWatches, IsNoWatches, HasScript, RefusesScript, IsNoScript, CanEnd}
use Rattle.pz_run_output.specs.Promises as promises
use Rattle.pz_run_output.proofs.OneEnd.{some_is}

-- ---- which endings a job can have

chosen_runs : (job : Job) (p : Play) → play_of job ≡ Some p → HasRun job
chosen_runs (Run model choice limits summary) p is = tt
chosen_runs (Menu model choice limits) p is = tt
chosen_runs (Replay model trace units) p is = tt
chosen_runs (Check model) p is = cc
chosen_runs (Make n) p is = cc
chosen_runs (Ring n choice limits) p is = tt
chosen_runs (Format model) p is = cc
chosen_runs (Watch model watches choice limits) p is = cc
chosen_runs (Drive model script choice limits) p is = cc

pub chosen_can : (job : Job) (p : Play) → play_of job ≡ Some p → (e : Ending) → CanEnd (Some job) (status_of e)
chosen_can job p is ended = promises.done job
chosen_can job p is halted = promises.done job
chosen_can job p is deadlocked = promises.deadlock job (chosen_runs job p is)
chosen_can job p is (troubled trouble) = promises.model_fault job (chosen_runs job p is)
chosen_can job p is (refused entry count) = promises.choice_refused job p is

pub told_can : (model name : List ℕ) (units : ℕ) (e : trace.Ending) → CanEnd (Some (Replay model name units)) (status_of (run_ending e))
told_can model name units ending.End = promises.done (Replay model name units)
told_can model name units ending.Stop = promises.done (Replay model name units)
told_can model name units ending.Deadlock = promises.deadlock (Replay model name units) tt
told_can model name units (ending.Trouble trouble) = promises.model_fault (Replay model name units) tt

pub judged_can : (model watches : List ℕ) (choice : Choice) (limits : RunLimits) (e : Ending) → CanEnd (Some (Watch model watches choice limits)) (status_of e)
judged_can model watches choice limits ended = promises.done (Watch model watches choice limits)
judged_can model watches choice limits halted = promises.done (Watch model watches choice limits)
judged_can model watches choice limits deadlocked = promises.deadlock (Watch model watches choice limits) tt
judged_can model watches choice limits (troubled trouble) = promises.model_fault (Watch model watches choice limits) tt
judged_can model watches choice limits (refused entry count) = promises.judged_refused model watches choice limits

pub driven_can : (model script : List ℕ) (choice : Choice) (limits : RunLimits) (e : Ending) → CanEnd (Some (Drive model script choice limits)) (status_of e)
driven_can model script choice limits ended = promises.done (Drive model script choice limits)
driven_can model script choice limits halted = promises.done (Drive model script choice limits)
driven_can model script choice limits deadlocked = promises.deadlock (Drive model script choice limits) tt
driven_can model script choice limits (troubled trouble) = promises.model_fault (Drive model script choice limits) tt
driven_can model script choice limits (refused entry count) = promises.driven_refused model script choice limits

-- ---- how the model of a text ends

pub data Outcome (f : FilesState) (job : Job) (text : List ℕ) : Status → Type 0 where
  no_model : (r : Refusal) → (f.told ≡ true → IsRefusedFor f.held job text r) → Outcome f job text ModelRefused
  run_ended : (e : Ending) → CanEnd (Some job) (status_of e) → (f.told ≡ true → HasEnding f.held job text e) → Outcome f job text (status_of e)
  no_trace : CanEnd (Some job) TraceRefused → (f.told ≡ true → TellsNoRun f.held job text) → Outcome f job text TraceRefused
  watch_broken : CanEnd (Some job) WatchBroken → (f.told ≡ true → BreaksWatch f.held job text) → Outcome f job text WatchBroken
  watch_refused : CanEnd (Some job) WatchRefused → (f.told ≡ true → RefusesWatches f.held job text) → Outcome f job text WatchRefused
  script_refused : CanEnd (Some job) ScriptRefused → (f.told ≡ true → RefusesScript f.held job text) → Outcome f job text ScriptRefused
  checked : Outcome f job text Done

module _ (job : Job) (has : HasModel job) (text : List ℕ) (f : FilesState) (text_for : f.told ≡ true → IsTextFor f.held job text) where
  -- what the status of such an end says
  pub record EndsText (wanted : Status) : Type 0 where
    pub can : CanEnd (Some job) wanted
    pub no_fault : wanted ≢ ReadFault
    pub not_long : wanted ≢ TooLong
    pub model_refused : f.told ≡ true → wanted ≡ ModelRefused → IsNoModel (Some job) f.held
    pub deadlock : f.told ≡ true → wanted ≡ Deadlock → RunEnds (Some job) f.held deadlocked
    pub model_fault : f.told ≡ true → wanted ≡ ModelFault → (trouble : Trouble) × RunEnds (Some job) f.held (troubled trouble)
    pub choice_refused : f.told ≡ true → wanted ≡ ChoiceRefused → (entry : ℕ) × (count : ℕ) × RunEnds (Some job) f.held (refused entry count)
    pub trace_refused : f.told ≡ true → wanted ≡ TraceRefused → IsNoTrace (Some job) f.held
    pub watch_broken : f.told ≡ true → wanted ≡ WatchBroken → IsBrokenAt (Some job) f.held
    pub watch_refused : f.told ≡ true → wanted ≡ WatchRefused → IsNoWatches (Some job) f.held
    pub script_refused : f.told ≡ true → wanted ≡ ScriptRefused → IsNoScript (Some job) f.held

  run_ends : (e : Ending) → (f.told ≡ true → HasEnding f.held job text e) → f.told ≡ true → RunEnds (Some job) f.held e
  run_ends e ends told = record { job = job; is_asked = refl; text = text; is_text = text_for told; has_ending = ends told }

  ends_done : EndsText Done
  ends_done = record {
    can = promises.done job;
    no_fault = λ e. cc;
    not_long = λ e. cc;
    model_refused = λ _ e. cc;
    deadlock = λ _ e. cc;
    model_fault = λ _ e. cc;
    choice_refused = λ _ e. cc;
    trace_refused = λ _ e. cc;
    watch_broken = λ _ e. cc;
    watch_refused = λ _ e. cc;
    script_refused = λ _ e. cc;
  }

  ends_run : (e : Ending) → CanEnd (Some job) (status_of e) → (f.told ≡ true → HasEnding f.held job text e) → EndsText (status_of e)
  ends_run ended can ends = ends_done
  ends_run halted can ends = ends_done
  ends_run deadlocked can ends = record {
    can = can;
    no_fault = λ e. cc;
    not_long = λ e. cc;
    model_refused = λ _ e. cc;
    deadlock = λ told _. run_ends deadlocked ends told;
    model_fault = λ _ e. cc;
    choice_refused = λ _ e. cc;
    trace_refused = λ _ e. cc;
    watch_broken = λ _ e. cc;
    watch_refused = λ _ e. cc;
    script_refused = λ _ e. cc;
  }
  ends_run (troubled trouble) can ends = record {
    can = can;
    no_fault = λ e. cc;
    not_long = λ e. cc;
    model_refused = λ _ e. cc;
    deadlock = λ _ e. cc;
    model_fault = λ told _. (trouble, run_ends (troubled trouble) ends told);
    choice_refused = λ _ e. cc;
    trace_refused = λ _ e. cc;
    watch_broken = λ _ e. cc;
    watch_refused = λ _ e. cc;
    script_refused = λ _ e. cc;
  }
  ends_run (refused entry count) can ends = record {
    can = can;
    no_fault = λ e. cc;
    not_long = λ e. cc;
    model_refused = λ _ e. cc;
    deadlock = λ _ e. cc;
    model_fault = λ _ e. cc;
    choice_refused = λ told _. (entry, count, run_ends (refused entry count) ends told);
    trace_refused = λ _ e. cc;
    watch_broken = λ _ e. cc;
    watch_refused = λ _ e. cc;
    script_refused = λ _ e. cc;
  }

  pub ends_text : (wanted : Status) → Outcome f job text wanted → EndsText wanted
  ends_text _ checked = ends_done
  ends_text _ (run_ended e can ends) = ends_run e can ends
  ends_text _ (no_model r is) = record {
    can = promises.model_refused job has;
    no_fault = λ e. cc;
    not_long = λ e. cc;
    model_refused = λ told _. record { job = job; is_asked = refl; text = text; is_text = text_for told; refusal = r; is_refused = is told };
    deadlock = λ _ e. cc;
    model_fault = λ _ e. cc;
    choice_refused = λ _ e. cc;
    trace_refused = λ _ e. cc;
    watch_broken = λ _ e. cc;
    watch_refused = λ _ e. cc;
    script_refused = λ _ e. cc;
  }
  ends_text _ (no_trace can tells_none) = record {
    can = can;
    no_fault = λ e. cc;
    not_long = λ e. cc;
    model_refused = λ _ e. cc;
    deadlock = λ _ e. cc;
    model_fault = λ _ e. cc;
    choice_refused = λ _ e. cc;
    trace_refused = λ told _. record { job = job; is_asked = refl; text = text; is_text = text_for told; tells_none = tells_none told };
    watch_broken = λ _ e. cc;
    watch_refused = λ _ e. cc;
    script_refused = λ _ e. cc;
  }
  ends_text _ (watch_broken can breaks) = record {
    can = can;
    no_fault = λ e. cc;
    not_long = λ e. cc;
    model_refused = λ _ e. cc;
    deadlock = λ _ e. cc;
    model_fault = λ _ e. cc;
    choice_refused = λ _ e. cc;
    trace_refused = λ _ e. cc;
    watch_broken = λ told _. record { job = job; is_asked = refl; text = text; is_text = text_for told; breaks = breaks told };
    watch_refused = λ _ e. cc;
    script_refused = λ _ e. cc;
  }
  ends_text _ (watch_refused can refuses) = record {
    can = can;
    no_fault = λ e. cc;
    not_long = λ e. cc;
    model_refused = λ _ e. cc;
    deadlock = λ _ e. cc;
    model_fault = λ _ e. cc;
    choice_refused = λ _ e. cc;
    trace_refused = λ _ e. cc;
    watch_broken = λ _ e. cc;
    watch_refused = λ told _. record { job = job; is_asked = refl; text = text; is_text = text_for told; refuses = refuses told };
    script_refused = λ _ e. cc;
  }
  ends_text _ (script_refused can refuses) = record {
    can = can;
    no_fault = λ e. cc;
    not_long = λ e. cc;
    model_refused = λ _ e. cc;
    deadlock = λ _ e. cc;
    model_fault = λ _ e. cc;
    choice_refused = λ _ e. cc;
    trace_refused = λ _ e. cc;
    watch_broken = λ _ e. cc;
    watch_refused = λ _ e. cc;
    script_refused = λ told _. record { job = job; is_asked = refl; text = text; is_text = text_for told; refuses = refuses told };
  }

-- ---- the text of the model of a job

no_ring : (job : Job) (name : List ℕ) (n : ℕ) → model_name job ≡ Some name → stations_of job ≡ Some n → ⊥
no_ring (Run model choice limits summary) name n named ring = cc
no_ring (Menu model choice limits) name n named ring = cc
no_ring (Replay model trace units) name n named ring = cc
no_ring (Check model) name n named ring = cc
no_ring (Make m) name n named ring = cc
no_ring (Ring m choice limits) name n named ring = cc
no_ring (Format model) name n named ring = cc
no_ring (Watch model watches choice limits) name n named ring = cc
no_ring (Drive model script choice limits) name n named ring = cc

-- it is that of the file of this name
pub record IsTextOfFile (files : Entries) (name text : List ℕ) : Type 0 where
  pub held : lookup files name ≡ Some text
  pub short : length text ≤ model_limit

pub text_in : (files : Entries) (job : Job) (text : List ℕ) → IsTextFor files job text → (name : List ℕ) → model_name job ≡ Some name → IsTextOfFile files name text
text_in files _ _ (of_file job other text named is short) name same =
    record { held = subst (λ (n : List ℕ). lookup files n ≡ Some text) (some_is other name (sym named ∙ same)) is; short = short }
text_in files _ _ (of_ring job n ring) name same = absurd (no_ring job name n same ring)

pub ring_in : (files : Entries) (job : Job) (text : List ℕ) → IsTextFor files job text → (n : ℕ) → stations_of job ≡ Some n → text ≡ ring_text n
ring_in files _ _ (of_file job name text named is short) n same = absurd (no_ring job name n named same)
ring_in files _ _ (of_ring job m ring) n same = ap ring_text (some_is m n (sym ring ∙ same))

-- no watches judge its run
abbrev pub IsUnjudged : Job → Type 0
IsUnjudged (Watch model watches choice limits) = ⊥
IsUnjudged job = Unit {0}

pub unjudged : {X : Type 0} (held : Entries) (job : Job) (text : List ℕ) → IsUnjudged job → HasWatches held job text → X
unjudged held job text is x = absurd (subst IsUnjudged x.is_watch is)

-- no script drives it
abbrev pub IsUndriven : Job → Type 0
IsUndriven (Drive model script choice limits) = ⊥
IsUndriven job = Unit {0}

pub undriven : {X : Type 0} (held : Entries) (job : Job) (text : List ℕ) → IsUndriven job → HasScript held job text → X
undriven held job text is x = absurd (subst IsUndriven x.is_drive is)

-- what is known of the text of the model of a job
pub record OfText (files : Entries) (job : Job) (Q : Job → List ℕ → Type 0) : Type 0 where
  pub text : List ℕ
  pub is_text : IsTextFor files job text
  pub holds : Q job text

of_asked : (files : Entries) (Q : Job → List ℕ → Type 0) (job other : Job) → Some job ≡ Some other → OfText files other Q → OfText files job Q
of_asked files Q job other is x = subst (λ (j : Job). OfText files j Q) (sym (some_is job other is)) x

pub run_in : (files : Entries) (job : Job) (e : Ending) → RunEnds (Some job) files e → OfText files job (λ j text. HasEnding files j text e)
run_in files job e ends = of_asked files (λ j text. HasEnding files j text e) job ends.job ends.is_asked (record { text = ends.text; is_text = ends.is_text; holds = ends.has_ending })

pub none_in : (files : Entries) (job : Job) → IsNoTrace (Some job) files → OfText files job (λ j text. TellsNoRun files j text)
none_in files job none = of_asked files (λ j text. TellsNoRun files j text) job none.job none.is_asked (record { text = none.text; is_text = none.is_text; holds = none.tells_none })

pub refused_in : (files : Entries) (job : Job) → IsNoModel (Some job) files → OfText files job (λ j text. (r : Refusal) × IsRefusedFor files j text r)
refused_in files job none = of_asked files (λ j text. (r : Refusal) × IsRefusedFor files j text r) job none.job none.is_asked (record { text = none.text; is_text = none.is_text; holds = (none.refusal, none.is_refused) })

pub broken_in : (files : Entries) (job : Job) → IsBrokenAt (Some job) files → OfText files job (λ j text. BreaksWatch files j text)
broken_in files job breaks = of_asked files (λ j text. BreaksWatch files j text) job breaks.job breaks.is_asked (record { text = breaks.text; is_text = breaks.is_text; holds = breaks.breaks })

pub no_list_in : (files : Entries) (job : Job) → IsNoWatches (Some job) files → OfText files job (λ j text. RefusesWatches files j text)
no_list_in files job none = of_asked files (λ j text. RefusesWatches files j text) job none.job none.is_asked (record { text = none.text; is_text = none.is_text; holds = none.refuses })

pub no_script_in : (files : Entries) (job : Job) → IsNoScript (Some job) files → OfText files job (λ j text. RefusesScript files j text)
no_script_in files job none = of_asked files (λ j text. RefusesScript files j text) job none.job none.is_asked (record { text = none.text; is_text = none.is_text; holds = none.refuses })
