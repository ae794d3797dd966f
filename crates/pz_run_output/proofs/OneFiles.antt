-- The promises of a job from what was done with its first file, which is that of a model.
use Rattle.std.proofs.Common.{◌≡◌, ◌⊎◌, inl, inr, ⊎_elim, ◌<◌, ◌≤◌, ℕ, List, [], ◌∷◌, ◌++◌, true, Some, None, length, sym, subst, ap, ◌∙◌, refl, arith}
use Rattle.std.specs.Prelude.{Contains}
use Rattle.pz_io.specs.Outside.{Entries, FilesState, SinkState, lookup, raised, Rose, LacksName, FilesFailedLast, Exceeds}
use Rattle.pz_trace.specs.pz_rules.Runs.{Ending}
use Rattle.pz_words.specs.declared.jobs.Job.{Job}
use Rattle.pz_run_lines.specs.pz_run_reading.declared.refusal.Refusal.{Refusal}
use Rattle.pz_run_lines.specs.Lines.{read_fault_line, too_long_line}
use Rattle.pz_run_output.specs.Limits.{model_limit}
use Rattle.pz_run_output.specs.declared.status.Status.{Status}
use Rattle.pz_run_output.specs.declared.status.Status.TheVariants.{ModelRefused, TraceRefused, TooLong, ReadFault, WatchBroken, WatchRefused, ScriptRefused}
use Rattle.pz_run_output.specs.Files.{JobFile, model_file, files_of}
use Rattle.pz_run_output.specs.Status.{status_of}
use Rattle.pz_run_output.specs.Output.{Prints, does, PrintsJob}
use Rattle.pz_run_output.specs.Promises.{Opens, OpensFiles, OpensLast, HasModel, model_name, of_file, IsRefusedFor, HasEnding, TellsNoRun, BreaksWatch, RefusesWatches, RefusesScript}
use Rattle.pz_run_output.specs.Promises as promises
use Rattle.pz_run_output.specs.devices.Keeping.{KeepsPromises}
use Rattle.pz_run_output.specs.devices.Reading.{FileOutcome, wanting, fault, long, whole, ReadsFile}
use Rattle.pz_run_output.specs.devices.Saying.{NothingWritten, Answers}
use Rattle.pz_run_output.proofs.OneEnd.{some_is}
use Rattle.pz_run_output.proofs.Outcomes.{Outcome, EndsText, ends_text, IsTextOfFile, text_in, OfText, run_in, none_in, refused_in, broken_in, no_list_in, no_script_in}
use Rattle.pz_run_output.proofs.Keeps.{raised_rose, IsFaultLine, Wants, keeps, keeps_nothing, opened_once}

-- of whose text this is to be printed
pub record OneFile (job : Job) (name : List ℕ) (P : List ℕ → List ℕ → Status → Type 0) : Type 0 where
  pub more : List JobFile
  pub files : files_of (Some job) ≡ model_file name ∷ more
  pub has : HasModel job
  pub named : model_name job ≡ Some name
  pub lacks : (held : Entries) → lookup held name ≡ None → PrintsJob held job (read_fault_line name) ReadFault
  pub long : (held : Entries) (text : List ℕ) → lookup held name ≡ Some text → model_limit < length text → PrintsJob held job (too_long_line name) TooLong
  pub reads : (held : Entries) (text bytes : List ℕ) (status : Status) → lookup held name ≡ Some text → length text ≤ model_limit → P text bytes status → PrintsJob held job bytes status
  pub outcome : (f : FilesState) (text bytes : List ℕ) (status : Status) → P text bytes status → Outcome f job text status
  pub only : (held : Entries) (text bytes : List ℕ) (status : Status) → P text bytes status → (e : Ending) → HasEnding held job text e → status ≡ status_of e
  pub no_run : (held : Entries) (text bytes : List ℕ) (status : Status) → P text bytes status → TellsNoRun held job text → status ≡ TraceRefused
  pub breaks : (held : Entries) (text bytes : List ℕ) (status : Status) → P text bytes status → BreaksWatch held job text → status ≡ WatchBroken
  pub no_list : (held : Entries) (text bytes : List ℕ) (status : Status) → P text bytes status → RefusesWatches held job text → status ≡ WatchRefused
  pub no_script : (held : Entries) (text bytes : List ℕ) (status : Status) → P text bytes status → RefusesScript held job text → status ≡ ScriptRefused
  pub refused : (held : Entries) (text bytes : List ℕ) (status : Status) → P text bytes status → (r : Refusal) → IsRefusedFor held job text r → status ≡ ModelRefused

missing_is : (text : List ℕ) → None ≡ Some text → ⊥
missing_is text e = cc

module _ (job : Job) (name : List ℕ) (P : List ℕ → List ℕ → Status → Type 0) (one : OneFile job name P) (f g : FilesState) (opened : g.opens ≡ raised f.opens) (names : g.opened ≡ f.opened ++ (name ∷ [])) where
  opened_one : Opens (model_file name ∷ one.more) 1 f g
  opened_one = record { names = names; counted = opened }

  opens : (s : Status) → OpensFiles (files_of (Some job)) f g s
  opens s = subst (λ (files : List JobFile). OpensFiles files f g s) (sym one.files) (record { count = 1; within = omega arith; first = λ _ _. omega arith; opens = opened_one })

  last : OpensLast (files_of (Some job)) f g (model_file name)
  last = subst (λ (files : List JobFile). OpensLast files f g (model_file name)) (sym one.files) (record { place = 0; is = refl; opens = opened_one })

  among : Contains (files_of (Some job)) (model_file name)
  among = subst (λ (files : List JobFile). Contains files (model_file name)) (sym one.files) (0, omega arith, refl)

  -- the text of whichever model that is asked for
  held_by : (Q : Job → List ℕ → Type 0) (x : OfText f.held job Q) → IsTextOfFile f.held name x.text
  held_by Q x = text_in f.held job x.text x.is_text name one.named

  rose : FilesFailedLast f g → Rose f.faults g.faults
  rose x = raised_rose f.faults g.faults x.0

  wants_fault : FilesFailedLast f g ⊎ ((g.faults ≡ f.faults) × LacksName f name) → Wants (Some job) f g (read_fault_line name) ReadFault
  wants_fault cause = record {
    prints = λ told unless. ⊎_elim (λ x. absurd (unless (refl, rose x))) (λ missing. prints missing.1.1) cause;
    fault = λ _ _. line;
    front = λ told. ⊎_elim (λ x. inr (rose x, line)) (λ missing. inl (prints missing.1.1)) cause;
    opens = opens;
    ends = promises.read_fault job (model_file name) among;
    model_refused = λ _ is. cc;
    no_model = λ none told unless. absurd (⊎_elim (λ x. unless (refl, rose x)) (λ missing. no_text _ (refused_in f.held job none) missing.1.1) cause);
    deadlock = λ _ is. cc;
    model_fault = λ _ is. cc;
    choice_refused = λ _ is. cc;
    run_end = λ e ends told unless. absurd (⊎_elim (λ x. unless (refl, rose x)) (λ missing. no_text _ (run_in f.held job e ends) missing.1.1) cause);
    trace_refused = λ _ is. cc;
    no_trace = λ none told unless. absurd (⊎_elim (λ x. unless (refl, rose x)) (λ missing. no_text _ (none_in f.held job none) missing.1.1) cause);
    watch_broken = λ _ is. cc;
    broken_watch = λ breaks told unless. absurd (⊎_elim (λ x. unless (refl, rose x)) (λ missing. no_text _ (broken_in f.held job breaks) missing.1.1) cause);
    watch_refused = λ _ is. cc;
    script_refused = λ _ is. cc;
    no_watches = λ none told unless. absurd (⊎_elim (λ x. unless (refl, rose x)) (λ missing. no_text _ (no_list_in f.held job none) missing.1.1) cause);
    no_script = λ none told unless. absurd (⊎_elim (λ x. unless (refl, rose x)) (λ missing. no_text _ (no_script_in f.held job none) missing.1.1) cause);
    trace_opened = λ _ many. opened_once f g name names many;
    too_long = λ is. cc;
    longer = λ _ is. cc;
    read_cause = λ _. ⊎_elim (λ x. inl (rose x)) (λ missing. inr (missing.1.0, (model_file name, among, missing.1.1))) cause;
    reading = λ differ. ⊎_elim (λ x. (x, refl)) (λ missing. absurd (differ missing.0)) cause;
  }
    where
      prints : lookup f.held name ≡ None → Prints f.held (Some job) (read_fault_line name) ReadFault
      prints missing = does job (read_fault_line name) ReadFault (one.lacks f.held missing)

      line : IsFaultLine (files_of (Some job)) f g (read_fault_line name)
      line = record { file = model_file name; last = last; line = refl }

      no_text : (Q : Job → List ℕ → Type 0) (x : OfText f.held job Q) → lookup f.held name ≡ None → ⊥
      no_text Q x missing = missing_is x.text (sym missing ∙ (held_by Q x).held)

  wants_long : g.faults ≡ f.faults → model_limit < g.handed → (f.told ≡ true → Exceeds (lookup f.held name) model_limit) → Wants (Some job) f g (too_long_line name) TooLong
  wants_long kept handed exceeds = record {
    prints = λ told _. prints told;
    fault = λ is _. cc;
    front = λ told. inl (prints told);
    opens = opens;
    ends = promises.too_long job (model_file name) among;
    model_refused = λ _ is. cc;
    no_model = λ none told _. absurd (no_text _ (refused_in f.held job none) (exceeds told));
    deadlock = λ _ is. cc;
    model_fault = λ _ is. cc;
    choice_refused = λ _ is. cc;
    run_end = λ e ends told _. absurd (no_text _ (run_in f.held job e ends) (exceeds told));
    trace_refused = λ _ is. cc;
    no_trace = λ none told _. absurd (no_text _ (none_in f.held job none) (exceeds told));
    watch_broken = λ _ is. cc;
    broken_watch = λ breaks told _. absurd (no_text _ (broken_in f.held job breaks) (exceeds told));
    watch_refused = λ _ is. cc;
    script_refused = λ _ is. cc;
    no_watches = λ none told _. absurd (no_text _ (no_list_in f.held job none) (exceeds told));
    no_script = λ none told _. absurd (no_text _ (no_script_in f.held job none) (exceeds told));
    trace_opened = λ _ many. opened_once f g name names many;
    too_long = λ _. (model_file name, last, handed);
    longer = λ told _. (model_file name, among, exceeds told);
    read_cause = λ is. cc;
    reading = λ differ. absurd (differ kept);
  }
    where
      prints : f.told ≡ true → Prints f.held (Some job) (too_long_line name) TooLong
      prints told = let x = exceeds told in does job (too_long_line name) TooLong (one.long f.held x.0 x.1 x.2)

      no_text : (Q : Job → List ℕ → Type 0) (x : OfText f.held job Q) → Exceeds (lookup f.held name) model_limit → ⊥
      no_text Q x long_one =
          let held = held_by Q x in
          let same : length x.text ≡ length long_one.0 = ap (λ (l : List ℕ). length l) (some_is x.text long_one.0 (sym held.held ∙ long_one.1)) in
          omega (arith, same, held.short, long_one.2)

  module _ (text : List ℕ) (kept : g.faults ≡ f.faults) (short : length text ≤ model_limit) (held : f.told ≡ true → lookup f.held name ≡ Some text) where
    wants_text : (bytes : List ℕ) (wanted : Status) → P text bytes wanted → Wants (Some job) f g bytes wanted
    wants_text bytes wanted printed = record {
      prints = λ told _. prints told;
      fault = λ is _. absurd (end.no_fault is);
      front = λ told. inl (prints told);
      opens = opens;
      ends = end.can;
      model_refused = end.model_refused;
      no_model = λ none told _. let x = same_text (λ j t. (r : Refusal) × IsRefusedFor f.held j t r) (refused_in f.held job none) told in one.refused f.held text bytes wanted printed x.0 x.1;
      deadlock = end.deadlock;
      model_fault = end.model_fault;
      choice_refused = end.choice_refused;
      run_end = λ e ends told _. one.only f.held text bytes wanted printed e (same_text (λ j t. HasEnding f.held j t e) (run_in f.held job e ends) told);
      trace_refused = end.trace_refused;
      no_trace = λ none told _. one.no_run f.held text bytes wanted printed (same_text (λ j t. TellsNoRun f.held j t) (none_in f.held job none) told);
      watch_broken = end.watch_broken;
      broken_watch = λ breaks told _. one.breaks f.held text bytes wanted printed (same_text (λ j t. BreaksWatch f.held j t) (broken_in f.held job breaks) told);
      watch_refused = end.watch_refused;
      script_refused = end.script_refused;
      no_watches = λ none told _. one.no_list f.held text bytes wanted printed (same_text (λ j t. RefusesWatches f.held j t) (no_list_in f.held job none) told);
      no_script = λ none told _. one.no_script f.held text bytes wanted printed (same_text (λ j t. RefusesScript f.held j t) (no_script_in f.held job none) told);
      trace_opened = λ _ many. opened_once f g name names many;
      too_long = λ is. absurd (end.not_long is);
      longer = λ _ is. absurd (end.not_long is);
      read_cause = λ is. absurd (end.no_fault is);
      reading = λ differ. absurd (differ kept);
    }
      where
        prints : f.told ≡ true → Prints f.held (Some job) bytes wanted
        prints told = does job bytes wanted (one.reads f.held text bytes wanted (held told) short printed)

        end : EndsText job one.has text f (λ told. of_file job name text one.named (held told) short) wanted
        end = ends_text job one.has text f (λ told. of_file job name text one.named (held told) short) wanted (one.outcome f text bytes wanted printed)

        same_text : (Q : Job → List ℕ → Type 0) (x : OfText f.held job Q) → f.told ≡ true → Q job text
        same_text Q x told = subst (λ (t : List ℕ). Q job t) (some_is x.text text (sym (held_by Q x).held ∙ held told)) x.holds

  module _ (before now : SinkState) (given : Status) where
    keeps_none : g.faults ≡ f.faults → NothingWritten before now given → KeepsPromises (Some job) f g before now given
    keeps_none kept none = keeps_nothing (Some job) f g before now given (opens given) (λ _ many. opened_once f g name names many) kept none

    keeps_text : (text : List ℕ) → g.faults ≡ f.faults → length text ≤ model_limit → (f.told ≡ true → lookup f.held name ≡ Some text) → Answers (P text) before now given → KeepsPromises (Some job) f g before now given
    keeps_text text kept short held (inl none) = keeps_none kept none
    keeps_text text kept short held (inr says) = keeps (Some job) f g before now says.bytes says.wanted given (wants_text text kept short held says.bytes says.wanted says.prints) says.said

    keeps_outcome : FileOutcome (model_file name) P f g before now given → KeepsPromises (Some job) f g before now given
    keeps_outcome (wanting kept none) = keeps_none kept none
    keeps_outcome (fault cause said) = keeps (Some job) f g before now (read_fault_line name) ReadFault given (wants_fault cause) said
    keeps_outcome (long kept handed exceeds said) = keeps (Some job) f g before now (too_long_line name) TooLong given (wants_long kept handed exceeds) said
    keeps_outcome (whole text kept short held answers) = keeps_text text kept short held answers

pub keeps_file : (job : Job) (name : List ℕ) (P : List ℕ → List ℕ → Status → Type 0) → OneFile job name P
    → (f g : FilesState) (before now : SinkState) (given : Status) → ReadsFile (model_file name) P f g before now given → KeepsPromises (Some job) f g before now given
keeps_file job name P one f g before now given reads = keeps_outcome job name P one f g reads.opened reads.names before now given reads.outcome
