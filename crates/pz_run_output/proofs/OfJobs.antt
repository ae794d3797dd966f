-- The promises, job by job.
use Rattle.std.proofs.Common.{◌≡◌, inl, inr, ◌<◌, ◌≤◌, ℕ, List, [], ◌∷◌, Bool, Option, Some, None, length, sym, subst, ap, ◌∙◌, refl}
use Rattle.pz_io.specs.Outside.{Entries, FilesState, SinkState, lookup}
use Rattle.pz_bind.specs.pz_syntax.Classes.{ModelTree}
use Rattle.pz_trace.specs.pz_rules.Runs.{Ending}
use Rattle.pz_words.specs.declared.jobs.Choice.{Choice}
use Rattle.pz_words.specs.declared.jobs.RunLimits.{RunLimits}
use Rattle.pz_words.specs.declared.jobs.Job.{Job}
use Rattle.pz_words.specs.declared.jobs.Job.TheVariants.{Run, Menu, Replay, Check, Make, Ring, Format, Watch, Drive}
use Rattle.pz_gen.specs.Ring.{model as ring_text}
use Rattle.pz_run_lines.specs.pz_run_reading.declared.refusal.Refusal.{Refusal}
use Rattle.pz_run_lines.specs.pz_run_reading.Openings.{IsOpenModelOf, IsRefusedToOpen}
use Rattle.pz_run_lines.specs.Lines.{read_fault_line, too_long_line}
use Rattle.pz_run_output.specs.Limits.{model_limit}
use Rattle.pz_run_output.specs.declared.play.Play.{Play}
use Rattle.pz_run_output.specs.declared.play.Telling.TheVariants as telling
use Rattle.pz_run_output.specs.declared.status.Status.{Status}
use Rattle.pz_run_output.specs.declared.status.Status.TheVariants.{Done, TooLong, ReadFault}
use Rattle.pz_run_output.specs.Files.{model_file, files_of}
use Rattle.pz_run_output.specs.Status.{status_of}
use Rattle.pz_run_output.specs.Plays.{play, play_of, telling_when}
use Rattle.pz_run_output.specs.Output.{PrintsRun, plays, PrintsSize, accepts, makes, PrintsModel, refuses, of_model, PrintsFile, lacks, too_long, reads, PrintsModelFile, PrintsJob, does}
use Rattle.pz_run_output.specs.Promises.{HasModel, model_name, stations_of, IsRefusedFor, IsTextFor, of_file, of_ring, HasTrace, HasEnding, of_choice, of_trace, of_watches, of_script, TellsNoRun, HasWatches, HasScript}
use Rattle.pz_run_output.specs.Promises as promises
use Rattle.pz_run_output.specs.devices.Keeping.{KeepsPromises}
use Rattle.pz_run_output.specs.devices.Reading.{ReadsFile}
use Rattle.pz_run_output.specs.devices.Saying.{Said, Answers}
use Rattle.pz_run_output.specs.devices.Texts.{EndsOnlySo, PrintsPlay, PrintsCheck}
use Rattle.pz_run_output.proofs.OneEnd.{some_is}
use Rattle.pz_run_output.proofs.Keeps.{Wants, keeps, keeps_nothing, none_opened, opened_never}
use Rattle.pz_run_output.proofs.Outcomes.{chosen_can, Outcome, no_model, run_ended, checked, EndsText, ends_text, OfText, IsUnjudged, unjudged, IsUndriven, undriven, run_in, none_in, refused_in, broken_in, no_list_in, no_script_in, ring_in}
use Rattle.pz_run_output.proofs.OneFiles.{OneFile, keeps_file}

-- ---- what is printed of a file

module _ (files : Entries) (name : List ℕ) (P : List ℕ → List ℕ → Status → Type 0) where
  abbrev Printed : Option (List ℕ) → List ℕ → Status → Type 0
  Printed = PrintsFile (model_file name) P

  pub file_lacks : lookup files name ≡ None → PrintsFile (model_file name) P (lookup files name) (read_fault_line name) ReadFault
  file_lacks missing = subst (λ (o : Option (List ℕ)). Printed o (read_fault_line name) ReadFault) (sym missing) lacks

  pub file_long : (text : List ℕ) → lookup files name ≡ Some text → model_limit < length text → PrintsFile (model_file name) P (lookup files name) (too_long_line name) TooLong
  file_long text held long = subst (λ (o : Option (List ℕ)). Printed o (too_long_line name) TooLong) (sym held) (too_long text long)

  pub file_read : (text bytes : List ℕ) (status : Status) → lookup files name ≡ Some text → length text ≤ model_limit → P text bytes status
      → PrintsFile (model_file name) P (lookup files name) bytes status
  file_read text bytes status held short prints = subst (λ (o : Option (List ℕ)). Printed o bytes status) (sym held) (reads text bytes status short prints)

-- ---- runs

-- of a job whose run is chosen, the model has to open
play_refused : (held : Entries) (job : Job) (p : Play) → play_of job ≡ Some p → (text : List ℕ) (r : Refusal) → IsRefusedFor held job text r → IsRefusedToOpen text r
play_refused held (Run model choice limits summary) p is text r refused = refused
play_refused held (Menu model choice limits) p is text r refused = refused
play_refused held (Replay model trace units) p is text r refused = absurd cc
play_refused held (Check model) p is text r refused = refused
play_refused held (Make n) p is text r refused = refused
play_refused held (Ring n choice limits) p is text r refused = refused
play_refused held (Format model) p is text r refused = refused
play_refused held (Watch model watches choice limits) p is text r refused = refused
play_refused held (Drive model script choice limits) p is text r refused = refused

refused_play : (held : Entries) (job : Job) (p : Play) → play_of job ≡ Some p → (text : List ℕ) (r : Refusal) → IsRefusedToOpen text r → IsRefusedFor held job text r
refused_play held (Run model choice limits summary) p is text r refused = refused
refused_play held (Menu model choice limits) p is text r refused = refused
refused_play held (Replay model trace units) p is text r refused = absurd cc
refused_play held (Check model) p is text r refused = refused
refused_play held (Make n) p is text r refused = refused
refused_play held (Ring n choice limits) p is text r refused = refused
refused_play held (Format model) p is text r refused = refused
refused_play held (Watch model watches choice limits) p is text r refused = refused
refused_play held (Drive model script choice limits) p is text r refused = refused

none_played : (model name : List ℕ) (units : ℕ) (p : Play) → play_of (Replay model name units) ≡ Some p → ⊥
none_played model name units p e = cc

played_unjudged : (job : Job) (p : Play) → play_of job ≡ Some p → IsUnjudged job
played_unjudged (Run model choice limits summary) p is = tt
played_unjudged (Menu model choice limits) p is = tt
played_unjudged (Replay model trace units) p is = tt
played_unjudged (Check model) p is = tt
played_unjudged (Make n) p is = tt
played_unjudged (Ring n choice limits) p is = tt
played_unjudged (Format model) p is = tt
played_unjudged (Watch model watches choice limits) p is = cc
played_unjudged (Drive model script choice limits) p is = tt

played_undriven : (job : Job) (p : Play) → play_of job ≡ Some p → IsUndriven job
played_undriven (Run model choice limits summary) p is = tt
played_undriven (Menu model choice limits) p is = tt
played_undriven (Replay model trace units) p is = tt
played_undriven (Check model) p is = tt
played_undriven (Make n) p is = tt
played_undriven (Ring n choice limits) p is = tt
played_undriven (Format model) p is = tt
played_undriven (Watch model watches choice limits) p is = tt
played_undriven (Drive model script choice limits) p is = cc

module _ (job : Job) (p : Play) (is_play : play_of job ≡ Some p) (text : List ℕ) where
  no_watches : {X : Type 0} (held : Entries) → HasWatches held job text → X
  no_watches held x = unjudged held job text (played_unjudged job p is_play) x

  no_script : {X : Type 0} (held : Entries) → HasScript held job text → X
  no_script held x = undriven held job text (played_undriven job p is_play) x

  run_outcome : (f : FilesState) (m : ModelTree) (bytes : List ℕ) (status : Status) → IsOpenModelOf text m → PrintsRun p m bytes status → Outcome f job text status
  run_outcome f m _ _ is (plays run told tells) =
      run_ended run.ending (chosen_can job p is_play run.ending) (λ _. of_choice (record { play = p; is_play = is_play; model = m; is_model = is; run = run; ends = refl }))

  play_outcome : (f : FilesState) (bytes : List ℕ) (status : Status) → PrintsModel (PrintsRun p) text bytes status → Outcome f job text status
  play_outcome f _ _ (refuses r is) = no_model r (λ _. refused_play f.held job p is_play text r is)
  play_outcome f _ _ (of_model m bytes status is prints) = run_outcome f m bytes status is prints

  no_trace : {X : Type 0} (held : Entries) → HasTrace held job text → X
  no_trace held x = absurd (none_played x.model_word x.trace_word x.units p (ap play_of (sym x.is_replay) ∙ is_play))

  play_only : (held : Entries) (status : Status) → EndsOnlySo p text status → (ending : Ending) → HasEnding held job text ending → status ≡ status_of ending
  play_only held status only ending (of_trace x) = no_trace held x.replay
  play_only held status only ending (of_watches x) = no_watches held x.judged.on
  play_only held status only ending (of_script x) = no_script held x.driven.on
  play_only held status only ending (of_choice x) =
      let same : p ≡ x.play = some_is p x.play (sym is_play ∙ x.is_play) in
      let other : EndsOnlySo x.play text status = subst (λ (q : Play). EndsOnlySo q text status) same only in
      other x.model x.is_model x.run ∙ ap status_of x.ends

-- a job that runs the model of this file
plays_file : (job : Job) (name : List ℕ) (p : Play) → files_of (Some job) ≡ model_file name ∷ [] → HasModel job → model_name job ≡ Some name → play_of job ≡ Some p
    → ((held : Entries) (bytes : List ℕ) (status : Status) → PrintsModelFile held name (PrintsRun p) bytes status → PrintsJob held job bytes status)
    → OneFile job name (PrintsPlay p)
plays_file job name p files has named is_play prints = record {
  more = [];
  files = files;
  has = has;
  named = named;
  lacks = λ held missing. prints held (read_fault_line name) ReadFault (file_lacks held name (PrintsModel (PrintsRun p)) missing);
  long = λ held text is long. prints held (too_long_line name) TooLong (file_long held name (PrintsModel (PrintsRun p)) text is long);
  reads = λ held text bytes status is short x. prints held bytes status (file_read held name (PrintsModel (PrintsRun p)) text bytes status is short x.prints);
  outcome = λ f text bytes status x. play_outcome job p is_play text f bytes status x.prints;
  only = λ held text bytes status x. play_only job p is_play text held status x.only;
  no_run = λ held text bytes status x none. no_trace job p is_play text held none.replay;
  breaks = λ held text bytes status x breaks. no_watches job p is_play text held breaks.judged.on;
  no_list = λ held text bytes status x none. no_watches job p is_play text held none.on;
  no_script = λ held text bytes status x none. no_script job p is_play text held none.on;
  refused = λ held text bytes status x r is. x.refused r (play_refused held job p is_play text r is);
}

module _ (f g : FilesState) (before now : SinkState) (given : Status) where
  pub keeps_run : (model : List ℕ) (choice : Choice) (limits : RunLimits) (summary : Bool)
      → ReadsFile (model_file model) (PrintsPlay (play choice limits (telling_when summary))) f g before now given → KeepsPromises (Some (Run model choice limits summary)) f g before now given
  keeps_run model choice limits summary done =
      let p = play choice limits (telling_when summary) in
      keeps_file (Run model choice limits summary) model (PrintsPlay p)
      (plays_file (Run model choice limits summary) model p refl tt refl refl (λ held bytes status prints. prints)) f g before now given done

  pub keeps_menu : (model : List ℕ) (choice : Choice) (limits : RunLimits)
      → ReadsFile (model_file model) (PrintsPlay (play choice limits telling.Menu)) f g before now given → KeepsPromises (Some (Menu model choice limits)) f g before now given
  keeps_menu model choice limits done =
      let p = play choice limits telling.Menu in
      keeps_file (Menu model choice limits) model (PrintsPlay p)
      (plays_file (Menu model choice limits) model p refl tt refl refl (λ held bytes status prints. prints)) f g before now given done

-- ---- checks

no_play : (model : List ℕ) (p : Play) → play_of (Check model) ≡ Some p → ⊥
no_play model p e = cc

size_outcome : (f : FilesState) (job : Job) (text : List ℕ) (m : ModelTree) (bytes : List ℕ) (status : Status) → PrintsSize m bytes status → Outcome f job text status
size_outcome f job text m _ _ (accepts processes wires is) = checked

check_outcome : (f : FilesState) (model text bytes : List ℕ) (status : Status) → PrintsModel PrintsSize text bytes status → Outcome f (Check model) text status
check_outcome f model text _ _ (refuses r is) = no_model r (λ _. is)
check_outcome f model text _ _ (of_model m bytes status is prints) = size_outcome f (Check model) text m bytes status prints

-- neither a check nor a ring that is made has a run

check_told : {X : Type 0} (model : List ℕ) (held : Entries) (text : List ℕ) → HasTrace held (Check model) text → X
check_told model held text x = let same : Check model ≡ Replay x.model_word x.trace_word x.units = x.is_replay in cc

check_ended : {X : Type 0} (model : List ℕ) (held : Entries) (text : List ℕ) (e : Ending) → HasEnding held (Check model) text e → X
check_ended model held text e (of_choice x) = absurd (no_play model x.play x.is_play)
check_ended model held text e (of_trace x) = check_told model held text x.replay
check_ended model held text e (of_watches x) = unjudged held (Check model) text tt x.judged.on
check_ended model held text e (of_script x) = undriven held (Check model) text tt x.driven.on

checks_file : (model : List ℕ) → OneFile (Check model) model PrintsCheck
checks_file model = record {
  more = [];
  files = refl;
  has = tt;
  named = refl;
  lacks = λ held missing. file_lacks held model (PrintsModel PrintsSize) missing;
  long = λ held text is long. file_long held model (PrintsModel PrintsSize) text is long;
  reads = λ held text bytes status is short x. file_read held model (PrintsModel PrintsSize) text bytes status is short x.prints;
  outcome = λ f text bytes status x. check_outcome f model text bytes status x.prints;
  only = λ held text bytes status prints e x. check_ended model held text e x;
  no_run = λ held text bytes status prints none. check_told model held text none.replay;
  breaks = λ held text bytes status prints breaks. unjudged held (Check model) text tt breaks.judged.on;
  no_list = λ held text bytes status prints none. unjudged held (Check model) text tt none.on;
  no_script = λ held text bytes status prints none. undriven held (Check model) text tt none.on;
  refused = λ held text bytes status x. x.refused;
}

pub keeps_check : (f g : FilesState) (before now : SinkState) (given : Status) (model : List ℕ) → ReadsFile (model_file model) PrintsCheck f g before now given → KeepsPromises (Some (Check model)) f g before now given
keeps_check f g before now given model done = keeps_file (Check model) model PrintsCheck (checks_file model) f g before now given done

-- ---- rings

no_run : (n : ℕ) (p : Play) → play_of (Make n) ≡ Some p → ⊥
no_run n p e = cc

make_told : {X : Type 0} (n : ℕ) (held : Entries) (text : List ℕ) → HasTrace held (Make n) text → X
make_told n held text x = let same : Make n ≡ Replay x.model_word x.trace_word x.units = x.is_replay in cc

make_ended : {X : Type 0} (n : ℕ) (held : Entries) (text : List ℕ) (e : Ending) → HasEnding held (Make n) text e → X
make_ended n held text e (of_choice x) = absurd (no_run n x.play x.is_play)
make_ended n held text e (of_trace x) = make_told n held text x.replay
make_ended n held text e (of_watches x) = unjudged held (Make n) text tt x.judged.on
make_ended n held text e (of_script x) = undriven held (Make n) text tt x.driven.on

-- nor has a ring that is made a model that is read

made_unread : (job : Job) (n : ℕ) (name : List ℕ) → job ≡ Make n → model_name job ≡ Some name → ⊥
made_unread job n name same named = let none : model_name (Make n) ≡ Some name = ap model_name (sym same) ∙ named in cc

made_unrun : (job : Job) (n k : ℕ) → job ≡ Make n → stations_of job ≡ Some k → ⊥
made_unrun job n k same ring = let none : stations_of (Make n) ≡ Some k = ap stations_of (sym same) ∙ ring in cc

make_text : {X : Type 0} (n : ℕ) (held : Entries) (job : Job) (text : List ℕ) → job ≡ Make n → IsTextFor held job text → X
make_text n held _ _ same (of_file job name text named is short) = absurd (made_unread job n name same named)
make_text n held _ _ same (of_ring job k ring) = absurd (made_unrun job n k same ring)

module _ (f : FilesState) (before now : SinkState) (given : Status) where
  pub keeps_make : (n : ℕ) → Said before now (ring_text n) Done given → KeepsPromises (Some (Make n)) f f before now given
  keeps_make n said = keeps (Some (Make n)) f f before now (ring_text n) Done given wants said
    where
      wants : Wants (Some (Make n)) f f (ring_text n) Done
      wants = record {
        prints = λ _ _. does (Make n) (ring_text n) Done makes;
        fault = λ is _. cc;
        front = λ _. inl (does (Make n) (ring_text n) Done makes);
        opens = λ s. none_opened [] f s refl;
        ends = promises.done (Make n);
        model_refused = λ _ is. cc;
        no_model = λ none _ _. let x = refused_in f.held (Make n) none in make_text n f.held (Make n) x.text refl x.is_text;
        deadlock = λ _ is. cc;
        model_fault = λ _ is. cc;
        choice_refused = λ _ is. cc;
        run_end = λ e ends _ _. let x = run_in f.held (Make n) e ends in make_ended n f.held x.text e x.holds;
        trace_refused = λ _ is. cc;
        no_trace = λ none _ _. let x = none_in f.held (Make n) none in make_told n f.held x.text x.holds.replay;
        watch_broken = λ _ is. cc;
        broken_watch = λ breaks _ _. let x = broken_in f.held (Make n) breaks in unjudged f.held (Make n) x.text tt x.holds.judged.on;
        watch_refused = λ _ is. cc;
        script_refused = λ _ is. cc;
        no_watches = λ none _ _. let x = no_list_in f.held (Make n) none in unjudged f.held (Make n) x.text tt x.holds.on;
        no_script = λ none _ _. let x = no_script_in f.held (Make n) none in undriven f.held (Make n) x.text tt x.holds.on;
        trace_opened = λ _ many. opened_never (length f.opened) many;
        too_long = λ is. cc;
        longer = λ _ is. cc;
        read_cause = λ is. cc;
        reading = λ differ. absurd (differ refl);
      }

  module _ (n : ℕ) (choice : Choice) (limits : RunLimits) where
    ring_wants : (bytes : List ℕ) (wanted : Status) → PrintsPlay (play choice limits telling.Summary) (ring_text n) bytes wanted → Wants (Some (Ring n choice limits)) f f bytes wanted
    ring_wants bytes wanted x = record {
      prints = λ _ _. does job bytes wanted x.prints;
      fault = λ is _. absurd (end.no_fault is);
      front = λ _. inl (does job bytes wanted x.prints);
      opens = λ s. none_opened [] f s refl;
      ends = end.can;
      model_refused = end.model_refused;
      no_model = λ none _ _. let y = same_text (λ j t. (r : Refusal) × IsRefusedFor f.held j t r) (refused_in f.held job none) in x.refused y.0 y.1;
      deadlock = end.deadlock;
      model_fault = end.model_fault;
      choice_refused = end.choice_refused;
      run_end = λ e ends _ _. play_only job p refl (ring_text n) f.held wanted x.only e (same_text (λ j t. HasEnding f.held j t e) (run_in f.held job e ends));
      trace_refused = end.trace_refused;
      no_trace = λ none _ _. no_trace job p refl (ring_text n) f.held (same_text (λ j t. TellsNoRun f.held j t) (none_in f.held job none)).replay;
      watch_broken = end.watch_broken;
      broken_watch = λ breaks _ _. let x = broken_in f.held job breaks in unjudged f.held job x.text tt x.holds.judged.on;
      watch_refused = end.watch_refused;
      script_refused = end.script_refused;
      no_watches = λ none _ _. let x = no_list_in f.held job none in unjudged f.held job x.text tt x.holds.on;
      no_script = λ none _ _. let x = no_script_in f.held job none in undriven f.held job x.text tt x.holds.on;
      trace_opened = λ _ many. opened_never (length f.opened) many;
      too_long = λ is. absurd (end.not_long is);
      longer = λ _ is. absurd (end.not_long is);
      read_cause = λ is. absurd (end.no_fault is);
      reading = λ differ. absurd (differ refl);
    }
      where
        p : Play
        p = play choice limits telling.Summary

        job : Job
        job = Ring n choice limits

        end : EndsText job tt (ring_text n) f (λ _. of_ring job n refl) wanted
        end = ends_text job tt (ring_text n) f (λ _. of_ring job n refl) wanted (play_outcome job p refl (ring_text n) f bytes wanted x.prints)

        same_text : (Q : Job → List ℕ → Type 0) → OfText f.held job Q → Q job (ring_text n)
        same_text Q y = subst (λ (t : List ℕ). Q job t) (ring_in f.held job y.text y.is_text n refl) y.holds

    pub keeps_ring : Answers (PrintsPlay (play choice limits telling.Summary) (ring_text n)) before now given → KeepsPromises (Some (Ring n choice limits)) f f before now given
    keeps_ring (inl none) = keeps_nothing (Some (Ring n choice limits)) f f before now given (none_opened [] f given refl) (λ _ many. opened_never (length f.opened) many) refl none
    keeps_ring (inr says) = keeps (Some (Ring n choice limits)) f f before now says.bytes says.wanted given (ring_wants says.bytes says.wanted says.prints) says.said
