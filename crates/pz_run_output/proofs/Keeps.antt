-- The promises of the top call, from what was to be said and that it was said.
use Rattle.std.proofs.Common.{◌≡◌, ◌≢◌, ◌⊎◌, ◌<◌, ◌+◌, inl, inr, ⊎_elim, ℕ, List, [], ◌∷◌, ◌++◌, true, Option, Some, None, length, sym, subst, ap, ◌∙◌, refl, arith, length-append}
use Rattle.std.proofs.lemmas.Grind.{common_steps}
use Rattle.std.proofs.lemmas.List.{append-nil}
use Rattle.pz_io.specs.Outside.{FilesState, SinkState, raised, Rose, FilesFailedLast}
use Rattle.pz_io.specs.Writing.{TookFront}
use Rattle.pz_trace.specs.pz_offer.declared.trouble.Trouble.{Trouble}
use Rattle.pz_trace.specs.pz_rules.Runs.{Ending, deadlocked, troubled, refused}
use Rattle.pz_words.specs.declared.jobs.Job.{Job}
use Rattle.pz_run_lines.specs.Lines.{usage_line, read_fault_line}
use Rattle.pz_run_output.specs.declared.status.Status.{Status}
use Rattle.pz_run_output.specs.declared.status.Status.TheVariants.{Deadlock, Usage, ModelRefused, ModelFault, ChoiceRefused, TraceRefused, TooLong, ReadFault, WriteFault, NoMemory, WatchBroken, WatchRefused, ScriptRefused}
use Rattle.pz_run_output.specs.Files.{JobFile, files_of}
use Rattle.pz_run_output.specs.Status.{status_of}
use Rattle.pz_run_output.specs.Output.{Prints, usage}
use Rattle.pz_run_output.specs.Promises.{OpensFiles, OpensLast, IsPastLimit, Lacks, IsLonger, IsNoModel, HasModelText, RunEnds, IsNoTrace, IsBrokenAt, IsNoWatches, IsNoScript, CanEnd}
use Rattle.pz_run_output.specs.Promises as promises
use Rattle.pz_run_output.specs.devices.Keeping.{KeepsPromises}
use Rattle.pz_run_output.specs.devices.Saying.{Said, NothingWritten}
use Rattle.pz_run_output.proofs.CanEnds.{can_end}

-- a count that was raised rose
pub raised_rose : (before now : ℕ) → now ≡ raised before → Rose before now
raised_rose before now is = grind (arith, common_steps, is)

-- this is the line of a read fault of the last file that was opened
pub record IsFaultLine (files : List JobFile) (f g : FilesState) (bytes : List ℕ) : Type 0 where
  pub file : JobFile
  pub last : OpensLast files f g file
  pub line : bytes ≡ read_fault_line file.name

-- what is to be said, and the status that goes with it
pub record Wants (a : Option Job) (f g : FilesState) (bytes : List ℕ) (wanted : Status) : Type 0 where
  pub prints : f.told ≡ true → ¬ ((wanted ≡ ReadFault) × Rose f.faults g.faults) → Prints f.held a bytes wanted
  pub fault : wanted ≡ ReadFault → Rose f.faults g.faults → IsFaultLine (files_of a) f g bytes
  pub front : f.told ≡ true → Prints f.held a bytes wanted ⊎ (Rose f.faults g.faults × IsFaultLine (files_of a) f g bytes)
  pub opens : (s : Status) → OpensFiles (files_of a) f g s
  pub ends : CanEnd a wanted
  pub model_refused : f.told ≡ true → wanted ≡ ModelRefused → IsNoModel a f.held
  pub no_model : IsNoModel a f.held → f.told ≡ true → ¬ ((wanted ≡ ReadFault) × Rose f.faults g.faults) → wanted ≡ ModelRefused
  pub deadlock : f.told ≡ true → wanted ≡ Deadlock → RunEnds a f.held deadlocked
  pub model_fault : f.told ≡ true → wanted ≡ ModelFault → (trouble : Trouble) × RunEnds a f.held (troubled trouble)
  pub choice_refused : f.told ≡ true → wanted ≡ ChoiceRefused → (entry : ℕ) × (count : ℕ) × RunEnds a f.held (refused entry count)
  pub run_end : (ending : Ending) → RunEnds a f.held ending → f.told ≡ true → ¬ ((wanted ≡ ReadFault) × Rose f.faults g.faults) → wanted ≡ status_of ending
  pub trace_refused : f.told ≡ true → wanted ≡ TraceRefused → IsNoTrace a f.held
  pub no_trace : IsNoTrace a f.held → f.told ≡ true → ¬ ((wanted ≡ ReadFault) × Rose f.faults g.faults) → wanted ≡ TraceRefused
  pub watch_broken : f.told ≡ true → wanted ≡ WatchBroken → IsBrokenAt a f.held
  pub broken_watch : IsBrokenAt a f.held → f.told ≡ true → ¬ ((wanted ≡ ReadFault) × Rose f.faults g.faults) → wanted ≡ WatchBroken
  pub watch_refused : f.told ≡ true → wanted ≡ WatchRefused → IsNoWatches a f.held
  pub no_watches : IsNoWatches a f.held → f.told ≡ true → ¬ ((wanted ≡ ReadFault) × Rose f.faults g.faults) → wanted ≡ WatchRefused
  pub script_refused : f.told ≡ true → wanted ≡ ScriptRefused → IsNoScript a f.held
  pub no_script : IsNoScript a f.held → f.told ≡ true → ¬ ((wanted ≡ ReadFault) × Rose f.faults g.faults) → wanted ≡ ScriptRefused
  pub trace_opened : f.told ≡ true → length f.opened + 1 < length g.opened → HasModelText a f.held
  pub too_long : wanted ≡ TooLong → IsPastLimit (files_of a) f g
  pub longer : f.told ≡ true → wanted ≡ TooLong → IsLonger (files_of a) f.held
  pub read_cause : wanted ≡ ReadFault → Rose f.faults g.faults ⊎ ((f.told ≡ true) × Lacks (files_of a) f.held)
  pub reading : g.faults ≢ f.faults → FilesFailedLast f g × (wanted ≡ ReadFault)

module _ (a : Option Job) (f g : FilesState) (before now : SinkState) (bytes : List ℕ) (wanted given : Status) (wants : Wants a f g bytes wanted) (said : Said before now bytes wanted given) where
  is_wanted : (s : Status) → given ≡ s → s ≢ WriteFault → s ≢ NoMemory → wanted ≡ s
  is_wanted s is no_fault no_want = sym (said.is_wanted (λ e. no_fault (sym is ∙ e)) (λ e. no_want (sym is ∙ e))) ∙ is

  not_before : (s t : Status) → given ≡ s → s ≢ t → given ≢ t
  not_before s t is differ e = differ (sym is ∙ e)

  pub keeps : KeepsPromises a f g before now given
  keeps = record {
    output = λ told no_fault no_want unless.
        let same = said.is_wanted no_fault no_want in record {
          bytes = bytes;
          prints = subst (λ (s : Status). Prints f.held a bytes s) (sym same) (wants.prints told (λ both. unless (same ∙ both.0, both.1)));
          taken = λ tells. said.whole tells no_fault no_want;
        };
    read_fault = λ is rose.
        let line = wants.fault (is_wanted ReadFault is (λ e. cc) (λ e. cc)) rose in record {
          file = line.file;
          last = line.last;
          taken = λ tells. said.whole tells (not_before ReadFault WriteFault is (λ e. cc)) (not_before ReadFault NoMemory is (λ e. cc)) ∙ ap (λ (l : List ℕ). before.taken ++ l) line.line;
        };
    opens = wants.opens given;
    front = λ told tells. inr (⊎_elim
        (λ prints. inl (record { bytes = bytes; status = wanted; prints = prints; front = said.front tells }))
        (λ fault. inr (fault.0, record { file = fault.1.file; last = fault.1.last; front = subst (TookFront before now) fault.1.line (said.front tells) }))
        (wants.front told));
    statuses = can_end a given wanted said.is_wanted wants.ends;
    model_refused = λ told is. wants.model_refused told (is_wanted ModelRefused is (λ e. cc) (λ e. cc));
    no_model = λ none told no_fault no_want unless.
        let same = said.is_wanted no_fault no_want in same ∙ wants.no_model none told (λ both. unless (same ∙ both.0, both.1));
    deadlock = λ told is. wants.deadlock told (is_wanted Deadlock is (λ e. cc) (λ e. cc));
    model_fault = λ told is. wants.model_fault told (is_wanted ModelFault is (λ e. cc) (λ e. cc));
    choice_refused = λ told is. wants.choice_refused told (is_wanted ChoiceRefused is (λ e. cc) (λ e. cc));
    run_end = λ ending ends told no_fault no_want unless.
        let same = said.is_wanted no_fault no_want in same ∙ wants.run_end ending ends told (λ both. unless (same ∙ both.0, both.1));
    trace_refused = λ told is. wants.trace_refused told (is_wanted TraceRefused is (λ e. cc) (λ e. cc));
    no_trace = λ none told no_fault no_want unless.
        let same = said.is_wanted no_fault no_want in same ∙ wants.no_trace none told (λ both. unless (same ∙ both.0, both.1));
    watch_broken = λ told is. wants.watch_broken told (is_wanted WatchBroken is (λ e. cc) (λ e. cc));
    broken_watch = λ breaks told no_fault no_want unless.
        let same = said.is_wanted no_fault no_want in same ∙ wants.broken_watch breaks told (λ both. unless (same ∙ both.0, both.1));
    watch_refused = λ told is. wants.watch_refused told (is_wanted WatchRefused is (λ e. cc) (λ e. cc));
    no_watches = λ none told no_fault no_want unless.
        let same = said.is_wanted no_fault no_want in same ∙ wants.no_watches none told (λ both. unless (same ∙ both.0, both.1));
    script_refused = λ told is. wants.script_refused told (is_wanted ScriptRefused is (λ e. cc) (λ e. cc));
    no_script = λ none told no_fault no_want unless.
        let same = said.is_wanted no_fault no_want in same ∙ wants.no_script none told (λ both. unless (same ∙ both.0, both.1));
    trace_opened = wants.trace_opened;
    too_long = λ is. wants.too_long (is_wanted TooLong is (λ e. cc) (λ e. cc));
    longer = λ told is. wants.longer told (is_wanted TooLong is (λ e. cc) (λ e. cc));
    read_cause = λ is. wants.read_cause (is_wanted ReadFault is (λ e. cc) (λ e. cc));
    reading = λ differ.
        let x = wants.reading differ in record { last = x.0; said = λ no_fault no_want. said.is_wanted no_fault no_want ∙ x.1 };
    writing = said.writing;
  }

-- memory was wanting before anything was said
pub keeps_nothing : (a : Option Job) (f g : FilesState) (before now : SinkState) (given : Status) → OpensFiles (files_of a) f g given → (f.told ≡ true → length f.opened + 1 < length g.opened → HasModelText a f.held)
    → g.faults ≡ f.faults → NothingWritten before now given → KeepsPromises a f g before now given
keeps_nothing a f g before now given opens accepted kept none = record {
  output = λ _ _ no_want _. absurd (no_want none.wanting);
  read_fault = λ is _. absurd (other ReadFault is (λ e. cc));
  opens = opens;
  front = λ _ _. inl (ap (λ (s : SinkState). s.taken) none.unchanged);
  statuses = subst (CanEnd a) (sym none.wanting) (promises.no_memory a);
  model_refused = λ _ is. absurd (other ModelRefused is (λ e. cc));
  no_model = λ _ _ _ no_want _. absurd (no_want none.wanting);
  deadlock = λ _ is. absurd (other Deadlock is (λ e. cc));
  model_fault = λ _ is. absurd (other ModelFault is (λ e. cc));
  choice_refused = λ _ is. absurd (other ChoiceRefused is (λ e. cc));
  run_end = λ _ _ _ _ no_want _. absurd (no_want none.wanting);
  trace_refused = λ _ is. absurd (other TraceRefused is (λ e. cc));
  no_trace = λ _ _ _ no_want _. absurd (no_want none.wanting);
  watch_broken = λ _ is. absurd (other WatchBroken is (λ e. cc));
  broken_watch = λ _ _ _ no_want _. absurd (no_want none.wanting);
  watch_refused = λ _ is. absurd (other WatchRefused is (λ e. cc));
  no_watches = λ _ _ _ no_want _. absurd (no_want none.wanting);
  script_refused = λ _ is. absurd (other ScriptRefused is (λ e. cc));
  no_script = λ _ _ _ no_want _. absurd (no_want none.wanting);
  trace_opened = accepted;
  too_long = λ is. absurd (other TooLong is (λ e. cc));
  longer = λ _ is. absurd (other TooLong is (λ e. cc));
  read_cause = λ is. absurd (other ReadFault is (λ e. cc));
  reading = λ differ. absurd (differ kept);
  writing = record { kept = λ _. ap (λ (s : SinkState). s.faults) none.unchanged; last = λ is. absurd (other WriteFault is (λ e. cc)) };
}
  where
    other : (s : Status) → given ≡ s → NoMemory ≢ s → ⊥
    other s is differ = differ (sym none.wanting ∙ is)

-- no file is to be opened
pub none_opened : (files : List JobFile) (f : FilesState) (s : Status) → files ≡ [] → OpensFiles files f f s
none_opened files f s none = record {
  count = 0;
  within = omega arith;
  first = λ _ some. let empty : length files ≡ 0 = ap (λ (l : List JobFile). length l) none in absurd (omega (arith, some, empty));
  opens = record { names = sym (append-nil f.opened); counted = refl };
}

-- memory was wanting before the first file was opened
pub not_opened : (files : List JobFile) (f : FilesState) → OpensFiles files f f NoMemory
not_opened files f = record { count = 0; within = omega arith; first = λ ample _. absurd (ample refl); opens = record { names = sym (append-nil f.opened); counted = refl } }

-- where one file was opened, there are not two

pub opened_once : {X : Type 0} (f g : FilesState) (name : List ℕ) → g.opened ≡ f.opened ++ (name ∷ []) → length f.opened + 1 < length g.opened → X
opened_once f g name once many =
    let counted : length g.opened ≡ length f.opened + 1 = ap (λ (l : List (List ℕ)). length l) once ∙ length-append f.opened (name ∷ []) in
    absurd (omega (arith, counted, many))

pub opened_never : {X : Type 0} (count : ℕ) → count + 1 < count → X
opened_never count many = absurd (omega (arith, many))

no_job : (job : Job) → None ≡ Some job → ⊥
no_job job e = cc

-- there is no job
pub keeps_usage : (f : FilesState) (before now : SinkState) (given : Status) → Said before now usage_line Usage given → KeepsPromises None f f before now given
keeps_usage f before now given said = keeps None f f before now usage_line Usage given wants said
  where
    no_run : (ending : Ending) → RunEnds None f.held ending → ⊥
    no_run ending ends = no_job ends.job ends.is_asked

    no_text : IsNoModel None f.held → ⊥
    no_text none = no_job none.job none.is_asked

    no_trace : IsNoTrace None f.held → ⊥
    no_trace none = no_job none.job none.is_asked

    no_broken : IsBrokenAt None f.held → ⊥
    no_broken breaks = no_job breaks.job breaks.is_asked

    no_list : IsNoWatches None f.held → ⊥
    no_list none = no_job none.job none.is_asked

    no_script : IsNoScript None f.held → ⊥
    no_script none = no_job none.job none.is_asked

    wants : Wants None f f usage_line Usage
    wants = record {
      prints = λ _ _. usage;
      fault = λ is _. cc;
      front = λ _. inl usage;
      opens = λ s. none_opened [] f s refl;
      ends = promises.usage;
      model_refused = λ _ is. cc;
      deadlock = λ _ is. cc;
      model_fault = λ _ is. cc;
      choice_refused = λ _ is. cc;
      run_end = λ ending ends _ _. absurd (no_run ending ends);
      trace_refused = λ _ is. cc;
      no_trace = λ none _ _. absurd (no_trace none);
      no_model = λ none _ _. absurd (no_text none);
      watch_broken = λ _ is. cc;
      broken_watch = λ breaks _ _. absurd (no_broken breaks);
      watch_refused = λ _ is. cc;
      script_refused = λ _ is. cc;
      no_watches = λ none _ _. absurd (no_list none);
      no_script = λ none _ _. absurd (no_script none);
      trace_opened = λ _ many. opened_never (length f.opened) many;
      too_long = λ is. cc;
      longer = λ _ is. cc;
      read_cause = λ is. cc;
      reading = λ differ. absurd (differ refl);
    }
