-- What was said of a trace that was replayed, and the promises of a replay.
use Rattle.std.proofs.Common.{◌≡◌, ◌≢◌, ◌⊎◌, inl, inr, ⊎_elim, ◌∙◌, ◌<◌, ◌≤◌, ℕ, List, [], ◌∷◌, ◌++◌, true, false, Option, Some, None, Result, Ok, Err, length, refl, sym, subst, ap, arith, append_assoc}
use Rattle.std.specs.Prelude.{Contains, MatchOption}
use Rattle.pz_io.specs.Outside.{Entries, FilesState, SinkState, lookup, raised, Rose, LacksName, FilesFailedLast, Exceeds}
use Rattle.pz_io.specs.declared.writing.Halt.{Halt}
use Rattle.pz_bind.specs.pz_syntax.Classes.{ModelTree}
use Rattle.pz_bind.specs.pz_check_violations.declared.violation.Violation.{Violation}
use Rattle.pz_run_output.specs.pz_classes_openings.OpeningRules as rules
use Rattle.pz_run_output.specs.pz_classes_openings.OpeningRules.{IsOpeningViolation, in_rounds, in_sizes}
use Rattle.pz_run_output.specs.pz_trace.pz_rules.Runs.{Ending}
use Rattle.pz_run_output.specs.pz_trace.declared.forms.Form.{Form}
use Rattle.pz_run_output.specs.pz_trace.declared.forms.Form.TheVariants.{One, Two, Three}
use Rattle.pz_run_output.specs.pz_trace.Lines.{header}
use Rattle.pz_run_output.specs.pz_trace.Forms.{HasHeader}
use Rattle.pz_run_output.specs.pz_trace.Laws.{OneFormIsTold}
use Rattle.pz_run_output.specs.pz_trace.TraceText.{run_ending, IsTrace}
use Rattle.pz_run_output.specs.pz_trace.declared.ending.Ending as trace
use Rattle.pz_run_output.specs.pz_trace.declared.ending.Ending.TheVariants as ending
use Rattle.pz_sim.specs.pz_term_simulator.Simulations.{Simulation}
use Rattle.pz_run_output.specs.pz_run_replaying.declared.replayed.Replayed.{Replayed}
use Rattle.pz_run_output.specs.pz_run_replaying.declared.replayed.Replayed.TheVariants as replayed
use Rattle.pz_run_output.specs.pz_run_replaying.Replays.{refusal_text, Replays, accepts, refuses, TellsLines, IsReplayed}
use Rattle.pz_words.specs.declared.jobs.Job.{Job}
use Rattle.pz_words.specs.declared.jobs.Job.TheVariants.{Replay}
use Rattle.pz_run_output.specs.pz_run_lines.pz_run_reading.Models.{IsModelOf}
use Rattle.pz_run_output.specs.pz_run_lines.pz_run_reading.Refusals.{IsRefused}
use Rattle.pz_run_output.specs.pz_run_lines.pz_run_reading.Answers.{OnRefused}
use Rattle.pz_run_output.specs.pz_run_lines.pz_run_reading.declared.read_error.ReadModelError.{ReadModelError}
use Rattle.pz_run_output.specs.pz_run_lines.pz_run_reading.declared.read_error.ReadModelError.TheVariants.{NoMemory, Refused}
use Rattle.pz_run_output.specs.pz_run_lines.pz_run_reading.declared.refusal.Refusal.{Refusal}
use Rattle.pz_run_output.specs.pz_run_lines.pz_run_reading.declared.refusal.Refusal.TheVariants as refusal
use Rattle.pz_run_output.specs.pz_run_lines.pz_run_reading.Openings.{IsOpeningRefusal}
use Rattle.pz_run_output.specs.pz_run_lines.Lines.{read_fault_line, too_long_line, model_refused_line}
use Rattle.pz_run_output.specs.Limits.{model_limit, trace_limit}
use Rattle.pz_run_output.specs.declared.status.Status.{Status}
use Rattle.pz_run_output.specs.declared.status.Status.TheVariants.{ModelRefused, TraceRefused, TooLong, ReadFault, WriteFault}
use Rattle.pz_run_output.specs.Files.{JobFile, model_file, trace_file, files_of}
use Rattle.pz_run_output.specs.Plays.{play_of, setting_with}
use Rattle.pz_run_output.specs.Editions.{HasNoHeader, IsOfSecondEdition, OpensFor}
use Rattle.pz_run_output.specs.Status.{status_of, replay_status}
use Rattle.pz_run_output.specs.Output.{PrintsReplay, closed, no_header, replays, PrintsFile, lacks, too_long, reads, PrintsOnTrace, PrintsTraceFile, PrintsJob, Prints, does}
use Rattle.pz_run_output.specs.Output as output
use Rattle.pz_run_output.specs.Promises.{Opens, OpensFiles, OpensLast, IsTraceIn, IsRefusedOnTrace, at_once, on_trace, IsRefusedFor, IsNoModel, HasModelText, IsTextFor, of_file, ChosenEnds, HasTrace, TellsRun, ToldEnds, HasEnding, of_choice, of_trace, of_watches, of_script, RunEnds, TellsNoRun, IsNoTrace, IsBrokenAt, IsNoWatches, IsNoScript}
use Rattle.pz_run_output.specs.Promises as promises
use Rattle.pz_run_output.specs.devices.Halting.{replayed_as}
use Rattle.pz_run_output.specs.devices.Keeping.{KeepsPromises}
use Rattle.pz_run_output.specs.devices.Reading.{FileOutcome, wanting, fault, long, whole, ReadsFile}
use Rattle.pz_run_output.specs.devices.Replaying.{OneEnding, tells_first, HasOneForm, PrintsRefusal, refused, PrintsTrace, IsOnlyModel, WasRead, ReplaysText, goes_on, ReplaysFiles, no_model, reads_on}
use Rattle.pz_run_output.specs.devices.Replaying as replaying
use Rattle.pz_run_output.specs.devices.Saying.{Said, NothingWritten, Says, Answers}
use Rattle.pz_run_output.specs.devices.Texts.{SaysRefusal}
use Rattle.pz_run_output.proofs.Sayings.{said_whole, said_halted, answers_by}
use Rattle.pz_run_output.proofs.OneEnd.{some_is}
use Rattle.pz_run_output.proofs.Outcomes.{told_can, Outcome, run_ended, no_trace, EndsText, ends_text, text_in, unjudged, undriven, OfText, run_in, none_in, refused_in, broken_in, no_list_in, no_script_in}
use Rattle.pz_run_output.proofs.Outcomes as outcomes
use Rattle.pz_run_output.proofs.Keeps.{raised_rose, IsFaultLine, Wants, keeps, keeps_nothing}
use Rattle.pz_run_output.proofs.OneFiles.{OneFile, keeps_file}
use Rattle.pz_run_output.proofs.OfJobs.{file_lacks, file_long, file_read}

-- ---- what was said of a trace

end_ordinary : (e : trace.Ending) → status_of (run_ending e) ≢ WriteFault
end_ordinary ending.End is = cc
end_ordinary ending.Deadlock is = cc
end_ordinary ending.Stop is = cc
end_ordinary (ending.Trouble trouble) is = cc

ordinary : (outcome : Replayed) → replay_status outcome ≢ WriteFault
ordinary (replayed.Ended e) is = end_ordinary e is
ordinary (replayed.Refused line) is = cc

module _ (units : ℕ) (m : ModelTree) (form : Form) (text : List ℕ) (is_told : HasHeader form text) (asked : OpensFor text m) (t : Simulation) (before now : SinkState) where
  pub says_replay : (r : Result Replayed Halt) (given : Status) → given ≡ replayed_as r → IsReplayed (setting_with m form units) text t before now r → Says (PrintsReplay units m text) before now given
  says_replay (Ok outcome) given is done =
      let same : given ≡ replay_status done.outcome = is ∙ ap replay_status done.is_outcome in
      record {
        bytes = done.text;
        wanted = replay_status done.outcome;
        prints = replays form done.text done.outcome done.end is_told asked done.replays;
        said = subst (λ (s : Status). Said before now done.text (replay_status done.outcome) s) (sym same)
            (said_whole before now done.text (replay_status done.outcome) (ordinary done.outcome) done.wrote);
      }
  says_replay (Err halt) given is done = record {
    bytes = done.text;
    wanted = replay_status done.outcome;
    prints = replays form done.text done.outcome done.end is_told asked done.replays;
    said = subst (λ (s : Status). Said before now done.text (replay_status done.outcome) s) (sym is)
        (said_halted before now done.text (replay_status done.outcome) halt done.wrote);
  }

module _ (units : ℕ) (m : ModelTree) (text : List ℕ) (before now : SinkState) (given : Status) where
  -- of a model that does not open
  pub closed_said : IsOfSecondEdition text → (e : ReadModelError) → OnRefused (IsOpeningRefusal m) e → SaysRefusal e before now given → Answers (PrintsReplay units m text) before now given
  closed_said second NoMemory found says = inl says
  closed_said second (Refused (refusal.Violates v)) found says = inr (record { bytes = model_refused_line (refusal.Violates v); wanted = ModelRefused; prints = closed v second found; said = says })
  closed_said second (Refused (refusal.BadByte at)) found says = absurd found
  closed_said second (Refused (refusal.OpenComment at)) found says = absurd found
  closed_said second (Refused (refusal.OpenString at)) found says = absurd found
  closed_said second (Refused (refusal.BadNumber at)) found says = absurd found
  closed_said second (Refused (refusal.Syntax at)) found says = absurd found
  closed_said second (Refused (refusal.TooNested at)) found says = absurd found

  -- of a first line that is no header
  pub header_said : rules.Opens m → HasNoHeader text → Said before now (refusal_text 1 (Some (header (Three units)))) TraceRefused given → Answers (PrintsReplay units m text) before now given
  header_said opens none said = inr (record { bytes = refusal_text 1 (Some (header (Three units))); wanted = TraceRefused; prints = no_header opens none; said = said })

-- ---- what the first line tells

-- nothing
pub tells_nothing : (told : Option Form) (text : List ℕ) → MatchOption told (HasNoHeader text) (λ form. HasHeader form text) → told ≡ None → HasNoHeader text
tells_nothing None text is none = is
tells_nothing (Some form) text is none = absurd cc

-- the first form
pub is_header : (told : Option Form) (text : List ℕ) → MatchOption told (HasNoHeader text) (λ form. HasHeader form text) → tells_first told ≡ true → HasHeader One text
is_header None text is first = absurd cc
is_header (Some One) text is first = is
is_header (Some Two) text is first = absurd cc
is_header (Some (Three units)) text is first = absurd cc

-- another, or nothing
pub is_second : OneFormIsTold → (told : Option Form) (text : List ℕ) → MatchOption told (HasNoHeader text) (λ form. HasHeader form text) → tells_first told ≡ false → IsOfSecondEdition text
is_second one None text is other first = is One first
is_second one (Some One) text is other first = cc
is_second one (Some Two) text is other first = let same : Two ≡ One = one Two One text is first in cc
is_second one (Some (Three units)) text is other first = let same : Three units ≡ One = one (Three units) One text is first in cc

-- ---- the one status that goes with it

-- a model that opens violates neither C23 nor C24
never_closed : {X : Type 0} (m : ModelTree) (v : Violation) → rules.Opens m → IsOpeningViolation m v → X
never_closed m v opens (in_rounds least) = absurd (opens.rounds v least.violated)
never_closed m v opens (in_sizes none least) = absurd (opens.sizes v least.violated)

module _ (one : OneEnding) (told : OneFormIsTold) (units : ℕ) (m : ModelTree) (tells : (form : Form) → TellsLines (setting_with m form units)) (text : List ℕ) where
  -- of a trace of this form
  module _ (form : Form) (is_told : HasHeader form text) (asked : OpensFor text m) where
    only_end : (bytes : List ℕ) (outcome : Replayed) (end : Simulation) → Replays (setting_with m form units) text bytes outcome end
        → (run : IsTrace (setting_with m form units) text) → replay_status outcome ≡ status_of (run_ending run.ending)
    only_end _ _ _ (accepts run) other = one (setting_with m form units) text (tells form) run other
    only_end _ _ _ (refuses lines rest stage expected now differs are is leads expects at) other = absurd (differs.no_run other)

    -- whichever run it tells, that is of this form
    only_told : (bytes : List ℕ) (outcome : Replayed) (end : Simulation) → Replays (setting_with m form units) text bytes outcome end
        → (x : TellsRun m units text) → replay_status outcome ≡ status_of (run_ending x.run.ending)
    only_told bytes outcome end is x =
        subst (λ (f : Form). (run : IsTrace (setting_with m f units) text) → replay_status outcome ≡ status_of (run_ending run.ending))
        (told form x.form text is_told x.is_told) (only_end bytes outcome end is) x.run

    none_refused : (bytes : List ℕ) (outcome : Replayed) (end : Simulation) → Replays (setting_with m form units) text bytes outcome end
        → (TellsRun m units text → ⊥) → replay_status outcome ≡ TraceRefused
    none_refused _ _ _ (accepts run) none = absurd (none (record { form = form; is_told = is_told; run = run }))
    none_refused _ _ _ (refuses lines rest stage expected now differs are is leads expects at) none = refl

    of_form : (bytes : List ℕ) (outcome : Replayed) (end : Simulation) → Replays (setting_with m form units) text bytes outcome end → PrintsTrace units m text bytes (replay_status outcome)
    of_form bytes outcome end is = record {
      prints = replays form bytes outcome end is_told asked is;
      one_form = λ h k. told h k text;
      only = λ _ x. only_told bytes outcome end is x;
      no_run = λ _ none. none_refused bytes outcome end is none;
      closed = λ v second violates. never_closed m v (asked second) violates;
    }

  pub of_replay : (bytes : List ℕ) (status : Status) → PrintsReplay units m text bytes status → PrintsTrace units m text bytes status
  of_replay _ _ (closed v second violates) = record {
    prints = closed v second violates;
    one_form = λ h k. told h k text;
    only = λ asked _. never_closed m v (asked second) violates;
    no_run = λ asked _. never_closed m v (asked second) violates;
    closed = λ _ _ _. refl;
  }
  of_replay _ _ (no_header opens none) = record {
    prints = no_header opens none;
    one_form = λ h k. told h k text;
    only = λ _ x. absurd (none x.form x.is_told);
    no_run = λ _ _. refl;
    closed = λ v _ violates. never_closed m v opens violates;
  }
  of_replay _ _ (replays form bytes outcome end is_told asked is) = of_form form is_told asked bytes outcome end is

module _ (one : OneEnding) (told : OneFormIsTold) (units : ℕ) (m : ModelTree) (tells : (form : Form) → TellsLines (setting_with m form units)) (file : JobFile) (f g : FilesState) (before now : SinkState) (given : Status) where
  of_outcome : FileOutcome file (PrintsReplay units m) f g before now given → FileOutcome file (PrintsTrace units m) f g before now given
  of_outcome (wanting kept none) = wanting kept none
  of_outcome (fault cause said) = fault cause said
  of_outcome (long kept handed exceeds said) = long kept handed exceeds said
  of_outcome (whole text kept short held answers) =
      whole text kept short held (answers_by (PrintsReplay units m text) (PrintsTrace units m text) (of_replay one told units m tells text) before now given answers)

  pub of_reading : ReadsFile file (PrintsReplay units m) f g before now given → ReadsFile file (PrintsTrace units m) f g before now given
  of_reading x = record { opened = x.opened; names = x.names; outcome = of_outcome x.outcome }

-- ---- the text of a model that is refused

differ : (r : Refusal) → Refused r ≡ NoMemory → ⊥
differ r same = cc

pub refusal_said : (text : List ℕ) (before now : SinkState) (given : Status) (e : ReadModelError) → OnRefused (IsRefused text) e → ((m : ModelTree) → IsModelOf text m → e ≡ NoMemory)
    → SaysRefusal e before now given → Answers (PrintsRefusal text) before now given
refusal_said text before now given NoMemory is only says = inl says
refusal_said text before now given (Refused r) is only says =
    inr (record { bytes = model_refused_line r; wanted = ModelRefused; prints = refused r is (λ m model. differ r (only m model)); said = says })

-- ---- from the model's file on

module _ (model name : List ℕ) (units : ℕ) (f mid g : FilesState) (before now : SinkState) (given : Status) where
  pub from_text : (text : List ℕ) → WasRead (model_file model) text f mid → ReplaysText name units mid g before now given text → ReplaysFiles model name units f g before now given
  from_text text was (replaying.refuses same answers) = no_model (record {
    opened = subst (λ (s : FilesState). s.opens ≡ raised f.opens) (sym same) was.opened;
    names = subst (λ (s : FilesState). s.opened ≡ f.opened ++ (model ∷ [])) (sym same) was.names;
    outcome = whole text (subst (λ (s : FilesState). s.faults ≡ f.faults) (sym same) was.faults) was.short was.content answers;
  })
  from_text text was (goes_on m is reading) = reads_on mid text m was is reading

-- ---- promises, where the model was refused or its file not read

replay_words : (model name : List ℕ) (units : ℕ) (model' other : List ℕ) (more : ℕ) → Replay model name units ≡ Replay model' other more → (name ≡ other) × (units ≡ more)
replay_words model name units model' other more same = (cc, cc)

refusal_lacks : {X : Type 0} (text bytes : List ℕ) (status : Status) (m : ModelTree) → PrintsRefusal text bytes status → IsModelOf text m → X
refusal_lacks text _ _ m (refused r is none) model = absurd (none m model)

refusal_is : (text bytes : List ℕ) (status : Status) → PrintsRefusal text bytes status → status ≡ ModelRefused
refusal_is text _ _ (refused r is none) = refl

module _ (model name : List ℕ) (units : ℕ) where
  abbrev job : Job
  job = Replay model name units

  not_played : {X : Type 0} (text : List ℕ) (e : Ending) → ChosenEnds job text e → X
  not_played text e x = let none : play_of (Replay model name units) ≡ Some x.play = x.is_play in cc

  refusal_outcome : (f : FilesState) (text bytes : List ℕ) (status : Status) → PrintsRefusal text bytes status → Outcome f job text status
  refusal_outcome f text _ _ (refused r is none) = outcomes.no_model r (λ _. at_once r is)

  refusal_only : (held : Entries) (text bytes : List ℕ) (status : Status) → PrintsRefusal text bytes status → (e : Ending) → HasEnding held job text e → status ≡ status_of e
  refusal_only held text bytes status prints e (of_choice x) = not_played text e x
  refusal_only held text bytes status prints e (of_trace x) = refusal_lacks text bytes status x.replay.model prints x.replay.is_model
  refusal_only held text bytes status prints e (of_watches x) = unjudged held job text tt x.judged.on
  refusal_only held text bytes status prints e (of_script x) = undriven held job text tt x.driven.on

  refusal_printed : (held : Entries) (text bytes : List ℕ) (status : Status) → lookup held model ≡ Some text → length text ≤ model_limit → PrintsRefusal text bytes status → PrintsJob held job bytes status
  refusal_printed held text _ _ is short (refused r wrong none) = file_read held model (PrintsOnTrace held name units) text (model_refused_line r) ModelRefused is short (output.refuses_at_once r wrong)

  refuses_file : OneFile job model PrintsRefusal
  refuses_file = record {
    more = trace_file name ∷ [];
    files = refl;
    has = tt;
    named = refl;
    lacks = λ held missing. file_lacks held model (PrintsOnTrace held name units) missing;
    long = λ held text is exceeds. file_long held model (PrintsOnTrace held name units) text is exceeds;
    reads = refusal_printed;
    outcome = refusal_outcome;
    only = refusal_only;
    no_run = λ held text bytes status prints none. refusal_lacks text bytes status none.replay.model prints none.replay.is_model;
    breaks = λ held text bytes status prints breaks. unjudged held job text tt breaks.judged.on;
    no_list = λ held text bytes status prints none. unjudged held job text tt none.on;
    no_script = λ held text bytes status prints none. undriven held job text tt none.on;
    refused = λ held text bytes status prints _ _. refusal_is text bytes status prints;
  }

  -- ---- promises, where the model was accepted

  module _ (f mid g : FilesState) (text : List ℕ) (m : ModelTree) (was : WasRead (model_file model) text f mid) (is : IsOnlyModel text m) (opened : g.opens ≡ raised mid.opens) (names : g.opened ≡ mid.opened ++ (name ∷ [])) where
    twice : Opens (files_of (Some job)) 2 f g
    twice = record {
      names = names ∙ ap (λ (l : List (List ℕ)). l ++ (name ∷ [])) was.names ∙ append_assoc f.opened (model ∷ []) (name ∷ []);
      counted = opened ∙ ap raised was.opened;
    }

    opens : (s : Status) → OpensFiles (files_of (Some job)) f g s
    opens s = record { count = 2; within = omega arith; first = λ _ _. omega arith; opens = twice }

    last : OpensLast (files_of (Some job)) f g (trace_file name)
    last = record { place = 1; is = refl; opens = twice }

    among : Contains (files_of (Some job)) (trace_file name)
    among = (1, omega arith, refl)

    text_for : f.told ≡ true → IsTextFor f.held job text
    text_for tells = of_file job model text refl (was.content tells) was.short

    accepted : f.told ≡ true → HasModelText (Some job) f.held
    accepted tells = record { job = job; is_asked = refl; text = text; is_text = text_for tells; model = m; is_model = is.is_model; opens = λ at_once. absurd at_once }

    -- no watches judge it

    unbroken : {X : Type 0} → IsBrokenAt (Some job) f.held → X
    unbroken breaks = let x = broken_in f.held job breaks in unjudged f.held job x.text tt x.holds.judged.on

    no_lists : {X : Type 0} → IsNoWatches (Some job) f.held → X
    no_lists none = let x = no_list_in f.held job none in unjudged f.held job x.text tt x.holds.on

    no_scripts : {X : Type 0} → IsNoScript (Some job) f.held → X
    no_scripts none = let x = no_script_in f.held job none in undriven f.held job x.text tt x.holds.on

    -- in the files at the start, and in those at which the trace was opened

    told_mid : f.told ≡ true → mid.told ≡ true
    told_mid tells = was.told ∙ tells

    same_held : (o : Option (List ℕ)) → lookup mid.held name ≡ o → lookup f.held name ≡ o
    same_held o found = subst (λ (held : Entries). lookup held name ≡ o) was.held found

    failed : FilesFailedLast mid g → FilesFailedLast f g
    failed x = (x.0 ∙ ap raised was.faults, x.1)

    rose : FilesFailedLast mid g → Rose f.faults g.faults
    rose x = raised_rose f.faults g.faults (failed x).0

    unfailed : g.faults ≡ mid.faults → g.faults ≡ f.faults
    unfailed kept = kept ∙ was.faults

    printed : (bytes : List ℕ) (status : Status) → f.told ≡ true → PrintsTraceFile f.held name units m bytes status → Prints f.held (Some job) bytes status
    printed bytes status tells prints =
        does job bytes status (file_read f.held model (PrintsOnTrace f.held name units) text bytes status (was.content tells) was.short (output.goes_on m bytes status is.is_model prints))

    -- the trace of whichever run that is asked for
    same_text : (Q : Job → List ℕ → Type 0) → OfText f.held job Q → f.told ≡ true → Q job text
    same_text Q x tells =
        let there = text_in f.held job x.text x.is_text model refl in
        subst (λ (t : List ℕ). Q job t) (some_is x.text text (sym there.held ∙ was.content tells)) x.holds

    -- The model may still be refused: where it violates C23 or C24, and the trace was read and is of the
    -- second edition.
    record IsClosed : Type 0 where
      pub trace : List ℕ
      pub violation : Violation
      pub is_trace : IsTraceIn f.held name trace
      pub second : IsOfSecondEdition trace
      pub violates : IsOpeningViolation m violation

    closed_by : (r : Refusal) → IsRefusedOnTrace f.held name text r → IsClosed
    closed_by _ (at_once r wrong) = absurd (is.unrefused r wrong)
    closed_by _ (on_trace trace n v here second is_model violates) = record {
      trace = trace;
      violation = v;
      is_trace = here;
      second = second;
      violates = subst (λ (k : ModelTree). IsOpeningViolation k v) (sym (is.only n is_model)) violates;
    }

    closed_so : IsNoModel (Some job) f.held → f.told ≡ true → IsClosed
    closed_so none tells = let x = same_text (λ j t. (r : Refusal) × IsRefusedFor f.held j t r) (refused_in f.held job none) tells in closed_by x.0 x.1

    -- a replay of these files is one of this model, with these units
    record IsHere (x : HasTrace f.held job text) (t : List ℕ) : Type 0 where
      pub same_trace : x.trace ≡ t
      pub same_units : x.units ≡ units
      pub same_model : x.model ≡ m

    trace_here : (x : HasTrace f.held job text) → IsTraceIn f.held name x.trace
    trace_here x = subst (λ (word : List ℕ). IsTraceIn f.held word x.trace) (sym (replay_words model name units x.model_word x.trace_word x.units x.is_replay).0) x.is_trace

    is_here : (x : HasTrace f.held job text) (t : List ℕ) → lookup f.held name ≡ Some t → IsHere x t
    is_here x t found = record {
      same_trace = some_is x.trace t (sym (trace_here x).held ∙ found);
      same_units = sym (replay_words model name units x.model_word x.trace_word x.units x.is_replay).1;
      same_model = sym (is.only x.model x.is_model);
    }

    told_here : (x : HasTrace f.held job text) (t : List ℕ) → lookup f.held name ≡ Some t → (Q : ModelTree → ℕ → List ℕ → Type 0) → Q x.model x.units x.trace → Q m units t
    told_here x t found Q holds =
        let here = is_here x t found in
        subst (λ (l : List ℕ). Q m units l) here.same_trace
        (subst (λ (n : ModelTree). Q n units x.trace) here.same_model
        (subst (λ (u : ℕ). Q x.model u x.trace) here.same_units holds))

    run_told : (e : Ending) → RunEnds (Some job) f.held e → f.told ≡ true → ToldEnds f.held job text e
    run_told e ends tells = told_replay e (same_text (λ j t. HasEnding f.held j t e) (run_in f.held job e ends) tells)
      where
        told_replay : (d : Ending) → HasEnding f.held job text d → ToldEnds f.held job text d
        told_replay d (of_choice x) = not_played text d x
        told_replay d (of_trace x) = x
        told_replay d (of_watches x) = unjudged f.held job text tt x.judged.on
        told_replay d (of_script x) = undriven f.held job text tt x.driven.on

    none_told : IsNoTrace (Some job) f.held → f.told ≡ true → TellsNoRun f.held job text
    none_told none tells = same_text (λ j t. TellsNoRun f.held j t) (none_in f.held job none) tells

    -- the trace was not read

    missing_trace : {X : Type 0} (t : List ℕ) → IsTraceIn f.held name t → lookup f.held name ≡ None → X
    missing_trace t here missing = let none : None ≡ Some t = sym missing ∙ here.held in cc

    long_trace : {X : Type 0} (t : List ℕ) → IsTraceIn f.held name t → Exceeds (lookup f.held name) trace_limit → X
    long_trace t here exceeds =
        let same : length t ≡ length exceeds.0 = ap (λ (l : List ℕ). length l) (some_is t exceeds.0 (sym here.held ∙ exceeds.1)) in
        absurd (omega (arith, same, here.short, exceeds.2))

    missing_replay : {X : Type 0} (x : HasTrace f.held job text) → lookup f.held name ≡ None → X
    missing_replay x missing = missing_trace x.trace (trace_here x) missing

    long_replay : {X : Type 0} (x : HasTrace f.held job text) → Exceeds (lookup f.held name) trace_limit → X
    long_replay x exceeds = long_trace x.trace (trace_here x) exceeds

    missing_closed : {X : Type 0} → IsClosed → lookup f.held name ≡ None → X
    missing_closed x missing = missing_trace x.trace x.is_trace missing

    long_closed : {X : Type 0} → IsClosed → Exceeds (lookup f.held name) trace_limit → X
    long_closed x exceeds = long_trace x.trace x.is_trace exceeds

    wants_fault : FilesFailedLast mid g ⊎ ((g.faults ≡ mid.faults) × LacksName mid name) → Wants (Some job) f g (read_fault_line name) ReadFault
    wants_fault cause = record {
      prints = λ tells unless. ⊎_elim (λ x. absurd (unless (refl, rose x))) (λ x. prints tells (same_held None x.1.1)) cause;
      fault = λ _ _. line;
      front = λ tells. ⊎_elim (λ x. inr (rose x, line)) (λ x. inl (prints tells (same_held None x.1.1))) cause;
      opens = opens;
      ends = promises.read_fault job (trace_file name) among;
      model_refused = λ _ is. cc;
      no_model = λ none tells unless. ⊎_elim (λ x. absurd (unless (refl, rose x))) (λ x. missing_closed (closed_so none tells) (same_held None x.1.1)) cause;
      deadlock = λ _ is. cc;
      model_fault = λ _ is. cc;
      choice_refused = λ _ is. cc;
      run_end = λ e ends tells unless. ⊎_elim (λ x. absurd (unless (refl, rose x))) (λ x. missing_replay (run_told e ends tells).replay (same_held None x.1.1)) cause;
      trace_refused = λ _ is. cc;
      no_trace = λ none tells unless. ⊎_elim (λ x. absurd (unless (refl, rose x))) (λ x. missing_replay (none_told none tells).replay (same_held None x.1.1)) cause;
      watch_broken = λ _ is. cc;
      broken_watch = λ breaks _ _. unbroken breaks;
      watch_refused = λ _ is. cc;
      script_refused = λ _ is. cc;
      no_watches = λ none _ _. no_lists none;
      no_script = λ none _ _. no_scripts none;
      trace_opened = λ tells _. accepted tells;
      too_long = λ is. cc;
      longer = λ _ is. cc;
      read_cause = λ _. ⊎_elim (λ x. inl (rose x)) (λ x. inr (sym was.told ∙ x.1.0, (trace_file name, among, same_held None x.1.1))) cause;
      reading = λ differ. ⊎_elim (λ x. (failed x, refl)) (λ x. absurd (differ (unfailed x.0))) cause;
    }
      where
        prints : f.told ≡ true → lookup f.held name ≡ None → Prints f.held (Some job) (read_fault_line name) ReadFault
        prints tells missing = printed (read_fault_line name) ReadFault tells
            (subst (λ (o : Option (List ℕ)). PrintsFile (trace_file name) (PrintsReplay units m) o (read_fault_line name) ReadFault) (sym missing) lacks)

        line : IsFaultLine (files_of (Some job)) f g (read_fault_line name)
        line = record { file = trace_file name; last = last; line = refl }

    wants_long : g.faults ≡ mid.faults → trace_limit < g.handed → (mid.told ≡ true → Exceeds (lookup mid.held name) trace_limit) → Wants (Some job) f g (too_long_line name) TooLong
    wants_long kept handed exceeds = record {
      prints = λ tells _. prints tells;
      fault = λ is _. cc;
      front = λ tells. inl (prints tells);
      opens = opens;
      ends = promises.too_long job (trace_file name) among;
      model_refused = λ _ is. cc;
      no_model = λ none tells _. long_closed (closed_so none tells) (long_here tells);
      deadlock = λ _ is. cc;
      model_fault = λ _ is. cc;
      choice_refused = λ _ is. cc;
      run_end = λ e ends tells _. long_replay (run_told e ends tells).replay (long_here tells);
      trace_refused = λ _ is. cc;
      no_trace = λ none tells _. long_replay (none_told none tells).replay (long_here tells);
      watch_broken = λ _ is. cc;
      broken_watch = λ breaks _ _. unbroken breaks;
      watch_refused = λ _ is. cc;
      script_refused = λ _ is. cc;
      no_watches = λ none _ _. no_lists none;
      no_script = λ none _ _. no_scripts none;
      trace_opened = λ tells _. accepted tells;
      too_long = λ _. (trace_file name, last, handed);
      longer = λ tells _. (trace_file name, among, long_here tells);
      read_cause = λ is. cc;
      reading = λ differ. absurd (differ (unfailed kept));
    }
      where
        long_here : f.told ≡ true → Exceeds (lookup f.held name) trace_limit
        long_here tells = let x = exceeds (told_mid tells) in (x.0, same_held (Some x.0) x.1, x.2)

        prints : f.told ≡ true → Prints f.held (Some job) (too_long_line name) TooLong
        prints tells =
            let x = long_here tells in
            printed (too_long_line name) TooLong tells
            (subst (λ (o : Option (List ℕ)). PrintsFile (trace_file name) (PrintsReplay units m) o (too_long_line name) TooLong) (sym x.1) (too_long x.0 x.2))

    module _ (t : List ℕ) (kept : g.faults ≡ mid.faults) (short : length t ≤ trace_limit) (held : mid.told ≡ true → lookup mid.held name ≡ Some t) where
      found : f.told ≡ true → lookup f.held name ≡ Some t
      found tells = same_held (Some t) (held (told_mid tells))

      is_trace : f.told ≡ true → IsTraceIn f.held name t
      is_trace tells = record { held = found tells; short = short }

      abbrev has_trace : OpensFor t m → f.told ≡ true → HasTrace f.held job text
      has_trace asked tells = record { model_word = model; trace_word = name; units = units; is_replay = refl; trace = t; is_trace = is_trace tells; model = m; is_model = is.is_model; opens = asked }

      tells_none : OpensFor t m → (TellsRun m units t → ⊥) → Outcome f job text TraceRefused
      tells_none asked none = no_trace (promises.trace_refused model name units) (λ tells. record { replay = has_trace asked tells; no_run = none })

      -- a run that it tells is of the one form that it tells
      only_form : HasOneForm t → (form : Form) → HasHeader form t → (IsTrace (setting_with m form units) t → ⊥) → TellsRun m units t → ⊥
      only_form one form is_told none x = none (subst (λ (f : Form). IsTrace (setting_with m f units) t) (one x.form form x.is_told is_told) x.run)

      replay_outcome : HasOneForm t → (form : Form) → HasHeader form t → OpensFor t m → (bytes : List ℕ) (outcome : Replayed) (end : Simulation) → Replays (setting_with m form units) t bytes outcome end → Outcome f job text (replay_status outcome)
      replay_outcome one form is_told asked _ _ _ (accepts run) =
          run_ended (run_ending run.ending) (told_can model name units run.ending) (λ tells. of_trace (record { replay = has_trace asked tells; tells = record { form = form; is_told = is_told; run = run }; ends = refl }))
      replay_outcome one form is_told asked _ _ _ (refuses lines rest stage expected now differs are is leads expects at) =
          tells_none asked (only_form one form is_told differs.no_run)

      trace_outcome : HasOneForm t → (bytes : List ℕ) (wanted : Status) → PrintsReplay units m t bytes wanted → Outcome f job text wanted
      trace_outcome one _ _ (closed v second violates) =
          outcomes.no_model (refusal.Violates v) (λ tells. on_trace t m v (is_trace tells) second is.is_model violates)
      trace_outcome one _ _ (no_header opens none) = tells_none (λ _. opens) (λ x. none x.form x.is_told)
      trace_outcome one _ _ (replays form bytes outcome end is_told asked is) = replay_outcome one form is_told asked bytes outcome end is

      wants_trace : (bytes : List ℕ) (wanted : Status) → PrintsTrace units m t bytes wanted → Wants (Some job) f g bytes wanted
      wants_trace bytes wanted x = record {
        prints = λ tells _. prints tells;
        fault = λ is _. absurd (end.no_fault is);
        front = λ tells. inl (prints tells);
        opens = opens;
        ends = end.can;
        model_refused = end.model_refused;
        no_model = λ none tells _. closed_here (closed_so none tells) tells;
        deadlock = end.deadlock;
        model_fault = end.model_fault;
        choice_refused = end.choice_refused;
        run_end = λ e ends tells _. same_end e (run_told e ends tells) tells;
        trace_refused = end.trace_refused;
        no_trace = λ none tells _. none_here (none_told none tells) tells;
        watch_broken = end.watch_broken;
        broken_watch = λ breaks _ _. unbroken breaks;
        watch_refused = end.watch_refused;
        script_refused = end.script_refused;
        no_watches = λ none _ _. no_lists none;
        no_script = λ none _ _. no_scripts none;
        trace_opened = λ tells _. accepted tells;
        too_long = λ is. absurd (end.not_long is);
        longer = λ _ is. absurd (end.not_long is);
        read_cause = λ is. absurd (end.no_fault is);
        reading = λ differ. absurd (differ (unfailed kept));
      }
        where
          prints : f.told ≡ true → Prints f.held (Some job) bytes wanted
          prints tells = printed bytes wanted tells
              (subst (λ (o : Option (List ℕ)). PrintsFile (trace_file name) (PrintsReplay units m) o bytes wanted) (sym (found tells)) (reads t bytes wanted short x.prints))

          end : EndsText job tt text f text_for wanted
          end = ends_text job tt text f text_for wanted (trace_outcome x.one_form bytes wanted x.prints)

          same_end : (e : Ending) → ToldEnds f.held job text e → f.told ≡ true → wanted ≡ status_of e
          same_end e y tells =
              let told = told_here y.replay t (found tells) (λ n u l. OpensFor l n × ((z : TellsRun n u l) × (run_ending z.run.ending ≡ e))) (y.replay.opens, (y.tells, y.ends)) in
              x.only told.0 told.1.0 ∙ ap status_of told.1.1

          none_here : TellsNoRun f.held job text → f.told ≡ true → wanted ≡ TraceRefused
          none_here y tells =
              let told = told_here y.replay t (found tells) (λ n u l. OpensFor l n × (TellsRun n u l → ⊥)) (y.replay.opens, y.no_run) in
              x.no_run told.0 told.1

          closed_here : IsClosed → f.told ≡ true → wanted ≡ ModelRefused
          closed_here y tells = x.closed y.violation (subst IsOfSecondEdition (some_is y.trace t (sym y.is_trace.held ∙ found tells)) y.second) y.violates

    module _ (before now : SinkState) (given : Status) where
      keeps_none : g.faults ≡ mid.faults → NothingWritten before now given → KeepsPromises (Some job) f g before now given
      keeps_none kept none = keeps_nothing (Some job) f g before now given (opens given) (λ tells _. accepted tells) (unfailed kept) none

      keeps_trace : (t : List ℕ) → g.faults ≡ mid.faults → length t ≤ trace_limit → (mid.told ≡ true → lookup mid.held name ≡ Some t) → Answers (PrintsTrace units m t) before now given → KeepsPromises (Some job) f g before now given
      keeps_trace t kept short held (inl none) = keeps_none kept none
      keeps_trace t kept short held (inr says) = keeps (Some job) f g before now says.bytes says.wanted given (wants_trace t kept short held says.bytes says.wanted says.prints) says.said

      keeps_outcome : FileOutcome (trace_file name) (PrintsTrace units m) mid g before now given → KeepsPromises (Some job) f g before now given
      keeps_outcome (wanting kept none) = keeps_none kept none
      keeps_outcome (fault cause said) = keeps (Some job) f g before now (read_fault_line name) ReadFault given (wants_fault cause) said
      keeps_outcome (long kept handed exceeds said) = keeps (Some job) f g before now (too_long_line name) TooLong given (wants_long kept handed exceeds) said
      keeps_outcome (whole t kept short held answers) = keeps_trace t kept short held answers

pub keeps_replay : (f g : FilesState) (before now : SinkState) (given : Status) (model name : List ℕ) (units : ℕ)
    → ReplaysFiles model name units f g before now given → KeepsPromises (Some (Replay model name units)) f g before now given
keeps_replay f g before now given model name units (no_model reading) = keeps_file (Replay model name units) model PrintsRefusal (refuses_file model name units) f g before now given reading
keeps_replay f g before now given model name units (reads_on mid text m was is reading) = keeps_outcome model name units f mid g text m was is reading.opened reading.names before now given reading.outcome
