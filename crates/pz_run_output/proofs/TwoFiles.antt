-- The promises of a job from what was done with its two files: that of a model, which has to open, and a
-- second one.
use Rattle.std.proofs.Common.{◌≡◌, ◌⊎◌, inl, inr, ⊎_elim, ◌∙◌, ◌<◌, ◌≤◌, ℕ, List, [], ◌∷◌, ◌++◌, true, Option, Some, None, length, refl, sym, subst, ap, arith, append_assoc}
use Rattle.std.specs.Prelude.{Contains}
use Rattle.pz_io.specs.Outside.{Entries, FilesState, SinkState, lookup, raised, Rose, LacksName, FilesFailedLast, Exceeds}
use Rattle.pz_bind.specs.pz_syntax.Classes.{ModelTree}
use Rattle.pz_trace.specs.pz_rules.Runs.{Ending}
use Rattle.pz_words.specs.declared.jobs.Job.{Job}
use Rattle.pz_run_lines.specs.pz_run_reading.declared.refusal.Refusal.{Refusal}
use Rattle.pz_run_lines.specs.pz_run_reading.Openings.{IsOpenModelOf, IsRefusedToOpen}
use Rattle.pz_run_lines.specs.Lines.{read_fault_line, too_long_line}
use Rattle.pz_run_output.specs.Limits.{model_limit}
use Rattle.pz_run_output.specs.declared.status.Status.{Status}
use Rattle.pz_run_output.specs.declared.status.Status.TheVariants.{ModelRefused, TooLong, ReadFault, WatchBroken, WatchRefused, ScriptRefused}
use Rattle.pz_run_output.specs.Files.{JobFile, model_file, files_of}
use Rattle.pz_run_output.specs.Status.{status_of}
use Rattle.pz_run_output.specs.Output.{PrintsFile, lacks, too_long, reads, PrintsModel, refuses, of_model, PrintsModelFile, PrintsJob, Prints, does}
use Rattle.pz_run_output.specs.Promises.{Opens, OpensFiles, OpensLast, HasModel, model_name, IsRefusedFor, IsNoModel, HasModelText, IsTextFor, of_file, HasTrace, HasEnding, RunEnds, IsNoTrace, BreaksWatch, RefusesWatches, RefusesScript, IsBrokenAt, IsNoWatches, IsNoScript}
use Rattle.pz_run_output.specs.Promises as promises
use Rattle.pz_run_output.specs.devices.Keeping.{KeepsPromises}
use Rattle.pz_run_output.specs.devices.TwoFiles.{PrintsClosed, closed, IsOnlyOpen, AnswersFiles, no_model, reads_on}
use Rattle.pz_run_output.specs.devices.Reading.{FileOutcome, wanting, fault, long, whole}
use Rattle.pz_run_output.specs.devices.Replaying.{WasRead}
use Rattle.pz_run_output.specs.devices.Saying.{NothingWritten, Answers}
use Rattle.pz_run_output.proofs.OneEnd.{some_is}
use Rattle.pz_run_output.proofs.Outcomes.{Outcome, EndsText, ends_text, text_in, OfText, run_in, none_in, refused_in, broken_in, no_list_in, no_script_in}
use Rattle.pz_run_output.proofs.Outcomes as outcomes
use Rattle.pz_run_output.proofs.Keeps.{raised_rose, IsFaultLine, Wants, keeps, keeps_nothing}
use Rattle.pz_run_output.proofs.OneFiles.{OneFile, keeps_file}
use Rattle.pz_run_output.proofs.OfJobs.{file_lacks, file_long, file_read}

-- a model of a text that opens, and the second file, within its limit
pub record OnSecond (second : JobFile) (held : Entries) (text : List ℕ) : Type 0 where
  pub model : ModelTree
  pub is_model : IsOpenModelOf text model
  pub file : List ℕ
  pub there : lookup held second.name ≡ Some file
  pub short : length file ≤ second.limit

-- what is said of the job: P is to be printed, and Q says that with the one status that goes with it
pub record TwoFiles (job : Job) (model : List ℕ) (second : JobFile) (P Q : ModelTree → List ℕ → List ℕ → Status → Type 0) : Type 0 where
  pub files : files_of (Some job) ≡ model_file model ∷ second ∷ []
  pub has : HasModel job
  pub named : model_name job ≡ Some model
  pub refuses_so : (held : Entries) (text : List ℕ) (r : Refusal) → IsRefusedToOpen text r → IsRefusedFor held job text r
  pub refused_so : (held : Entries) (text : List ℕ) (r : Refusal) → IsRefusedFor held job text r → IsRefusedToOpen text r
  pub prints_job : (held : Entries) (bytes : List ℕ) (status : Status) → PrintsModelFile held model (λ m. PrintsFile second (P m) (lookup held second.name)) bytes status → PrintsJob held job bytes status
  pub prints : (m : ModelTree) (file bytes : List ℕ) (status : Status) → Q m file bytes status → P m file bytes status
  pub outcome : (f : FilesState) (text : List ℕ) (m : ModelTree) (file : List ℕ) → IsOpenModelOf text m → (f.told ≡ true → lookup f.held second.name ≡ Some file) → length file ≤ second.limit
      → (bytes : List ℕ) (status : Status) → Q m file bytes status → Outcome f job text status
  pub run_on : (held : Entries) (text : List ℕ) (e : Ending) → HasEnding held job text e → OnSecond second held text
  pub broken_on : (held : Entries) (text : List ℕ) → BreaksWatch held job text → OnSecond second held text
  pub list_on : (held : Entries) (text : List ℕ) → RefusesWatches held job text → OnSecond second held text
  pub script_on : (held : Entries) (text : List ℕ) → RefusesScript held job text → OnSecond second held text
  pub only : (held : Entries) (text : List ℕ) (m : ModelTree) (file : List ℕ) → IsOnlyOpen text m → lookup held second.name ≡ Some file
      → (bytes : List ℕ) (status : Status) → Q m file bytes status → (e : Ending) → HasEnding held job text e → status ≡ status_of e
  pub breaks : (held : Entries) (text : List ℕ) (m : ModelTree) (file : List ℕ) → IsOnlyOpen text m → lookup held second.name ≡ Some file
      → (bytes : List ℕ) (status : Status) → Q m file bytes status → BreaksWatch held job text → status ≡ WatchBroken
  pub no_list : (held : Entries) (text : List ℕ) (m : ModelTree) (file : List ℕ) → IsOnlyOpen text m → lookup held second.name ≡ Some file
      → (bytes : List ℕ) (status : Status) → Q m file bytes status → RefusesWatches held job text → status ≡ WatchRefused
  pub no_script : (held : Entries) (text : List ℕ) (m : ModelTree) (file : List ℕ) → IsOnlyOpen text m → lookup held second.name ≡ Some file
      → (bytes : List ℕ) (status : Status) → Q m file bytes status → RefusesScript held job text → status ≡ ScriptRefused
  pub untold : (held : Entries) (text : List ℕ) → HasTrace held job text → ⊥

closed_lacks : {X : Type 0} (text bytes : List ℕ) (status : Status) (m : ModelTree) → PrintsClosed text bytes status → IsOpenModelOf text m → X
closed_lacks text _ _ m (closed r is none) model = absurd (none m model)

closed_is : (text bytes : List ℕ) (status : Status) → PrintsClosed text bytes status → status ≡ ModelRefused
closed_is text _ _ (closed r is none) = refl

module _ (job : Job) (model : List ℕ) (second : JobFile) (P Q : ModelTree → List ℕ → List ℕ → Status → Type 0) (two : TwoFiles job model second P Q) where
  -- ---- where the model was refused or its file not read

  abbrev OfModel : Entries → ModelTree → List ℕ → Status → Type 0
  OfModel held m = PrintsFile second (P m) (lookup held second.name)

  closed_outcome : (f : FilesState) (text bytes : List ℕ) (status : Status) → PrintsClosed text bytes status → Outcome f job text status
  closed_outcome f text _ _ (closed r is none) = outcomes.no_model r (λ _. two.refuses_so f.held text r is)

  closed_printed : (held : Entries) (text bytes : List ℕ) (status : Status) → lookup held model ≡ Some text → length text ≤ model_limit → PrintsClosed text bytes status → PrintsJob held job bytes status
  closed_printed held text bytes status is short prints = two.prints_job held bytes status (file_read held model (PrintsModel (OfModel held)) text bytes status is short (refused_as bytes status prints))
    where
      refused_as : (b : List ℕ) (s : Status) → PrintsClosed text b s → PrintsModel (OfModel held) text b s
      refused_as _ _ (closed r wrong none) = refuses r wrong

  closes_file : OneFile job model PrintsClosed
  closes_file = record {
    more = second ∷ [];
    files = two.files;
    has = two.has;
    named = two.named;
    lacks = λ held missing. two.prints_job held (read_fault_line model) ReadFault (file_lacks held model (PrintsModel (OfModel held)) missing);
    long = λ held text is exceeds. two.prints_job held (too_long_line model) TooLong (file_long held model (PrintsModel (OfModel held)) text is exceeds);
    reads = closed_printed;
    outcome = closed_outcome;
    only = λ held text bytes status prints e ends. let x = two.run_on held text e ends in closed_lacks text bytes status x.model prints x.is_model;
    no_run = λ held text bytes status prints none. absurd (two.untold held text none.replay);
    breaks = λ held text bytes status prints y. let x = two.broken_on held text y in closed_lacks text bytes status x.model prints x.is_model;
    no_list = λ held text bytes status prints none. let x = two.list_on held text none in closed_lacks text bytes status x.model prints x.is_model;
    no_script = λ held text bytes status prints none. let x = two.script_on held text none in closed_lacks text bytes status x.model prints x.is_model;
    refused = λ held text bytes status prints _ _. closed_is text bytes status prints;
  }

  -- ---- where the model was accepted

  module _ (f mid g : FilesState) (text : List ℕ) (m : ModelTree) (was : WasRead (model_file model) text f mid) (is : IsOnlyOpen text m) (opened : g.opens ≡ raised mid.opens) (names : g.opened ≡ mid.opened ++ (second.name ∷ [])) where
    twice : Opens (model_file model ∷ second ∷ []) 2 f g
    twice = record {
      names = names ∙ ap (λ (l : List (List ℕ)). l ++ (second.name ∷ [])) was.names ∙ append_assoc f.opened (model ∷ []) (second.name ∷ []);
      counted = opened ∙ ap raised was.opened;
    }

    opens : (s : Status) → OpensFiles (files_of (Some job)) f g s
    opens s = subst (λ (files : List JobFile). OpensFiles files f g s) (sym two.files) (record { count = 2; within = omega arith; first = λ _ _. omega arith; opens = twice })

    last : OpensLast (files_of (Some job)) f g second
    last = subst (λ (files : List JobFile). OpensLast files f g second) (sym two.files) (record { place = 1; is = refl; opens = twice })

    among : Contains (files_of (Some job)) second
    among = subst (λ (files : List JobFile). Contains files second) (sym two.files) (1, omega arith, refl)

    text_for : f.told ≡ true → IsTextFor f.held job text
    text_for tells = of_file job model text two.named (was.content tells) was.short

    accepted : f.told ≡ true → HasModelText (Some job) f.held
    accepted tells = record { job = job; is_asked = refl; text = text; is_text = text_for tells; model = m; is_model = is.is_model.is_model; opens = λ _. is.is_model.opens }

    -- in the files at the start, and in those at which the second was opened

    told_mid : f.told ≡ true → mid.told ≡ true
    told_mid tells = was.told ∙ tells

    same_held : (o : Option (List ℕ)) → lookup mid.held second.name ≡ o → lookup f.held second.name ≡ o
    same_held o found = subst (λ (held : Entries). lookup held second.name ≡ o) was.held found

    failed : FilesFailedLast mid g → FilesFailedLast f g
    failed x = (x.0 ∙ ap raised was.faults, x.1)

    rose : FilesFailedLast mid g → Rose f.faults g.faults
    rose x = raised_rose f.faults g.faults (failed x).0

    unfailed : g.faults ≡ mid.faults → g.faults ≡ f.faults
    unfailed same = same ∙ was.faults

    printed : (bytes : List ℕ) (status : Status) → f.told ≡ true → OfModel f.held m bytes status → Prints f.held (Some job) bytes status
    printed bytes status tells prints =
        does job bytes status (two.prints_job f.held bytes status
        (file_read f.held model (PrintsModel (OfModel f.held)) text bytes status (was.content tells) was.short (of_model m bytes status is.is_model prints)))

    -- the text of whichever model that is asked for
    same_text : (R : Job → List ℕ → Type 0) → OfText f.held job R → f.told ≡ true → R job text
    same_text R x tells =
        let there = text_in f.held job x.text x.is_text model two.named in
        subst (λ (t : List ℕ). R job t) (some_is x.text text (sym there.held ∙ was.content tells)) x.holds

    -- the model is accepted
    unrefused : {X : Type 0} → IsNoModel (Some job) f.held → f.told ≡ true → X
    unrefused none tells =
        let x = same_text (λ j t. (r : Refusal) × IsRefusedFor f.held j t r) (refused_in f.held job none) tells in
        absurd (is.unrefused x.0 (two.refused_so f.held text x.0 x.1))

    untold : {X : Type 0} → IsNoTrace (Some job) f.held → X
    untold none = let x = none_in f.held job none in absurd (two.untold f.held x.text x.holds.replay)

    run_here : (e : Ending) → RunEnds (Some job) f.held e → f.told ≡ true → HasEnding f.held job text e
    run_here e ends tells = same_text (λ j t. HasEnding f.held j t e) (run_in f.held job e ends) tells

    broken_here : IsBrokenAt (Some job) f.held → f.told ≡ true → BreaksWatch f.held job text
    broken_here y tells = same_text (λ j t. BreaksWatch f.held j t) (broken_in f.held job y) tells

    list_here : IsNoWatches (Some job) f.held → f.told ≡ true → RefusesWatches f.held job text
    list_here none tells = same_text (λ j t. RefusesWatches f.held j t) (no_list_in f.held job none) tells

    script_here : IsNoScript (Some job) f.held → f.told ≡ true → RefusesScript f.held job text
    script_here none tells = same_text (λ j t. RefusesScript f.held j t) (no_script_in f.held job none) tells

    -- the second file was not read

    missing_file : {X : Type 0} → OnSecond second f.held text → lookup f.held second.name ≡ None → X
    missing_file x missing = let none : None ≡ Some x.file = sym missing ∙ x.there in cc

    long_file : {X : Type 0} → OnSecond second f.held text → Exceeds (lookup f.held second.name) second.limit → X
    long_file x exceeds =
        let same : length x.file ≡ length exceeds.0 = ap (λ (l : List ℕ). length l) (some_is x.file exceeds.0 (sym x.there ∙ exceeds.1)) in
        absurd (omega (arith, same, x.short, exceeds.2))

    -- on what whatever is asked stands, in which the second file is
    abbrev OnFile : Type 0
    OnFile = f.told ≡ true → OnSecond second f.held text

    wants_fault : FilesFailedLast mid g ⊎ ((g.faults ≡ mid.faults) × LacksName mid second.name) → Wants (Some job) f g (read_fault_line second.name) ReadFault
    wants_fault cause = record {
      prints = λ tells unless. ⊎_elim (λ x. absurd (unless (refl, rose x))) (λ x. prints tells (same_held None x.1.1)) cause;
      fault = λ _ _. line;
      front = λ tells. ⊎_elim (λ x. inr (rose x, line)) (λ x. inl (prints tells (same_held None x.1.1))) cause;
      opens = opens;
      ends = promises.read_fault job second among;
      model_refused = λ _ is. cc;
      no_model = λ none tells _. unrefused none tells;
      deadlock = λ _ is. cc;
      model_fault = λ _ is. cc;
      choice_refused = λ _ is. cc;
      run_end = λ e ends tells unless. lacking (λ told. two.run_on f.held text e (run_here e ends told)) tells unless;
      trace_refused = λ _ is. cc;
      no_trace = λ none _ _. untold none;
      watch_broken = λ _ is. cc;
      broken_watch = λ y tells unless. lacking (λ told. two.broken_on f.held text (broken_here y told)) tells unless;
      watch_refused = λ _ is. cc;
      no_watches = λ none tells unless. lacking (λ told. two.list_on f.held text (list_here none told)) tells unless;
      script_refused = λ _ is. cc;
      no_script = λ none tells unless. lacking (λ told. two.script_on f.held text (script_here none told)) tells unless;
      trace_opened = λ tells _. accepted tells;
      too_long = λ is. cc;
      longer = λ _ is. cc;
      read_cause = λ _. ⊎_elim (λ x. inl (rose x)) (λ x. inr (sym was.told ∙ x.1.0, (second, among, same_held None x.1.1))) cause;
      reading = λ differ. ⊎_elim (λ x. (failed x, refl)) (λ x. absurd (differ (unfailed x.0))) cause;
    }
      where
        prints : f.told ≡ true → lookup f.held second.name ≡ None → Prints f.held (Some job) (read_fault_line second.name) ReadFault
        prints tells missing = printed (read_fault_line second.name) ReadFault tells
            (subst (λ (o : Option (List ℕ)). PrintsFile second (P m) o (read_fault_line second.name) ReadFault) (sym missing) lacks)

        line : IsFaultLine (files_of (Some job)) f g (read_fault_line second.name)
        line = record { file = second; last = last; line = refl }

        lacking : {X : Type 0} → OnFile → f.told ≡ true → ¬ ((ReadFault ≡ ReadFault) × Rose f.faults g.faults) → X
        lacking on tells unless = ⊎_elim (λ x. absurd (unless (refl, rose x))) (λ x. missing_file (on tells) (same_held None x.1.1)) cause

    wants_long : g.faults ≡ mid.faults → second.limit < g.handed → (mid.told ≡ true → Exceeds (lookup mid.held second.name) second.limit) → Wants (Some job) f g (too_long_line second.name) TooLong
    wants_long same handed exceeds = record {
      prints = λ tells _. prints tells;
      fault = λ is _. cc;
      front = λ tells. inl (prints tells);
      opens = opens;
      ends = promises.too_long job second among;
      model_refused = λ _ is. cc;
      no_model = λ none tells _. unrefused none tells;
      deadlock = λ _ is. cc;
      model_fault = λ _ is. cc;
      choice_refused = λ _ is. cc;
      run_end = λ e ends tells _. long_file (two.run_on f.held text e (run_here e ends tells)) (long_here tells);
      trace_refused = λ _ is. cc;
      no_trace = λ none _ _. untold none;
      watch_broken = λ _ is. cc;
      broken_watch = λ y tells _. long_file (two.broken_on f.held text (broken_here y tells)) (long_here tells);
      watch_refused = λ _ is. cc;
      no_watches = λ none tells _. long_file (two.list_on f.held text (list_here none tells)) (long_here tells);
      script_refused = λ _ is. cc;
      no_script = λ none tells _. long_file (two.script_on f.held text (script_here none tells)) (long_here tells);
      trace_opened = λ tells _. accepted tells;
      too_long = λ _. (second, last, handed);
      longer = λ tells _. (second, among, long_here tells);
      read_cause = λ is. cc;
      reading = λ differ. absurd (differ (unfailed same));
    }
      where
        long_here : f.told ≡ true → Exceeds (lookup f.held second.name) second.limit
        long_here tells = let x = exceeds (told_mid tells) in (x.0, same_held (Some x.0) x.1, x.2)

        prints : f.told ≡ true → Prints f.held (Some job) (too_long_line second.name) TooLong
        prints tells =
            let x = long_here tells in
            printed (too_long_line second.name) TooLong tells
            (subst (λ (o : Option (List ℕ)). PrintsFile second (P m) o (too_long_line second.name) TooLong) (sym x.1) (too_long x.0 x.2))

    module _ (t : List ℕ) (same : g.faults ≡ mid.faults) (short : length t ≤ second.limit) (held : mid.told ≡ true → lookup mid.held second.name ≡ Some t) where
      found : f.told ≡ true → lookup f.held second.name ≡ Some t
      found tells = same_held (Some t) (held (told_mid tells))

      wants_file : (bytes : List ℕ) (wanted : Status) → Q m t bytes wanted → Wants (Some job) f g bytes wanted
      wants_file bytes wanted x = record {
        prints = λ tells _. prints tells;
        fault = λ is _. absurd (end.no_fault is);
        front = λ tells. inl (prints tells);
        opens = opens;
        ends = end.can;
        model_refused = end.model_refused;
        no_model = λ none tells _. unrefused none tells;
        deadlock = end.deadlock;
        model_fault = end.model_fault;
        choice_refused = end.choice_refused;
        run_end = λ e ends tells _. two.only f.held text m t is (found tells) bytes wanted x e (run_here e ends tells);
        trace_refused = end.trace_refused;
        no_trace = λ none _ _. untold none;
        watch_broken = end.watch_broken;
        broken_watch = λ y tells _. two.breaks f.held text m t is (found tells) bytes wanted x (broken_here y tells);
        watch_refused = end.watch_refused;
        no_watches = λ none tells _. two.no_list f.held text m t is (found tells) bytes wanted x (list_here none tells);
        script_refused = end.script_refused;
        no_script = λ none tells _. two.no_script f.held text m t is (found tells) bytes wanted x (script_here none tells);
        trace_opened = λ tells _. accepted tells;
        too_long = λ is. absurd (end.not_long is);
        longer = λ _ is. absurd (end.not_long is);
        read_cause = λ is. absurd (end.no_fault is);
        reading = λ differ. absurd (differ (unfailed same));
      }
        where
          prints : f.told ≡ true → Prints f.held (Some job) bytes wanted
          prints tells = printed bytes wanted tells
              (subst (λ (o : Option (List ℕ)). PrintsFile second (P m) o bytes wanted) (sym (found tells)) (reads t bytes wanted short (two.prints m t bytes wanted x)))

          end : EndsText job two.has text f text_for wanted
          end = ends_text job two.has text f text_for wanted (two.outcome f text m t is.is_model found short bytes wanted x)

    module _ (before now : SinkState) (given : Status) where
      keeps_none : g.faults ≡ mid.faults → NothingWritten before now given → KeepsPromises (Some job) f g before now given
      keeps_none same none = keeps_nothing (Some job) f g before now given (opens given) (λ tells _. accepted tells) (unfailed same) none

      keeps_text : (t : List ℕ) → g.faults ≡ mid.faults → length t ≤ second.limit → (mid.told ≡ true → lookup mid.held second.name ≡ Some t) → Answers (Q m t) before now given → KeepsPromises (Some job) f g before now given
      keeps_text t same short held (inl none) = keeps_none same none
      keeps_text t same short held (inr says) = keeps (Some job) f g before now says.bytes says.wanted given (wants_file t same short held says.bytes says.wanted says.prints) says.said

      keeps_outcome : FileOutcome second (Q m) mid g before now given → KeepsPromises (Some job) f g before now given
      keeps_outcome (wanting same none) = keeps_none same none
      keeps_outcome (fault cause said) = keeps (Some job) f g before now (read_fault_line second.name) ReadFault given (wants_fault cause) said
      keeps_outcome (long same handed exceeds said) = keeps (Some job) f g before now (too_long_line second.name) TooLong given (wants_long same handed exceeds) said
      keeps_outcome (whole t same short held answers) = keeps_text t same short held answers

  pub keeps_two : (f g : FilesState) (before now : SinkState) (given : Status) → AnswersFiles model second Q f g before now given → KeepsPromises (Some job) f g before now given
  keeps_two f g before now given (no_model reading) = keeps_file job model PrintsClosed closes_file f g before now given reading
  keeps_two f g before now given (reads_on mid text m was is reading) = keeps_outcome f mid g text m was is reading.opened reading.names before now given reading.outcome
