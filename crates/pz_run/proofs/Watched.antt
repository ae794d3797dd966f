-- The promises of a run that watches judge.
use Rattle.std.proofs.Common.{◌≡◌, ◌∙◌, ◌≤◌, ℕ, List, true, Some, length, refl, sym, subst, ap}
use Rattle.pz_io.specs.Outside.{Entries, FilesState, SinkState, lookup}
use Rattle.pz_bind.specs.pz_syntax.Classes.{ModelTree}
use Rattle.pz_run_output.specs.pz_trace.pz_rules.Runs.{Ending}
use Rattle.pz_words.specs.declared.jobs.Choice.{Choice}
use Rattle.pz_words.specs.declared.jobs.RunLimits.{RunLimits}
use Rattle.pz_words.specs.declared.jobs.Job.{Job}
use Rattle.pz_words.specs.declared.jobs.Job.TheVariants.{Replay, Watch}
use Rattle.pz_run_output.specs.pz_lines.Identifiers.{is_identifier}
use Rattle.pz_watch.specs.Files.{NamedFormula, AreWatches, IsRefusedAt}
use Rattle.pz_watch.specs.Breaking.{AreBroken}
use Rattle.pz_run_output.specs.pz_env_closing.pz_watch_points.EventPoints.{points_of}
use Rattle.pz_run_output.specs.pz_run_lines.pz_run_reading.Openings.{IsOpenModelOf}
use Rattle.pz_run_output.specs.Limits.{watch_limit}
use Rattle.pz_run_output.specs.declared.play.Play.{Play}
use Rattle.pz_run_output.specs.declared.status.Status.{Status}
use Rattle.pz_run_output.specs.declared.status.Status.TheVariants.{Done, WatchBroken, WatchRefused}
use Rattle.pz_run_output.specs.Files.{watch_file}
use Rattle.pz_run_output.specs.Plays.{play_of, judged_play, RunOf}
use Rattle.pz_run_output.specs.Status.{status_of, IsJudgedAs, broken, kept}
use Rattle.pz_run_output.specs.Output.{PrintsJudged, no_watches, judges}
use Rattle.pz_run_output.specs.Promises.{ChosenEnds, HasTrace, HasEnding, of_choice, of_trace, of_watches, of_script, HasWatches, IsJudged, JudgedEnds, BreaksWatch, RefusesWatches}
use Rattle.pz_run_output.specs.Promises as promises
use Rattle.pz_run_output.specs.devices.Keeping.{KeepsPromises}
use Rattle.pz_run_output.specs.devices.TwoFiles.{IsOnlyOpen, AnswersFiles}
use Rattle.pz_run.specs.devices.Judging.{PrintsWatches}
use Rattle.pz_run_output.proofs.OneEnd.{some_is}
use Rattle.pz_run_output.proofs.Outcomes.{judged_can, Outcome, run_ended, watch_broken, watch_refused, undriven}
use Rattle.pz_run_output.proofs.TwoFiles.{OnSecond, TwoFiles, keeps_two}

watch_words : (model name : List ℕ) (choice : Choice) (limits : RunLimits) (model' other : List ℕ) (choice' : Choice) (limits' : RunLimits)
    → Watch model name choice limits ≡ Watch model' other choice' limits' → (name ≡ other) × (choice ≡ choice') × (limits ≡ limits')
watch_words model name choice limits model' other choice' limits' same = (cc, cc, cc)

module _ (model name : List ℕ) (choice : Choice) (limits : RunLimits) where
  abbrev job : Job
  job = Watch model name choice limits

  abbrev p : Play
  p = judged_play choice limits

  not_played : {X : Type 0} (text : List ℕ) (e : Ending) → ChosenEnds job text e → X
  not_played text e x = let none : play_of (Watch model name choice limits) ≡ Some x.play = x.is_play in cc

  not_told : {X : Type 0} (held : Entries) (text : List ℕ) → HasTrace held job text → X
  not_told held text x = let same : Watch model name choice limits ≡ Replay x.model_word x.trace_word x.units = x.is_replay in cc

  judged_end : (held : Entries) (text : List ℕ) (e : Ending) → HasEnding held job text e → JudgedEnds held job text e
  judged_end held text e (of_choice x) = not_played text e x
  judged_end held text e (of_trace x) = not_told held text x.replay
  judged_end held text e (of_watches x) = x
  judged_end held text e (of_script x) = undriven held job text tt x.driven.on

  -- ---- the watches are those of the file of this name, on this model

  module _ (held : Entries) (text : List ℕ) where
    file_here : (x : HasWatches held job text) → lookup held name ≡ Some x.file
    file_here x = subst (λ (word : List ℕ). lookup held word ≡ Some x.file) (sym (watch_words model name choice limits x.model_word x.watch_word x.choice x.limits x.is_watch).0) x.held

    on_second : HasWatches held job text → OnSecond (watch_file name) held text
    on_second x = record { model = x.model; is_model = x.is_model; file = x.file; there = file_here x; short = x.short }

    module _ (m : ModelTree) (t : List ℕ) (is : IsOnlyOpen text m) (found : lookup held name ≡ Some t) where
      judged_here : (x : HasWatches held job text) (Q : Choice → RunLimits → ModelTree → List ℕ → Type 0) → Q x.choice x.limits x.model x.file → Q choice limits m t
      judged_here x Q holds =
          let words = watch_words model name choice limits x.model_word x.watch_word x.choice x.limits x.is_watch in
          subst (λ (l : List ℕ). Q choice limits m l) (some_is x.file t (sym (file_here x) ∙ found))
          (subst (λ (n : ModelTree). Q choice limits n x.file) (sym (is.only x.model x.is_model))
          (subst (λ (l : RunLimits). Q choice l x.model x.file) (sym words.2)
          (subst (λ (c : Choice). Q c x.limits x.model x.file) (sym words.1) holds)))

      module _ (bytes : List ℕ) (wanted : Status) (x : PrintsWatches p m t bytes wanted) where
        same_end : (e : Ending) → JudgedEnds held job text e → wanted ≡ status_of e
        same_end e y =
            let told = judged_here y.judged.on
            (λ c l n file. (ws : List NamedFormula) × ((run : RunOf (judged_play c l) n) × (AreWatches is_identifier file ws × ((run.ending ≡ e) × (status_of e ≡ Done → AreBroken ws (points_of n run.events) → ⊥)))))
            (y.judged.watches, (y.judged.run, (y.judged.are_watches, (y.ends, y.kept)))) in
            let run = told.1.0 in
            let ends = told.1.1.1.0 in
            x.only told.0 run told.1.1.0 (λ done. told.1.1.1.1 (sym (ap status_of ends) ∙ done)) ∙ ap status_of ends

        broken_here : BreaksWatch held job text → wanted ≡ WatchBroken
        broken_here y =
            let told = judged_here y.judged.on
            (λ c l n file. (ws : List NamedFormula) × ((run : RunOf (judged_play c l) n) × (AreWatches is_identifier file ws × ((status_of run.ending ≡ Done) × AreBroken ws (points_of n run.events)))))
            (y.judged.watches, (y.judged.run, (y.judged.are_watches, (y.done, y.broken)))) in
            x.breaks told.0 told.1.0 told.1.1.0 told.1.1.1.0 told.1.1.1.1

        refused_here : RefusesWatches held job text → wanted ≡ WatchRefused
        refused_here y = x.no_list y.line (judged_here y.on (λ c l n file. IsRefusedAt is_identifier file y.line) y.refused)

  -- ---- how it ends

  module _ (f : FilesState) (text : List ℕ) (m : ModelTree) (t : List ℕ) (is : IsOpenModelOf text m) (found : f.told ≡ true → lookup f.held name ≡ Some t) (short : length t ≤ watch_limit) where
    abbrev on : f.told ≡ true → HasWatches f.held job text
    on tells = record { model_word = model; watch_word = name; choice = choice; limits = limits; is_watch = refl; file = t; held = found tells; short = short; model = m; is_model = is }

    abbrev judged : (ws : List NamedFormula) → AreWatches is_identifier t ws → (run : RunOf p m) → f.told ≡ true → IsJudged f.held job text
    judged ws are run tells = record { on = on tells; watches = ws; are_watches = are; run = run }

    run_outcome : (ws : List NamedFormula) → AreWatches is_identifier t ws → (run : RunOf p m) (status : Status) → IsJudgedAs ws (points_of m run.events) run.ending status → Outcome f job text status
    run_outcome ws are run _ (broken done y) = watch_broken (promises.watch_broken model name choice limits) (λ tells. record { judged = judged ws are run tells; done = done; broken = y })
    run_outcome ws are run _ (kept unless) =
        run_ended run.ending (judged_can model name choice limits run.ending) (λ tells. of_watches (record { judged = judged ws are run tells; ends = refl; kept = unless }))

    file_outcome : (bytes : List ℕ) (wanted : Status) → PrintsJudged p m t bytes wanted → Outcome f job text wanted
    file_outcome _ _ (no_watches number refused) = watch_refused (promises.watch_refused model name choice limits) (λ tells. record { on = on tells; line = number; refused = refused })
    file_outcome _ _ (judges ws run status are so) = run_outcome ws are run status so

  watches_two : TwoFiles job model (watch_file name) (PrintsJudged p) (PrintsWatches p)
  watches_two = record {
    files = refl;
    has = tt;
    named = refl;
    refuses_so = λ held text r is. is;
    refused_so = λ held text r is. is;
    prints_job = λ held bytes status prints. prints;
    prints = λ m file bytes status x. x.prints;
    outcome = λ f text m file is found short bytes status x. file_outcome f text m file is found short bytes status x.prints;
    run_on = λ held text e ends. on_second held text (judged_end held text e ends).judged.on;
    broken_on = λ held text y. on_second held text y.judged.on;
    list_on = λ held text y. on_second held text y.on;
    script_on = λ held text y. undriven held job text tt y.on;
    only = λ held text m file is found bytes status x e ends. same_end held text m file is found bytes status x e (judged_end held text e ends);
    breaks = λ held text m file is found bytes status x y. broken_here held text m file is found bytes status x y;
    no_list = λ held text m file is found bytes status x y. refused_here held text m file is found bytes status x y;
    no_script = λ held text m file is found bytes status x y. undriven held job text tt y.on;
    untold = λ held text x. not_told held text x;
  }

pub keeps_watch : (f g : FilesState) (before now : SinkState) (given : Status) (model name : List ℕ) (choice : Choice) (limits : RunLimits)
    → AnswersFiles model (watch_file name) (PrintsWatches (judged_play choice limits)) f g before now given → KeepsPromises (Some (Watch model name choice limits)) f g before now given
keeps_watch f g before now given model name choice limits answers =
    keeps_two (Watch model name choice limits) model (watch_file name) (PrintsJudged (judged_play choice limits)) (PrintsWatches (judged_play choice limits)) (watches_two model name choice limits) f g before now given answers
