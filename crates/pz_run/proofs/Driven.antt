-- The promises of a run that a script drives.
use Rattle.std.proofs.Common.{◌≡◌, ◌∙◌, ◌≤◌, ℕ, List, true, Some, length, refl, sym, subst, ap}
use Rattle.pz_io.specs.Outside.{Entries, FilesState, SinkState, lookup}
use Rattle.pz_bind.specs.pz_syntax.Classes.{ModelTree}
use Rattle.pz_run_output.specs.pz_trace.pz_rules.Runs.{Ending}
use Rattle.pz_words.specs.declared.jobs.Choice.{Choice}
use Rattle.pz_words.specs.declared.jobs.RunLimits.{RunLimits}
use Rattle.pz_words.specs.declared.jobs.Job.{Job}
use Rattle.pz_words.specs.declared.jobs.Job.TheVariants.{Replay, Drive}
use Rattle.pz_run_output.specs.pz_env_closing.pz_env_script.declared.entry.Entry.{Entry}
use Rattle.pz_run_output.specs.pz_run_lines.pz_run_reading.Openings.{IsOpenModelOf}
use Rattle.pz_run_output.specs.Limits.{script_limit}
use Rattle.pz_run_output.specs.declared.play.Play.{Play}
use Rattle.pz_run_output.specs.declared.status.Status.{Status}
use Rattle.pz_run_output.specs.declared.status.Status.TheVariants.{ScriptRefused}
use Rattle.pz_run_output.specs.Files.{script_file}
use Rattle.pz_run_output.specs.Plays.{play_of, driven_play, DrivenRunOf}
use Rattle.pz_run_output.specs.Scripts.{IsScriptFor, IsScriptRefused}
use Rattle.pz_run_output.specs.Status.{status_of}
use Rattle.pz_run_output.specs.Output.{PrintsDriven, no_script, drives}
use Rattle.pz_run_output.specs.Promises.{ChosenEnds, HasTrace, HasEnding, of_choice, of_trace, of_watches, of_script, HasScript, DrivenEnds, RefusesScript}
use Rattle.pz_run_output.specs.Promises as promises
use Rattle.pz_run_output.specs.devices.Keeping.{KeepsPromises}
use Rattle.pz_run_output.specs.devices.TwoFiles.{IsOnlyOpen, AnswersFiles}
use Rattle.pz_run.specs.devices.Driving.{PrintsScript}
use Rattle.pz_run_output.proofs.OneEnd.{some_is}
use Rattle.pz_run_output.proofs.Outcomes.{driven_can, Outcome, run_ended, script_refused, unjudged}
use Rattle.pz_run_output.proofs.TwoFiles.{OnSecond, TwoFiles, keeps_two}

drive_words : (model name : List ℕ) (choice : Choice) (limits : RunLimits) (model' other : List ℕ) (choice' : Choice) (limits' : RunLimits)
    → Drive model name choice limits ≡ Drive model' other choice' limits' → (name ≡ other) × (choice ≡ choice') × (limits ≡ limits')
drive_words model name choice limits model' other choice' limits' same = (cc, cc, cc)

module _ (model name : List ℕ) (choice : Choice) (limits : RunLimits) where
  abbrev job : Job
  job = Drive model name choice limits

  abbrev p : Play
  p = driven_play choice limits

  not_played : {X : Type 0} (text : List ℕ) (e : Ending) → ChosenEnds job text e → X
  not_played text e x = let none : play_of (Drive model name choice limits) ≡ Some x.play = x.is_play in cc

  not_told : {X : Type 0} (held : Entries) (text : List ℕ) → HasTrace held job text → X
  not_told held text x = let same : Drive model name choice limits ≡ Replay x.model_word x.trace_word x.units = x.is_replay in cc

  driven_end : (held : Entries) (text : List ℕ) (e : Ending) → HasEnding held job text e → DrivenEnds held job text e
  driven_end held text e (of_choice x) = not_played text e x
  driven_end held text e (of_trace x) = not_told held text x.replay
  driven_end held text e (of_watches x) = unjudged held job text tt x.judged.on
  driven_end held text e (of_script x) = x

  -- ---- the script is that of the file of this name, on this model

  module _ (held : Entries) (text : List ℕ) where
    file_here : (x : HasScript held job text) → lookup held name ≡ Some x.file
    file_here x = subst (λ (word : List ℕ). lookup held word ≡ Some x.file) (sym (drive_words model name choice limits x.model_word x.script_word x.choice x.limits x.is_drive).0) x.held

    on_second : HasScript held job text → OnSecond (script_file name) held text
    on_second x = record { model = x.model; is_model = x.is_model; file = x.file; there = file_here x; short = x.short }

    module _ (m : ModelTree) (t : List ℕ) (is : IsOnlyOpen text m) (found : lookup held name ≡ Some t) where
      driven_here : (x : HasScript held job text) (Q : Choice → RunLimits → ModelTree → List ℕ → Type 0) → Q x.choice x.limits x.model x.file → Q choice limits m t
      driven_here x Q holds =
          let words = drive_words model name choice limits x.model_word x.script_word x.choice x.limits x.is_drive in
          subst (λ (l : List ℕ). Q choice limits m l) (some_is x.file t (sym (file_here x) ∙ found))
          (subst (λ (n : ModelTree). Q choice limits n x.file) (sym (is.only x.model x.is_model))
          (subst (λ (l : RunLimits). Q choice l x.model x.file) (sym words.2)
          (subst (λ (c : Choice). Q c x.limits x.model x.file) (sym words.1) holds)))

      module _ (bytes : List ℕ) (wanted : Status) (x : PrintsScript p m t bytes wanted) where
        same_end : (e : Ending) → DrivenEnds held job text e → wanted ≡ status_of e
        same_end e y =
            let told = driven_here y.driven.on
            (λ c l n file. (script : List Entry) × ((run : DrivenRunOf (driven_play c l) n script) × (IsScriptFor n file script × (run.ending ≡ e))))
            (y.driven.script, (y.driven.run, (y.driven.is_script, y.ends))) in
            x.only told.0 told.1.0 told.1.1.0 ∙ ap status_of told.1.1.1

        refused_here : RefusesScript held job text → wanted ≡ ScriptRefused
        refused_here y = x.no_script y.line (driven_here y.on (λ c l n file. IsScriptRefused n file y.line) y.refused)

  -- ---- how it ends

  module _ (f : FilesState) (text : List ℕ) (m : ModelTree) (t : List ℕ) (is : IsOpenModelOf text m) (found : f.told ≡ true → lookup f.held name ≡ Some t) (short : length t ≤ script_limit) where
    abbrev on : f.told ≡ true → HasScript f.held job text
    on tells = record { model_word = model; script_word = name; choice = choice; limits = limits; is_drive = refl; file = t; held = found tells; short = short; model = m; is_model = is }

    file_outcome : (bytes : List ℕ) (wanted : Status) → PrintsDriven p m t bytes wanted → Outcome f job text wanted
    file_outcome _ _ (no_script number refused) = script_refused (promises.script_refused model name choice limits) (λ tells. record { on = on tells; line = number; refused = refused })
    file_outcome _ _ (drives script run fits) =
        run_ended run.ending (driven_can model name choice limits run.ending) (λ tells. of_script (record { driven = record { on = on tells; script = script; is_script = fits; run = run }; ends = refl }))

  drives_two : TwoFiles job model (script_file name) (PrintsDriven p) (PrintsScript p)
  drives_two = record {
    files = refl;
    has = tt;
    named = refl;
    refuses_so = λ held text r is. is;
    refused_so = λ held text r is. is;
    prints_job = λ held bytes status prints. prints;
    prints = λ m file bytes status x. x.prints;
    outcome = λ f text m file is found short bytes status x. file_outcome f text m file is found short bytes status x.prints;
    run_on = λ held text e ends. on_second held text (driven_end held text e ends).driven.on;
    broken_on = λ held text y. unjudged held job text tt y.judged.on;
    list_on = λ held text y. unjudged held job text tt y.on;
    script_on = λ held text y. on_second held text y.on;
    only = λ held text m file is found bytes status x e ends. same_end held text m file is found bytes status x e (driven_end held text e ends);
    breaks = λ held text m file is found bytes status x y. unjudged held job text tt y.judged.on;
    no_list = λ held text m file is found bytes status x y. unjudged held job text tt y.on;
    no_script = λ held text m file is found bytes status x y. refused_here held text m file is found bytes status x y;
    untold = λ held text x. not_told held text x;
  }

pub keeps_drive : (f g : FilesState) (before now : SinkState) (given : Status) (model name : List ℕ) (choice : Choice) (limits : RunLimits)
    → AnswersFiles model (script_file name) (PrintsScript (driven_play choice limits)) f g before now given → KeepsPromises (Some (Drive model name choice limits)) f g before now given
keeps_drive f g before now given model name choice limits answers =
    keeps_two (Drive model name choice limits) model (script_file name) (PrintsDriven (driven_play choice limits)) (PrintsScript (driven_play choice limits)) (drives_two model name choice limits) f g before now given answers
