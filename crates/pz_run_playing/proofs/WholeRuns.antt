-- Runs from the start of a model.
use Rattle.std.proofs.Common.{◌≡◌, ℕ, Bool, true, false, List, [], ◌∷◌, ◌++◌, Option, Some, None, Result, Ok, Err, refl, sym, subst, ap, ◌∙◌, append_assoc}
use Rattle.std.specs.Prelude.{◌↔◌, IsTrue, IfOk}
use Rattle.std.specs.Result.{IsErrAnd}
use Rattle.pz_rules.specs.pz_syntax.Classes.{ModelTree}
use Rattle.std.proofs.lemmas.List.{append-nil}
use Rattle.pz_io.specs.Outside.{SinkState}
use Rattle.pz_io.specs.declared.writing.Halt.{Halt}
use Rattle.pz_io.specs.Writing.{Wrote}
use Rattle.pz_rules.specs.pz_classes_rules.Soundness.{IsSound}
use Rattle.pz_rules.specs.declared.action.Action.{Action}
use Rattle.pz_rules.specs.declared.moment.Moment.{Moment}
use Rattle.pz_rules.specs.declared.moment.Moment.TheVariants.{Actions, Time, Finished, Deadlock, Faulty, Stopped, Broken}
use Rattle.pz_rules.specs.pz_offer.declared.trouble.Trouble.{Trouble}
use Rattle.pz_rules.specs.Settings.{Setting}
use Rattle.pz_rules.specs.Configurations.{Config}
use Rattle.pz_rules.specs.Starting.{IsStart}
use Rattle.pz_rules.specs.Moments.{IsMoment}
use Rattle.pz_rules.specs.Ports.{HasWires}
use Rattle.pz_rules.specs.Runs.{Event, Standing, whole, stopped, Ending, ended, deadlocked, troubled, halted, refused}
use Rattle.pz_rules.specs.ChosenRuns.{Policy}
use Rattle.pz_watch_points.specs.pz_trace.declared.ending.Ending.TheVariants as ending
use Rattle.pz_watch_points.specs.pz_trace.TraceText.{event_line, trace_header, events_text}
use Rattle.pz_watch.specs.Files.{NamedFormula}
use Rattle.pz_watch.specs.Breaking.{AreBroken}
use Rattle.pz_watch_points.specs.EventPoints.{points_of}
use Rattle.pz_term_simulator.specs.Simulations as simulations
use Rattle.pz_term_simulator.specs.Simulations.{Simulation, stands, broken, Starts, IsMomentOf, AreOffersOf, setting_in}
use Rattle.pz_run_playing.specs.declared.finale.Finale.{Finale}
use Rattle.pz_run_playing.specs.declared.finale.Finale.TheVariants as finale
use Rattle.pz_run_playing.specs.declared.playing.Played.{Played}
use Rattle.pz_run_playing.specs.Endings.{ending_of, last_line}
use Rattle.pz_run_playing.specs.RunText.{text_under, run_text}
use Rattle.pz_run_playing.specs.Summaries.{actions_in, passings_in, summary_of, summary_line}
use Rattle.pz_run_playing.specs.Menus.{AreLeft, offered, no_offers, not_stopped, offers_text}
use Rattle.pz_run_playing.specs.Playing.{EndsAs, ChosenRun, Telling, trace, summary, menu, Tells, of_trace, of_summary, of_menu, PlaysUnder, Plays}
use Rattle.pz_run_playing.specs.devices.Known.{Known}
use Rattle.pz_term_simulator.specs.Simulations.{model_in, clock_in}
use Rattle.pz_run_playing.specs.devices.Rests.{IsReady, IsTroubledIn, ChosenRest, RestOf}
use Rattle.pz_run_playing.specs.Sayings.{silence, line_of, judged_line, said_after}
use Rattle.pz_run_playing.specs.Watched.{watched_text, PlaysWatched}
use Rattle.pz_run_playing.specs.declared.finale.Judged.{Judged}
use Rattle.pz_run_playing.specs.declared.listening.Listener.{Listener}
use Rattle.pz_run_playing.specs.devices.Hearing.{Manner, silently, in_lines, with_watches, saying, Hears, HasHeard}
use Rattle.pz_run_playing.specs.devices.Going.{CutShort, Ended, PlayedThrough, BrokenOff}
use Rattle.pz_run_playing.proofs.Written.{err_is}
use Rattle.pz_run_playing.proofs.Rests.{some_rest}
use Rattle.pz_run_playing.proofs.Ends.{run_named}

-- the simulator stands at a start
pub record Started (setting : Setting) (s : Simulation) : Type 0 where
  pub start : Config
  pub is_start : IsStart setting start
  pub is : s ≡ stands setting start whole

pub start_in : (setting : Setting) (s : Simulation) → Starts setting s → Started setting s
start_in setting _ (simulations.starts c is) = record { start = c; is_start = is; is = refl }

-- whichever setting it is at the start of, that is its own
pub at_its_start : (setting : Setting) (s : Simulation) → Starts setting s → Starts (setting_in s) s
at_its_start setting _ (simulations.starts c is) = simulations.starts c is

pub its_setting : (setting : Setting) (s : Simulation) → Starts setting s → setting_in s ≡ setting
its_setting setting _ (simulations.starts c is) = refl

pub ready_at : Known → (setting : Setting) (s : Simulation) → IsSound setting.model → Started setting s → IsReady s
ready_at known setting s sound x =
    let fits = known.start_fits setting x.start sound x.is_start in
    subst IsReady (sym x.is) (record { sound = sound; wires = known.wires setting.model sound; all = fits.0; fit = fits.1 })

-- a run from there, and where it leads
pub record RunTo (setting : Setting) (policy : Policy) (events : List Event) (to : Simulation) (ending : Ending) : Type 0 where
  pub run : ChosenRun setting policy
  pub same_events : run.events ≡ events
  pub same_ending : run.ending ≡ ending
  pub is_end : to ≡ stands setting run.end run.standing

pub run_to : (setting : Setting) (policy : Policy) (s to : Simulation) (events : List Event) (ending : Ending) → Started setting s → RestOf policy 0 s events to ending → RunTo setting policy events to ending
run_to setting policy s to events ending x rest =
    let r : ChosenRest setting policy 0 x.start events to ending = subst (λ (u : Simulation). RestOf policy 0 u events to ending) x.is rest in
    record {
      run = record {
        start = x.start;
        is_start = x.is_start;
        events = events;
        end = r.end;
        standing = r.standing;
        reaches = r.reaches;
        ending = ending;
        ends_as = r.ends_as;
        is_chosen = r.run;
      };
      same_events = refl;
      same_ending = refl;
      is_end = r.is_end;
    }

module _ (known : Known) (policy : Policy) (header : List ℕ) (manner : Manner) (s : Simulation) (start : Started (setting_in s) s) (before mid : SinkState) where
  abbrev all_of : List Event → List ℕ
  all_of events = said_after (saying (model_in s) manner) [] events

  -- nothing but the header, or a front of it
  pub header_cut : IsReady s → (halt : Halt) → Wrote before mid header (Some halt) → BrokenOff (setting_in s) policy header manner before mid halt
  header_cut ready halt wrote =
      let r = some_rest known policy 0 s ready in
      let x = run_to (setting_in s) policy s r.to r.events r.ending start r.rest_of in
      record { run = x.run; wrote = known.halts before mid header (all_of x.run.events) halt wrote }

  module _ (now : SinkState) (wrote : Wrote before mid header None) where
    pub lines_cut : (halt : Halt) → CutShort policy (saying (model_in s) manner) 0 [] s mid now halt → BrokenOff (setting_in s) policy header manner before now halt
    lines_cut halt cut =
        let x = run_to (setting_in s) policy s cut.to cut.events cut.ending start cut.rest_of in
        let rest : Wrote mid now (all_of x.run.events) (Some halt) = subst (λ (es : List Event). Wrote mid now (all_of es) (Some halt)) (sym x.same_events) cut.wrote in
        record { run = x.run; wrote = known.joins before mid now header (all_of x.run.events) (Some halt) wrote rest }

    pub lines_ended : (t : Simulation) (listener : Listener) (played : Played) → Ended policy manner s t mid now listener played → PlayedThrough (setting_in s) policy header manner t before now listener played
    lines_ended t listener played e =
        let x = run_to (setting_in s) policy s t e.events (ending_of played.finale) start e.rest_of in
        let rest : Wrote mid now (all_of x.run.events) None = subst (λ (es : List Event). Wrote mid now (all_of es) None) (sym x.same_events) e.wrote in
        let heard : HasHeard (model_in s) manner x.run.events (clock_in t) listener = subst (λ (es : List Event). HasHeard (model_in s) manner es (clock_in t) listener) (sym x.same_events) e.heard in
        record {
          run = x.run;
          wrote = known.joins before mid now header (all_of x.run.events) None wrote rest;
          heard = subst (λ (n : ℕ). HasHeard (model_in s) manner x.run.events n listener) (ap clock_in x.is_end) heard;
          finale = sym x.same_ending;
          actions = e.actions ∙ ap actions_in (sym x.same_events);
          passes = e.passes ∙ ap passings_in (sym x.same_events);
          arrives = x.is_end;
        }

-- what is told of a run that has finished names what is there
pub through_named : Known → (setting : Setting) (policy : Policy) (header : List ℕ) (manner : Manner) (t : Simulation) (before now : SinkState) (listener : Listener) (played : Played)
    → PlayedThrough setting policy header manner t before now listener played → IsTroubledIn (model_in t) (ending_of played.finale)
through_named known setting policy header manner t before now listener played x =
    let named : IsTroubledIn setting.model x.run.ending = run_named known setting policy 0 x.run.start x.run.end x.run.events x.run.ending x.run.is_chosen in
    let model : model_in t ≡ setting.model = ap model_in x.arrives in
    subst (λ (e : Ending). IsTroubledIn (model_in t) e) (sym x.finale) (subst (λ (u : Simulation). IsTroubledIn (model_in u) x.run.ending) (sym x.arrives) named)

-- lines alone are those of a trace
said_lines : (m : ModelTree) (past events : List Event) → said_after (line_of m) past events ≡ events_text m events
said_lines m past [] = refl
said_lines m past (e ∷ events) = ap (λ (l : List ℕ). event_line m e ++ l) (said_lines m (past ++ e ∷ []) events)

said_nothing : (past events : List Event) → said_after silence past events ≡ []
said_nothing past [] = refl
said_nothing past (e ∷ events) = said_nothing (past ++ e ∷ []) events

module _ (setting : Setting) (policy : Policy) (telling : Telling) (t : Simulation) (before now : SinkState) where
  -- it was halted
  pub plays_cut : (run : ChosenRun setting policy) (text : List ℕ) (halt : Halt) (r : Result Finale Halt) → r ≡ Err halt → Tells setting run.events run.end run.ending telling text → Wrote before now text (Some halt)
      → Plays setting policy telling t before now r
  plays_cut run text halt r is tells wrote = subst (λ (x : Result Finale Halt). Plays setting policy telling t before now x) (sym is) (record { run = run; text = text; tells = tells; wrote = wrote; finale = tt; arrives = tt })

  -- or was not
  pub plays_whole : (run : ChosenRun setting policy) (text : List ℕ) (f : Finale) → Tells setting run.events run.end run.ending telling text → Wrote before now text None → ending_of f ≡ run.ending → t ≡ stands setting run.end run.standing
      → Plays setting policy telling t before now (Ok f)
  plays_whole run text f tells wrote is arrives = record { run = run; text = text; tells = tells; wrote = wrote; finale = is; arrives = arrives }

-- Behind a first line

-- whatever that is
pub some_text : {T E : Type 0} (text_in : T → List ℕ) (r : Result T E) → (text : List ℕ) × IfOk r (λ x. text_in x ≡ text)
some_text text_in (Ok x) = (text_in x, refl)
some_text text_in (Err e) = ([], tt)

module _ (known : Known) (setting : Setting) (policy : Policy) (header : List ℕ) (t : Simulation) (before mid now : SinkState) where
  abbrev its_lines : ChosenRun setting policy → List ℕ
  its_lines run = said_after (line_of setting.model) [] run.events

  text_is : (run : ChosenRun setting policy) → (header ++ its_lines run) ++ last_line setting.model run.end.clock run.ending ≡ text_under header setting.model run.events run.end.clock run.ending
  text_is run =
      append_assoc header (its_lines run) (last_line setting.model run.end.clock run.ending)
      ∙ ap (λ (l : List ℕ). header ++ (l ++ last_line setting.model run.end.clock run.ending)) (said_lines setting.model [] run.events)

  pub under_broken : (halt : Halt) (r : Result Finale Halt) → IsErrAnd r (λ e. e ≡ halt) → BrokenOff setting policy header in_lines before mid halt → PlaysUnder setting policy header t before mid r
  under_broken halt r is x =
      subst (λ (y : Result Finale Halt). PlaysUnder setting policy header t before mid y) (sym (err_is r halt is)) (record {
        run = x.run;
        wrote = subst (λ (l : List ℕ). Wrote before mid l (Some halt)) (text_is x.run)
            (known.halts before mid (header ++ its_lines x.run) (last_line setting.model x.run.end.clock x.run.ending) halt x.wrote);
        finale = tt;
        arrives = tt;
      })

  module _ (listener : Listener) (played : Played) (x : PlayedThrough setting policy header in_lines t before mid listener played) where
    last_of : (halt : Option Halt) → Wrote mid now (last_line setting.model x.run.end.clock (ending_of played.finale)) halt → Wrote before now (text_under header setting.model x.run.events x.run.end.clock x.run.ending) halt
    last_of halt wrote =
        let last : Wrote mid now (last_line setting.model x.run.end.clock x.run.ending) halt = subst (λ (e : Ending). Wrote mid now (last_line setting.model x.run.end.clock e) halt) x.finale wrote in
        subst (λ (l : List ℕ). Wrote before now l halt) (text_is x.run)
        (known.joins before mid now (header ++ its_lines x.run) (last_line setting.model x.run.end.clock x.run.ending) halt x.wrote last)

    pub last_cut : (halt : Halt) (r : Result Finale Halt) → IsErrAnd r (λ e. e ≡ halt) → Wrote mid now (last_line setting.model x.run.end.clock (ending_of played.finale)) (Some halt) → PlaysUnder setting policy header t before now r
    last_cut halt r is wrote =
        subst (λ (y : Result Finale Halt). PlaysUnder setting policy header t before now y) (sym (err_is r halt is))
        (record { run = x.run; wrote = last_of (Some halt) wrote; finale = tt; arrives = tt })

    pub last_told : Wrote mid now (last_line setting.model x.run.end.clock (ending_of played.finale)) None → PlaysUnder setting policy header t before now (Ok played.finale)
    last_told wrote = record { run = x.run; wrote = last_of None wrote; finale = x.finale; arrives = x.arrives }

-- behind the header of a trace
pub plays_trace : (setting : Setting) (policy : Policy) (t : Simulation) (before now : SinkState) (r : Result Finale Halt) → PlaysUnder setting policy (trace_header setting) t before now r → Plays setting policy trace t before now r
plays_trace setting policy t before now r x =
    record { run = x.run; text = run_text setting x.run.events x.run.end.clock x.run.ending; tells = of_trace; wrote = x.wrote; finale = x.finale; arrives = x.arrives }

module _ (known : Known) (setting : Setting) (policy : Policy) (t : Simulation) (before mid now : SinkState) where
  -- The summary

  pub summary_broken : (halt : Halt) (r : Result Finale Halt) → IsErrAnd r (λ e. e ≡ halt) → BrokenOff setting policy [] silently before mid halt → Plays setting policy summary t before mid r
  summary_broken halt r is x =
      plays_cut setting policy summary t before mid x.run (summary_line setting.model x.run.events x.run.end.clock x.run.ending) halt r (err_is r halt is) of_summary
      (known.halts before mid [] (summary_line setting.model x.run.events x.run.end.clock x.run.ending) halt (subst (λ (l : List ℕ). Wrote before mid l (Some halt)) (said_nothing [] x.run.events) x.wrote))

  module _ (listener : Listener) (played : Played) (x : PlayedThrough setting policy [] silently t before mid listener played) where
    summary_told_of : (halt : Option Halt) → Wrote mid now (summary_of setting.model played.actions played.passes x.run.end.clock (ending_of played.finale)) halt → Wrote before now (summary_line setting.model x.run.events x.run.end.clock x.run.ending) halt
    summary_told_of halt wrote =
        let same : summary_of setting.model played.actions played.passes x.run.end.clock (ending_of played.finale) ≡ summary_line setting.model x.run.events x.run.end.clock x.run.ending =
        ap (λ (n : ℕ). summary_of setting.model n played.passes x.run.end.clock (ending_of played.finale)) x.actions
        ∙ ap (λ (n : ℕ). summary_of setting.model (actions_in x.run.events) n x.run.end.clock (ending_of played.finale)) x.passes
        ∙ ap (λ (e : Ending). summary_of setting.model (actions_in x.run.events) (passings_in x.run.events) x.run.end.clock e) x.finale in
        known.joins before mid now [] (summary_line setting.model x.run.events x.run.end.clock x.run.ending) halt (subst (λ (l : List ℕ). Wrote before mid l None) (said_nothing [] x.run.events) x.wrote) (subst (λ (l : List ℕ). Wrote mid now l halt) same wrote)

    pub summary_cut : (halt : Halt) (r : Result Finale Halt) → IsErrAnd r (λ e. e ≡ halt) → Wrote mid now (summary_of setting.model played.actions played.passes x.run.end.clock (ending_of played.finale)) (Some halt) → Plays setting policy summary t before now r
    summary_cut halt r is wrote = plays_cut setting policy summary t before now x.run (summary_line setting.model x.run.events x.run.end.clock x.run.ending) halt r (err_is r halt is) of_summary (summary_told_of (Some halt) wrote)

    pub summary_told : Wrote mid now (summary_of setting.model played.actions played.passes x.run.end.clock (ending_of played.finale)) None → Plays setting policy summary t before now (Ok played.finale)
    summary_told wrote = plays_whole setting policy summary t before now x.run (summary_line setting.model x.run.events x.run.end.clock x.run.ending) played.finale of_summary (summary_told_of None wrote) x.finale x.arrives

-- Judged by watches

module _ (known : Known) (setting : Setting) (policy : Policy) (ws : List NamedFormula) (t : Simulation) (before mid now : SinkState) where
  abbrev judged_lines : ChosenRun setting policy → List ℕ
  judged_lines run = said_after (judged_line setting.model ws) [] run.events

  watched_is : (run : ChosenRun setting policy) → (trace_header setting ++ judged_lines run) ++ last_line setting.model run.end.clock run.ending ≡ watched_text setting ws run.events run.end.clock run.ending
  watched_is run = append_assoc (trace_header setting) (judged_lines run) (last_line setting.model run.end.clock run.ending)

  pub watched_broken : (halt : Halt) (r : Result Judged Halt) → IsErrAnd r (λ e. e ≡ halt) → BrokenOff setting policy (trace_header setting) (with_watches ws) before mid halt → PlaysWatched setting policy ws t before mid r
  watched_broken halt r is x =
      subst (λ (y : Result Judged Halt). PlaysWatched setting policy ws t before mid y) (sym (err_is r halt is)) (record {
        run = x.run;
        wrote = subst (λ (l : List ℕ). Wrote before mid l (Some halt)) (watched_is x.run)
            (known.halts before mid (trace_header setting ++ judged_lines x.run) (last_line setting.model x.run.end.clock x.run.ending) halt x.wrote);
        finale = tt;
        broken = tt;
        arrives = tt;
      })

  module _ (listener : Listener) (played : Played) (x : PlayedThrough setting policy (trace_header setting) (with_watches ws) t before mid listener played) where
    watched_last : (halt : Option Halt) → Wrote mid now (last_line setting.model x.run.end.clock (ending_of played.finale)) halt → Wrote before now (watched_text setting ws x.run.events x.run.end.clock x.run.ending) halt
    watched_last halt wrote =
        let last : Wrote mid now (last_line setting.model x.run.end.clock x.run.ending) halt = subst (λ (e : Ending). Wrote mid now (last_line setting.model x.run.end.clock e) halt) x.finale wrote in
        subst (λ (l : List ℕ). Wrote before now l halt) (watched_is x.run)
        (known.joins before mid now (trace_header setting ++ judged_lines x.run) (last_line setting.model x.run.end.clock x.run.ending) halt x.wrote last)

    pub watched_cut : (halt : Halt) (r : Result Judged Halt) → IsErrAnd r (λ e. e ≡ halt) → Wrote mid now (last_line setting.model x.run.end.clock (ending_of played.finale)) (Some halt) → PlaysWatched setting policy ws t before now r
    watched_cut halt r is wrote =
        subst (λ (y : Result Judged Halt). PlaysWatched setting policy ws t before now y) (sym (err_is r halt is))
        (record { run = x.run; wrote = watched_last (Some halt) wrote; finale = tt; broken = tt; arrives = tt })

    pub watched_told : (flag : Bool) → ((past : List Event) → Hears setting.model (with_watches ws) past listener → (IsTrue flag) ↔ AreBroken ws (points_of setting.model past))
        → Wrote mid now (last_line setting.model x.run.end.clock (ending_of played.finale)) None → PlaysWatched setting policy ws t before now (Ok (record { finale = played.finale; broken = flag }))
    watched_told flag is wrote = record { run = x.run; wrote = watched_last None wrote; finale = x.finale; broken = is x.run.events x.heard.hears; arrives = x.arrives }

pub watched_there : (setting : Setting) (s : Simulation) (policy : Policy) (ws : List NamedFormula) (t : Simulation) (before now : SinkState) (r : Result Judged Halt) → Starts setting s
    → PlaysWatched (setting_in s) policy ws t before now r → PlaysWatched setting policy ws t before now r
watched_there setting s policy ws t before now r start plays = subst (λ (x : Setting). PlaysWatched x policy ws t before now r) (its_setting setting s start) plays

-- what was played in the setting of a simulator was played in that of its start
pub under_there : (setting : Setting) (s : Simulation) (policy : Policy) (header : List ℕ) (t : Simulation) (before now : SinkState) (r : Result Finale Halt) → Starts setting s
    → PlaysUnder (setting_in s) policy header t before now r → PlaysUnder setting policy header t before now r
under_there setting s policy header t before now r start plays = subst (λ (x : Setting). PlaysUnder x policy header t before now r) (its_setting setting s start) plays

pub plays_there : (setting : Setting) (s : Simulation) (policy : Policy) (telling : Telling) (t : Simulation) (before now : SinkState) (r : Result Finale Halt) → Starts setting s
    → Plays (setting_in s) policy telling t before now r → Plays setting policy telling t before now r
plays_there setting s policy telling t before now r start plays = subst (λ (x : Setting). Plays x policy telling t before now r) (its_setting setting s start) plays

-- The menu

-- at another moment than that of actions there are none
left_beside : Known → (setting : Setting) (end : Config) (m : Moment) → IsMoment setting end m → ((n : ℕ) → Actions n ≡ m → ⊥) → (offers : List Action) × AreLeft setting end halted offers
left_beside known setting end m is other = ([], no_offers (λ n acts. other n (known.one_moment setting end (Actions n) m acts is)))

left_at : Known → (setting : Setting) (end : Config) (m : Moment) → IsMoment setting end m → (offers : List Action) × AreLeft setting end halted offers
left_at known setting end (Actions n) is = let x = known.counts setting end n is in (x.offers, offered n x.offers is x.all)
left_at known setting end (Time d) is = left_beside known setting end (Time d) is (λ n h. cc)
left_at known setting end Finished is = left_beside known setting end Finished is (λ n h. cc)
left_at known setting end Deadlock is = left_beside known setting end Deadlock is (λ n h. cc)
left_at known setting end (Faulty trouble) is = left_beside known setting end (Faulty trouble) is (λ n h. cc)
left_at known setting end (Stopped trouble) is = left_beside known setting end (Stopped trouble) is (λ n h. cc)
left_at known setting end Broken is = left_beside known setting end Broken is (λ n h. cc)

-- there are offers to choose from, or there are none
pub some_left : Known → (setting : Setting) (end : Config) → HasWires setting.model → (ending : Ending) → (offers : List Action) × AreLeft setting end ending offers
some_left known setting end wires ended = ([], not_stopped ended (λ h. cc))
some_left known setting end wires deadlocked = ([], not_stopped deadlocked (λ h. cc))
some_left known setting end wires (troubled trouble) = ([], not_stopped (troubled trouble) (λ h. cc))
some_left known setting end wires (refused entry count) = ([], not_stopped (refused entry count) (λ h. cc))
some_left known setting end wires halted = let m = known.some_moment setting end wires in left_at known setting end m.0 m.1

-- the offers of a simulator, by where it stands
abbrev LeftIn : Simulation → List Action → Type 0
LeftIn (stands setting c whole) offers = AreLeft setting c halted offers
LeftIn (stands setting c (stopped trouble)) offers = Unit {0}
LeftIn (broken setting) offers = Unit {0}

none_in : (s : Simulation) → ((n : ℕ) → IsMomentOf s (Actions n) → ⊥) → LeftIn s []
none_in (stands setting c whole) never = no_offers (λ n is. never n is)
none_in (stands setting c (stopped trouble)) never = tt
none_in (broken setting) never = tt

left_in : (s : Simulation) (offers : List Action) → AreOffersOf s offers → LeftIn s offers
left_in _ _ (simulations.some setting c n offers is are) = offered n offers is are
left_in _ _ (simulations.none s never) = none_in s never

no_trouble : {t : Trouble} → halted ≡ troubled t → ⊥
no_trouble h = cc

left_where : (setting : Setting) (end : Config) (standing : Standing) (offers : List Action) → EndsAs standing halted → AreOffersOf (stands setting end standing) offers → AreLeft setting end halted offers
left_where setting end whole offers ends are = left_in (stands setting end whole) offers are
left_where setting end (stopped trouble) offers ends are = absurd (no_trouble ends)

-- what is told, by cases
abbrev ToldIn : (setting : Setting) (events : List Event) (end : Config) (ending : Ending) → Telling → List ℕ → Type 0
ToldIn setting events end ending trace text = text ≡ run_text setting events end.clock ending
ToldIn setting events end ending summary text = Unit {0}
ToldIn setting events end ending menu text = Unit {0}

told_in : (setting : Setting) (events : List Event) (end : Config) (ending : Ending) (telling : Telling) (text : List ℕ) → Tells setting events end ending telling text → ToldIn setting events end ending telling text
told_in setting events end ending _ _ of_trace = refl
told_in setting events end ending _ _ of_summary = tt
told_in setting events end ending _ _ (of_menu offers left) = tt

stop_from : (f : Finale) → ending_of f ≡ halted → f ≡ finale.Ended ending.Stop
stop_from (finale.Ended ending.End) h = cc
stop_from (finale.Ended ending.Deadlock) h = cc
stop_from (finale.Ended ending.Stop) h = refl
stop_from (finale.Ended (ending.Trouble trouble)) h = cc
stop_from (finale.Refused entry offers) h = cc

module _ (known : Known) (setting : Setting) (policy : Policy) (t : Simulation) (before mid now : SinkState) where
  traced : (halt : Option Halt) (run : ChosenRun setting policy) (text : List ℕ) → Tells setting run.events run.end run.ending trace text → Wrote before mid text halt → Wrote before mid (run_text setting run.events run.end.clock run.ending) halt
  traced halt run text tells wrote = subst (λ (l : List ℕ). Wrote before mid l halt) (told_in setting run.events run.end run.ending trace text tells) wrote

  pub menu_broken : HasWires setting.model → (halt : Halt) (r : Result Finale Halt) → IsErrAnd r (λ e. e ≡ halt) → Plays setting policy trace t before mid (Err halt) → Plays setting policy menu t before mid r
  menu_broken wires halt r is x =
      let left = some_left known setting x.run.end wires x.run.ending in
      let trace_text = run_text setting x.run.events x.run.end.clock x.run.ending in
      let offers = offers_text setting.model 0 left.0 in
      plays_cut setting policy menu t before mid x.run (trace_text ++ offers) halt r (err_is r halt is) (of_menu left.0 left.1)
      (known.halts before mid trace_text offers halt (traced (Some halt) x.run x.text x.tells x.wrote))

  module _ (x : Plays setting policy trace t before mid (Ok (finale.Ended ending.Stop))) (offers : List Action) (are : AreOffersOf t offers) where
    left_here : AreLeft setting x.run.end x.run.ending offers
    left_here =
        let ends : EndsAs x.run.standing halted = subst (λ (e : Ending). EndsAs x.run.standing e) (sym x.finale) x.run.ends_as in
        subst (λ (e : Ending). AreLeft setting x.run.end e offers) x.finale
        (left_where setting x.run.end x.run.standing offers ends (subst (λ (s : Simulation). AreOffersOf s offers) x.arrives are))

    offers_told : (halt : Option Halt) → Wrote mid now (offers_text (model_in t) 0 offers) halt → Wrote before now (run_text setting x.run.events x.run.end.clock x.run.ending ++ offers_text setting.model 0 offers) halt
    offers_told halt wrote =
        known.joins before mid now (run_text setting x.run.events x.run.end.clock x.run.ending) (offers_text setting.model 0 offers) halt (traced None x.run x.text x.tells x.wrote)
        (subst (λ (s : Simulation). Wrote mid now (offers_text (model_in s) 0 offers) halt) x.arrives wrote)

    pub menu_cut : (halt : Halt) (r : Result Finale Halt) → IsErrAnd r (λ e. e ≡ halt) → Wrote mid now (offers_text (model_in t) 0 offers) (Some halt) → Plays setting policy menu t before now r
    menu_cut halt r is wrote =
        plays_cut setting policy menu t before now x.run (run_text setting x.run.events x.run.end.clock x.run.ending ++ offers_text setting.model 0 offers) halt r (err_is r halt is)
        (of_menu offers left_here) (offers_told (Some halt) wrote)

    pub menu_told : Wrote mid now (offers_text (model_in t) 0 offers) None → Plays setting policy menu t before now (Ok (finale.Ended ending.Stop))
    menu_told wrote =
        plays_whole setting policy menu t before now x.run (run_text setting x.run.events x.run.end.clock x.run.ending ++ offers_text setting.model 0 offers) (finale.Ended ending.Stop)
        (of_menu offers left_here) (offers_told None wrote) x.finale x.arrives

  -- no offers are told
  pub menu_alone : (f : Finale) → (f ≡ finale.Ended ending.Stop → ⊥) → Plays setting policy trace t before mid (Ok f) → Plays setting policy menu t before mid (Ok f)
  menu_alone f not_stop x =
      let trace_text = run_text setting x.run.events x.run.end.clock x.run.ending in
      let alone : trace_text ≡ trace_text ++ [] = sym (append-nil trace_text) in
      plays_whole setting policy menu t before mid x.run (trace_text ++ []) f (of_menu [] (not_stopped x.run.ending (λ h. not_stop (stop_from f (x.finale ∙ h)))))
      (subst (λ (l : List ℕ). Wrote before mid l None) alone (traced None x.run x.text x.tells x.wrote)) x.finale x.arrives
