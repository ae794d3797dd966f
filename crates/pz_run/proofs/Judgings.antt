-- What was said of a run that watches have judged.
use Rattle.std.proofs.Common.{◌≡◌, ◌≢◌, ◌⊎◌, inl, inr, ⊎_elim, ◌∙◌, ◌<◌, ◌≤◌, ℕ, zero, suc, Bool, true, false, List, [], ◌∷◌, Result, Ok, Err, length, refl, sym, subst, ap, arith}
use Rattle.std.specs.Prelude.{◌↔◌, IsTrue}
use Rattle.std.proofs.lemmas.Bool.{cases_lt}
use Rattle.pz_io.specs.Outside.{SinkState}
use Rattle.pz_io.specs.declared.writing.Halt.{Halt}
use Rattle.pz_bind.specs.pz_syntax.Classes.{ModelTree}
use Rattle.pz_bind.specs.pz_classes_rules.Soundness.{IsSound}
use Rattle.pz_run_output.specs.pz_trace.pz_rules.Runs.{Event, Ending, ended, deadlocked, troubled, halted, refused}
use Rattle.pz_sim.specs.pz_term_simulator.Simulations.{Simulation}
use Rattle.pz_run_output.specs.pz_lines.Identifiers.{is_identifier}
use Rattle.pz_lines.proofs.IdentifierWords.{identifiers_are_words}
use Rattle.pz_watch.specs.Points.{Point}
use Rattle.pz_watch.specs.Files.{NamedFormula, AreWatches, IsRefusedAt}
use Rattle.pz_watch.specs.Breaking.{broken_at, AreBroken}
use Rattle.pz_watch.specs.Laws.{IsOneList, IsNeverBoth}
use Rattle.pz_run_output.specs.pz_env_closing.pz_watch_points.EventPoints.{points_of}
use Rattle.pz_run_output.specs.pz_env_closing.pz_run_playing.declared.finale.Judged.{Judged}
use Rattle.pz_run_output.specs.pz_env_closing.pz_run_playing.Laws.{HasOneRun}
use Rattle.pz_run_output.specs.pz_env_closing.pz_run_playing.Watched.{watched_text, PlaysWatched}
use Rattle.pz_run_output.specs.pz_run_lines.Lines.{watch_refused_line}
use Rattle.pz_run_output.specs.declared.play.Play.{Play}
use Rattle.pz_run_output.specs.declared.status.Status.{Status}
use Rattle.pz_run_output.specs.declared.status.Status.TheVariants.{Done, WriteFault, WatchBroken, WatchRefused}
use Rattle.pz_run_output.specs.Plays.{setting_for, policy_for, RunOf}
use Rattle.pz_run_output.specs.Status.{status_of, IsJudgedAs, broken, kept}
use Rattle.pz_run_output.specs.Output.{PrintsJudged, no_watches, judges}
use Rattle.pz_run_output.specs.devices.Halting.{watched, judged_as}
use Rattle.pz_run.specs.devices.Judging.{PrintsWatches}
use Rattle.pz_run_output.specs.devices.Saying.{Said, Says, Answers}
use Rattle.pz_run_output.proofs.Sayings.{said_whole, said_halted}

-- ---- whether a watch is broken can be told

some_there : (w : NamedFormula) (ws : List NamedFormula) → w ∷ ws ≡ [] → ⊥
some_there w ws e = cc

at_last : (ws : List NamedFormula) (points : List Point) (n : ℕ) → n < length points → AreBroken ws points ⊎ ((i : ℕ) → i < n → broken_at ws points i ≡ [])
    → (l : List NamedFormula) → broken_at ws points n ≡ l → AreBroken ws points ⊎ ((i : ℕ) → i < suc n → broken_at ws points i ≡ [])
at_last ws points n within before [] none =
    ⊎_elim (λ y. inl y)
    (λ all. inr (λ i h. ⊎_elim (λ l. all i l) (λ l. let last : i ≡ n = omega arith in ap (broken_at ws points) last ∙ none) (cases_lt i n)))
    before
at_last ws points n within before (w ∷ l) some = inl (record { at = n; within = within; broken = λ none. some_there w l (sym some ∙ none) })

decide : (ws : List NamedFormula) (points : List Point) (n : ℕ) → n ≤ length points → AreBroken ws points ⊎ ((i : ℕ) → i < n → broken_at ws points i ≡ [])
decide ws points zero within = inr (λ i h. absurd (omega arith))
decide ws points (suc n) within = at_last ws points n (omega arith) (decide ws points n (omega arith)) (broken_at ws points n) refl

told_broken : (ws : List NamedFormula) (points : List Point) → AreBroken ws points ⊎ (AreBroken ws points → ⊥)
told_broken ws points = ⊎_elim (λ y. inl y) (λ none. inr (λ y. y.broken (none y.at y.within))) (decide ws points (length points) (omega arith))

-- ---- the status of a run that was judged

module _ (ws : List NamedFormula) (points : List Point) where
  when_broken : AreBroken ws points → (e : Ending) → IsJudgedAs ws points e (watched true (status_of e))
  when_broken y ended = broken refl y
  when_broken y halted = broken refl y
  when_broken y deadlocked = kept (λ is _. cc)
  when_broken y (troubled trouble) = kept (λ is _. cc)
  when_broken y (refused entry count) = kept (λ is _. cc)

  when_kept : (AreBroken ws points → ⊥) → (e : Ending) → IsJudgedAs ws points e (status_of e)
  when_kept none e = kept (λ _ y. none y)

  judged_so : (e : Ending) (b : Bool) → (IsTrue b) ↔ AreBroken ws points → IsJudgedAs ws points e (watched b (status_of e))
  judged_so e true same = when_broken (same.0 refl) e
  judged_so e false same = when_kept (λ y. let is : false ≡ true = same.1 y in cc) e

  some_status : (e : Ending) → (s : Status) × IsJudgedAs ws points e s
  some_status e = ⊎_elim (λ y. (watched true (status_of e), when_broken y e)) (λ none. (status_of e, when_kept none e)) (told_broken ws points)

end_ordinary : (e : Ending) → status_of e ≢ WriteFault
end_ordinary ended is = cc
end_ordinary deadlocked is = cc
end_ordinary (troubled trouble) is = cc
end_ordinary halted is = cc
end_ordinary (refused entry count) is = cc

ordinary : (ws : List NamedFormula) (points : List Point) (e : Ending) (s : Status) → IsJudgedAs ws points e s → s ≢ WriteFault
ordinary ws points e _ (broken done y) is = cc
ordinary ws points e _ (kept unless) is = end_ordinary e is

module _ (p : Play) (m : ModelTree) (file : List ℕ) (before now : SinkState) where
  pub says_judged : (ws : List NamedFormula) → AreWatches is_identifier file ws → (t : Simulation) (r : Result Judged Halt) (given : Status) → given ≡ judged_as r
      → PlaysWatched (setting_for m p) (policy_for p) ws t before now r → Says (PrintsJudged p m file) before now given
  says_judged ws are t (Ok judged) given is played =
      let points = points_of m played.run.events in
      let text = watched_text (setting_for m p) ws played.run.events played.run.end.clock played.run.ending in
      let wanted = watched judged.broken (status_of played.run.ending) in
      let so = judged_so ws points played.run.ending judged.broken played.broken in
      let same : given ≡ wanted = is ∙ ap (λ (e : Ending). watched judged.broken (status_of e)) played.finale in
      record {
        bytes = text;
        wanted = wanted;
        prints = judges ws played.run wanted are so;
        said = subst (λ (s : Status). Said before now text wanted s) (sym same) (said_whole before now text wanted (ordinary ws points played.run.ending wanted so) played.wrote);
      }
  says_judged ws are t (Err halt) given is played =
      let text = watched_text (setting_for m p) ws played.run.events played.run.end.clock played.run.ending in
      let some = some_status ws (points_of m played.run.events) played.run.ending in
      record {
        bytes = text;
        wanted = some.0;
        prints = judges ws played.run some.0 are some.1;
        said = subst (λ (s : Status). Said before now text some.0 s) (sym is) (said_halted before now text some.0 halt played.wrote);
      }

  -- the file is no list of watches
  pub no_watches_said : (line : ℕ) (given : Status) → IsRefusedAt is_identifier file line → Said before now (watch_refused_line line) WatchRefused given → Answers (PrintsJudged p m file) before now given
  no_watches_said line given wrong said = inr (record { bytes = watch_refused_line line; wanted = WatchRefused; prints = no_watches line wrong; said = said })

-- ---- the one status that goes with it

module _ (one : HasOneRun) (list : IsOneList) (never : IsNeverBoth) (p : Play) (m : ModelTree) (sound : IsSound m) (file : List ℕ) where
  moved : (ws vs : List NamedFormula) (run other : RunOf p m) → ws ≡ vs → AreBroken ws (points_of m run.events) → AreBroken vs (points_of m other.events)
  moved ws vs run other same y =
      subst (λ (us : List NamedFormula). AreBroken us (points_of m other.events)) same
      (subst (λ (es : List Event). AreBroken ws (points_of m es)) (one (setting_for m p) (policy_for p) sound run other).0 y)

  same_end : (run other : RunOf p m) → status_of run.ending ≡ status_of other.ending
  same_end run other = ap status_of (one (setting_for m p) (policy_for p) sound run other).2

  module _ (ws : List NamedFormula) (run : RunOf p m) (are : AreWatches is_identifier file ws) where
    only_end : (status : Status) → IsJudgedAs ws (points_of m run.events) run.ending status → (vs : List NamedFormula) (other : RunOf p m) → AreWatches is_identifier file vs
        → (status_of other.ending ≡ Done → AreBroken vs (points_of m other.events) → ⊥) → status ≡ status_of other.ending
    only_end _ (broken done y) vs other also unless =
        absurd (unless (sym (same_end run other) ∙ done) (moved ws vs run other (list is_identifier file ws vs identifiers_are_words are also) y))
    only_end _ (kept none) vs other also unless = same_end run other

    only_broken : (status : Status) → IsJudgedAs ws (points_of m run.events) run.ending status → (vs : List NamedFormula) (other : RunOf p m) → AreWatches is_identifier file vs
        → status_of other.ending ≡ Done → AreBroken vs (points_of m other.events) → status ≡ WatchBroken
    only_broken _ (broken done y) vs other also is there = refl
    only_broken _ (kept none) vs other also is there =
        absurd (none (same_end run other ∙ is) (moved vs ws other run (list is_identifier file vs ws identifiers_are_words also are) there))

  pub of_judged : (bytes : List ℕ) (status : Status) → PrintsJudged p m file bytes status → PrintsWatches p m file bytes status
  of_judged _ _ (no_watches line wrong) = record {
    prints = no_watches line wrong;
    only = λ ws run are _. absurd (never is_identifier file ws line identifiers_are_words are wrong);
    breaks = λ ws run are _ _. absurd (never is_identifier file ws line identifiers_are_words are wrong);
    no_list = λ _ _. refl;
  }
  of_judged _ _ (judges ws run status are so) = record {
    prints = judges ws run status are so;
    only = only_end ws run are status so;
    breaks = only_broken ws run are status so;
    no_list = λ line wrong. absurd (never is_identifier file ws line identifiers_are_words are wrong);
  }
