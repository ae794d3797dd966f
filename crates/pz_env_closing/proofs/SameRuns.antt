-- The runs of a closed model and the driven runs.
use Rattle.std.proofs.Common.{◌≡◌, ◌∙◌, List, refl, sym, ap}
use Rattle.pz_classes.specs.pz_syntax.Classes.{ModelTree}
use Rattle.pz_run_playing.specs.pz_rules.declared.limits.Limits.{Limits}
use Rattle.pz_run_playing.specs.pz_rules.Configurations.{Config}
use Rattle.pz_run_playing.specs.pz_rules.Runs.{Event, Ending}
use Rattle.pz_run_playing.specs.pz_rules.ChosenRuns.{Policy}
use Rattle.pz_run_playing.specs.pz_rules.Laws.{ChosenRunsAreRuns}
use Rattle.pz_classes.specs.pz_classes_rules.Soundness.{IsSound}
use Rattle.pz_run_playing.specs.RunText.{text_under}
use Rattle.pz_run_playing.specs.Playing.{ChosenRun}
use Rattle.pz_run_playing.specs.Laws.{HasOneRun}
use Rattle.pz_env_joined.specs.pz_env_script.declared.entry.Entry.{Entry}
use Rattle.pz_env_joined.specs.pz_env_script.Scripts.{IsWritten}
use Rattle.pz_env_joined.specs.pz_env_rules.Joining.{driving}
use Rattle.pz_env_joined.specs.pz_env_rules.Text.{drive_header}
use Rattle.pz_env_joined.specs.pz_env_tree.ClosedTree.{closed_tree}
use Rattle.pz_env_sound.specs.MayClose.{MayClose}
use Rattle.pz_env_joined.specs.pz_env_mimics.Closing.{MayDrive}
use Rattle.pz_env_joined.specs.pz_env_mimics.Laws as mimics
use Rattle.pz_env_joined.specs.Laws.{ClosedTreeCloses}
use Rattle.pz_env_closing.specs.DrivenRuns.{ChosenDrivenRun}
use Rattle.pz_env_closing.specs.Laws.{closed_setting, IsSameRun, ClosedRunsAreDriven, DrivenRunsAreClosed, OneDrivenEnding}
use Rattle.pz_env_closing.proofs.Texts.{same_text}
use Rattle.pz_env_closing.proofs.Chosen.{whole_of}

module _ (closes : ClosedTreeCloses) (each_line : mimics.EventLinesAreSame) (end_line : mimics.EndLinesAreSame) where
  pub closed_are_driven : mimics.ChosenClosedAreDriven → ClosedRunsAreDriven
  closed_are_driven chosen m script limits policy may written drive run =
      let g = driving m script limits in
      let n = closed_tree m script in
      let is = closes m script limits may.sound may.opens written may.unrefused drive in
      let x = chosen g n policy run.start run.end run.events run.ending is run.is_start run.is_chosen in (
        record { start = x.start; is_start = x.is_start; events = x.events; end = x.end; ending = run.ending; is_chosen = x.run },
        record { ending = refl; text = same_text each_line end_line g n is.environment x.events run.events x.end.system.clock run.end.clock run.ending x.same x.clock },
      )

  module _ (are : ChosenRunsAreRuns) (m : ModelTree) (script : List Entry) (limits : Limits) (policy : Policy) where
    -- behind the same first line, whatever events and end these are
    same_behind : (events told : List Event) (last end : Config) (ending other : Ending) → events ≡ told → last ≡ end → ending ≡ other
        → text_under (drive_header limits.units) (closed_tree m script) told end.clock other ≡ text_under (drive_header limits.units) (closed_tree m script) events last.clock ending
    same_behind events told last end ending other events_are ends_are are_ending =
        ap (λ (es : List Event). text_under (drive_header limits.units) (closed_tree m script) es end.clock other) (sym events_are)
        ∙ ap (λ (c : Config). text_under (drive_header limits.units) (closed_tree m script) events c.clock other) (sym ends_are)
        ∙ ap (λ (e : Ending). text_under (drive_header limits.units) (closed_tree m script) events last.clock e) (sym are_ending)

    pub driven_is_closed : mimics.ChosenDrivenAreClosed → MayClose m script → IsWritten script → MayDrive limits → (driven : ChosenDrivenRun (driving m script limits) policy)
        → (run : ChosenRun (closed_setting m script limits) policy) × IsSameRun m script limits policy driven run
    driven_is_closed chosen may written drive driven =
        let g = driving m script limits in
        let n = closed_tree m script in
        let is = closes m script limits may.sound may.opens written may.unrefused drive in
        let x = chosen g n policy driven.start driven.end driven.events driven.ending is driven.is_start driven.is_chosen in
        let w = whole_of (closed_setting m script limits) policy x.start x.is_start x.told x.last are driven.ending x.run in (
          w.run,
          record {
            ending = sym w.same_ending;
            text = same_text each_line end_line g n is.environment driven.events x.told driven.end.system.clock x.last.clock driven.ending x.same x.clock
                ∙ same_behind w.run.events x.told w.run.end x.last w.run.ending driven.ending w.same_events w.same_end w.same_ending;
          },
        )

-- a policy chooses one run of the closed model, which is sound
pub end_once : DrivenRunsAreClosed → HasOneRun → ((m : ModelTree) (script : List Entry) → MayClose m script → IsSound (closed_tree m script)) → OneDrivenEnding
end_once closed one sound m script limits policy may written drive x y =
    let a = closed m script limits policy may written drive x in
    let b = closed m script limits policy may written drive y in
    a.1.ending ∙ (one (closed_setting m script limits) policy (sound m script may) a.0 b.0).2 ∙ sym b.1.ending
