-- The laws: runs, chosen runs and texts of both are the same.
use Rattle.std.proofs.Common.{◌≡◌, ◌↔◌, ℕ, List, ◌++◌, sym, ap, ◌∙◌}
use Rattle.pz_env_tree.specs.pz_syntax.Classes.{ModelTree}
use Rattle.pz_env_tree.specs.pz_rules.Configurations.{Config}
use Rattle.pz_env_tree.specs.pz_rules.Starting.{IsStart}
use Rattle.pz_env_tree.specs.pz_rules.Runs.{Event, Standing, Reaches, Ending as RunEnding}
use Rattle.pz_env_tree.specs.pz_rules.ChosenRuns.{Policy, IsChosenRun}
use Rattle.pz_env_tree.specs.pz_trace.declared.ending.Ending.{Ending}
use Rattle.pz_env_tree.specs.pz_trace.Lines as trace
use Rattle.pz_env_tree.specs.pz_trace.TraceText.{run_ending, events_text}
use Rattle.pz_env_tree.specs.pz_env_rules.Joining.{Driving}
use Rattle.pz_env_tree.specs.pz_env_rules.Driven.{Driven, IsDrivenStart}
use Rattle.pz_env_tree.specs.pz_env_rules.Runs.{DrivenReaches}
use Rattle.pz_env_tree.specs.pz_env_rules.ChosenRuns.{IsChosenDrivenRun}
use Rattle.pz_env_tree.specs.pz_env_rules.Text.{drive_header, drive_text, end_line, IsDriveText}
use Rattle.pz_env_mimics.specs.Closing.{Closes, closed, SameEvents}
use Rattle.pz_env_mimics.specs.Laws.{ClosedRun, DrivenRun, ChosenClosedRun, ChosenDrivenRun, IsClosedText}
use Rattle.pz_env_mimics.proofs.Known.{Known}
use Rattle.pz_env_mimics.proofs.Starts.{start_on, start_back}
use Rattle.pz_env_mimics.proofs.Reaching.{reach_on, reach_back, moments, ends_same}
use Rattle.pz_env_mimics.proofs.Choosing.{chosen_on, chosen_back}
use Rattle.pz_env_mimics.proofs.Lines.{same_lines, same_end_line}

module _ (known : Known) (g : Driving) (n : ModelTree) (closes : Closes g n) where
  pub closed_run : (start end : Driven) (events : List Event) (standing : Standing) → IsDrivenStart g start
      → DrivenReaches g start events end standing → ClosedRun g n events end standing
  closed_run start end events standing begins reaches =
      let s = start_on known g n closes start begins in
      let r = reach_on known g n closes start events end standing reaches s.config s.same in
      record {
        start = s.config;
        is_start = s.is;
        told = r.told;
        last = r.last;
        reaches = r.is;
        same = r.same;
        clock = r.both.both.clock;
        moments = moments known g n closes end r.last r.both;
        ends = ends_same known g n closes end r.last r.both standing;
      }

  pub driven_run : (start last : Config) (told : List Event) (standing : Standing) → IsStart (closed g n) start
      → Reaches (closed g n) start told last standing → DrivenRun g n told last standing
  driven_run start last told standing begins reaches =
      let s = start_back known g n closes start begins in
      let r = reach_back known g n closes start told last standing reaches s.start s.same in
      record {
        start = s.start;
        is_start = s.is;
        events = r.events;
        end = r.end;
        reaches = r.is;
        same = r.same;
        clock = r.both.both.clock;
        moments = moments known g n closes r.end last r.both;
        ends = ends_same known g n closes r.end last r.both standing;
      }

  pub chosen_closed_run : (policy : Policy) (start end : Driven) (events : List Event) (ending : RunEnding) → IsDrivenStart g start
      → IsChosenDrivenRun g policy 0 start events end ending → ChosenClosedRun g n policy events end ending
  chosen_closed_run policy start end events ending begins run =
      let s = start_on known g n closes start begins in
      let r = chosen_on known g n closes policy 0 start events end ending run s.config s.same in
      record {
        start = s.config;
        is_start = s.is;
        told = r.told;
        last = r.last;
        run = r.is;
        same = r.same;
        clock = r.both.both.clock;
      }

  pub chosen_driven_run : (policy : Policy) (start last : Config) (told : List Event) (ending : RunEnding) → IsStart (closed g n) start
      → IsChosenRun (closed g n) policy 0 start told last ending → ChosenDrivenRun g n policy told last ending
  chosen_driven_run policy start last told ending begins run =
      let s = start_back known g n closes start begins in
      let r = chosen_back known g n closes policy 0 start told last ending run s.start s.same in
      record {
        start = s.start;
        is_start = s.is;
        events = r.events;
        end = r.end;
        run = r.is;
        same = r.same;
        clock = r.both.both.clock;
      }

  -- Texts

  texts : (es fs : List Event) (at clock : ℕ) (ending : Ending) → SameEvents g es fs → at ≡ clock
      → drive_text g es clock ending ≡ drive_header g.setting.limits.units ++ (events_text n fs ++ trace.end_line n at ending)
  texts es fs at clock ending same e =
      ap (λ (l : List ℕ). drive_header g.setting.limits.units ++ (l ++ end_line g clock ending)) (same_lines g n closes.environment es fs same)
      ∙ ap (λ (l : List ℕ). drive_header g.setting.limits.units ++ (events_text n fs ++ l)) (same_end_line g n closes.environment clock ending)
      ∙ ap (λ (t : ℕ). drive_header g.setting.limits.units ++ (events_text n fs ++ trace.end_line n t ending)) (sym e)

  text_on : (text : List ℕ) → IsDriveText g text → IsClosedText g n text
  text_on text is =
      let r = closed_run is.start is.last is.events is.standing is.is_start is.reaches in
      record {
        start = r.start;
        is_start = r.is_start;
        events = r.told;
        last = r.last;
        standing = is.standing;
        reaches = r.reaches;
        ending = is.ending;
        ends = (r.ends (run_ending is.ending)).0 is.ends;
        is_text = is.is_text ∙ texts is.events r.told r.last.clock is.last.system.clock is.ending r.same r.clock;
      }

  text_back : (text : List ℕ) → IsClosedText g n text → IsDriveText g text
  text_back text is =
      let r = driven_run is.start is.last is.events is.standing is.is_start is.reaches in
      record {
        start = r.start;
        is_start = r.is_start;
        events = r.events;
        last = r.end;
        standing = is.standing;
        reaches = r.reaches;
        ending = is.ending;
        ends = (r.ends (run_ending is.ending)).1 is.ends;
        is_text = is.is_text ∙ sym (texts r.events is.events is.last.clock r.end.system.clock is.ending r.same r.clock);
      }

  pub same_texts : (text : List ℕ) → IsDriveText g text ↔ IsClosedText g n text
  same_texts text = (text_on text, text_back text)
