-- The text of a driven run, and that of the run of the model that closes the system.
use Rattle.std.proofs.Common.{◌≡◌, ◌∙◌, ℕ, List, [], ◌∷◌, ◌++◌, refl, sym, ap}
use Rattle.std.specs.List.{flat_map}
use Rattle.pz_classes.specs.pz_syntax.Classes.{ModelTree}
use Rattle.pz_run_playing.specs.pz_rules.Runs.{Event, Ending, ended, deadlocked, troubled, halted, refused}
use Rattle.pz_run_playing.specs.pz_trace.declared.ending.Ending.TheVariants.{End, Deadlock, Stop, Trouble}
use Rattle.pz_run_playing.specs.pz_trace.TraceText as trace
use Rattle.pz_run_playing.specs.Endings as playing
use Rattle.pz_run_playing.specs.RunText.{text_under}
use Rattle.pz_env_joined.specs.pz_env_rules.Joining.{Driving}
use Rattle.pz_env_joined.specs.pz_env_rules.Text.{drive_header, event_line}
use Rattle.pz_env_joined.specs.pz_env_mimics.Environments.{HasEnvironment}
use Rattle.pz_env_joined.specs.pz_env_mimics.Closing.{SameEvents}
use Rattle.pz_env_joined.specs.pz_env_mimics.Laws.{EventLinesAreSame, EndLinesAreSame}
use Rattle.pz_env_closing.specs.DrivenRuns.{last_line, driven_text}

module _ (each_line : EventLinesAreSame) (end_line : EndLinesAreSame) (g : Driving) (n : ModelTree) (environment : HasEnvironment g n) where
  same_lines : (events told : List Event) → SameEvents g events told → flat_map (event_line g) events ≡ trace.events_text n told
  same_lines [] [] same = refl
  same_lines [] (f ∷ told) same = absurd same
  same_lines (e ∷ events) [] same = absurd same
  same_lines (e ∷ events) (f ∷ told) same =
      ap (λ (l : List ℕ). l ++ flat_map (event_line g) events) (each_line g n e f environment same.0)
      ∙ ap (λ (l : List ℕ). trace.event_line n f ++ l) (same_lines events told same.1)

  same_last : (clock : ℕ) (ending : Ending) → last_line g clock ending ≡ playing.last_line n clock ending
  same_last clock ended = end_line g n clock End environment
  same_last clock deadlocked = end_line g n clock Deadlock environment
  same_last clock halted = end_line g n clock Stop environment
  same_last clock (troubled trouble) = end_line g n clock (Trouble trouble) environment
  same_last clock (refused entry count) = refl

  pub same_text : (events told : List Event) (clock late : ℕ) (ending : Ending) → SameEvents g events told → late ≡ clock
      → driven_text g events clock ending ≡ text_under (drive_header g.setting.limits.units) n told late ending
  same_text events told clock late ending same clocks =
      ap (λ (l : List ℕ). drive_header g.setting.limits.units ++ (l ++ last_line g clock ending)) (same_lines events told same)
      ∙ ap (λ (l : List ℕ). drive_header g.setting.limits.units ++ (trace.events_text n told ++ l)) (same_last clock ending)
      ∙ ap (λ (c : ℕ). text_under (drive_header g.setting.limits.units) n told c ending) (sym clocks)
