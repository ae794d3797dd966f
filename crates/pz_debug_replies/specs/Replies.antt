-- What each command prints, and the steps that are taken once it is done.
use Rattle.std.specs.Prelude.{◌≡◌, ◌≤◌, ◌<◌, ◌-◌, ℕ, List, [], ◌∷◌, ◌++◌, length, take, Option, Some, None}
use Rattle.pz_rules.specs.pz_copy.Parcels.{ParcelView}
use Rattle.pz_rules.specs.declared.action.Action.{Action}
use Rattle.pz_rules.specs.declared.moment.Moment.{Moment}
use Rattle.pz_rules.specs.declared.moment.Moment.TheVariants.{Actions, Time, Finished, Deadlock, Faulty, Stopped}
use Rattle.pz_rules.specs.Settings.{Setting}
use Rattle.pz_rules.specs.Configurations.{Config}
use Rattle.pz_rules.specs.Runs.{Standing}
use Rattle.pz_trace.specs.declared.ending.Ending.{Ending}
use Rattle.pz_trace.specs.declared.ending.Ending.TheVariants as ending
use Rattle.pz_trace.specs.declared.ending.Ending.TheVariants.{End, Trouble}
use Rattle.pz_trace.specs.Lines.{action_line, time_line, end_line}
use Rattle.pz_term_simulator.specs.Simulations.{Simulation, stands, IsMomentOf, AreOffersOf, IsOffer, clock_in}
use Rattle.pz_term_simulator.specs.Shown.{HoldsValue}
use Rattle.pz_term_simulator.specs.Refusals.{NoTime}
use Rattle.pz_debug_commands.specs.Commands.{Command, menu, pick, pass, run, until, back, show, unknown}
use Rattle.pz_debug_session.specs.declared.step.Step.{Step}
use Rattle.pz_debug_session.specs.declared.step.Step.TheVariants.{Pick, Pass}
use Rattle.pz_debug_session.specs.Steps.{StandsAfter}
use Rattle.pz_debug_replies.specs.Lines.{menu_line, offers_text, waiting_line, refused_pick_line, refused_pass_line, back_line, refused_back_line, show_line, refused_show_line, refused_command_line}
use Rattle.pz_debug_replies.specs.Shown.{IsVariable}
use Rattle.pz_debug_replies.specs.Advancing.{Advances}

-- how many offers the moment counts; none where it is not `Actions`
abbrev pub offers_at : Moment → ℕ
offers_at (Actions n) = n
offers_at moment = 0

-- the ending of a run that is at this moment, if it has come to its end
abbrev pub ending_at : Moment → Option Ending
ending_at Finished = Some End
ending_at Deadlock = Some ending.Deadlock
ending_at (Faulty trouble) = Some (Trouble trouble)
ending_at (Stopped trouble) = Some (Trouble trouble)
ending_at moment = None

-- the command in this line, after these steps, prints this text and leaves those steps
pub data Replies (setting : Setting) (line : ℕ) : List Step → Command → List ℕ → List Step → Type 0 where
  offered : (xs : List Step) (s : Simulation) (n : ℕ) (actions : List Action) → StandsAfter setting xs s → IsMomentOf s (Actions n) → AreOffersOf s actions
      → Replies setting line xs menu (menu_line (clock_in s) n ++ offers_text setting.model 0 actions) xs
  waiting : (xs : List Step) (s : Simulation) (d : ℕ) → StandsAfter setting xs s → IsMomentOf s (Time d) → Replies setting line xs menu (waiting_line (clock_in s) d) xs
  -- no step is possible: the line in which the run ends
  over : (xs : List Step) (s : Simulation) (moment : Moment) (ending : Ending) → StandsAfter setting xs s → IsMomentOf s moment → ending_at moment ≡ Some ending
      → Replies setting line xs menu (end_line setting.model (clock_in s) ending) xs
  picks : (xs : List Step) (s : Simulation) (n k : ℕ) (a : Action) → StandsAfter setting xs s → IsMomentOf s (Actions n) → IsOffer s k a
      → Replies setting line xs (pick k) (action_line setting.model (clock_in s) n k a) (xs ++ Pick k ∷ [])
  no_offer : (xs : List Step) (s : Simulation) (k : ℕ) (moment : Moment) → StandsAfter setting xs s → IsMomentOf s moment → offers_at moment ≤ k
      → Replies setting line xs (pick k) (refused_pick_line (clock_in s) k (offers_at moment)) xs
  passes : (xs : List Step) (s : Simulation) (d : ℕ) → StandsAfter setting xs s → IsMomentOf s (Time d) → Replies setting line xs pass (time_line (clock_in s) d) (xs ++ Pass ∷ [])
  no_passing : (xs : List Step) (s : Simulation) (moment : Moment) → StandsAfter setting xs s → IsMomentOf s moment → NoTime moment
      → Replies setting line xs pass (refused_pass_line (clock_in s)) xs
  runs : (n : ℕ) (xs ys : List Step) (text : List ℕ) → Advances setting None n xs text ys → Replies setting line xs (run n) text ys
  runs_until : (message : List ℕ) (n : ℕ) (xs ys : List Step) (text : List ℕ) → Advances setting (Some message) n xs text ys → Replies setting line xs (until message n) text ys
  -- the clock is that after going back
  goes_back : (n : ℕ) (xs : List Step) (s : Simulation) → n ≤ length xs → StandsAfter setting (take (length xs - n) xs) s
      → Replies setting line xs (back n) (back_line (length xs - n) (clock_in s)) (take (length xs - n) xs)
  too_far : (n : ℕ) (xs : List Step) → length xs < n → Replies setting line xs (back n) (refused_back_line n (length xs)) xs
  shows : (xs : List Step) (c : Config) (standing : Standing) (path name : List ℕ) (i v : ℕ) (parcel : ParcelView) → StandsAfter setting xs (stands setting c standing)
      → IsVariable setting.model path name i v → HoldsValue c i v parcel → Replies setting line xs (show path name) (show_line setting.model path name parcel) xs
  shows_none : (xs : List Step) (path name : List ℕ) → ((i v : ℕ) → IsVariable setting.model path name i v → ⊥) → Replies setting line xs (show path name) refused_show_line xs
  is_unknown : (xs : List Step) → Replies setting line xs unknown (refused_command_line line) xs
