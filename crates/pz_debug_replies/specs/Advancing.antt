-- Steps that a session takes by itself: the first offer where there is one, else time passes.
use Rattle.std.specs.Prelude.{◌≡◌, ℕ, zero, suc, Bool, true, false, List, [], ◌∷◌, ◌++◌, Option, Some, None}
use Rattle.std.specs.Str.{bytes_eq}
use Rattle.pz_rules.specs.declared.action.Action.{Action}
use Rattle.pz_rules.specs.declared.action.Action.TheVariants.{Internal, Comm}
use Rattle.pz_rules.specs.declared.moment.Moment.{Moment}
use Rattle.pz_rules.specs.declared.moment.Moment.TheVariants.{Actions, Time}
use Rattle.pz_rules.specs.Settings.{Setting}
use Rattle.pz_trace.specs.Lines.{action_line, time_line}
use Rattle.pz_term_simulator.specs.Simulations.{Simulation, IsMomentOf, IsOffer, clock_in}
use Rattle.pz_term_simulator.specs.Refusals.{NoActions, NoTime}
use Rattle.pz_debug_session.specs.declared.step.Step.{Step}
use Rattle.pz_debug_session.specs.declared.step.Step.TheVariants.{Pick, Pass}
use Rattle.pz_debug_session.specs.Steps.{StandsAfter}

-- a communication of the message that is waited for
abbrev pub is_wanted : Option (List ℕ) → Action → Bool
is_wanted None a = false
is_wanted (Some message) (Internal at kind pos) = false
is_wanted (Some message) (Comm wire sender receiver name parcel) = bytes_eq name message

-- Up to n steps from these on, with their lines: fewer where none is possible any more, and none behind
-- the first communication that is waited for.
pub data Advances (setting : Setting) (wanted : Option (List ℕ)) : ℕ → List Step → List ℕ → List Step → Type 0 where
  used_up : (xs : List Step) → Advances setting wanted zero xs [] xs
  held : (n : ℕ) (xs : List Step) (s : Simulation) (moment : Moment) → StandsAfter setting xs s → IsMomentOf s moment → NoActions moment → NoTime moment → Advances setting wanted (suc n) xs [] xs
  passes : (n d : ℕ) (xs ys : List Step) (text : List ℕ) (s : Simulation) → StandsAfter setting xs s → IsMomentOf s (Time d)
      → Advances setting wanted n (xs ++ Pass ∷ []) text ys → Advances setting wanted (suc n) xs (time_line (clock_in s) d ++ text) ys
  acts : (n k : ℕ) (a : Action) (xs ys : List Step) (text : List ℕ) (s : Simulation) → StandsAfter setting xs s → IsMomentOf s (Actions k) → IsOffer s 0 a → is_wanted wanted a ≡ false
      → Advances setting wanted n (xs ++ Pick 0 ∷ []) text ys → Advances setting wanted (suc n) xs (action_line setting.model (clock_in s) k 0 a ++ text) ys
  found : (n k : ℕ) (a : Action) (xs : List Step) (s : Simulation) → StandsAfter setting xs s → IsMomentOf s (Actions k) → IsOffer s 0 a → is_wanted wanted a ≡ true
      → Advances setting wanted (suc n) xs (action_line setting.model (clock_in s) k 0 a) (xs ++ Pick 0 ∷ [])
