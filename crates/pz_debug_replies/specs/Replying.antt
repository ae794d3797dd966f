-- What a call has done that replies to commands.
use Rattle.std.specs.Prelude.{◌≡◌, ℕ, List, Result, OnOk}
use Rattle.std.specs.Result.{result_err}
use Rattle.pz_io.specs.Outside.{SinkState}
use Rattle.pz_io.specs.declared.writing.Halt.{Halt}
use Rattle.pz_io.specs.Writing.{Wrote}
use Rattle.pz_rules.specs.pz_classes_rules.Soundness.{IsSound}
use Rattle.pz_classes_openings.specs.OpeningRules.{Opens}
use Rattle.pz_rules.specs.declared.limits.Edition.TheVariants.{Two}
use Rattle.pz_rules.specs.Settings.{Setting}
use Rattle.pz_term_simulator.specs.Simulations.{Simulation, setting_in, model_in, limits_in}
use Rattle.pz_debug_commands.specs.Commands.{Command}
use Rattle.pz_debug_session.specs.declared.step.Step.{Step}
use Rattle.pz_debug_session.specs.Steps.{StandsLow}
use Rattle.pz_debug_replies.specs.Replies.{Replies}
use Rattle.pz_debug_replies.specs.Sessions.{IsSessionText}

-- These steps of a sound model, which opens in edition Two, lead to where this stands, and the clock is at most
-- 2^64 units for each of them.
pub record IsAt (steps : List Step) (s : Simulation) : Type 0 where
  pub sound : IsSound (model_in s)
  pub opens : (limits_in s).edition ≡ Two → Opens (model_in s)
  pub place : StandsLow (setting_in s) steps s

-- The reply to a command was written, unless that halted: then a front of it. If it did not, the session has
-- the steps that the reply leaves, and stands where they lead.
pub record Replied {A : Type 0} (line : ℕ) (c : Command) (xs : List Step) (s : Simulation) (ys : List Step) (t : Simulation) (before now : SinkState) (result : Result A Halt) : Type 0 where
  pub text : List ℕ
  pub left : List Step
  pub replies : Replies (setting_in s) line xs c text left
  pub wrote : Wrote before now text (result_err result)
  pub steps : OnOk result (ys ≡ left)
  pub is_at : OnOk result (IsAt ys t)
  pub setting : setting_in t ≡ setting_in s

-- the text of a session was written, unless that halted: then a front of it
pub record WroteSession {A : Type 0} (setting : Setting) (commands : List ℕ) (before now : SinkState) (result : Result A Halt) : Type 0 where
  pub text : List ℕ
  pub is_text : IsSessionText setting commands text
  pub wrote : Wrote before now text (result_err result)
