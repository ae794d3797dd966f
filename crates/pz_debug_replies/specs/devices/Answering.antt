-- A text of commands on its way: what was written, and what is still to come.
use Rattle.std.specs.Prelude.{◌≡◌, ℕ, List, [], ◌++◌, None}
use Rattle.pz_io.specs.Outside.{SinkState}
use Rattle.pz_io.specs.Writing.{Wrote}
use Rattle.pz_rules.specs.Settings.{Setting}
use Rattle.pz_term_simulator.specs.Simulations.{Simulation, setting_in}
use Rattle.pz_debug_commands.specs.Commands.{Command}
use Rattle.pz_debug_commands.specs.Texts.{AreCommands}
use Rattle.pz_debug_session.specs.declared.step.Step.{Step}
use Rattle.pz_debug_replies.specs.Sessions.{RepliesAll}
use Rattle.pz_debug_replies.specs.Replying.{IsAt}

-- of the commands of a file those before this line were answered, and whatever comes of the others, with what
-- was written it is the text of all
pub record IsAnswered (setting : Setting) (file : List ℕ) (before : SinkState) (xs : List Step) (s : Simulation) (now : SinkState) (left : List ℕ) (line : ℕ) : Type 0 where
  pub written : List ℕ
  pub wrote : Wrote before now written None
  pub onward : (cs : List Command) (rest : List ℕ) (zs : List Step) → AreCommands left cs → RepliesAll setting line xs cs rest zs
      → (all : List Command) × AreCommands file all × RepliesAll setting 1 [] all (written ++ rest) zs
  pub is_at : IsAt xs s
  pub same : setting_in s ≡ setting
