-- The text of a session: that of its commands in turn.
use Rattle.std.specs.Prelude.{ℕ, suc, List, [], ◌∷◌, ◌++◌}
use Rattle.pz_rules.specs.Settings.{Setting}
use Rattle.pz_debug_commands.specs.Commands.{Command}
use Rattle.pz_debug_commands.specs.Texts.{AreCommands}
use Rattle.pz_debug_session.specs.declared.step.Step.{Step}
use Rattle.pz_debug_replies.specs.Replies.{Replies}

-- the commands from the line of this number on
pub data RepliesAll (setting : Setting) : ℕ → List Step → List Command → List ℕ → List Step → Type 0 where
  none : (line : ℕ) (xs : List Step) → RepliesAll setting line xs [] [] xs
  more : (line : ℕ) (xs ys zs : List Step) (c : Command) (cs : List Command) (text rest : List ℕ) → Replies setting line xs c text ys → RepliesAll setting (suc line) ys cs rest zs
      → RepliesAll setting line xs (c ∷ cs) (text ++ rest) zs

-- what the commands of a file print, from the start of a run of the model on
pub record IsSessionText (setting : Setting) (commands text : List ℕ) : Type 0 where
  pub are : List Command
  pub are_commands : AreCommands commands are
  pub steps : List Step
  pub replies : RepliesAll setting 1 [] are text steps
