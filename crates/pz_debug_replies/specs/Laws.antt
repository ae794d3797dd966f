-- Laws of the text of sessions.
use Rattle.std.specs.Prelude.{◌≡◌, ℕ, List, Option}
use Rattle.pz_rules.specs.pz_classes_rules.Soundness.{IsSound}
use Rattle.pz_term_simulator.specs.Simulations.{Simulation}
use Rattle.pz_rules.specs.Settings.{Setting}
use Rattle.pz_debug_session.specs.declared.step.Step.{Step}
use Rattle.pz_debug_session.specs.Steps.{StandsAfter}
use Rattle.pz_debug_commands.specs.Commands.{Command}
use Rattle.pz_debug_replies.specs.Advancing.{Advances}
use Rattle.pz_debug_replies.specs.Replies.{Replies}
use Rattle.pz_debug_replies.specs.Sessions.{RepliesAll, IsSessionText}

-- steps that a session takes by itself have one text and lead to one list
abbrev pub OneAdvance : Type 0
OneAdvance = (setting : Setting) (wanted : Option (List ℕ)) (n : ℕ) (xs ys zs : List Step) (text other : List ℕ) → Advances setting wanted n xs text ys → Advances setting wanted n xs other zs
    → (text ≡ other) × (ys ≡ zs)

-- a command has one reply, and leaves one list of steps
abbrev pub OneReply : Type 0
OneReply = (setting : Setting) (line : ℕ) (c : Command) (xs ys zs : List Step) (text other : List ℕ) → Replies setting line xs c text ys → Replies setting line xs c other zs
    → (text ≡ other) × (ys ≡ zs)

-- and so have several, one after the other
abbrev pub OneText : Type 0
OneText = (setting : Setting) (line : ℕ) (cs : List Command) (xs ys zs : List Step) (text other : List ℕ) → RepliesAll setting line xs cs text ys → RepliesAll setting line xs cs other zs
    → (text ≡ other) × (ys ≡ zs)

-- steps that a session takes by itself, their lines, and where they lead
pub record HasAdvance (setting : Setting) (wanted : Option (List ℕ)) (n : ℕ) (xs : List Step) : Type 0 where
  pub text : List ℕ
  pub steps : List Step
  pub advances : Advances setting wanted n xs text steps
  pub to : Simulation
  pub leads : StandsAfter setting steps to

-- a reply to a command, and where the steps lead that it leaves
pub record HasReply (setting : Setting) (line : ℕ) (xs : List Step) (c : Command) : Type 0 where
  pub text : List ℕ
  pub steps : List Step
  pub replies : Replies setting line xs c text steps
  pub to : Simulation
  pub leads : StandsAfter setting steps to

-- the same of several commands, one after the other
pub record HaveReplies (setting : Setting) (line : ℕ) (xs : List Step) (cs : List Command) : Type 0 where
  pub text : List ℕ
  pub steps : List Step
  pub replies : RepliesAll setting line xs cs text steps

-- Of a sound model, from where some steps lead: a session takes steps by itself, each command has a reply,
-- and a text of commands has a text of replies.

abbrev pub EveryAdvance : Type 0
EveryAdvance = (setting : Setting) (wanted : Option (List ℕ)) (n : ℕ) (xs : List Step) (s : Simulation) → IsSound setting.model → StandsAfter setting xs s → HasAdvance setting wanted n xs

abbrev pub EveryReply : Type 0
EveryReply = (setting : Setting) (line : ℕ) (xs : List Step) (c : Command) (s : Simulation) → IsSound setting.model → StandsAfter setting xs s → HasReply setting line xs c

abbrev pub EveryText : Type 0
EveryText = (setting : Setting) (line : ℕ) (xs : List Step) (cs : List Command) (s : Simulation) → IsSound setting.model → StandsAfter setting xs s → HaveReplies setting line xs cs

abbrev pub EverySession : Type 0
EverySession = (setting : Setting) (commands : List ℕ) → IsSound setting.model → (text : List ℕ) × IsSessionText setting commands text
