-- The order in which senders come.
use Rattle.std.specs.Prelude.{◌≡◌, ◌<◌, ◌⊎◌, ℕ, List, Some, slice_get, All, AllPairs, Contains}
use Rattle.pz_term_matching.specs.declared.ends.Sender.{Sender}
use Rattle.pz_term_matching.specs.declared.turns.Turn.{Turn}

abbrev pub TurnBefore : Turn → Turn → Type 0
TurnBefore a b = (a.wire < b.wire) ⊎ ((a.wire ≡ b.wire) × (a.sender < b.sender))

-- it is that of a sender
pub record IsTurn (senders : List Sender) (t : Turn) : Type 0 where
  pub sender : Sender
  pub there : slice_get senders t.sender ≡ Some sender
  pub wire : sender.wire ≡ t.wire

pub record AreTurns (senders : List Sender) (turns : List Turn) : Type 0 where
  pub ordered : AllPairs TurnBefore turns
  pub known : All (IsTurn senders) turns
  pub every : (i : ℕ) (s : Sender) → slice_get senders i ≡ Some s → Contains turns (record { wire = s.wire; sender = i })
