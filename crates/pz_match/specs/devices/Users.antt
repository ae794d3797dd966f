-- Who has offered something over a wire.
use Rattle.std.specs.Prelude.{◌≡◌, ◌/◌, ℕ, true, List, Option, Some, None, All, Contains, IfSome, slice_get, if◌then◌else◌}
use Rattle.pz_match_lists.specs.Increasing.{list_at}
use Rattle.pz_offer.specs.declared.ends.SendOffer.{SendOffer}
use Rattle.pz_offer.specs.declared.ends.ReceiveOffer.{ReceiveOffer}
use Rattle.pz_match.specs.declared.kept.Receiving.{Receiving}
use Rattle.pz_match.specs.declared.users.Users.{Users}
use Rattle.pz_match.specs.devices.Kept.{Kept}
use Rattle.pz_match.specs.devices.Tallies.{GroupsView}
use Rattle.pz_match_lists.specs.declared.shares.Part.{Part}
use Rattle.pz_match.specs.devices.Tables.{Stands}
use Rattle.pz_match.specs.devices.Sharing.{Shared}

-- each process that sends over this wire is among the first, by its number or that of its block, and each that receives over it among the others
pub record AreUsersBy (number : ℕ → ℕ) (senders receivers : List ℕ) (all : List Kept) (wire : ℕ) : Type 0 where
  pub sending : (k : ℕ) (e : Kept) → slice_get all k ≡ Some e → All (λ s. s.sender.wire ≡ wire → Contains senders (number k)) e.sends
  pub receiving : (k : ℕ) (e : Kept) → slice_get all k ≡ Some e → All (λ r. r.receiver.wire ≡ wire → Contains receivers (number k)) e.receives

abbrev pub AreUsers : List ℕ → List ℕ → List Kept → ℕ → Type 0
AreUsers = AreUsersBy (λ k. k)

-- of every wire

abbrev pub HaveUsers : Users → List Kept → Type 0
HaveUsers users all = (wire : ℕ) → AreUsers (list_at users.senders wire) (list_at users.receivers wire) all wire

abbrev pub AreBlocks : List ℕ → List Kept → ℕ → Type 0
AreBlocks blocks = AreUsersBy (λ k. k / 64) blocks blocks

abbrev pub HaveBlocks : List (List ℕ) → List Kept → Type 0
HaveBlocks blocks all = (wire : ℕ) → AreBlocks (list_at blocks wire) all wire

-- those that were there are there still
abbrev pub KeepsUsers : List (List ℕ) → List (List ℕ) → Type 0
KeepsUsers old new = (k n : ℕ) → Contains (list_at old k) n → Contains (list_at new k) n

-- a process is among the users of the wires of its offers

abbrev pub SendsNoted : List (List ℕ) → ℕ → List SendOffer → Type 0
SendsNoted users process = All (λ s. IfSome s.wire (λ wire. Contains (list_at users wire) process))

abbrev pub ReceivesNoted : List (List ℕ) → ℕ → List ReceiveOffer → Type 0
ReceivesNoted users process = All (λ r. IfSome r.wire (λ wire. Contains (list_at users wire) process))

-- each process that has a receive with a condition on a wire is among those of the wire
abbrev pub HaveAskers : List (List ℕ) → List Kept → Type 0
HaveAskers askers all =
    (wire k : ℕ) (e : Kept) → slice_get all k ≡ Some e → All (λ r. r.receiver.conditional ≡ true → r.receiver.wire ≡ wire → Contains (list_at askers wire) k) e.receives

-- the wire of a receive that has a condition
abbrev pub asking_wire : ReceiveOffer → Option ℕ
asking_wire r = if r.conditional then r.wire else None

abbrev pub AskersNoted : List (List ℕ) → ℕ → List ReceiveOffer → Type 0
AskersNoted askers process = All (λ r. IfSome (asking_wire r) (λ wire. Contains (list_at askers wire) process))

-- of all these offers
pub record Noted (old new : Users) (process : ℕ) (sends : List SendOffer) (receives : List ReceiveOffer) : Type 0 where
  pub senders_kept : KeepsUsers old.senders new.senders
  pub receivers_kept : KeepsUsers old.receivers new.receivers
  pub askers_kept : KeepsUsers old.askers new.askers
  pub sending : SendsNoted new.senders process sends
  pub receiving : ReceivesNoted new.receivers process receives
  pub asking : AskersNoted new.askers process receives
  pub blocks_kept : KeepsUsers old.blocks new.blocks
  pub sending_blocks : SendsNoted new.blocks (process / 64) sends
  pub receiving_blocks : ReceivesNoted new.blocks (process / 64) receives

-- who sends over the wires of those of these receives that have a condition is among these
abbrev pub Gathered : List (List ℕ) → List ℕ → List Receiving → Type 0
Gathered senders places = All (λ r. r.receiver.conditional ≡ true → (n : ℕ) → Contains (list_at senders r.receiver.wire) n → Contains places n)

-- what a table keeps, who uses its wires included
pub record Whole (groups : GroupsView) (users : Users) (shares : List (List Part)) (all : List Kept) : Type 0 where
  pub stands : Stands groups all
  pub used : HaveUsers users all
  pub asks : HaveAskers users.askers all
  pub in_blocks : HaveBlocks users.blocks all
  pub shared : Shared shares all
