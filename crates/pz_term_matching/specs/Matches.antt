-- The sends and receives that fit, in their order.
use Rattle.std.specs.Prelude.{◌≡◌, ◌≢◌, ◌<◌, ◌⊎◌, ℕ, List, length, Some, slice_get, unwrap_or, All, AllPairs, Contains}
use Rattle.std.specs.Option.{option_map}
use Rattle.pz_term_matching.specs.declared.ends.Sender.{Sender}
use Rattle.pz_term_matching.specs.declared.ends.Receiver.{Receiver}
use Rattle.pz_term_matching.specs.declared.ends.Pair.{Pair}

-- A send and a receive, by their places in the lists, that fit: they stand in two processes, on one
-- wire, and message and number of values are the same.
pub record Fits (senders : List Sender) (receivers : List Receiver) (p : Pair) : Type 0 where
  pub sender : Sender
  pub receiver : Receiver
  pub sends : slice_get senders p.sender ≡ Some sender
  pub receives : slice_get receivers p.receiver ≡ Some receiver
  pub wire : sender.wire ≡ receiver.wire
  pub message : sender.message ≡ receiver.message
  pub values : length sender.parcel.values ≡ receiver.count
  pub two : sender.end.process ≢ receiver.end.process

-- the wire of the send at this place
abbrev pub wire_of : List Sender → ℕ → ℕ
wire_of senders i = unwrap_or (option_map (λ s. s.wire) (slice_get senders i)) 0

-- by wire, then by sender, then by receiver
abbrev pub Before : List Sender → Pair → Pair → Type 0
Before senders p q =
    (wire_of senders p.sender < wire_of senders q.sender)
    ⊎ ((wire_of senders p.sender ≡ wire_of senders q.sender) × ((p.sender < q.sender) ⊎ ((p.sender ≡ q.sender) × (p.receiver < q.receiver))))

-- strictly increasing, and exactly the pairs that fit
pub record AreMatches (senders : List Sender) (receivers : List Receiver) (pairs : List Pair) : Type 0 where
  pub ordered : AllPairs (Before senders) pairs
  pub fit : All (Fits senders receivers) pairs
  pub every : (p : Pair) → Fits senders receivers p → Contains pairs p
