-- What the parts of an update do.
use Rattle.std.specs.Prelude.{◌≡◌, ◌≤◌, ℕ, List, Some, [], length, count_by, map, slice_get, slice_set, All, Contains}
use Rattle.std.specs.List.{flat_map}
use Rattle.pz_offer.specs.declared.ends.SendOffer.{SendOffer}
use Rattle.pz_offer.specs.declared.ends.ReceiveOffer.{ReceiveOffer}
use Rattle.pz_match.specs.declared.offers.Sender.{Sender}
use Rattle.pz_match.specs.declared.offers.Receiver.{Receiver}
use Rattle.pz_match.specs.declared.groups.Tally.{Tally}
use Rattle.pz_match.specs.declared.kept.Sending.{Sending}
use Rattle.pz_match.specs.declared.kept.Receiving.{Receiving}
use Rattle.pz_match.specs.Offers.{senders, receivers}
use Rattle.pz_match.specs.Judging.{Verdicts}
use Rattle.pz_match.specs.devices.Kept.{Kept, asks_in, rows_at}
use Rattle.pz_match.specs.devices.Tallies.{GroupsView, Follows, Moves, tally_at, send_part, sends_part, receive_part, receives_part, total_of}
use Rattle.pz_match.specs.devices.Asking.{asked_in, renewed}
use Rattle.pz_match.specs.devices.Holding.{SendKeyed, ReceiveKeyed, Holds}

-- a receive is in its group, in place of what it counted already
pub record Listens (old new : GroupsView) (less : ℕ → Tally) (r : Receiving) : Type 0 where
  pub follows : Follows old new
  pub moves : Moves old new less (receive_part r)
  pub keyed : ReceiveKeyed new r

-- a send is in its group, in place of what it counted already, with what all receives there say
pub record Speaks (says : Verdicts) (all : List Kept) (rs : List Receiving) (old new : GroupsView) (less : ℕ → Tally) (s : Sending) : Type 0 where
  pub follows : Follows old new
  pub moves : Moves old new less (send_part rs s)
  pub keyed : SendKeyed new s
  pub answered : s.rows ≡ flat_map (asked_in says s.sender s.group) all

-- the receives that are offered are kept, each in its group
pub record Heard (old new : GroupsView) (less : ℕ → Tally) (process : ℕ) (offers : List ReceiveOffer) (more : List Receiving) : Type 0 where
  pub follows : Follows old new
  pub moves : Moves old new less (receives_part more)
  pub keyed : All (ReceiveKeyed new) more
  pub same : map (λ r. r.receiver) more ≡ receivers process offers

-- the sends that are offered are kept, each in its group and with what all receives there say
pub record Offered (says : Verdicts) (all : List Kept) (rs : List Receiving) (old new : GroupsView) (less : ℕ → Tally) (process : ℕ) (offers : List SendOffer) (more : List Sending) : Type 0 where
  pub follows : Follows old new
  pub moves : Moves old new less (sends_part rs more)
  pub keyed : All (SendKeyed new) more
  pub same : map (λ s. s.sender) more ≡ senders process offers
  pub answered : All (λ s. s.rows ≡ flat_map (asked_in says s.sender s.group) all) more

abbrev pub senders_of : List Kept → List Sender
senders_of = flat_map (λ e. map (λ s. s.sender) e.sends)

abbrev pub receivers_of : List Kept → List Receiver
receivers_of = flat_map (λ e. map (λ r. r.receiver) e.receives)

-- what the groups know of receives with conditions
abbrev pub Covers : GroupsView → List Kept → Type 0
Covers groups all = (g : ℕ) → (total_of all g).asking ≤ (tally_at groups.groups g).asking

-- a process whose sends were asked for anew
abbrev pub renewed_in : Verdicts → ℕ → List Receiving → Kept → Kept
renewed_in says process rs e = record { process = e.process; sends = map (renewed says process rs) e.sends; receives = e.receives }

-- a process that offers nothing
abbrev pub silent : ℕ → Kept
silent process = record { process = process; sends = []; receives = [] }

-- a send for which a process has no rows, and which none of these receives is asked about
pub record Untouched (process : ℕ) (rs : List Receiving) (s : Sending) : Type 0 where
  pub rows : length (rows_at process s.rows) ≡ 0
  pub asks : count_by (asks_in s.group) rs ≡ 0

-- all others are at these places
abbrev pub TouchesOnly : List ℕ → ℕ → List Receiving → List Kept → Type 0
TouchesOnly places process rs all = (k : ℕ) (e : Kept) → slice_get all k ≡ Some e → (Contains places k → ⊥) → All (Untouched process rs) e.sends

-- this process offers these, and all others are asked for anew
abbrev pub other_offers : Verdicts → ℕ → List Sending → List Receiving → List Kept → List Kept
other_offers says process sent heard all = slice_set (map (renewed_in says process heard) all) process (record { process = process; sends = sent; receives = heard })

pub record Replaced (says : Verdicts) (process : ℕ) (sends : List SendOffer) (receives : List ReceiveOffer) (g0 : GroupsView) (all : List Kept) (g1 : GroupsView) (new : List Kept) : Type 0 where
  pub sent : List Sending
  pub heard : List Receiving
  pub is : new ≡ other_offers says process sent heard all
  pub same_sends : map (λ s. s.sender) sent ≡ senders process sends
  pub same_receives : map (λ r. r.receiver) heard ≡ receivers process receives
  pub answered : All (λ s. s.rows ≡ flat_map (asked_in says s.sender s.group) (slice_set all process (silent process))) sent
  pub holds : Holds g1 new
  pub wires : g0.wires ≤ g1.wires
