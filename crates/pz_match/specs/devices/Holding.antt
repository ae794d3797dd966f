-- What the offers and groups of a table keep.
use Rattle.std.specs.Prelude.{◌≡◌, ◌<◌, ℕ, nat_eq, List, length, count_by, map, All, if◌then◌else◌}
use Rattle.pz_match.specs.declared.kept.Sending.{Sending}
use Rattle.pz_match.specs.declared.kept.Receiving.{Receiving}
use Rattle.pz_match.specs.devices.Lists.{upto}
use Rattle.pz_match.specs.devices.Kept.{Kept, asks_in, rows_at}
use Rattle.pz_match.specs.devices.Tallies.{GroupsView, HasKey, Alike, tally_at, total_of}

-- an offer has the number of the group with its marks

abbrev pub SendKeyed : GroupsView → Sending → Type 0
SendKeyed groups s = HasKey groups.groups s.group s.sender.wire s.sender.message (length s.sender.parcel.values)

abbrev pub ReceiveKeyed : GroupsView → Receiving → Type 0
ReceiveKeyed groups r = HasKey groups.groups r.group r.receiver.wire r.receiver.message r.receiver.count

-- the rows of a send are those of the conditional receives of other processes in its group
pub record Answered (all : List Kept) (s : Sending) : Type 0 where
  pub each : All (λ e. length (rows_at e.process s.rows) ≡ (if nat_eq e.process s.sender.end.process then 0 else count_by (asks_in s.group) e.receives)) all
  pub within : All (λ r. r.process < length all) s.rows

-- the offers of a process: they are its own
pub record Sound (groups : GroupsView) (all : List Kept) (e : Kept) : Type 0 where
  pub sends_own : All (λ s. s.sender.end.process ≡ e.process) e.sends
  pub receives_own : All (λ r. r.receiver.end.process ≡ e.process) e.receives
  pub sends_keyed : All (SendKeyed groups) e.sends
  pub receives_keyed : All (ReceiveKeyed groups) e.receives
  pub answered : All (Answered all) e.sends

pub record Holds (groups : GroupsView) (all : List Kept) : Type 0 where
  pub numbered : map (λ e. e.process) all ≡ upto (length all)
  pub sound : All (Sound groups all) all
  pub tallied : (g : ℕ) → Alike (tally_at groups.groups g) (total_of all g)
