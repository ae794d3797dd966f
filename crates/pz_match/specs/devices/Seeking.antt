-- Which pairs are sought, and how many there are.
use Rattle.std.specs.Prelude.{◌≡◌, ◌<◌, ◌+◌, ◌-◌, ℕ, zero, suc, Bool, nat_eq, List, filter, count_by, sum_by, take, drop, slice_get, slice_index_or, Some, Contains, if◌then◌else◌}
use Rattle.pz_offer.specs.declared.ends.Verdict.{Verdict}
use Rattle.pz_offer.specs.declared.ends.Verdict.TheVariants.{Yes}
use Rattle.pz_match.specs.declared.rows.Row.{Row}
use Rattle.pz_match.specs.declared.kept.Sending.{Sending}
use Rattle.pz_match.specs.declared.kept.Receiving.{Receiving}
use Rattle.pz_match.specs.declared.groups.Group.{Group}
use Rattle.pz_match.specs.declared.groups.Sort.{Sort}
use Rattle.pz_match.specs.declared.groups.Sort.TheVariants.{Taken, Troubled}
use Rattle.pz_match.specs.declared.places.Seat.{Seat}
use Rattle.pz_match.specs.declared.places.Hit.{Hit}
use Rattle.pz_match.specs.declared.places.Taker.{Taker}
use Rattle.pz_match.specs.declared.places.Couple.{Couple}
use Rattle.pz_match.specs.Pairs.{Judged, is_yes, is_trouble}
use Rattle.pz_match.specs.devices.Kept.{Kept, free_in, judged, answers, next_verdict, pairs_of}
use Rattle.pz_match.specs.devices.Tallies.{tally_at, yeses, troubled}

abbrev pub wants : Sort → Verdict → Bool
wants Taken = is_yes
wants Troubled = is_trouble

abbrev pub sought : Sort → List Judged → List Judged
sought sort = filter (λ p. wants sort p.verdict)

-- the pairs of a send, in a process with these receives
abbrev pub number_of : Sort → List Group → List Receiving → Sending → ℕ
number_of Taken groups rs s = ((tally_at groups s.group).free - count_by (free_in s.group) rs) + yeses s.rows
number_of Troubled groups rs s = troubled s.rows

abbrev pub number_on : Sort → List Group → ℕ → List Receiving → Sending → ℕ
number_on sort groups w rs s = if nat_eq s.sender.wire w then number_of sort groups rs s else 0

-- a place in a list at which so many are left of a number
pub record IsSeat {X : Type 0} (f : X → ℕ) (xs : List X) (number : ℕ) (seat : Seat) : Type 0 where
  pub item : X
  pub there : slice_get xs seat.place ≡ Some item
  pub before : sum_by f (take seat.place xs) + seat.rest ≡ number
  pub inside : seat.rest < f item

abbrev pub from_process : Sort → List Group → ℕ → Kept → ℕ
from_process sort groups w e = sum_by (number_on sort groups w e.receives) e.sends

-- what a receive says, and the rows that are left for those behind it
pub record IsAnswer (conditional : Bool) (rows : List Row) (verdict : Verdict) (left : List Row) : Type 0 where
  pub says_so : verdict ≡ (if conditional then next_verdict rows else Yes)
  pub left_is : left ≡ (if conditional then drop 1 rows else rows)

pub record IsHit (sort : Sort) (s : Sending) (rs : List Receiving) (rows : List Row) (number : ℕ) (hit : Hit) : Type 0 where
  pub receive : Receiving
  pub there : slice_get rs hit.place ≡ Some receive
  pub at : slice_get (sought sort (answers s.sender s.group rows rs)) number ≡ Some (judged s.sender receive.receiver hit.verdict)

pub record IsTaker (sort : Sort) (all : List Kept) (s : Sending) (number : ℕ) (taker : Taker) : Type 0 where
  pub process : Kept
  pub receive : Receiving
  pub there : slice_get all taker.process ≡ Some process
  pub receive_there : slice_get process.receives taker.hit.place ≡ Some receive
  pub at : slice_get (sought sort (pairs_of all s)) number ≡ Some (judged s.sender receive.receiver taker.hit.verdict)

-- the pair with this number in a list
pub record IsCouple (pairs : List Judged) (all : List Kept) (number : ℕ) (couple : Couple) : Type 0 where
  pub sending_process : Kept
  pub send : Sending
  pub receiving_process : Kept
  pub receive : Receiving
  pub sends : slice_get all couple.sender.0 ≡ Some sending_process
  pub send_there : slice_get sending_process.sends couple.sender.1 ≡ Some send
  pub receives : slice_get all couple.receiver.0 ≡ Some receiving_process
  pub receive_there : slice_get receiving_process.receives couple.receiver.1 ≡ Some receive
  pub at : slice_get pairs number ≡ Some (judged send.sender receive.receiver couple.verdict)

-- what stands at a place of a process

pub record IsSendAt (all : List Kept) (process place : ℕ) (s : Sending) : Type 0 where
  pub kept_there : Kept
  pub there : slice_get all process ≡ Some kept_there
  pub send_there : slice_get kept_there.sends place ≡ Some s

abbrev pub IsSend : List Kept → ℕ → ℕ → Type 0
IsSend all process place = (s : Sending) × IsSendAt all process place s

pub record IsReceiveAt (all : List Kept) (process place : ℕ) (r : Receiving) : Type 0 where
  pub kept_there : Kept
  pub there : slice_get all process ≡ Some kept_there
  pub receive_there : slice_get kept_there.receives place ≡ Some r

abbrev pub IsReceive : List Kept → ℕ → ℕ → Type 0
IsReceive all process place = (r : Receiving) × IsReceiveAt all process place r

-- what is left behind the first of these numbers
abbrev pub past : List ℕ → ℕ → ℕ
past numbers zero = 0
past numbers (suc n) = slice_index_or numbers n 0 + 1

-- what has any of these is at one of these places
abbrev pub OnlyAmong : {X : Type 0} → List ℕ → List X → (X → ℕ) → Type 0
OnlyAmong {X} places all f = (k : ℕ) (e : X) → slice_get all k ≡ Some e → (Contains places k → ⊥) → f e ≡ 0

abbrev pub OnlyAt : List ℕ → List Kept → (Kept → ℕ) → Type 0
OnlyAt = OnlyAmong {X = Kept}
