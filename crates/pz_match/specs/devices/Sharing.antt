-- What blocks of 64 processes have of the groups.
use Rattle.std.specs.Prelude.{◌≡◌, ◌<◌, ◌+◌, ◌-◌, ◌*◌, ◌/◌, ℕ, nat_eq, List, length, take, drop, sum_by, slice_get, Some, Contains, if◌then◌else◌}
use Rattle.std.specs.Option.{option_map_or}
use Rattle.pz_match_lists.specs.declared.shares.Share.{Share}
use Rattle.pz_match_lists.specs.declared.shares.Part.{Part}
use Rattle.pz_match_lists.specs.Shares.{share_at}
use Rattle.pz_match.specs.declared.groups.Tally.{Tally}
use Rattle.pz_match.specs.declared.groups.Group.{Group}
use Rattle.pz_match.specs.declared.kept.Sending.{Sending}
use Rattle.pz_match.specs.declared.kept.Receiving.{Receiving}
use Rattle.pz_match.specs.declared.places.Seat.{Seat}
use Rattle.pz_match.specs.declared.sharing.Way.{Way}
use Rattle.pz_match.specs.declared.sharing.Way.TheVariants.{Off, On}
use Rattle.pz_match.specs.devices.Lists.{upto}
use Rattle.pz_match.specs.devices.Kept.{Kept}
use Rattle.pz_match.specs.devices.Tallies.{pick, total_of}

-- the processes of the block with this number
abbrev pub block_of : ℕ → List Kept → List Kept
block_of b all = take 64 (drop (64 * b) all)

pub record IsShare (share : Share) (t : Tally) : Type 0 where
  pub sends : share.sends ≡ t.sends
  pub free : share.free ≡ t.free
  pub own : share.own ≡ t.own

-- the shares are those of the processes
abbrev pub Shared : List (List Part) → List Kept → Type 0
Shared shares all = (g b : ℕ) → IsShare (share_at shares g b) (total_of (block_of b all) g)

-- the first for what goes, the second for what comes
abbrev pub side : Way → {X : Type 0} → X → X → X
side Off x y = x
side On x y = y

-- a share has lost the one and gained the other
pub record Shifted (new old : Share) (less more : Tally) : Type 0 where
  pub sends : new.sends + less.sends ≡ old.sends + more.sends
  pub free : new.free + less.free ≡ old.free + more.free
  pub own : new.own + less.own ≡ old.own + more.own

-- in every group, and in one block alone
abbrev pub Shifts : ℕ → List (List Part) → List (List Part) → (ℕ → Tally) → (ℕ → Tally) → Type 0
Shifts block old new less more =
    (g b : ℕ) → Shifted (share_at new g b) (share_at old g b) (pick (nat_eq block b) (less g)) (pick (nat_eq block b) (more g))

-- Taken pairs, by shares

-- those of a group on a wire, where no receive with a condition takes any
abbrev pub share_taken : Group → ℕ → Share → ℕ
share_taken x w s = if nat_eq x.wire w then s.sends * x.tally.free - s.own else 0

abbrev pub part_on : List Group → List (List Part) → ℕ → ℕ → ℕ → ℕ
part_on groups shares w b i = option_map_or (λ x. share_taken x w (share_at shares i b)) (slice_get groups i) 0

-- the groups of the wire up to this one are such
abbrev pub Calm : List Group → ℕ → ℕ → Type 0
Calm groups w n = (i : ℕ) (x : Group) → i < n → slice_get groups i ≡ Some x → x.wire ≡ w → x.tally.yes ≡ 0

-- those of all sends of a block on a wire
pub record IsTakenFrom (groups : List Group) (shares : List (List Part)) (w b n : ℕ) : Type 0 where
  pub calm : Calm groups w (length groups)
  pub sum_is : n ≡ sum_by (part_on groups shares w b) (upto (length groups))

-- the groups of a wire are among those with these numbers
abbrev pub AreListedOn : List Group → List ℕ → ℕ → Type 0
AreListedOn groups numbers w = (i : ℕ) (x : Group) → slice_get groups i ≡ Some x → x.wire ≡ w → Contains numbers i

-- the receives of a block that take a send of a process with so many of its own
abbrev pub taken_by : List (List Part) → Sending → ℕ → ℕ → ℕ
taken_by shares s own b = if nat_eq (s.sender.end.process / 64) b then (share_at shares s.group b).free - own else (share_at shares s.group b).free

-- behind a block, with what is left of a number
pub record IsBehind (block pairs rest : ℕ) (seat : Seat) : Type 0 where
  pub place_is : seat.place ≡ 64 * block + 64
  pub left : pairs + seat.rest ≡ rest

-- the blocks whose processes have any of these are among those with these numbers
abbrev pub OnlyIn : List ℕ → List Kept → (Kept → ℕ) → Type 0
OnlyIn blocks all f = (k : ℕ) (e : Kept) → slice_get all k ≡ Some e → (Contains blocks (k / 64) → ⊥) → f e ≡ 0

-- the receives of a process
pub record AreOwn (all : List Kept) (process : ℕ) (receives : List Receiving) : Type 0 where
  pub own : Kept
  pub there : slice_get all process ≡ Some own
  pub same : own.receives ≡ receives
