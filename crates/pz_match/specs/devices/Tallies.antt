-- How many offers and pairs a group has.
use Rattle.std.specs.Prelude.{◌≡◌, ◌<◌, ◌≤◌, ◌+◌, ◌-◌, ◌*◌, ℕ, zero, suc, Bool, true, false, nat_eq, List, [], ◌∷◌, length, slice_get, slice_index, Some, All, Contains, sum_by, count_by, if◌then◌else◌}
use Rattle.std.specs.Option.{option_map_or}
use Rattle.pz_match_lists.specs.Increasing.{list_at}
use Rattle.pz_match.specs.declared.rows.Row.{Row}
use Rattle.pz_match.specs.declared.groups.Tally.{Tally}
use Rattle.pz_match.specs.declared.groups.Group.{Group}
use Rattle.pz_match.specs.declared.kept.Sending.{Sending}
use Rattle.pz_match.specs.declared.kept.Receiving.{Receiving}
use Rattle.pz_match.specs.Pairs.{is_yes, is_trouble}
use Rattle.pz_match.specs.devices.Kept.{Kept, free_in}

-- the groups in the order of their numbers, and a number above all their wires
pub record GroupsView : Type 0 where
  pub groups : List Group
  pub wires : ℕ

abbrev pub no_tally : Tally
no_tally = record { sends = 0; free = 0; own = 0; asking = 0; yes = 0; troubles = 0 }

-- of the group with this number
abbrev pub tally_at : List Group → ℕ → Tally
tally_at groups g = option_map_or (λ x. x.tally) (slice_get groups g) no_tally

-- the pairs that are taken
abbrev pub taken_in : Tally → ℕ
taken_in t = (t.sends * t.free - t.own) + t.yes

abbrev pub taken_on : ℕ → Group → ℕ
taken_on w x = if nat_eq x.wire w then taken_in x.tally else 0

-- of all groups of a wire
abbrev pub on_wire : List Group → ℕ → ℕ
on_wire groups w = sum_by (taken_on w) groups

-- a group has these marks
pub record HasKey (groups : List Group) (g wire : ℕ) (message : List ℕ) (count : ℕ) : Type 0 where
  pub group : Group
  pub there : slice_get groups g ≡ Some group
  pub wire_is : group.wire ≡ wire
  pub message_is : group.message ≡ message
  pub count_is : group.count ≡ count

-- no two groups have the same marks
abbrev pub Distinct : List Group → Type 0
Distinct groups =
    (i j : ℕ) (wire : ℕ) (message : List ℕ) (count : ℕ) → HasKey groups i wire message count → HasKey groups j wire message count → i ≡ j

-- what the groups of a table keep: the taken pairs of each wire are counted
pub record GroupsHold (groups : List Group) (counts : List ℕ) (troubles : ℕ) : Type 0 where
  pub within : All (λ x. x.wire < length counts) groups
  pub counted : (w : ℕ) → w < length counts → slice_index counts w ≡ on_wire groups w
  pub distinct : Distinct groups
  pub troubled_is : troubles ≡ sum_by (λ x. x.tally.troubles) groups

-- the number of each group is in the list of its wire
abbrev pub AreListed : List Group → List (List ℕ) → Type 0
AreListed groups numbers = (g : ℕ) (x : Group) → slice_get groups g ≡ Some x → Contains (list_at numbers x.wire) g

pub record GroupsKept (groups : List Group) (numbers : List (List ℕ)) (counts : List ℕ) (troubles : ℕ) : Type 0 where
  pub hold : GroupsHold groups counts troubles
  pub listed : AreListed groups numbers

-- groups keep their numbers and marks, and there may be more
pub record Follows (old new : GroupsView) : Type 0 where
  pub longer : length old.groups ≤ length new.groups
  pub wires : old.wires ≤ new.wires
  pub marks : (g wire : ℕ) (message : List ℕ) (count : ℕ) → HasKey old.groups g wire message count → HasKey new.groups g wire message count

-- the tally of one is replaced
abbrev pub with_tally : List Group → ℕ → Tally → List Group
with_tally [] g t = []
with_tally (x ∷ xs) zero t = record x { tally = t } ∷ xs
with_tally (x ∷ xs) (suc g) t = x ∷ with_tally xs g t

-- Sums of tallies

abbrev pub plus : Tally → Tally → Tally
plus a b = record { sends = a.sends + b.sends; free = a.free + b.free; own = a.own + b.own; asking = a.asking + b.asking; yes = a.yes + b.yes; troubles = a.troubles + b.troubles }

pub record Alike (a b : Tally) : Type 0 where
  pub sends : a.sends ≡ b.sends
  pub free : a.free ≡ b.free
  pub own : a.own ≡ b.own
  pub asking : a.asking ≡ b.asking
  pub yes : a.yes ≡ b.yes
  pub troubles : a.troubles ≡ b.troubles

abbrev pub SameTallies : GroupsView → GroupsView → Type 0
SameTallies old new = (g : ℕ) → Alike (tally_at new.groups g) (tally_at old.groups g)

-- each group has lost the one and gained the other
abbrev pub Moves : GroupsView → GroupsView → (ℕ → Tally) → (ℕ → Tally) → Type 0
Moves old new less more = (g : ℕ) → Alike (plus (tally_at new.groups g) (less g)) (plus (tally_at old.groups g) (more g))

abbrev pub nothing : ℕ → Tally
nothing g = no_tally

abbrev pub pick : Bool → Tally → Tally
pick true t = t
pick false t = no_tally

-- in the group with this number alone
abbrev pub only_in : ℕ → Tally → ℕ → Tally
only_in number t g = pick (nat_eq number g) t

-- What a process has in a group

abbrev pub yeses : List Row → ℕ
yeses rows = count_by (λ r. is_yes r.verdict) rows

abbrev pub troubled : List Row → ℕ
troubled rows = count_by (λ r. is_trouble r.verdict) rows

-- a send of a group, with these rows, in a process with these receives
abbrev pub send_tally : List Receiving → ℕ → List Row → Tally
send_tally rs g rows = record { sends = 1; free = 0; own = count_by (free_in g) rs; asking = 0; yes = yeses rows; troubles = troubled rows }

abbrev pub send_part : List Receiving → Sending → ℕ → Tally
send_part rs s = only_in s.group (send_tally rs s.group s.rows)

abbrev pub receive_tally : Bool → Tally
receive_tally true = record { sends = 0; free = 0; own = 0; asking = 1; yes = 0; troubles = 0 }
receive_tally false = record { sends = 0; free = 1; own = 0; asking = 0; yes = 0; troubles = 0 }

abbrev pub receive_part : Receiving → ℕ → Tally
receive_part r = only_in r.group (receive_tally r.receiver.conditional)

abbrev pub sends_part : List Receiving → List Sending → ℕ → Tally
sends_part rs [] g = no_tally
sends_part rs (s ∷ ss) g = plus (send_part rs s g) (sends_part rs ss g)

abbrev pub receives_part : List Receiving → ℕ → Tally
receives_part [] g = no_tally
receives_part (r ∷ rs) g = plus (receive_part r g) (receives_part rs g)

abbrev pub part_of : Kept → ℕ → Tally
part_of e g = plus (sends_part e.receives e.sends g) (receives_part e.receives g)

-- of all processes
abbrev pub total_of : List Kept → ℕ → Tally
total_of [] g = no_tally
total_of (e ∷ all) g = plus (part_of e g) (total_of all g)
