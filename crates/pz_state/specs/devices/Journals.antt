-- Where a journal leads back to. Its latest entry is its last.
use Rattle.std.specs.Prelude.{◌≡◌, ◌++◌, ℕ, zero, suc, List, [], ◌∷◌, drop, reverse, Bool, true, false}
use Rattle.pz_state.specs.declared.journal.Change.{Change}
use Rattle.pz_state.specs.declared.journal.Entry.{Entry}
use Rattle.pz_state.specs.declared.journal.Entry.TheVariants as entry
use Rattle.pz_state.specs.States.{StateView}
use Rattle.pz_state.specs.devices.StoredStates.{Room}
use Rattle.pz_state.specs.devices.Changes.{taken_back, IsReady}

abbrev pub undone_entry : Entry → StateView → StateView
undone_entry entry.Mark s = s
undone_entry entry.Kept s = s
undone_entry (entry.Change c) s = taken_back c s

-- the state before all of these entries
abbrev pub replay : List Entry → StateView → StateView
replay [] s = s
replay (e ∷ es) s = undone_entry e (replay es s)

-- the mark that stands at this place and was made at this state, if one does
abbrev pub mark_here : Entry → ℕ → StateView → List (ℕ × StateView)
mark_here entry.Mark place s = (place, s) ∷ []
mark_here _ place s = []

-- the marks of a journal that begins at this place, the latest first
abbrev pub marks_from : ℕ → List Entry → StateView → List (ℕ × StateView)
marks_from place [] s = []
marks_from place (e ∷ es) s = marks_from (suc place) es s ++ mark_here e place (replay es s)

abbrev pub count_of_marks : List Entry → ℕ
count_of_marks [] = 0
count_of_marks (entry.Mark ∷ es) = suc (count_of_marks es)
count_of_marks (_ ∷ es) = count_of_marks es

abbrev pub is_mark : Entry → Bool
is_mark entry.Mark = true
is_mark _ = false

-- a change is noted where it has to be
abbrev pub noted : Bool → Change → List Entry → List Entry
noted false change es = es
noted true change es = es ++ entry.Change change ∷ []

-- where no mark is open, nothing is kept
abbrev pub while_marked : ℕ → List Entry → List Entry
while_marked zero es = []
while_marked (suc marks) es = es

-- from the places of the open marks to those without the latest. The latest is the last.
abbrev pub IsClosed : List ℕ → List ℕ → Type 0
IsClosed old new = (latest : ℕ) (older : List ℕ) → reverse old ≡ latest ∷ older → reverse new ≡ older

abbrev pub HasNoMarkAfter : List Entry → ℕ → Type 0
HasNoMarkAfter es place = count_of_marks (drop (suc place) es) ≡ 0

abbrev pub HasNoMarkAfterLatest : List ℕ → List Entry → Type 0
HasNoMarkAfterLatest places es = (latest : ℕ) (older : List ℕ) → reverse places ≡ latest ∷ older → HasNoMarkAfter es latest

abbrev pub IsReadyEntry : Room → Entry → StateView → Type 0
IsReadyEntry room (entry.Change c) s = IsReady room c s
IsReadyEntry room _ s = Unit {0}

-- all of these entries can be taken back without taking memory
abbrev pub AreReady : Room → List Entry → StateView → Type 0
AreReady room [] s = Unit {0}
AreReady room (e ∷ es) s = IsReadyEntry room e (replay es s) × AreReady room es s

-- from a state and its entries back to the latest mark: the state is the marked one, and the entries
-- have the older marks
abbrev pub Undoes : StateView → List Entry → StateView → List Entry → Type 0
Undoes s es s1 es1 = (m : ℕ × StateView) (older : List (ℕ × StateView)) → marks_from 0 es s ≡ m ∷ older
    → (s1 ≡ m.1) × (marks_from 0 es1 s1 ≡ older) × (count_of_marks es ≡ suc (count_of_marks es1))
