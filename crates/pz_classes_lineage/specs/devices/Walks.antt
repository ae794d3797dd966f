-- Walks from class to parent, one from each class in turn, each as far as the classes are new.
use Rattle.std.specs.Prelude.{◌≡◌, ◌⊎◌, ◌<◌, ◌≤◌, ℕ, Bool, false, IsTrue, List, Option, Some, None, slice_index, slice_index_or}
use Rattle.pz_classes_lineage.specs.Reached.{Reaches, GoesRound}

-- walks are numbered from 1, and the list has the number of the walk that came to a class, or 0
abbrev pub IsWalked : List ℕ → ℕ → Type 0
IsWalked walks c = 0 < slice_index walks c

-- there was a walk from each of the classes below this one, and they went as far as parents lead
pub record AreWalked (up : ℕ → Option ℕ) (walks : List ℕ) (count : ℕ) : Type 0 where
  pub numbered : (c : ℕ) → slice_index walks c ≤ count
  pub closed : (c p : ℕ) → IsWalked walks c → up c ≡ Some p → IsWalked walks p
  pub each : (c : ℕ) → c < count → IsWalked walks c

-- of the classes that a walk came to first, those that go round are the ones that this class
-- reaches, or none is
abbrev pub Finds : (ℕ → Option ℕ) → List ℕ → List ℕ → Option ℕ → Type 0
Finds up old new None = (c : ℕ) → IsWalked new c → GoesRound up c → IsWalked old c
Finds up old new (Some k) = GoesRound up k × ((c : ℕ) → IsWalked new c → GoesRound up c → IsWalked old c ⊎ Reaches up k c)

abbrev pub IsMarked : List Bool → ℕ → Type 0
IsMarked marks c = IsTrue (slice_index_or marks c false)

-- a parent of a class that is marked is marked
abbrev pub AreMarkedUp : (ℕ → Option ℕ) → List Bool → Type 0
AreMarkedUp up marks = (c p : ℕ) → IsMarked marks c → up c ≡ Some p → IsMarked marks p

-- of the classes that were walked those that go round are marked, and no other class is
pub record AreFound (up : ℕ → Option ℕ) (walks : List ℕ) (marks : List Bool) : Type 0 where
  pub sound : (c : ℕ) → IsMarked marks c → GoesRound up c
  pub whole : (c : ℕ) → IsWalked walks c → GoesRound up c → IsMarked marks c
  pub closed : AreMarkedUp up marks
