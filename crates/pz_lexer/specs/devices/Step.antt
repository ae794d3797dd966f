-- What stands first in a text, computed.
use Rattle.std.specs.Prelude.{ℕ, List, [], ◌∷◌, Bool, true, false}
use Rattle.pz_lexer.specs.declared.sorts.Sort.{Sort}
use Rattle.pz_lexer.specs.declared.sorts.Reason.{Reason}

-- what stands first: a piece and the rest, or the place where the cut stops
pub data Step : Type 0 where
  piece : List ℕ → Sort → List ℕ → Step
  stop : List ℕ → List ℕ → Reason → Step

-- the longest front whose bytes are all of a sort, and what follows it
abbrev pub front : (ℕ → Bool) → List ℕ → List ℕ
front sort [] = []
front sort (b ∷ bs) = elim (sort b) [ true ↦ b ∷ front sort bs | false ↦ [] ]

abbrev pub back : (ℕ → Bool) → List ℕ → List ℕ
back sort [] = []
back sort (b ∷ bs) = elim (sort b) [ true ↦ back sort bs | false ↦ b ∷ bs ]
