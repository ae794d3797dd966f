-- What a chooser of the code stands for.
use Rattle.std.specs.Prelude.{◌≡◌, ⊤, ℕ, min, List, length}
use Rattle.pz_choice.specs.declared.chooser.Chooser.{Chooser}
use Rattle.pz_choice.specs.declared.chooser.Chooser.TheVariants.{First, Seed, List as Listing}
use Rattle.pz_choice.specs.SeededWords.{generator_after}
use Rattle.pz_choice.specs.Resolvers.{Resolver, always_first, seeded, listed}

-- It chooses as this resolver does after so many choices. A list that is used up stays so.
abbrev pub Stands : Chooser → Resolver → ℕ → Type 0
Stands First always_first j = ⊤
Stands (Seed g) (seeded seed) j = g ≡ generator_after seed j
Stands (Listing c) (listed entries) j = (c.list ≡ entries) × (c.next ≡ min j (length entries))
Stands c r j = ⊥
