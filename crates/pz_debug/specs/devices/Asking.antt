-- Names that were found in words.
use Rattle.std.specs.Prelude.{ℕ, List, Option, Some, None}
use Rattle.pz_debug.specs.Asked.{Asked, Asks}
use Rattle.pz_debug.specs.declared.asking.Names.{Names}

abbrev pub asked_of : Names → Asked
asked_of names = record { model = names.model.now; commands = names.commands.now }

-- they are what the words ask for
abbrev pub AreFound : List (List ℕ) → Option Names → Type 0
AreFound words None = (a : Asked) → Asks words a → ⊥
AreFound words (Some names) = Asks words (asked_of names)
