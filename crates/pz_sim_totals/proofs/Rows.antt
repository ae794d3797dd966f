-- Rows of totals, worked out.
use Rattle.std.proofs.Common.{◌≡◌, [], ◌∷◌, None, Some, refl, lit<}
use Rattle.pz_offer.specs.Summaries.{nothing}
use Rattle.pz_sim_totals.specs.declared.total.Total.{Total}
use Rattle.pz_sim_totals.specs.Sums.{none, all, IsAction}
use Rattle.pz_sim_totals.specs.devices.Levels.{levels}

-- two internal actions, a process that is done, one that waits, and one internal action with a send
abbrev two : Total
two = record { summary = record nothing { internal = 2 }; unfinished = 1 }

abbrev waits : Total
waits = record { summary = record nothing { due = Some 7 }; unfinished = 1 }

abbrev one : Total
one = record { summary = record nothing { internal = 1; sends = 1 }; unfinished = 1 }

together : all (two ∷ none ∷ waits ∷ one ∷ []) ≡ record { summary = record { internal = 3; sends = 1; receives = 0; due = Some 7; trouble = None }; unfinished = 3 }
together = refl

-- the second of the first process, and the first behind those that have none
last_of_first : IsAction (two ∷ none ∷ waits ∷ one ∷ []) 1 (record { process = 0; number = 1 })
last_of_first = record { process = lit< tt; number = lit< tt; before = refl }

first_of_last : IsAction (two ∷ none ∷ waits ∷ one ∷ []) 2 (record { process = 3; number = 0 })
first_of_last = record { process = lit< tt; number = lit< tt; before = refl }

-- three totals, the sums of two and of one, and the sum of all
cells : levels 3 (two ∷ waits ∷ one ∷ []) ≡ two ∷ waits ∷ one ∷ all (two ∷ waits ∷ []) ∷ one ∷ all (two ∷ waits ∷ one ∷ []) ∷ []
cells = refl
