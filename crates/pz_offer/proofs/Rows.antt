-- Rows of summaries, worked out.
use Rattle.std.proofs.Common.{◌≡◌, Some, None, refl}
use Rattle.pz_offer.specs.declared.summary.Summary.{Summary}
use Rattle.pz_offer.specs.declared.trouble.Trouble.{Trouble}
use Rattle.pz_offer.specs.declared.trouble.Trouble.TheVariants.{High}
use Rattle.pz_offer.specs.Summaries.{nothing, join, shifted}

-- what is wrong at the start of a text, in a process
high : Trouble
high = High 3 (record { line = 1; column = 1 })

abbrev late : Summary
late = record { internal = 1; sends = 0; receives = 0; due = Some 5; trouble = None }

abbrev soon : Summary
soon = record { internal = 2; sends = 1; receives = 4; due = Some 3; trouble = Some high }

abbrev later_trouble : Summary
later_trouble = record nothing { trouble = Some (High 4 (record { line = 1; column = 1 })) }

-- the lesser of the two moments, and the sum of the actions
both : join late soon ≡ record { internal = 3; sends = 1; receives = 4; due = Some 3; trouble = Some high }
both = refl

-- the first trouble, from the left
first_trouble : (join soon later_trouble).trouble ≡ Some high
first_trouble = refl

-- one has no moment
one_moment : (join later_trouble late).due ≡ Some 5
one_moment = refl

ahead : shifted 7 soon ≡ record soon { due = Some 10 }
ahead = refl

no_moment : shifted 7 later_trouble ≡ later_trouble
no_moment = refl
