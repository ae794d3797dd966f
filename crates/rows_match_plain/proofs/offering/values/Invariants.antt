use Rattle.std.proofs.Common.{All}
use Rattle.pz_offer.specs.pz_state.References.{RefersWithin}
use Rattle.rows_match_plain.proofs.offering.values.Given as goal

abbrev pub invariant-loop : goal.invariant-loop
invariant-loop l = All (RefersWithin 0) l.values.items
