use Rattle.std.proofs.Common.{◌≡◌, ◌<◌, ℕ, slice_get, Some}
use Rattle.pz_offer.specs.declared.ends.ReceiveOffer.{ReceiveOffer}
use Rattle.pz_match.specs.declared.kept.Receiving.{Receiving}
use Rattle.pz_match.specs.devices.Again.{ReceiveAgain}
use Rattle.pz_match.proofs.again.are_receives_again.Given as goal

abbrev pub invariant-loop-at : goal.invariant-loop-at
invariant-loop-at l = (k : ℕ) (x : Receiving) (y : ReceiveOffer) → k < l.at → slice_get l.receives k ≡ Some x → slice_get l.offers k ≡ Some y → ReceiveAgain x y
