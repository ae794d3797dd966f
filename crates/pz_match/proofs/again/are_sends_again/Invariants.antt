use Rattle.std.proofs.Common.{◌≡◌, ◌<◌, ℕ, slice_get, Some}
use Rattle.pz_offer.specs.declared.ends.SendOffer.{SendOffer}
use Rattle.pz_match.specs.declared.kept.Sending.{Sending}
use Rattle.pz_match.specs.devices.Again.{SendAgain}
use Rattle.pz_match.proofs.again.are_sends_again.Given as goal

abbrev pub invariant-loop-at : goal.invariant-loop-at
invariant-loop-at l = (k : ℕ) (x : Sending) (y : SendOffer) → k < l.at → slice_get l.sends k ≡ Some x → slice_get l.offers k ≡ Some y → SendAgain l.groups x y
