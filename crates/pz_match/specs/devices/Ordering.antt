-- Offers in the order of their places.
use Rattle.std.specs.Prelude.{AllPairs}
use Rattle.pz_offer.specs.PlaceOrder.{PlaceBefore}
use Rattle.pz_match.specs.declared.kept.Sending.{Sending}
use Rattle.pz_match.specs.declared.kept.Receiving.{Receiving}
use Rattle.pz_match.specs.devices.Kept.{Kept}

abbrev pub SendBefore : Sending → Sending → Type 0
SendBefore s t = PlaceBefore s.sender.end.place t.sender.end.place

abbrev pub ReceiveBefore : Receiving → Receiving → Type 0
ReceiveBefore r q = PlaceBefore r.receiver.end.place q.receiver.end.place

pub record Ordered (e : Kept) : Type 0 where
  pub sends : AllPairs SendBefore e.sends
  pub receives : AllPairs ReceiveBefore e.receives
