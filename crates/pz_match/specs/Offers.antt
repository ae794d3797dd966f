-- The sends and receives that processes offer over wires, and which of them fit.
use Rattle.std.specs.Prelude.{◌≡◌, ◌≢◌, ℕ, List, [], ◌∷◌, length}
use Rattle.std.specs.Option.{option_map_or}
use Rattle.std.specs.List.{flat_map}
use Rattle.pz_offer.specs.declared.ends.SendOffer.{SendOffer}
use Rattle.pz_offer.specs.declared.ends.ReceiveOffer.{ReceiveOffer}
use Rattle.pz_match.specs.declared.offers.Sender.{Sender}
use Rattle.pz_match.specs.declared.offers.Receiver.{Receiver}

-- a send and a receive of two processes, on one wire, with the same message and as many values
pub record Fits (s : Sender) (r : Receiver) : Type 0 where
  pub wire : s.wire ≡ r.wire
  pub message : s.message ≡ r.message
  pub values : length s.parcel.values ≡ r.count
  pub two : s.end.process ≢ r.end.process

-- an offer of a process over a wire

abbrev pub sender : ℕ → SendOffer → ℕ → Sender
sender process s wire = record { end = record { process = process; place = s.place }; wire = wire; message = s.message; parcel = s.parcel }

abbrev pub receiver : ℕ → ReceiveOffer → ℕ → Receiver
receiver process r wire = record { end = record { process = process; place = r.place }; wire = wire; message = r.message; count = r.count; conditional = r.conditional }

-- the offers of a process that reach a wire

abbrev pub senders : ℕ → List SendOffer → List Sender
senders process = flat_map (λ s. option_map_or (λ wire. sender process s wire ∷ []) s.wire [])

abbrev pub receivers : ℕ → List ReceiveOffer → List Receiver
receivers process = flat_map (λ r. option_map_or (λ wire. receiver process r wire ∷ []) r.wire [])
