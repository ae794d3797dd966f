-- The pairs, listed sender by sender.
use Rattle.std.specs.Prelude.{◌+◌, ℕ, List, [], ◌∷◌, length, slice_get, if◌then◌else◌}
use Rattle.std.specs.Option.{option_map_or}
use Rattle.pz_term_matching.specs.declared.ends.Sender.{Sender}
use Rattle.pz_term_matching.specs.declared.ends.Receiver.{Receiver}
use Rattle.pz_term_matching.specs.declared.ends.Pair.{Pair}
use Rattle.pz_term_matching.specs.declared.turns.Turn.{Turn}
use Rattle.pz_term_matching.specs.devices.Chains.{hears_elsewhere}

abbrev pub pair : ℕ → ℕ → Pair
pair sender receiver = record { sender = sender; receiver = receiver }

-- of a sender, by its place, and the receives of which the first has this number
abbrev pub pairs_from : Sender → ℕ → ℕ → List Receiver → List Pair
pairs_from s number place [] = []
pairs_from s number place (r ∷ rs) =
    if hears_elsewhere s.wire s.message (length s.parcel.values) s.end.process r then pair number place ∷ pairs_from s number (place + 1) rs
    else pairs_from s number (place + 1) rs

-- of the sender whose turn it is
abbrev pub pairs_of : List Sender → List Receiver → Turn → List Pair
pairs_of senders receivers t = option_map_or (λ s. pairs_from s t.sender 0 receivers) (slice_get senders t.sender) []
