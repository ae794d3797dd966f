-- What is found in one process, added to a survey.
use Rattle.std.specs.Prelude.{◌≡◌, ℕ, Bool, ◌&&◌, List, [], ◌∷◌, ◌++◌, map, min, Option, Some, None, slice_get}
use Rattle.std.specs.List.{filter_map}
use Rattle.std.specs.Option.{option_map, option_or}
use Rattle.pz_rules.specs.pz_offer.PlaceOrder.{Place}
use Rattle.pz_rules.specs.pz_offer.declared.end.End.{End}
use Rattle.pz_rules.specs.declared.action.Action.{Action}
use Rattle.pz_rules.specs.declared.action.Action.TheVariants.{Internal}
use Rattle.pz_term_matching.specs.declared.ends.Sender.{Sender}
use Rattle.pz_term_matching.specs.declared.ends.Receiver.{Receiver}
use Rattle.pz_term_enabled.specs.declared.found.Doing.{Doing}
use Rattle.pz_term_enabled.specs.declared.found.ActiveSend.{ActiveSend}
use Rattle.pz_term_enabled.specs.declared.found.ActiveReceive.{ActiveReceive}
use Rattle.pz_term_enabled.specs.declared.found.Found.{Found}
use Rattle.pz_term_enabled.specs.declared.findings.Survey.{Survey}

-- the part at this place of process i
abbrev pub end_at : ℕ → Place → End
end_at i place = record { process = i; place = place }

abbrev pub action_of : ℕ → Doing → Action
action_of i d = Internal (end_at i d.place) d.kind d.pos

-- a send of process i over this wire, if there is one
abbrev pub sender_over : ℕ → ActiveSend → Option ℕ → Option Sender
sender_over i x wire = option_map (λ w. record { end = end_at i x.place; wire = w; message = x.message; parcel = x.parcel }) wire

abbrev pub receiver_over : ℕ → ActiveReceive → Option ℕ → Option Receiver
receiver_over i x wire = option_map (λ w. record { end = end_at i x.place; wire = w; message = x.message; count = x.count }) wire

-- over the wire of its port
abbrev pub sender_of : (ℕ → Option ℕ) → ℕ → ActiveSend → Option Sender
sender_of wire i x = sender_over i x (wire x.port)

abbrev pub receiver_of : (ℕ → Option ℕ) → ℕ → ActiveReceive → Option Receiver
receiver_of wire i x = receiver_over i x (wire x.port)

-- of what was the least so far, if there was something, and what is left of a further delay
abbrev pub lesser : Option ℕ → ℕ → ℕ
lesser None left = left
lesser (Some d) left = min d left

abbrev pub least_of : Option ℕ → List ℕ → Option ℕ
least_of least [] = least
least_of least (left ∷ delays) = least_of (Some (lesser least left)) delays

-- The ports of process i have these wires, this is found in it, and it is finished or not.
pub record Adds (wire : ℕ → Option ℕ) (i : ℕ) (found : Found) (finished : Bool) (old new : Survey) : Type 0 where
  pub internal : new.internal.items ≡ old.internal.items ++ map (action_of i) found.internal.items
  pub senders : new.senders.items ≡ old.senders.items ++ filter_map (sender_of wire i) found.sends.items
  pub receivers : new.receivers.items ≡ old.receivers.items ++ filter_map (receiver_of wire i) found.receives.items
  pub least : new.least ≡ least_of old.least found.delays.items
  pub trouble : new.trouble ≡ option_or old.trouble (slice_get found.troubles.items 0)
  pub done : new.done ≡ (old.done && finished)
