-- Offers that come again.
use Rattle.std.specs.Prelude.{◌≡◌, ℕ, false, List, [], ◌∷◌, length, slice_get, Some}
use Rattle.pz_offer.specs.declared.ends.SendOffer.{SendOffer}
use Rattle.pz_offer.specs.declared.ends.ReceiveOffer.{ReceiveOffer}
use Rattle.pz_match.specs.declared.kept.Sending.{Sending}
use Rattle.pz_match.specs.declared.kept.Receiving.{Receiving}
use Rattle.pz_match.specs.devices.Kept.{Kept}
use Rattle.pz_match.specs.devices.Tallies.{GroupsView, tally_at}

-- an offer has the marks of one that is kept

pub record SameSend (s : Sending) (o : SendOffer) : Type 0 where
  pub wire : o.wire ≡ Some s.sender.wire
  pub message : o.message ≡ s.sender.message
  pub values : length o.parcel.values ≡ length s.sender.parcel.values

pub record SameReceive (r : Receiving) (o : ReceiveOffer) : Type 0 where
  pub wire : o.wire ≡ Some r.receiver.wire
  pub message : o.message ≡ r.receiver.message
  pub count : o.count ≡ r.receiver.count
  pub conditional : o.conditional ≡ r.receiver.conditional

-- and no condition is about
pub record SendAgain (groups : GroupsView) (s : Sending) (o : SendOffer) : Type 0 where
  pub same : SameSend s o
  pub rows : s.rows ≡ []
  pub calm : (tally_at groups.groups s.group).asking ≡ 0

pub record ReceiveAgain (r : Receiving) (o : ReceiveOffer) : Type 0 where
  pub same : SameReceive r o
  pub free : r.receiver.conditional ≡ false

-- each of a list with its of another
pub record Beside {X Y : Type 0} (P : X → Y → Type 0) (xs : List X) (ys : List Y) : Type 0 where
  pub long : length xs ≡ length ys
  pub each : (k : ℕ) (x : X) (y : Y) → slice_get xs k ≡ Some x → slice_get ys k ≡ Some y → P x y

pub record Again (groups : GroupsView) (e : Kept) (sends : List SendOffer) (receives : List ReceiveOffer) : Type 0 where
  pub sent : Beside (SendAgain groups) e.sends sends
  pub heard : Beside ReceiveAgain e.receives receives

-- what is kept of an offer that comes again: it has another place, and a send other values

abbrev pub send_again : Sending → SendOffer → Sending
send_again s o = record s { sender = record s.sender { end = record { process = s.sender.end.process; place = o.place }; parcel = o.parcel } }

abbrev pub receive_again : Receiving → ReceiveOffer → Receiving
receive_again r o = record r { receiver = record r.receiver { end = record { process = r.receiver.end.process; place = o.place } } }

-- of lists, where the second is no longer
abbrev pub told_again : {X Y : Type 0} → (X → Y → X) → List X → List Y → List X
told_again f [] ys = []
told_again f (x ∷ xs) [] = x ∷ xs
told_again f (x ∷ xs) (y ∷ ys) = f x y ∷ told_again f xs ys

abbrev pub all_again : Kept → List SendOffer → List ReceiveOffer → Kept
all_again e sends receives = record { process = e.process; sends = told_again send_again e.sends sends; receives = told_again receive_again e.receives receives }
