-- Offers that stay in their groups.
use Rattle.std.specs.Prelude.{◌≡◌, ℕ, List, [], ◌∷◌, length, Option, Some, None, IfSome}
use Rattle.pz_offer.specs.declared.ends.SendOffer.{SendOffer}
use Rattle.pz_offer.specs.declared.ends.ReceiveOffer.{ReceiveOffer}
use Rattle.pz_match.specs.declared.groups.Tally.{Tally}
use Rattle.pz_match.specs.declared.kept.Sending.{Sending}
use Rattle.pz_match.specs.declared.kept.Receiving.{Receiving}
use Rattle.pz_match.specs.declared.kept.Stay.{Stay}
use Rattle.pz_match.specs.devices.Tallies.{GroupsView, HasKey, no_tally, plus, only_in, send_tally, receive_tally}

-- what an offer counts already, if it stays
abbrev pub stay_part : Option Stay → ℕ → Tally
stay_part None g = no_tally
stay_part (Some s) g = only_in s.group s.tally g

abbrev pub stays_part : List (Option Stay) → ℕ → Tally
stays_part [] g = no_tally
stays_part (s ∷ ss) g = plus (stay_part s g) (stays_part ss g)

-- sends and receives
abbrev pub planned : List (Option Stay) → List (Option Stay) → ℕ → Tally
planned sends receives g = plus (stays_part sends g) (stays_part receives g)

-- an offer that stays is in the group with its marks

pub record SendStays (groups : GroupsView) (stay : Stay) (o : SendOffer) : Type 0 where
  pub wire : ℕ
  pub wire_is : o.wire ≡ Some wire
  pub keyed : HasKey groups.groups stay.group wire o.message (length o.parcel.values)
  pub asks_not : stay.tally.asking ≡ 0

pub record ReceiveStays (groups : GroupsView) (stay : Stay) (o : ReceiveOffer) : Type 0 where
  pub wire : ℕ
  pub wire_is : o.wire ≡ Some wire
  pub keyed : HasKey groups.groups stay.group wire o.message o.count

abbrev pub MaySend : GroupsView → Option Stay → SendOffer → Type 0
MaySend groups stay o = IfSome stay (λ s. SendStays groups s o)

abbrev pub MayReceive : GroupsView → Option Stay → ReceiveOffer → Type 0
MayReceive groups stay o = IfSome stay (λ s. ReceiveStays groups s o)

-- what is kept of an offer, as one that stays

abbrev pub send_stay : List Receiving → Sending → Option Stay
send_stay rs s = Some (record { group = s.group; tally = send_tally rs s.group s.rows })

abbrev pub receive_stay : Receiving → Option Stay
receive_stay r = Some (record { group = r.group; tally = receive_tally r.receiver.conditional })
