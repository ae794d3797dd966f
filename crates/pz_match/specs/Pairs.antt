-- The pairs that fit, each with its verdict, in their order.
use Rattle.std.specs.Prelude.{◌≡◌, ◌<◌, ◌⊎◌, ◌||◌, ◌&&◌, ℕ, Bool, true, false, nat_eq, List, [], ◌∷◌, filter, Option, Some, None, All, AllPairs, Contains}
use Rattle.pz_offer.specs.PlaceOrder.{EndBefore}
use Rattle.pz_offer.specs.declared.end.End.{End}
use Rattle.pz_offer.specs.declared.trouble.Trouble.{Trouble}
use Rattle.pz_offer.specs.declared.ends.Verdict.{Verdict}
use Rattle.pz_offer.specs.declared.ends.Verdict.TheVariants as says
use Rattle.pz_match.specs.declared.offers.Sender.{Sender}
use Rattle.pz_match.specs.declared.offers.Receiver.{Receiver}
use Rattle.pz_match.specs.Offers.{Fits}

pub record Judged : Type 0 where
  pub sender : Sender
  pub receiver : Receiver
  pub verdict : Verdict

-- by wire, then by the end of the send, then by that of the receive
abbrev pub Before : Judged → Judged → Type 0
Before p q =
    (p.sender.wire < q.sender.wire)
    ⊎ ((p.sender.wire ≡ q.sender.wire) × (EndBefore p.sender.end q.sender.end ⊎ ((p.sender.end ≡ q.sender.end) × EndBefore p.receiver.end q.receiver.end)))

-- strictly increasing, and exactly those of these sends and receives that fit
pub record ArePairs (senders : List Sender) (receivers : List Receiver) (pairs : List Judged) : Type 0 where
  pub ordered : AllPairs Before pairs
  pub sends : All (λ p. Contains senders p.sender) pairs
  pub receives : All (λ p. Contains receivers p.receiver) pairs
  pub fit : All (λ p. Fits p.sender p.receiver) pairs
  pub every : (s : Sender) (r : Receiver) → Contains senders s → Contains receivers r → Fits s r → (v : Verdict) × Contains pairs (record { sender = s; receiver = r; verdict = v })

-- whether one of the ends is of this process
abbrev pub touches : ℕ → Judged → Bool
touches process p = nat_eq p.sender.end.process process || nat_eq p.receiver.end.process process

-- the pairs that an update of this process asks about: those with an end in it and a condition
abbrev pub questions : ℕ → List Judged → List Judged
questions process = filter (λ p. touches process p && p.receiver.conditional)

-- the pairs that a receive takes

abbrev pub is_yes : Verdict → Bool
is_yes says.Yes = true
is_yes says.No = false
is_yes (says.Trouble t) = false

abbrev pub is_trouble : Verdict → Bool
is_trouble says.Yes = false
is_trouble says.No = false
is_trouble (says.Trouble t) = true

abbrev pub taken : List Judged → List Judged
taken = filter (λ p. is_yes p.verdict)

-- what is handed out of a pair: the send, and the end of the receive
abbrev pub offered : Judged → Sender × End
offered p = (p.sender, p.receiver.end)

-- the trouble of the first pair that has one

abbrev pub first_or : Verdict → Option Trouble → Option Trouble
first_or says.Yes later = later
first_or says.No later = later
first_or (says.Trouble t) later = Some t

abbrev pub first_trouble : List Judged → Option Trouble
first_trouble [] = None
first_trouble (p ∷ ps) = first_or p.verdict (first_trouble ps)
