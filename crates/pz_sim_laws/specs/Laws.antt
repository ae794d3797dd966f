-- Laws of systems that are known process by process.
use Rattle.std.specs.Prelude.{◌≡◌, ◌+◌, ℕ, true, false, not, List, length, map, filter, slice_get, slice_set, Bool, All, AllPairs, Contains, Some, Result, Ok, Err}
use Rattle.pz_tree_standing.specs.pz_syntax.declared.tokens.Pos.{Pos}
use Rattle.pz_tree_standing.specs.pz_classes_rules.Soundness.{IsSound}
use Rattle.pz_tree_standing.specs.pz_copy.Parcels.{ParcelView}
use Rattle.pz_tree_standing.specs.pz_offer.declared.end.End.{End}
use Rattle.pz_tree_standing.specs.pz_offer.declared.trouble.Trouble.{Trouble}
use Rattle.pz_tree_standing.specs.pz_offer.declared.ends.SendOffer.{SendOffer}
use Rattle.pz_tree_standing.specs.pz_offer.declared.ends.ReceiveOffer.{ReceiveOffer}
use Rattle.pz_tree_standing.specs.pz_offer.PlaceOrder.{Place, PlaceBefore}
use Rattle.pz_match.specs.declared.offers.Sender.{Sender}
use Rattle.pz_match.specs.declared.offers.Receiver.{Receiver}
use Rattle.pz_match.specs.Pairs.{Judged, ArePairs, taken, touches}
use Rattle.pz_tree_standing.specs.pz_rules.declared.action.Kind.{Kind}
use Rattle.pz_tree_standing.specs.pz_rules.declared.action.Action.TheVariants.{Internal, Comm}
use Rattle.pz_tree_standing.specs.pz_rules.Terms.{Term}
use Rattle.pz_tree_standing.specs.pz_rules.Settings.{Setting, Process}
use Rattle.pz_tree_standing.specs.pz_rules.Ports.{HasWires}
use Rattle.pz_tree_standing.specs.pz_rules.Heights.{IsLow}
use Rattle.pz_tree_standing.specs.pz_rules.Moments.{IsMoment}
use Rattle.pz_tree_standing.specs.pz_rules.Offers.{IsPair}
use Rattle.pz_tree_standing.specs.pz_rules.Runs.{IsChoice}
use Rattle.pz_tree_standing.specs.pz_rules.Active.{IsActive}
use Rattle.pz_tree_standing.specs.pz_rules.Leaving.{settled}
use Rattle.pz_tree_standing.specs.pz_rules.Configurations.{Config}
use Rattle.pz_tree_standing.specs.pz_rules.Steps.{Acts, Next, PassesTo}
use Rattle.pz_tree_standing.specs.pz_rules.Meanings.{and_then}
use Rattle.pz_tree_standing.specs.pz_rules.devices.Walk as walk
use Rattle.pz_tree_standing.specs.pz_rules.devices.Walk.{Noted, internal_actions}
use Rattle.pz_sim_totals.specs.declared.totals.Found.{Found}
use Rattle.pz_sim_totals.specs.Sums.{IsAction}
use Rattle.pz_tree_standing.specs.Woken.{clocked}
use Rattle.pz_sim_laws.specs.Members.{Member, config_of, become, AreMembers}
use Rattle.pz_sim_laws.specs.Offering.{AreSendOffers, AreReceiveOffers, AreSenders, AreReceivers, SendersOf, ReceiversOf, in_all}
use Rattle.pz_sim_laws.specs.Couples.{SaysAt, communication, IsTruthful, AreCouples}
use Rattle.pz_sim_laws.specs.Deciding.{total_of, total_of_all, offers_in, decided}
use Rattle.pz_sim_laws.specs.Deeds.{Manner, alone, handing, taking, deed}
use Rattle.pz_sim_laws.specs.Elapsing.{Elapsed, HasReceive}

-- What may happen

-- where no term is too high, the moment is what totals and pairs decide
abbrev pub MomentIsDecided : Type 0
MomentIsDecided = (setting : Setting) (clock : ℕ) (ms : List Member) (ps : List Judged) → AreMembers setting clock ms → IsLow setting (config_of clock ms)
    → AreCouples setting (config_of clock ms) ps → IsMoment setting (config_of clock ms) (decided clock (total_of_all clock ms) ps)

-- the internal action with this number in its process is the offer of its number among those of all
abbrev pub InternalsComeFirst : Type 0
InternalsComeFirst = (setting : Setting) (clock : ℕ) (ms : List Member) (ps : List Judged) → AreMembers setting clock ms → AreCouples setting (config_of clock ms) ps
    → (k : ℕ) (found : Found) (m : Member) (d : Noted walk.Doing) → IsAction (map (total_of clock) ms) k found → slice_get ms found.process ≡ Some m
    → slice_get (internal_actions m.seen m.term) found.number ≡ Some d
    → IsChoice setting (config_of clock ms) (offers_in (total_of_all clock ms) ps) k (Internal (record { process = found.process; place = d.place }) d.what.kind d.what.pos)

-- behind them come the pairs that are taken, in their order
abbrev pub CommunicationsFollow : Type 0
CommunicationsFollow = (setting : Setting) (clock : ℕ) (ms : List Member) (ps : List Judged) → AreMembers setting clock ms → AreCouples setting (config_of clock ms) ps
    → (j : ℕ) (p : Judged) → slice_get (taken ps) j ≡ Some p
    → IsChoice setting (config_of clock ms) (offers_in (total_of_all clock ms) ps) ((total_of_all clock ms).summary.internal + j) (communication p)

-- where the wires of the model are known: the pairs of what all processes offer, with what is so of their receives, are those
-- of the rules
abbrev pub PairsAreCouples : Type 0
PairsAreCouples = (setting : Setting) (clock : ℕ) (ms : List Member) (sends : List (List Sender)) (receives : List (List Receiver)) (ps : List Judged)
    → HasWires setting.model → AreMembers setting clock ms → AreSenders ms sends → AreReceivers ms receives
    → ArePairs (in_all sends) (in_all receives) ps → All (IsTruthful ms) ps → AreCouples setting (config_of clock ms) ps

-- a receive that is offered stands in its process
abbrev pub ReceiversStand : Type 0
ReceiversStand = (ms : List Member) (rows : List (List Receiver)) (r : Receiver) → AreReceivers ms rows → Contains (in_all rows) r
    → (m : Member) × (slice_get ms r.end.process ≡ Some m) × HasReceive m.seen m.term r.end.place

-- what a process offers stands in the order of places

abbrev pub SendsAreOrdered : Type 0
SendsAreOrdered = (m : Member) (xs : List SendOffer) → AreSendOffers m xs → AllPairs (λ x y. PlaceBefore x.place y.place) xs

abbrev pub ReceivesAreOrdered : Type 0
ReceivesAreOrdered = (m : Member) (xs : List ReceiveOffer) → AreReceiveOffers m xs → AllPairs (λ x y. PlaceBefore x.place y.place) xs

-- What one process leaves as it is

-- where one process is replaced, with its row, the other rows stay theirs

abbrev pub SendersAreReplaced : Type 0
SendersAreReplaced = (ms : List Member) (rows : List (List Sender)) (i : ℕ) (m : Member) (row : List Sender)
    → AreSenders ms rows → SendersOf i m row → AreSenders (slice_set ms i m) (slice_set rows i row)

abbrev pub ReceiversAreReplaced : Type 0
ReceiversAreReplaced = (ms : List Member) (rows : List (List Receiver)) (i : ℕ) (m : Member) (row : List Receiver)
    → AreReceivers ms rows → ReceiversOf i m row → AreReceivers (slice_set ms i m) (slice_set rows i row)

-- and what is kept of pairs without an end in it stays so
abbrev pub OthersStayTruthful : Type 0
OthersStayTruthful = (ms : List Member) (i : ℕ) (m : Member) (old new : List Judged) → All (IsTruthful ms) old
    → filter (λ p. not (touches i p)) new ≡ filter (λ p. not (touches i p)) old
    → All (λ p. touches i p ≡ true → IsTruthful (slice_set ms i m) p) new → All (IsTruthful (slice_set ms i m)) new

-- Steps

-- what a part of a process leaves of it by a deed, the configuration says too
abbrev pub MembersAct : Type 0
MembersAct = (setting : Setting) (clock : ℕ) (ms : List Member) (manner : Manner) (i : ℕ) (m : Member) (place : Place) (frame : ℕ) (part : Term) (pos : Pos) (left result : Result Process Trouble)
    → AreMembers setting clock ms → slice_get ms i ≡ Some m → IsActive m.seen m.term place frame part → deed manner m.seen frame part pos left
    → result ≡ and_then left (settled m.seen pos m.term place)
    → Acts setting (config_of clock ms) (deed manner) (record { process = i; place = place }) result

-- by an action of one process the others stay
abbrev pub ActionLeadsOn : Type 0
ActionLeadsOn = (setting : Setting) (clock : ℕ) (ms : List Member) (at : End) (kind : Kind) (pos : Pos) (m : Member) (result : Result Process Trouble)
    → slice_get ms at.process ≡ Some m → Acts setting (config_of clock ms) (deed alone) at result
    → Next setting (config_of clock ms) (Internal at kind pos) (and_then result (λ p. Ok (config_of clock (slice_set ms at.process (become m p)))))

abbrev pub CommunicationLeadsOn : Type 0
CommunicationLeadsOn = (setting : Setting) (clock : ℕ) (ms : List Member) (wire : ℕ) (sender receiver : End) (message : List ℕ) (parcel : ParcelView) (m n : Member) (sent taken : Result Process Trouble)
    → slice_get ms sender.process ≡ Some m → slice_get ms receiver.process ≡ Some n
    → Acts setting (config_of clock ms) (deed (handing parcel)) sender sent → Acts setting (config_of clock ms) (deed (taking parcel)) receiver taken
    → Next setting (config_of clock ms) (Comm wire sender receiver message parcel)
    (and_then sent (λ p. and_then taken (λ q. Ok (config_of clock (slice_set (slice_set ms sender.process (become m p)) receiver.process (become n q))))))

-- a trouble of the sender ends a communication, whatever the receiver would leave
abbrev pub SenderTroubleEnds : Type 0
SenderTroubleEnds = (setting : Setting) (c : Config) (wire : ℕ) (sender receiver : End) (message : List ℕ) (parcel : ParcelView) (trouble : Trouble)
    → IsPair setting c wire sender receiver message parcel → Acts setting c (deed (handing parcel)) sender (Err trouble)
    → Next setting c (Comm wire sender receiver message parcel) (Err trouble)

-- where time has passed for each process, it has passed for all
abbrev pub PassingLeadsOn : Type 0
PassingLeadsOn = (setting : Setting) (clock d : ℕ) (ms ns : List Member) → AreMembers setting clock ms → length ns ≡ length ms
    → ((i : ℕ) (m n : Member) → slice_get ms i ≡ Some m → slice_get ns i ≡ Some n → Elapsed d m n)
    → PassesTo setting (config_of clock ms) d (config_of (clock + d) ns)

-- they are processes of the model afterwards

abbrev pub MembersStay : Type 0
MembersStay = (setting : Setting) (clock : ℕ) (ms : List Member) (i : ℕ) (m : Member) (p : Process)
    → AreMembers setting clock ms → slice_get ms i ≡ Some m → AreMembers setting clock (slice_set ms i (become m p))

abbrev pub MembersPass : Type 0
MembersPass = (setting : Setting) (clock d : ℕ) (ms ns : List Member) → AreMembers setting clock ms → length ns ≡ length ms
    → ((i : ℕ) (m n : Member) → slice_get ms i ≡ Some m → slice_get ns i ≡ Some n → Elapsed d m n)
    → AreMembers setting (clock + d) ns

-- What a process that does not name the clock keeps as time passes: all that it offers, and what its receives say

abbrev pub SendsOutlast : Type 0
SendsOutlast = (d : ℕ) (m n : Member) (xs : List SendOffer) → IsSound m.seen.setting.model → Elapsed d m n → clocked m.seen 0 m.term ≡ false
    → AreSendOffers m xs → AreSendOffers n xs

abbrev pub ReceivesOutlast : Type 0
ReceivesOutlast = (d : ℕ) (m n : Member) (xs : List ReceiveOffer) → IsSound m.seen.setting.model → Elapsed d m n → clocked m.seen 0 m.term ≡ false
    → AreReceiveOffers m xs → AreReceiveOffers n xs

abbrev pub VerdictsOutlast : Type 0
VerdictsOutlast = (d : ℕ) (m n : Member) (place : Place) (parcel : ParcelView) (verdict : Result Bool Trouble) → IsSound m.seen.setting.model → Elapsed d m n
    → clocked m.seen 0 m.term ≡ false → HasReceive m.seen m.term place → SaysAt m.seen m.term place parcel verdict → SaysAt n.seen n.term place parcel verdict
