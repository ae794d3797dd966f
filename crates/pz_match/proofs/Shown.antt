-- What callers see of a table.
use Rattle.std.proofs.Common.{◌≡◌, ◌<◌, sym, ◌∙◌, ap, subst, ℕ, Bool, true, false, not, List, length, set, Some, arith}
use Rattle.std.specs.Prelude.{All, AllPairs, map, filter}
use Rattle.std.proofs.lemmas.Option.{slice_get-get_or}
use Rattle.pz_offer.specs.PlaceOrder.{PlaceBefore}
use Rattle.pz_offer.specs.declared.ends.SendOffer.{SendOffer}
use Rattle.pz_offer.specs.declared.ends.ReceiveOffer.{ReceiveOffer}
use Rattle.pz_offer.specs.declared.ends.Verdict.TheVariants.{Yes}
use Rattle.pz_match.specs.declared.offers.Sender.{Sender}
use Rattle.pz_match.specs.declared.offers.Receiver.{Receiver}
use Rattle.pz_match.specs.declared.groups.Group.{Group}
use Rattle.pz_match.specs.declared.kept.Sending.{Sending}
use Rattle.pz_match.specs.declared.kept.Receiving.{Receiving}
use Rattle.pz_match.specs.Offers.{senders, receivers}
use Rattle.pz_match.specs.Judging.{Verdicts, said}
use Rattle.pz_match.specs.Pairs.{Judged, ArePairs, touches, questions}
use Rattle.pz_match.specs.Table.{Table, all_senders, all_receivers}
use Rattle.pz_match.specs.devices.Kept.{Kept, all_pairs}
use Rattle.pz_match.specs.devices.Tallies.{GroupsView, Distinct}
use Rattle.pz_match.specs.devices.Asking.{all_written}
use Rattle.pz_match.specs.devices.Holding.{Holds}
use Rattle.pz_match.specs.devices.Updating.{Replaced, other_offers, senders_of}
use Rattle.pz_match.specs.devices.Tables.{table_of, Stands}
use Rattle.pz_match.proofs.Fit.{all_sit, every}
use Rattle.pz_match.proofs.Ordered.{pairs_ordered, ordered_after}
use Rattle.pz_match.proofs.Staying.{others_stay, more_wires}
use Rattle.pz_match.proofs.Saying.{all_right}
use Rattle.pz_match.proofs.Questions.{questions_counted}
use Rattle.pz_match.proofs.Replacing.{new_here, new_length}
use Rattle.pz_match.proofs.Ends.{senders_after, receivers_after, all_senders_are, all_receivers_are}

module _ (groups : GroupsView) (all : List Kept) (stands : Stands groups all) (distinct : Distinct groups.groups) (within : All (λ (x : Group). x.wire < groups.wires) groups.groups) (lost : Bool) where
  shown : Table
  shown = table_of all groups.wires lost

  pub are_pairs : ArePairs (all_senders (table_of all groups.wires lost)) (all_receivers (table_of all groups.wires lost)) (all_pairs all groups.wires)
  are_pairs =
      subst (λ (ss : List Sender). ArePairs ss (all_receivers (table_of all groups.wires lost)) (all_pairs all groups.wires)) (sym (all_senders_are all))
      (subst (λ (rs : List Receiver). ArePairs (senders_of all) rs (all_pairs all groups.wires)) (sym (all_receivers_are all))
      (let sit = all_sit groups all stands.holds distinct within groups.wires in
      record {
        ordered = pairs_ordered groups all stands.holds stands.ordered groups.wires;
        sends = λ k d lt. (sit k d lt).sends;
        receives = λ k d lt. (sit k d lt).receives;
        fit = λ k d lt. (sit k d lt).fit;
        every = every groups all stands.holds distinct within;
      }))

  pub are_free : All (λ (p : Judged). p.receiver.conditional ≡ false → p.verdict ≡ Yes) (all_pairs all groups.wires)
  are_free = let sit = all_sit groups all stands.holds distinct within groups.wires in λ k d lt. (sit k d lt).free

module _ (says : Verdicts) (p : ℕ) (sends : List SendOffer) (receives : List ReceiveOffer) (g0 g1 : GroupsView) (all new : List Kept) (stands : Stands g0 all) (r : Replaced says p sends receives g0 all g1 new) (below : p < length all) where
  pub stands_after : AllPairs (λ (s t : SendOffer). PlaceBefore s.place t.place) sends → AllPairs (λ (a b : ReceiveOffer). PlaceBefore a.place b.place) receives → Stands g1 new
  stands_after ss rs = record { holds = r.holds; ordered = ordered_after says p sends receives g0 g1 all new r below ss rs stands.ordered }

  pub senders_shown : map (λ (e : Kept). map (λ (s : Sending). s.sender) e.sends) new ≡ set (map (λ (e : Kept). map (λ (s : Sending). s.sender) e.sends) all) p (senders p sends)
  senders_shown =
      ap (map (λ (e : Kept). map (λ (s : Sending). s.sender) e.sends)) r.is
      ∙ (senders_after says p r.sent r.heard all ∙ ap (set (map (λ (e : Kept). map (λ (s : Sending). s.sender) e.sends) all) p) r.same_sends)

  pub receivers_shown : map (λ (e : Kept). map (λ (q : Receiving). q.receiver) e.receives) new ≡ set (map (λ (e : Kept). map (λ (q : Receiving). q.receiver) e.receives) all) p (receivers p receives)
  receivers_shown =
      ap (map (λ (e : Kept). map (λ (q : Receiving). q.receiver) e.receives)) r.is
      ∙ (receivers_after says p r.sent r.heard all ∙ ap (set (map (λ (e : Kept). map (λ (q : Receiving). q.receiver) e.receives) all) p) r.same_receives)

  holds_there : Holds g1 (other_offers says p r.sent r.heard all)
  holds_there = subst (Holds g1) r.is r.holds

  pub said_now : All (λ q. touches p q ≡ true → q.verdict ≡ said says q.sender q.receiver) (all_pairs new g1.wires)
  said_now =
      subst (λ (xs : List Kept). All (λ q. touches p q ≡ true → q.verdict ≡ said says q.sender q.receiver) (all_pairs xs g1.wires)) (sym r.is)
      (all_right says p r.sent r.heard all below g0 g1 stands.holds holds_there r.answered g1.wires)

  pub others_there : All (λ (x : Group). x.wire < g0.wires) g0.groups → filter (λ q. not (touches p q)) (all_pairs new g1.wires) ≡ filter (λ q. not (touches p q)) (all_pairs all g0.wires)
  others_there within =
      ap (λ (xs : List Kept). filter (λ q. not (touches p q)) (all_pairs xs g1.wires)) r.is
      ∙ (others_stay says p r.sent r.heard all below g0 g1 stands.holds holds_there g1.wires
      ∙ ap (filter (λ q. not (touches p q))) (more_wires g0 all stands.holds within g1.wires r.wires))

  pub questions_now : All (λ (x : Group). x.wire < g1.wires) g1.groups → length (questions p (all_pairs new g1.wires)) ≡ all_written p new
  questions_now within =
      let now : Kept = record { process = p; sends = r.sent; receives = r.heard } in
      subst (λ (xs : List Kept). length (questions p (all_pairs xs g1.wires)) ≡ all_written p xs) (sym r.is)
      (questions_counted p g1 (other_offers says p r.sent r.heard all) holds_there now
      (slice_get-get_or (other_offers says p r.sent r.heard all) p now (omega (arith, below, new_length says p r.sent r.heard all below)) ∙ ap (λ (x : Kept). Some x) (new_here says p r.sent r.heard all below now)) within)
