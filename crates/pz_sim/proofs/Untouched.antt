-- No pair has an end in a process that is silent, so none of the questions about such a one is asked. What is asked when it speaks
-- is about pairs that it alone adds.
use Rattle.std.proofs.Common.{◌≡◌, ◌≢◌, ◌≤◌, ◌+◌, ◌⊎◌, inl, inr, ℕ, Bool, true, false, not, ◌||◌, nat_eq, List, [], length, get_or, Some, sym, subst, ap, ◌∙◌, arith}
use Rattle.std.specs.Prelude.{slice_get, filter, All}
use Rattle.std.proofs.lemmas.Bool.{ne_eqb}
use Rattle.pz_rules.specs.pz_offer.declared.end.End.{End}
use Rattle.pz_rules.specs.pz_offer.declared.ends.SendOffer.{SendOffer}
use Rattle.pz_rules.specs.pz_offer.declared.ends.ReceiveOffer.{ReceiveOffer}
use Rattle.pz_match.specs.declared.offers.Sender.{Sender}
use Rattle.pz_match.specs.declared.offers.Receiver.{Receiver}
use Rattle.pz_match.specs.Offers as match_offers
use Rattle.pz_match.specs.Pairs.{Judged, touches, questions}
use Rattle.pz_match.specs.Table.{Table, all_senders, all_receivers}
use Rattle.pz_rules.specs.Terms.{Term, done}
use Rattle.pz_rules.specs.devices.Walk.{active_sends, active_receives}
use Rattle.pz_sim_laws.specs.Members.{Member}
use Rattle.pz_sim_laws.specs.Offering.{SendersOf, ReceiversOf, IsSendOffer, IsReceiveOffer}
use Rattle.std.specs.List.{AllZip}
use Rattle.pz_sim.specs.Costs.{with_end_in}
use Rattle.pz_sim.specs.devices.Tables.{IsTable}
use Rattle.pz_sim.proofs.Counted.{anew_within, none_passes, all_rows, all_made, no_items, among_two}
use Rattle.pz_sim.proofs.Heard.{same_or_apart, all_got}
use Rattle.pz_sim.proofs.Passed.{some_at}
use Rattle.std.proofs.lemmas.Option.{same_Some}

-- an end is not of process i
abbrev Apart : ℕ → End → Type 0
Apart i e = nat_eq e.process i ≡ false

none : {X : Type 0} (P : X → Type 0) → All P []
none P k d within = absurd (omega (arith, within))

-- what one process offers, if it is another or silent

senders_apart : (i k : ℕ) (x h : Member) (row : List Sender) → (k ≡ i → x ≡ h) → h.term ≡ done → SendersOf k x row → All (λ s. Apart i s.end) row
senders_apart i k x h row same silent so = subst (λ (xs : List Sender). All (λ s. Apart i s.end) xs) (sym so.over_wires) (by (same_or_apart k i))
  where
    by : (k ≡ i) ⊎ (k ≢ i) → All (λ s. Apart i s.end) (match_offers.senders k so.offers)
    by (inl e) =
        let is_done : x.term ≡ done = ap (λ (y : Member). y.term) (same e) ∙ silent in
        let empty = no_items (IsSendOffer x.seen.setting.model x.seen.process) so.offers (subst (λ (t : Term). AllZip (IsSendOffer x.seen.setting.model x.seen.process) so.offers (active_sends x.seen t)) is_done so.are) in
        subst (λ (os : List SendOffer). All (λ s. Apart i s.end) (match_offers.senders k os)) (sym empty) (none (λ (s : Sender). Apart i s.end))
    by (inr ne) = all_made (λ (s : Sender). Apart i s.end) (λ (o : SendOffer). o.wire) (λ o wire. match_offers.sender k o wire) (λ o wire. ne_eqb k i ne) so.offers

receivers_apart : (i k : ℕ) (x h : Member) (row : List Receiver) → (k ≡ i → x ≡ h) → h.term ≡ done → ReceiversOf k x row → All (λ r. Apart i r.end) row
receivers_apart i k x h row same silent so = subst (λ (xs : List Receiver). All (λ r. Apart i r.end) xs) (sym so.over_wires) (by (same_or_apart k i))
  where
    by : (k ≡ i) ⊎ (k ≢ i) → All (λ r. Apart i r.end) (match_offers.receivers k so.offers)
    by (inl e) =
        let is_done : x.term ≡ done = ap (λ (y : Member). y.term) (same e) ∙ silent in
        let empty = no_items (IsReceiveOffer x.seen x.term) so.offers (subst (λ (t : Term). AllZip (IsReceiveOffer x.seen x.term) so.offers (active_receives x.seen t)) is_done so.are) in
        subst (λ (os : List ReceiveOffer). All (λ r. Apart i r.end) (match_offers.receivers k os)) (sym empty) (none (λ (r : Receiver). Apart i r.end))
    by (inr ne) = all_made (λ (r : Receiver). Apart i r.end) (λ (o : ReceiveOffer). o.wire) (λ o wire. match_offers.receiver k o wire) (λ o wire. ne_eqb k i ne) so.offers

module _ (hs : List Member) (t : Table) (is : IsTable hs t) (i : ℕ) (h : Member) (here : slice_get hs i ≡ Some h) (silent : h.term ≡ done) where
  member_same : (k : ℕ) (x : Member) → slice_get hs k ≡ Some x → k ≡ i → x ≡ h
  member_same k x there e = same_Some x h (sym there ∙ ap (slice_get hs) e ∙ here)

  all_senders_apart : All (λ s. Apart i s.end) (all_senders t)
  all_senders_apart = all_rows (λ (s : Sender). Apart i s.end) t.senders (λ k row row_is.
      let x = some_at hs t.senders k row (sym is.senders.all) row_is in
      senders_apart i k x.0 h row (member_same k x.0 x.1) silent (is.senders.each k x.0 row x.1 row_is))

  all_receivers_apart : All (λ r. Apart i r.end) (all_receivers t)
  all_receivers_apart = all_rows (λ (r : Receiver). Apart i r.end) t.receivers (λ k row row_is.
      let x = some_at hs t.receivers k row (sym is.receivers.all) row_is in
      receivers_apart i k x.0 h row (member_same k x.0 x.1) silent (is.receivers.each k x.0 row x.1 row_is))

  pub untouched : All (λ p. touches i p ≡ false) t.pairs
  untouched k d within =
      let p = get_or t.pairs k d in
      let s = all_got (λ (x : Sender). Apart i x.end) (all_senders t) p.sender all_senders_apart (is.pairs.sends k d within) in
      let r = all_got (λ (x : Receiver). Apart i x.end) (all_receivers t) p.receiver all_receivers_apart (is.pairs.receives k d within) in
      λ j. s j || r j

  pub asks_nothing : length (questions i t.pairs) ≡ 0
  asks_nothing = (none_passes (touches i) (λ p. p.receiver.conditional) t.pairs untouched).1

-- What is asked about pairs with an end in i, where i is among these processes

module _ (among : ℕ → Bool) (i : ℕ) (is : among i ≡ true) where
  abbrev ended : Judged → Bool
  ended p = among p.sender.end.process || among p.receiver.end.process

  anew : (new : List Judged) → length (with_end_in among (filter (λ p. not (touches i p)) new)) + length (questions i new) ≤ length (with_end_in among new)
  anew new = anew_within ended (touches i) (λ p. p.receiver.conditional) (λ p touched. among_two among i is p.sender.end.process p.receiver.end.process touched) new

  pub asks_few : (new : List Judged) → length (questions i new) ≤ length (with_end_in among new)
  asks_few new = let all = anew new in omega (arith, all)

  -- those that were there before, without an end in it, are there still
  pub asks_more : (old new : List Judged) → All (λ p. touches i p ≡ false) old → filter (λ p. not (touches i p)) new ≡ filter (λ p. not (touches i p)) old
      → length (with_end_in among old) + length (questions i new) ≤ length (with_end_in among new)
  asks_more old new apart same =
      let kept : filter (λ p. not (touches i p)) new ≡ old = same ∙ (none_passes (touches i) (λ p. p.receiver.conditional) old apart).0 in
      subst (λ (ps : List Judged). length (with_end_in among ps) + length (questions i new) ≤ length (with_end_in among new)) kept (anew new)
