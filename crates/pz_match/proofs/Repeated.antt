-- A process that offers again what it offers.
use Rattle.std.proofs.Common.{◌≡◌, ◌<◌, ◌+◌, ◌/◌, refl, sym, ◌∙◌, ap, subst, ℕ, Bool, true, false, nat_eq, List, [], ◌∷◌, length, get_or, set, Some, if◌then◌else◌, arith}
use Rattle.std.specs.Prelude.{All, AllPairs, count_by, map, sum_by}
use Rattle.std.specs.List.{slice_get, flat_map}
use Rattle.std.proofs.lemmas.List.{map-set, set-set}
use Rattle.std.proofs.lemmas.List.Elements.{All-head, All-tail, All-nil, All-cons, All-set, All-weaker}
use Rattle.std.proofs.lemmas.List.Sums.{sum_by-cons}
use Rattle.std.proofs.lemmas.Option.{get_or_from_slice_get}
use Rattle.pz_match_lists.specs.declared.shares.Part.{Part}
use Rattle.pz_offer.specs.PlaceOrder.{PlaceBefore}
use Rattle.pz_offer.specs.declared.ends.SendOffer.{SendOffer}
use Rattle.pz_offer.specs.declared.ends.ReceiveOffer.{ReceiveOffer}
use Rattle.pz_match.specs.declared.kept.Sending.{Sending}
use Rattle.pz_match.specs.declared.kept.Receiving.{Receiving}
use Rattle.pz_match.specs.declared.groups.Tally.{Tally}
use Rattle.pz_match.specs.declared.users.Users.{Users}
use Rattle.pz_match.specs.Judging.{Verdicts}
use Rattle.pz_match.specs.devices.Kept.{Kept, asks_in, rows_at}
use Rattle.pz_match.specs.devices.Tallies.{GroupsView, Alike, tally_at, plus, pick, part_of, total_of}
use Rattle.pz_match.specs.devices.Asking.{asked, asked_in, all_written}
use Rattle.pz_match.specs.devices.Holding.{Holds, Sound, Answered}
use Rattle.pz_match.specs.devices.Sharing.{block_of, Shared}
use Rattle.pz_match.specs.devices.Updating.{Replaced, Untouched, renewed_in, silent, other_offers}
use Rattle.pz_match.specs.devices.Users.{Noted, Whole}
use Rattle.pz_match.specs.devices.Again.{Again, Beside, SameSend, SameReceive, SendAgain, ReceiveAgain, all_again, receive_again, send_again, told_again}
use Rattle.pz_match.proofs.Askers.{askers_after}
use Rattle.pz_match.proofs.Grouped.{follows_same}
use Rattle.pz_match.proofs.Noting.{keeps_same, used_after}
use Rattle.pz_match.proofs.Offered.{none_asked_in}
use Rattle.pz_match.proofs.Questions.{update_asks}
use Rattle.pz_match.proofs.Renewals.{map_same, untouched_same, untouched_asks}
use Rattle.pz_match.proofs.Replacing.{holds_new, total_set}
use Rattle.pz_match.proofs.Retold.{beside_head, beside_tail, beside_weaker, again_senders, again_receivers, again_keyed, again_heard_keyed, again_free, again_asks, none_asks_in, again_receives_part, again_sends_part, again_sends_noted, again_receives_noted, again_askers_noted}
use Rattle.pz_match.proofs.Shared.{block_total}
use Rattle.pz_match.proofs.Shifting.{close_same}
use Rattle.pz_match.proofs.Shown.{stands_after}
use Rattle.pz_match.proofs.Sought.{numbered_at}
use Rattle.pz_match.proofs.Steps.{rest_foreign}
use Rattle.pz_match.proofs.Updated.{sent_own, heard_own}

sum_none : {X : Type 0} (f : X → ℕ) (xs : List X) → All (λ x. f x ≡ 0) xs → sum_by f xs ≡ 0
sum_none f [] each = refl
sum_none f (x ∷ xs) each = omega (arith, sum_by-cons f x xs, All-head (λ y. f y ≡ 0) x xs each, sum_none f xs (All-tail (λ y. f y ≡ 0) x xs each))

module _ (says : Verdicts) (p : ℕ) (sends : List SendOffer) (receives : List ReceiveOffer) (g0 : GroupsView) (all : List Kept) (old : Kept)
    (below : p < length all) (there : slice_get all p ≡ Some old) (holds : Holds g0 all) (again : Again g0 old sends receives) where
  abbrev sent : List Sending
  sent = told_again send_again old.sends sends

  abbrev heard : List Receiving
  heard = told_again receive_again old.receives receives

  abbrev now : Kept
  now = record { process = p; sends = sent; receives = heard }

  is : old ≡ get_or all p old
  is = sym (get_or_from_slice_get all p old old there)

  number : old.process ≡ p
  number = numbered_at g0 all holds p old there

  sound : Sound g0 all old
  sound = subst (Sound g0 all) (get_or_from_slice_get all p old old there) (holds.sound p old below)

  same_sends : Beside SameSend old.sends sends
  same_sends = beside_weaker (SendAgain g0) SameSend old.sends sends (λ s o a. a.same) again.sent

  same_receives : Beside SameReceive old.receives receives
  same_receives = beside_weaker ReceiveAgain SameReceive old.receives receives (λ r o a. a.same) again.heard

  -- it counts as before
  part_same : (g : ℕ) → part_of now g ≡ part_of old g
  part_same g =
      let s = again_sends_part old.receives heard (λ h. again_free h old.receives receives) old.sends sends again.sent.long g in
      let r = again_receives_part old.receives receives g in
      λ i. plus (s i) (r i)

  -- its receives ask nothing
  none_now : (g : ℕ) → count_by (asks_in g) heard ≡ 0
  none_now g = again_asks g old.receives receives ∙ none_asks_in g old.receives receives again.heard

  no_rows : (s : Sending) → Answered all s → length (rows_at p s.rows) ≡ 0
  no_rows s answered =
      let at : length (rows_at old.process s.rows) ≡ (if nat_eq old.process s.sender.end.process then 0 else count_by (asks_in s.group) old.receives)
      = subst (λ (e : Kept). length (rows_at e.process s.rows) ≡ (if nat_eq e.process s.sender.end.process then 0 else count_by (asks_in s.group) e.receives)) (get_or_from_slice_get all p old old there) (answered.each p old below) in
      ap (λ n. length (rows_at n s.rows)) (sym number) ∙ (at ∙ by (nat_eq old.process s.sender.end.process))
    where
      by : (b : Bool) → (if b then 0 else count_by (asks_in s.group) old.receives) ≡ 0
      by true = refl
      by false = none_asks_in s.group old.receives receives again.heard

  untouched : (e : Kept) → Sound g0 all e → All (Untouched p heard) e.sends
  untouched e ok n c lt = record { rows = no_rows (get_or e.sends n c) (ok.answered n c lt); asks = none_now (get_or e.sends n c).group }

  still : map (renewed_in says p heard) all ≡ all
  still = map_same (renewed_in says p heard) all (λ k d lt. untouched_same says p heard (get_or all k d) (untouched (get_or all k d) (holds.sound k d lt)))

  kept_so : set all p now ≡ other_offers says p sent heard all
  kept_so = ap (λ (xs : List Kept). set xs p now) (sym still)

  told : set all p (all_again old sends receives) ≡ set all p now
  told = ap (λ n. set all p (record { process = n; sends = sent; receives = heard })) number

  -- nobody asks its sends
  rest_asks : (g : ℕ) → (tally_at g0.groups g).asking ≡ 0 → (total_of (set all p (silent p)) g).asking ≡ 0
  rest_asks g none = let t = (holds.tallied g).asking in let s = (total_set g all p old (silent p) below is).asking in omega (arith, none, t, s)

  abbrev AnsweredSo : Sending → Type 0
  AnsweredSo s = s.rows ≡ flat_map (asked_in says s.sender s.group) (set all p (silent p))

  answered_all : (ss : List Sending) (os : List SendOffer) → Beside (SendAgain g0) ss os → All AnsweredSo (told_again send_again ss os)
  answered_all [] os b = All-nil AnsweredSo
  answered_all (s ∷ ss) [] b = absurd (let e = b.long in omega (arith, e))
  answered_all (s ∷ ss) (o ∷ os) b =
      let a = beside_head (SendAgain g0) s ss o os b in
      let here : AnsweredSo (send_again s o) = a.rows ∙ sym (none_asked_in says (send_again s o).sender s.group (set all p (silent p)) (rest_asks s.group a.calm)) in
      All-cons AnsweredSo (send_again s o) (told_again send_again ss os) here (answered_all ss os (beside_tail (SendAgain g0) s ss o os b))

  no_answers : (ss : List Sending) (os : List SendOffer) → Beside (SendAgain g0) ss os → All (λ (s : Sending). length s.rows ≡ 0) (told_again send_again ss os)
  no_answers [] os b = All-nil (λ (s : Sending). length s.rows ≡ 0)
  no_answers (s ∷ ss) [] b = absurd (let e = b.long in omega (arith, e))
  no_answers (s ∷ ss) (o ∷ os) b =
      All-cons (λ (x : Sending). length x.rows ≡ 0) (send_again s o) (told_again send_again ss os) (ap length (beside_head (SendAgain g0) s ss o os b).rows)
      (no_answers ss os (beside_tail (SendAgain g0) s ss o os b))

  tallied : (g : ℕ) → Alike (tally_at g0.groups g) (total_of (other_offers says p sent heard all) g)
  tallied g =
      let t = holds.tallied g in
      let s = total_set g all p old now below is in
      let same = part_same g in
      let done : Alike (tally_at g0.groups g) (total_of (set all p now) g)
      = record {
        sends = let e = ap (λ (x : Tally). x.sends) same in omega (arith, t.sends, s.sends, e);
        free = let e = ap (λ (x : Tally). x.free) same in omega (arith, t.free, s.free, e);
        own = let e = ap (λ (x : Tally). x.own) same in omega (arith, t.own, s.own, e);
        asking = let e = ap (λ (x : Tally). x.asking) same in omega (arith, t.asking, s.asking, e);
        yes = let e = ap (λ (x : Tally). x.yes) same in omega (arith, t.yes, s.yes, e);
        troubles = let e = ap (λ (x : Tally). x.troubles) same in omega (arith, t.troubles, s.troubles, e);
      } in
      subst (λ (xs : List Kept). Alike (tally_at g0.groups g) (total_of xs g)) kept_so done

  old_own : All (λ (s : Sending). s.sender.end.process ≡ p) old.sends
  old_own = All-weaker (λ (s : Sending). s.sender.end.process ≡ old.process) (λ (s : Sending). s.sender.end.process ≡ p) (λ s own. own ∙ number) old.sends sound.sends_own

  old_heard_own : All (λ (r : Receiving). r.receiver.end.process ≡ p) old.receives
  old_heard_own = All-weaker (λ (r : Receiving). r.receiver.end.process ≡ old.process) (λ (r : Receiving). r.receiver.end.process ≡ p) (λ r own. own ∙ number) old.receives sound.receives_own

  pub replaced_again : (new : List Kept) → new ≡ set all p (all_again old sends receives) → Replaced says p sends receives g0 all g0 new
  replaced_again new new_is =
      let so : new ≡ other_offers says p sent heard all = new_is ∙ (told ∙ kept_so) in
      let senders_same = again_senders p old.sends sends old_own same_sends in
      let receivers_same = again_receivers p old.receives receives old_heard_own same_receives in
      let answered = answered_all old.sends sends again.sent in
      record {
        sent = sent;
        heard = heard;
        is = so;
        same_sends = senders_same;
        same_receives = receivers_same;
        answered = answered;
        holds =
            subst (Holds g0) (sym so)
            (holds_new says p sent heard all below g0 g0 holds (follows_same g0) (sent_own p sends sent senders_same) (heard_own p receives heard receivers_same)
            (again_keyed g0 old.sends sends sound.sends_keyed same_sends) (again_heard_keyed g0 old.receives receives sound.receives_keyed) answered tallied);
        wires = omega arith;
      }

  -- nothing is asked
  pub asked_again : (new : List Kept) → new ≡ set all p (all_again old sends receives) → (n : ℕ) → n ≡ n + all_written p new
  asked_again new new_is n =
      let rest = set all p (silent p) in
      let senders_same = again_senders p old.sends sends old_own same_sends in
      let own = sum_none (λ (s : Sending). length s.rows) sent (no_answers old.sends sends again.sent) in
      let others = sum_none (λ (e : Kept). sum_by (λ (s : Sending). length (asked says s.sender s.group p heard)) e.sends) rest
      (All-set (λ (e : Kept). sum_by (λ (s : Sending). length (asked says s.sender s.group p heard)) e.sends ≡ 0) all p (silent p) refl
      (λ k d lt. untouched_asks says p heard (get_or all k d).sends (untouched (get_or all k d) (holds.sound k d lt)))) in
      let both : n ≡ n + all_written p (set (map (renewed_in says p heard) rest) p now)
      = update_asks says p heard sent all says heard rest below refl refl refl (sent_own p sends sent senders_same) (rest_foreign p g0 all holds below) n n n (omega (arith, own)) (omega (arith, others)) in
      let same : set (map (renewed_in says p heard) rest) p now ≡ new
      = ap (λ (xs : List Kept). set xs p now) (map-set (renewed_in says p heard) all p (silent p))
      ∙ (set-set (map (renewed_in says p heard) all) p (renewed_in says p heard (silent p)) now ∙ sym (new_is ∙ (told ∙ kept_so))) in
      both ∙ ap (λ (xs : List Kept). n + all_written p xs) same

  -- Blocks have what they had

  shared_again : (shares : List (List Part)) → Shared shares all → (new : List Kept) → new ≡ set all p (all_again old sends receives) → Shared shares new
  shared_again shares shared new new_is g k =
      let whole = block_total g k p all old now below is in
      let part = close_same _ _ (ap (pick (nat_eq (p / 64) k)) (part_same g)) in
      let end = close_same _ _ (ap (λ (xs : List Kept). total_of (block_of k xs) g) (new_is ∙ told)) in
      let was = shared g k in
      record {
        sends = omega (arith, was.sends, whole.sends, part.sends, end.sends);
        free = omega (arith, was.free, whole.free, part.free, end.free);
        own = omega (arith, was.own, whole.own, part.own, end.own);
      }

  -- Its wires are noted already

  noted_again : (users : Users) (shares : List (List Part)) → Whole g0 users shares all → Noted users users p sends receives
  noted_again users shares whole = record {
    senders_kept = keeps_same users.senders;
    receivers_kept = keeps_same users.receivers;
    askers_kept = keeps_same users.askers;
    sending = again_sends_noted users.senders p old.sends sends same_sends (λ w. (whole.used w).sending p old there);
    receiving = again_receives_noted users.receivers p old.receives receives same_receives (λ w. (whole.used w).receiving p old there);
    asking = again_askers_noted users.askers p old.receives receives again.heard;
    blocks_kept = keeps_same users.blocks;
    sending_blocks = again_sends_noted users.blocks (p / 64) old.sends sends same_sends (λ w. (whole.in_blocks w).sending p old there);
    receiving_blocks = again_receives_noted users.blocks (p / 64) old.receives receives same_receives (λ w. (whole.in_blocks w).receiving p old there);
  }

  pub whole_again : (users : Users) (shares : List (List Part)) (new : List Kept) → Whole g0 users shares all → new ≡ set all p (all_again old sends receives)
      → AllPairs (λ (s t : SendOffer). PlaceBefore s.place t.place) sends → AllPairs (λ (a b : ReceiveOffer). PlaceBefore a.place b.place) receives → Whole g0 users shares new
  whole_again users shares new whole new_is sends_ordered receives_ordered =
      let r = replaced_again new new_is in
      let noted = noted_again users shares whole in
      record {
        stands = stands_after says p sends receives g0 g0 all new whole.stands r below sends_ordered receives_ordered;
        used = used_after says p sends receives g0 g0 all new r below (λ k. k) users.senders users.senders users.receivers users.receivers whole.used noted.senders_kept noted.receivers_kept noted.sending noted.receiving;
        asks = askers_after says p sends receives g0 g0 all new r below users.askers users.askers whole.asks noted.askers_kept noted.asking;
        in_blocks = used_after says p sends receives g0 g0 all new r below (λ k. k / 64) users.blocks users.blocks users.blocks users.blocks whole.in_blocks noted.blocks_kept noted.blocks_kept noted.sending_blocks noted.receiving_blocks;
        shared = shared_again shares whole.shared new new_is;
      }
