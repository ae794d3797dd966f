-- The users of a wire after an update.
use Rattle.std.proofs.Common.{◌≡◌, ◌≢◌, ◌<◌, ◌+◌, ◌⊎◌, inl, inr, refl, sym, ◌∙◌, ap, subst, ℕ, zero, suc, List, [], ◌∷◌, ◌++◌, length, take, get_or, Option, Some, None, arith}
use Rattle.std.specs.Prelude.{All, Contains, IfSome, map}
use Rattle.std.specs.List.{slice_get}
use Rattle.std.specs.Option.{option_map_or}
use Rattle.std.proofs.lemmas.Bool.{cases_eq}
use Rattle.std.proofs.lemmas.List.{take_more}
use Rattle.std.proofs.lemmas.List.Elements.{All-head, All-tail, All-nil, All-cons, All-append, All-weaker, All-map}
use Rattle.std.proofs.lemmas.Option.{get_or_from_slice_get, slice_get-get_or, slice_get_within}
use Rattle.pz_match_lists.specs.Increasing.{list_at}
use Rattle.pz_offer.specs.declared.ends.SendOffer.{SendOffer}
use Rattle.pz_offer.specs.declared.ends.ReceiveOffer.{ReceiveOffer}
use Rattle.pz_match.specs.declared.offers.Sender.{Sender}
use Rattle.pz_match.specs.declared.offers.Receiver.{Receiver}
use Rattle.pz_match.specs.declared.kept.Sending.{Sending}
use Rattle.pz_match.specs.declared.kept.Receiving.{Receiving}
use Rattle.pz_match.specs.declared.users.Users.{Users}
use Rattle.pz_match.specs.Offers.{sender, receiver, senders, receivers}
use Rattle.pz_match.specs.Judging.{Verdicts}
use Rattle.pz_match.specs.devices.Kept.{Kept}
use Rattle.pz_match.specs.devices.Tallies.{GroupsView}
use Rattle.pz_match.specs.devices.Asking.{renewed}
use Rattle.pz_match.specs.devices.Updating.{Replaced, renewed_in, other_offers, silent}
use Rattle.pz_match.specs.devices.Users.{AreUsersBy, HaveUsers, KeepsUsers, SendsNoted, ReceivesNoted}
use Rattle.pz_match.proofs.Replacing.{new_here, new_there, new_length}
use Rattle.pz_match.proofs.Updated.{all_seen}

-- One offer more

module _ {X : Type 0} (wire : X → Option ℕ) (process : ℕ) where
  abbrev pub noted : List (List ℕ) → X → Type 0
  noted users x = IfSome (wire x) (λ w. Contains (list_at users w) process)

  pub kept_noted : (old new : List (List ℕ)) → KeepsUsers old new → (x : X) → noted old x → noted new x
  kept_noted old new keeps x ok = by (wire x) ok
    where
      by : (o : Option ℕ) → IfSome o (λ w. Contains (list_at old w) process) → IfSome o (λ w. Contains (list_at new w) process)
      by None ok = ok
      by (Some w) ok = keeps w process ok

  pub noted_more : (old new : List (List ℕ)) (xs : List X) (i : ℕ) (x : X) → KeepsUsers old new → i < length xs → x ≡ get_or xs i x → noted new x → All (noted old) (take i xs) → All (noted new) (take (i + 1) xs)
  noted_more old new xs i x keeps lt is here before =
      subst (All (noted new)) (sym (take_more xs i x lt))
      (All-append (noted new) (take i xs) (get_or xs i x ∷ []) (All-weaker (noted old) (noted new) (kept_noted old new keeps) (take i xs) before)
      (All-cons (noted new) (get_or xs i x) [] (subst (noted new) is here) (All-nil (noted new))))

pub keeps_same : (a : List (List ℕ)) → KeepsUsers a a
keeps_same a k n there = there

-- before an update and after it
module _ (number : ℕ → ℕ) (s0 s1 r0 r1 : List (List ℕ)) (all : List Kept) where
  pub keeps_by : KeepsUsers s0 s1 → KeepsUsers r0 r1 → ((w : ℕ) → AreUsersBy number (list_at s0 w) (list_at r0 w) all w) → (w : ℕ) → AreUsersBy number (list_at s1 w) (list_at r1 w) all w
  keeps_by senders receivers have w = record {
    sending = λ k e is. All-weaker (λ (s : Sending). s.sender.wire ≡ w → Contains (list_at s0 w) (number k)) (λ (s : Sending). s.sender.wire ≡ w → Contains (list_at s1 w) (number k)) (λ s ok on. senders w (number k) (ok on)) e.sends ((have w).sending k e is);
    receiving = λ k e is. All-weaker (λ (q : Receiving). q.receiver.wire ≡ w → Contains (list_at r0 w) (number k)) (λ (q : Receiving). q.receiver.wire ≡ w → Contains (list_at r1 w) (number k)) (λ q ok on. receivers w (number k) (ok on)) e.receives ((have w).receiving k e is);
  }

pub keeps_users : (before after : Users) (all : List Kept) → KeepsUsers before.senders after.senders → KeepsUsers before.receivers after.receivers → HaveUsers before all → HaveUsers after all
keeps_users before after all senders receivers have = keeps_by (λ k. k) before.senders after.senders before.receivers after.receivers all senders receivers have

pub keeps_next : (a b c : List (List ℕ)) → KeepsUsers a b → KeepsUsers b c → KeepsUsers a c
keeps_next a b c f g k n there = g k n (f k n there)

-- After the update

module _ (users : List (List ℕ)) (n p w : ℕ) where
  sends_used : (ss : List SendOffer) → SendsNoted users n ss → All (λ (x : Sender). x.wire ≡ w → Contains (list_at users w) n) (senders p ss)
  sends_used [] ok = All-nil (λ (x : Sender). x.wire ≡ w → Contains (list_at users w) n)
  sends_used (s ∷ ss) ok = by s.wire (All-head (λ (s : SendOffer). IfSome s.wire (λ w. Contains (list_at users w) n)) s ss ok) (sends_used ss (All-tail (λ (s : SendOffer). IfSome s.wire (λ w. Contains (list_at users w) n)) s ss ok))
    where
      by : (o : Option ℕ) → IfSome o (λ w. Contains (list_at users w) n) → All (λ (x : Sender). x.wire ≡ w → Contains (list_at users w) n) (senders p ss)
          → All (λ (x : Sender). x.wire ≡ w → Contains (list_at users w) n) (option_map_or (λ wire. sender p s wire ∷ []) o [] ++ senders p ss)
      by None here later = later
      by (Some v) here later = All-cons (λ (x : Sender). x.wire ≡ w → Contains (list_at users w) n) (sender p s v) (senders p ss) (λ same. subst (λ v. Contains (list_at users v) n) same here) later

  receives_used : (rs : List ReceiveOffer) → ReceivesNoted users n rs → All (λ (x : Receiver). x.wire ≡ w → Contains (list_at users w) n) (receivers p rs)
  receives_used [] ok = All-nil (λ (x : Receiver). x.wire ≡ w → Contains (list_at users w) n)
  receives_used (r ∷ rs) ok = by r.wire (All-head (λ (r : ReceiveOffer). IfSome r.wire (λ w. Contains (list_at users w) n)) r rs ok) (receives_used rs (All-tail (λ (r : ReceiveOffer). IfSome r.wire (λ w. Contains (list_at users w) n)) r rs ok))
    where
      by : (o : Option ℕ) → IfSome o (λ w. Contains (list_at users w) n) → All (λ (x : Receiver). x.wire ≡ w → Contains (list_at users w) n) (receivers p rs)
          → All (λ (x : Receiver). x.wire ≡ w → Contains (list_at users w) n) (option_map_or (λ wire. receiver p r wire ∷ []) o [] ++ receivers p rs)
      by None here later = later
      by (Some v) here later = All-cons (λ (x : Receiver). x.wire ≡ w → Contains (list_at users w) n) (receiver p r v) (receivers p rs) (λ same. subst (λ v. Contains (list_at users v) n) same here) later

module _ (says : Verdicts) (p : ℕ) (sends : List SendOffer) (receives : List ReceiveOffer) (g0 g1 : GroupsView) (all new : List Kept) (r : Replaced says p sends receives g0 all g1 new) (below : p < length all)
    (number : ℕ → ℕ) (s0 s1 r0 r1 : List (List ℕ)) (used : (w : ℕ) → AreUsersBy number (list_at s0 w) (list_at r0 w) all w)
    (keeps_s : KeepsUsers s0 s1) (keeps_r : KeepsUsers r0 r1) (noted_s : SendsNoted s1 (number p) sends) (noted_r : ReceivesNoted r1 (number p) receives) where
  there : (k : ℕ) (e : Kept) → slice_get new k ≡ Some e → e ≡ get_or (other_offers says p r.sent r.heard all) k e
  there k e is = sym (get_or_from_slice_get (other_offers says p r.sent r.heard all) k e e (ap (λ (xs : List Kept). slice_get xs k) (sym r.is) ∙ is))

  inside : (k : ℕ) (e : Kept) → slice_get new k ≡ Some e → k < length all
  inside k e is = let lt = slice_get_within new k e is in let long = ap length r.is in omega (arith, lt, long, new_length says p r.sent r.heard all below)

  pub used_after : (w : ℕ) → AreUsersBy number (list_at s1 w) (list_at r1 w) new w
  used_after w = record { sending = sending; receiving = receiving }
    where
      sending : (k : ℕ) (e : Kept) → slice_get new k ≡ Some e → All (λ (s : Sending). s.sender.wire ≡ w → Contains (list_at s1 w) (number k)) e.sends
      sending k e is = by (cases_eq k p)
        where
          by : (k ≡ p) ⊎ (k ≢ p) → All (λ (s : Sending). s.sender.wire ≡ w → Contains (list_at s1 w) (number k)) e.sends
          by (inl same) =
              let now : e ≡ record { process = p; sends = r.sent; receives = r.heard } = there k e is ∙ (ap (λ n. get_or (other_offers says p r.sent r.heard all) n e) same ∙ new_here says p r.sent r.heard all below e) in
              let ok = all_seen (λ (x : Sender). x.wire ≡ w → Contains (list_at s1 w) (number p)) (λ (s : Sending). s.sender) r.sent (subst (All (λ (x : Sender). x.wire ≡ w → Contains (list_at s1 w) (number p))) (sym r.same_sends) (sends_used s1 (number p) p w sends noted_s)) in
              subst (λ n. All (λ (s : Sending). s.sender.wire ≡ w → Contains (list_at s1 w) (number n)) e.sends) (sym same) (subst (λ (x : Kept). All (λ (s : Sending). s.sender.wire ≡ w → Contains (list_at s1 w) (number p)) x.sends) (sym now) ok)
          by (inr other) =
              let lt = inside k e is in
              let now : e ≡ renewed_in says p r.heard (get_or all k e) = there k e is ∙ new_there says p r.sent r.heard all below k e other lt in
              let was = (used w).sending k (get_or all k e) (slice_get-get_or all k e lt) in
              subst (λ (x : Kept). All (λ (s : Sending). s.sender.wire ≡ w → Contains (list_at s1 w) (number k)) x.sends) (sym now)
              (All-map (λ (s : Sending). s.sender.wire ≡ w → Contains (list_at s1 w) (number k)) (renewed says p r.heard) (get_or all k e).sends
              (All-weaker (λ (s : Sending). s.sender.wire ≡ w → Contains (list_at s0 w) (number k)) (λ (s : Sending). s.sender.wire ≡ w → Contains (list_at s1 w) (number k)) (λ s ok on. keeps_s w (number k) (ok on)) (get_or all k e).sends was))

      receiving : (k : ℕ) (e : Kept) → slice_get new k ≡ Some e → All (λ (q : Receiving). q.receiver.wire ≡ w → Contains (list_at r1 w) (number k)) e.receives
      receiving k e is = by (cases_eq k p)
        where
          by : (k ≡ p) ⊎ (k ≢ p) → All (λ (q : Receiving). q.receiver.wire ≡ w → Contains (list_at r1 w) (number k)) e.receives
          by (inl same) =
              let now : e ≡ record { process = p; sends = r.sent; receives = r.heard } = there k e is ∙ (ap (λ n. get_or (other_offers says p r.sent r.heard all) n e) same ∙ new_here says p r.sent r.heard all below e) in
              let ok = all_seen (λ (x : Receiver). x.wire ≡ w → Contains (list_at r1 w) (number p)) (λ (q : Receiving). q.receiver) r.heard (subst (All (λ (x : Receiver). x.wire ≡ w → Contains (list_at r1 w) (number p))) (sym r.same_receives) (receives_used r1 (number p) p w receives noted_r)) in
              subst (λ n. All (λ (q : Receiving). q.receiver.wire ≡ w → Contains (list_at r1 w) (number n)) e.receives) (sym same) (subst (λ (x : Kept). All (λ (q : Receiving). q.receiver.wire ≡ w → Contains (list_at r1 w) (number p)) x.receives) (sym now) ok)
          by (inr other) =
              let lt = inside k e is in
              let now : e ≡ renewed_in says p r.heard (get_or all k e) = there k e is ∙ new_there says p r.sent r.heard all below k e other lt in
              let was = (used w).receiving k (get_or all k e) (slice_get-get_or all k e lt) in
              subst (λ (x : Kept). All (λ (q : Receiving). q.receiver.wire ≡ w → Contains (list_at r1 w) (number k)) x.receives) (sym now)
              (All-weaker (λ (q : Receiving). q.receiver.wire ≡ w → Contains (list_at r0 w) (number k)) (λ (q : Receiving). q.receiver.wire ≡ w → Contains (list_at r1 w) (number k)) (λ q ok on. keeps_r w (number k) (ok on)) (get_or all k e).receives was)

-- Nobody has offered anything yet
module _ (number : ℕ → ℕ) where
  pub none_by : (ns : List ℕ) (w : ℕ) → AreUsersBy number [] [] (map silent ns) w
  none_by ns w = record {
    sending = λ k e is. none (λ (s : Sending). s.sender.wire ≡ w → Contains [] (number k)) k e is (λ x. x.sends) (λ n. refl);
    receiving = λ k e is. none (λ (q : Receiving). q.receiver.wire ≡ w → Contains [] (number k)) k e is (λ x. x.receives) (λ n. refl);
  }
    where
      none : {X : Type 0} (P : X → Type 0) (k : ℕ) (e : Kept) → slice_get (map silent ns) k ≡ Some e → (f : Kept → List X) → ((n : ℕ) → f (silent n) ≡ []) → All P (f e)
      none {X} P k e is f empty = go ns k is
        where
          go : (ms : List ℕ) (k : ℕ) → slice_get (map silent ms) k ≡ Some e → All P (f e)
          go [] k is = cc
          go (m ∷ ms) zero is = let one : silent m ≡ e = cc in subst (All P) (sym (ap f (sym one) ∙ empty m)) (All-nil P)
          go (m ∷ ms) (suc k) is = go ms k is

pub none_used : (ns : List ℕ) → HaveUsers (record { senders = []; receivers = []; askers = []; blocks = [] }) (map silent ns)
none_used ns w = none_by (λ k. k) ns w
