-- Where the k-th pair of one sort stands.
use Rattle.std.proofs.Common.{◌≡◌, ◌<◌, ◌+◌, ◌-◌, refl, sym, ◌∙◌, ap, subst, ℕ, zero, suc, Bool, true, false, nat_eq, List, [], ◌∷◌, length, take, get_or, Some, if◌then◌else◌, arith}
use Rattle.std.specs.Prelude.{All, sum_by, count_by, map}
use Rattle.std.specs.List.{slice_get, flat_map}
use Rattle.std.specs.Option.{option_map}
use Rattle.std.proofs.lemmas.List.Elements.{All-get_or, All-append, All-map, All-nil, All-tail, All-head, All-take}
use Rattle.std.proofs.lemmas.List.Concat.{length-flat_map}
use Rattle.std.proofs.lemmas.List.Sums.{sum_by-cons}
use Rattle.std.proofs.lemmas.Option.{slice_get-get_or, get_or_from_slice_get, slice_get_within, slice_get-map, same_Some}
use Rattle.pz_offer.specs.declared.ends.Verdict.TheVariants as says
use Rattle.pz_match.specs.declared.kept.Sending.{Sending}
use Rattle.pz_match.specs.declared.groups.Sort.{Sort}
use Rattle.pz_match.specs.declared.groups.Sort.TheVariants.{Taken, Troubled}
use Rattle.pz_match.specs.Pairs.{Judged}
use Rattle.pz_match.specs.devices.Lists.{upto}
use Rattle.pz_match.specs.devices.Kept.{Kept, free_in, pairs_of, sent_on, pairs_from, pairs_on, all_pairs}
use Rattle.pz_match.specs.devices.Tallies.{GroupsView, HasKey, tally_at, on_wire, yeses}
use Rattle.pz_match.specs.devices.Holding.{Holds, Sound, Answered}
use Rattle.pz_match.specs.devices.Seeking.{wants, sought, number_of, number_on}
use Rattle.pz_match.proofs.Sums.{sum_same, filter_flat, at_flat, get_upto, take_upto}
use Rattle.pz_match.proofs.Answered.{count_pairs, Numbered}
use Rattle.pz_match.proofs.Counting.{Sent, sent, free_all, total_free, takes_on, wire_counts}

module _ (groups : GroupsView) (all : List Kept) (holds : Holds groups all) where
  pub numbered_at : (i : ℕ) (e : Kept) → slice_get all i ≡ Some e → e.process ≡ i
  numbered_at i e is =
      let named : slice_get (map (λ (x : Kept). x.process) all) i ≡ Some e.process = slice_get-map (λ (x : Kept). x.process) all i ∙ ap (option_map (λ (x : Kept). x.process)) is in
      let there : Some i ≡ Some e.process = sym (get_upto (length all) i (slice_get_within all i e is)) ∙ (ap (λ (ns : List ℕ). slice_get ns i) (sym holds.numbered) ∙ named) in
      sym (same_Some i e.process there)

  pub places : Numbered 0 all
  places = record { at = λ i e is. numbered_at i e is ∙ omega arith }

  pub sound_at : (i : ℕ) (e : Kept) → slice_get all i ≡ Some e → Sound groups all e
  sound_at i e is = subst (Sound groups all) (get_or_from_slice_get all i e e is) (All-get_or (Sound groups all) all i e (slice_get_within all i e is) holds.sound)

  module _ (sort : Sort) where
    -- of a send
    pub counted : (p : ℕ) (e : Kept) (s : Sending) → slice_get all p ≡ Some e → s.sender.end.process ≡ e.process → Answered all s → number_of sort groups.groups e.receives s ≡ length (sought sort (pairs_of all s))
    counted p e s is own answered =
        by sort ∙ sym (count_pairs (wants sort) all s e holds.numbered places answered (ap (slice_get all) (own ∙ numbered_at p e is) ∙ is))
      where
        by : (o : Sort) → number_of o groups.groups e.receives s ≡ (if wants o says.Yes then sum_by (λ x. count_by (free_in s.group) x.receives) all - count_by (free_in s.group) e.receives else 0) + count_by (λ r. wants o r.verdict) s.rows
        by Taken =
            let free : (tally_at groups.groups s.group).free ≡ free_all all s.group = (holds.tallied s.group).free ∙ total_free s.group all in
            ap (λ n. (n - count_by (free_in s.group) e.receives) + yeses s.rows) free
        by Troubled = omega arith

    module _ (w : ℕ) where
      counted_on : (p : ℕ) (e : Kept) (s : Sending) → slice_get all p ≡ Some e → s.sender.end.process ≡ e.process → Answered all s → number_on sort groups.groups w e.receives s ≡ length (sought sort (sent_on all w s))
      counted_on p e s is own answered = by (nat_eq s.sender.wire w) (counted p e s is own answered)
        where
          by : (b : Bool) → number_of sort groups.groups e.receives s ≡ length (sought sort (pairs_of all s)) → (if b then number_of sort groups.groups e.receives s else 0) ≡ length (sought sort (if b then pairs_of all s else []))
          by true is = is
          by false is = refl

      -- of the sends of a process
      sends_counted : (p : ℕ) (e : Kept) → slice_get all p ≡ Some e → All (λ s. number_on sort groups.groups w e.receives s ≡ length (sought sort (sent_on all w s))) e.sends
      sends_counted p e is =
          let ok : Sound groups all e = sound_at p e is in
          λ k d lt. counted_on p e (get_or e.sends k d) is (ok.sends_own k d lt) (ok.answered k d lt)

      abbrev pub from_process : Kept → ℕ
      from_process e = sum_by (number_on sort groups.groups w e.receives) e.sends

      process_counted : (p : ℕ) (e : Kept) → slice_get all p ≡ Some e → from_process e ≡ length (sought sort (pairs_from all w e))
      process_counted p e is =
          sum_same (number_on sort groups.groups w e.receives) (λ s. length (sought sort (sent_on all w s))) e.sends (sends_counted p e is)
          ∙ (sym (length-flat_map (λ s. sought sort (sent_on all w s)) e.sends) ∙ ap length (sym (filter_flat (sent_on all w) (λ q. wants sort q.verdict) e.sends)))

      all_counted : All (λ e. from_process e ≡ length (sought sort (pairs_from all w e))) all
      all_counted = λ k d lt. process_counted k (get_or all k d) (slice_get-get_or all k d lt)

      -- of a wire
      pub wire_counted : sum_by from_process all ≡ length (sought sort (pairs_on all w))
      wire_counted =
          sum_same from_process (λ e. length (sought sort (pairs_from all w e))) all all_counted
          ∙ (sym (length-flat_map (λ e. sought sort (pairs_from all w e)) all) ∙ ap length (sym (filter_flat (pairs_from all w) (λ q. wants sort q.verdict) all)))

      part_same : {X : Type 0} (f g : X → ℕ) (xs : List X) (n : ℕ) → All (λ x. f x ≡ g x) xs → sum_by f (take n xs) ≡ sum_by g (take n xs)
      part_same {X} f g xs n all = sum_same f g (take n xs) (All-take (λ x. f x ≡ g x) n xs all)

      -- the place of the k-th: the process, the send, and its number there
      pub at_send : (p i r k : ℕ) (e : Kept) (s : Sending) → slice_get all p ≡ Some e → slice_get e.sends i ≡ Some s
          → sum_by from_process (take p all) + (sum_by (number_on sort groups.groups w e.receives) (take i e.sends) + r) ≡ k → r < number_on sort groups.groups w e.receives s
          → slice_get (sought sort (pairs_on all w)) k ≡ slice_get (sought sort (pairs_of all s)) r
      at_send p i r k e s is there adds lt =
          let ok = sends_counted p e is in
          let here : number_on sort groups.groups w e.receives s ≡ length (sought sort (sent_on all w s))
          = subst (λ (z : Sending). number_on sort groups.groups w e.receives z ≡ length (sought sort (sent_on all w z))) (get_or_from_slice_get e.sends i s s there) (ok i s (slice_get_within e.sends i s there)) in
          let inner_sum : sum_by (λ z. length (sought sort (sent_on all w z))) (take i e.sends) + r ≡ sum_by (number_on sort groups.groups w e.receives) (take i e.sends) + r
          = ap (λ n. n + r) (sym (part_same (number_on sort groups.groups w e.receives) (λ z. length (sought sort (sent_on all w z))) e.sends i ok)) in
          let outer_sum : sum_by (λ x. length (sought sort (pairs_from all w x))) (take p all) ≡ sum_by from_process (take p all)
          = sym (part_same from_process (λ x. length (sought sort (pairs_from all w x))) all p all_counted) in
          let inner : slice_get (flat_map (λ z. sought sort (sent_on all w z)) e.sends) (sum_by (number_on sort groups.groups w e.receives) (take i e.sends) + r) ≡ slice_get (sought sort (sent_on all w s)) r
          = at_flat (λ z. sought sort (sent_on all w z)) e.sends i r (sum_by (number_on sort groups.groups w e.receives) (take i e.sends) + r) s there inner_sum (omega (arith, lt, here)) in
          let from : sought sort (pairs_from all w e) ≡ flat_map (λ z. sought sort (sent_on all w z)) e.sends = filter_flat (sent_on all w) (λ q. wants sort q.verdict) e.sends in
          let long : length (sought sort (pairs_from all w e)) ≡ from_process e = sym (process_counted p e is) in
          let few : sum_by (number_on sort groups.groups w e.receives) (take i e.sends) + r < from_process e = within_sum (number_on sort groups.groups w e.receives) e.sends i s r there lt in
          let outer : slice_get (flat_map (λ x. sought sort (pairs_from all w x)) all) k ≡ slice_get (sought sort (pairs_from all w e)) (sum_by (number_on sort groups.groups w e.receives) (take i e.sends) + r)
          = at_flat (λ x. sought sort (pairs_from all w x)) all p (sum_by (number_on sort groups.groups w e.receives) (take i e.sends) + r) k e is (omega (arith, outer_sum, adds)) (omega (arith, few, long)) in
          ap (λ (ys : List Judged). slice_get ys k) (filter_flat (pairs_from all w) (λ q. wants sort q.verdict) all)
          ∙ (outer ∙ (ap (λ (ys : List Judged). slice_get ys (sum_by (number_on sort groups.groups w e.receives) (take i e.sends) + r)) from ∙ (inner ∙ on_it (nat_eq s.sender.wire w) refl lt)))
        where
          on_it : (b : Bool) → nat_eq s.sender.wire w ≡ b → r < number_on sort groups.groups w e.receives s → slice_get (sought sort (sent_on all w s)) r ≡ slice_get (sought sort (pairs_of all s)) r
          on_it true same lt = ap (λ b. slice_get (sought sort (if b then pairs_of all s else [])) r) same
          on_it false other lt = absurd (let nil : number_on sort groups.groups w e.receives s ≡ 0 = ap (λ b. if b then number_of sort groups.groups e.receives s else 0) other in omega (arith, lt, nil))

          within_sum : {X : Type 0} (f : X → ℕ) (xs : List X) (i : ℕ) (x : X) (r : ℕ) → slice_get xs i ≡ Some x → r < f x → sum_by f (take i xs) + r < sum_by f xs
          within_sum f [] i x r is h = cc
          within_sum f (y ∷ ys) zero x r is h = let one : y ≡ x = cc in let same : f y ≡ f x = ap f one in omega (arith, h, same, sum_by-cons f y ys)
          within_sum f (y ∷ ys) (suc i) x r is h = omega (arith, within_sum f ys i x r is h, sum_by-cons f y ys, sum_by-cons f y (take i ys))

  -- The taken pairs of a wire are what its groups count

  pub keys_of : (xs : List Kept) → All (Sound groups all) xs → All (λ (y : Sent). HasKey groups.groups y.send.group y.send.sender.wire y.send.sender.message (length y.send.sender.parcel.values)) (sent xs)
  keys_of [] ok = All-nil (λ (y : Sent). HasKey groups.groups y.send.group y.send.sender.wire y.send.sender.message (length y.send.sender.parcel.values))
  keys_of (e ∷ xs) ok =
      All-append (λ (y : Sent). HasKey groups.groups y.send.group y.send.sender.wire y.send.sender.message (length y.send.sender.parcel.values)) (map (λ s. record { process = e; send = s }) e.sends) (sent xs)
      (All-map (λ (y : Sent). HasKey groups.groups y.send.group y.send.sender.wire y.send.sender.message (length y.send.sender.parcel.values)) (λ s. record { process = e; send = s }) e.sends (All-head (Sound groups all) e xs ok).sends_keyed)
      (keys_of xs (All-tail (Sound groups all) e xs ok))

  keys : All (λ (y : Sent). HasKey groups.groups y.send.group y.send.sender.wire y.send.sender.message (length y.send.sender.parcel.values)) (sent all)
  keys = keys_of all holds.sound

  -- of a process
  pub takes_are : (w : ℕ) (e : Kept) → sum_by (takes_on all w e) e.sends ≡ from_process Taken w e
  takes_are w e = sum_same (takes_on all w e) (number_on Taken groups.groups w e.receives) e.sends (λ k d lt. one (get_or e.sends k d))
    where
      one : (s : Sending) → takes_on all w e s ≡ number_on Taken groups.groups w e.receives s
      one s =
          let free : (tally_at groups.groups s.group).free ≡ free_all all s.group = (holds.tallied s.group).free ∙ total_free s.group all in
          ap (λ n. if nat_eq s.sender.wire w then (n - count_by (free_in s.group) e.receives) + yeses s.rows else 0) (sym free)

  pub on_wire_is : (w : ℕ) → on_wire groups.groups w ≡ length (sought Taken (pairs_on all w))
  on_wire_is w =
      wire_counts all groups.groups w holds.tallied keys
      ∙ (sum_same (λ e. sum_by (takes_on all w e) e.sends) (from_process Taken w) all (λ k d lt. takes_are w (get_or all k d)) ∙ wire_counted Taken w)

  pub total_is : (n : ℕ) → sum_by (on_wire groups.groups) (upto n) ≡ length (sought Taken (all_pairs all n))
  total_is n =
      sum_same (on_wire groups.groups) (λ w. length (sought Taken (pairs_on all w))) (upto n) (λ k d lt. on_wire_is (get_or (upto n) k d))
      ∙ (sym (length-flat_map (λ w. sought Taken (pairs_on all w)) (upto n)) ∙ ap length (sym (filter_flat (pairs_on all) (λ q. wants Taken q.verdict) (upto n))))

  -- the wire of the k-th
  pub at_wire : (n w r k : ℕ) → w < n → sum_by (on_wire groups.groups) (upto w) + r ≡ k → r < on_wire groups.groups w → slice_get (sought Taken (all_pairs all n)) k ≡ slice_get (sought Taken (pairs_on all w)) r
  at_wire n w r k lt adds below =
      ap (λ (ys : List Judged). slice_get ys k) (filter_flat (pairs_on all) (λ q. wants Taken q.verdict) (upto n))
      ∙ at_flat (λ v. sought Taken (pairs_on all v)) (upto n) w r k w (get_upto n w lt)
      (let front : take w (upto n) ≡ upto w = take_upto n w (omega (arith, lt)) in
      let same : sum_by (λ v. length (sought Taken (pairs_on all v))) (upto w) ≡ sum_by (on_wire groups.groups) (upto w) = sym (sum_same (on_wire groups.groups) (λ v. length (sought Taken (pairs_on all v))) (upto w) (λ i d lt. on_wire_is (get_or (upto w) i d))) in
      ap (λ vs. sum_by (λ v. length (sought Taken (pairs_on all v))) vs + r) front ∙ (ap (λ m. m + r) same ∙ adds))
      (omega (arith, below, on_wire_is w))
