-- What an update leaves of the pairs: those of others stay, those of the process have what the judge says.
use Rattle.std.proofs.Common.{◌≡◌, ◌≢◌, ◌≤◌, ◌<◌, ◌⊎◌, inl, inr, refl, sym, ◌∙◌, ap, subst, ℕ, zero, suc, Bool, true, false, not, ◌||◌, nat_eq, List, [], ◌∷◌, ◌++◌, length, get_or, if◌then◌else◌, arith}
use Rattle.std.specs.Prelude.{All, filter}
use Rattle.std.specs.List.{flat_map}
use Rattle.std.proofs.lemmas.Bool.{eq-eqb, ne_eqb, or_right, cases_eq}
use Rattle.std.proofs.lemmas.List.{append-nil}
use Rattle.std.proofs.lemmas.List.Elements.{All-weaker, All-head, All-tail, filter-append}
use Rattle.std.proofs.lemmas.List.Concat.{flat_map-append}
use Rattle.std.proofs.lemmas.Option.{slice_get-get_or, get_or_from_slice_get, slice_get_within}
use Rattle.pz_match.specs.declared.offers.Sender.{Sender}
use Rattle.pz_match.specs.declared.rows.Row.{Row}
use Rattle.pz_match.specs.declared.groups.Group.{Group}
use Rattle.pz_match.specs.declared.kept.Sending.{Sending}
use Rattle.pz_match.specs.declared.kept.Receiving.{Receiving}
use Rattle.pz_match.specs.Judging.{Verdicts}
use Rattle.pz_match.specs.Pairs.{Judged, touches}
use Rattle.pz_match.specs.devices.Lists.{upto}
use Rattle.pz_match.specs.devices.Kept.{Kept, rows_at, answers, heard, pairs_of, sent_on, pairs_from, pairs_on, all_pairs}
use Rattle.pz_match.specs.devices.Tallies.{GroupsView}
use Rattle.pz_match.specs.devices.Asking.{asked, renewed}
use Rattle.pz_match.specs.devices.Holding.{Holds, SendKeyed}
use Rattle.pz_match.specs.devices.Updating.{renewed_in, other_offers}
use Rattle.pz_match.proofs.Sums.{filter_flat, flat_same, flat_mapped}
use Rattle.pz_match.proofs.Replacing.{new_here, new_there, new_length, forgotten, rows_remembered, rows_none, all_asked}
use Rattle.pz_match.proofs.Sought.{numbered_at}
use Rattle.pz_match.proofs.Telling.{heard_ends}

module _ {X Y : Type 0} (f g : X → List Y) where
  pub flat_pointwise : (xs ys : List X) → length xs ≡ length ys → ((k : ℕ) (d : X) → k < length xs → f (get_or xs k d) ≡ g (get_or ys k d)) → flat_map f xs ≡ flat_map g ys
  flat_pointwise [] [] long each = refl
  flat_pointwise [] (y ∷ ys) long each = absurd (omega (arith, long))
  flat_pointwise (x ∷ xs) [] long each = absurd (omega (arith, long))
  flat_pointwise (x ∷ xs) (y ∷ ys) long each = λ i. each 0 x (omega arith) i ++ flat_pointwise xs ys (omega (arith, long)) (λ k d lt. each (suc k) d (omega (arith, lt))) i

module _ (p : ℕ) where
  abbrev pub stays : Judged → Bool
  stays q = not (touches p q)

  none_stay : (qs : List Judged) → All (λ q. touches p q ≡ true) qs → filter stays qs ≡ []
  none_stay [] all = refl
  none_stay (q ∷ qs) all = ap (λ b. if not b then q ∷ filter stays qs else filter stays qs) (All-head (λ q. touches p q ≡ true) q qs all) ∙ none_stay qs (All-tail (λ q. touches p q ≡ true) q qs all)

  by_sender : (q : Judged) → q.sender.end.process ≡ p → touches p q ≡ true
  by_sender q is = ap (λ b. b || nat_eq q.receiver.end.process p) (eq-eqb q.sender.end.process p is)

  by_receiver : (q : Judged) → q.receiver.end.process ≡ p → touches p q ≡ true
  by_receiver q is = or_right (nat_eq q.sender.end.process p) (nat_eq q.receiver.end.process p) (eq-eqb q.receiver.end.process p is)

  -- what a send of the process hears, or any send from the process
  own_send : (s : Sending) (x : Kept) → s.sender.end.process ≡ p → All (λ (r : Receiving). r.receiver.end.process ≡ x.process) x.receives → filter stays (heard s x) ≡ []
  own_send s x own receives =
      none_stay (heard s x)
      (All-weaker (λ (q : Judged). (q.sender ≡ s.sender) × (q.receiver.end.process ≡ x.process)) (λ q. touches p q ≡ true)
      (λ q ends. by_sender q (ap (λ (z : Sender). z.end.process) ends.0 ∙ own)) (heard s x) (heard_ends s x receives))

  own_receives : (s : Sending) (x : Kept) → x.process ≡ p → All (λ (r : Receiving). r.receiver.end.process ≡ x.process) x.receives → filter stays (heard s x) ≡ []
  own_receives s x own receives =
      none_stay (heard s x)
      (All-weaker (λ (q : Judged). (q.sender ≡ s.sender) × (q.receiver.end.process ≡ x.process)) (λ q. touches p q ≡ true)
      (λ q ends. by_receiver q (ends.1 ∙ own)) (heard s x) (heard_ends s x receives))

  all_none : {X : Type 0} (f : X → List Judged) (xs : List X) → All (λ x. filter stays (f x) ≡ []) xs → filter stays (flat_map f xs) ≡ []
  all_none f xs each = filter_flat f stays xs ∙ go xs each
    where
      go : (ys : _) → All (λ x. filter stays (f x) ≡ []) ys → flat_map (λ x. filter stays (f x)) ys ≡ []
      go [] each = refl
      go (y ∷ ys) each = λ i. All-head (λ x. filter stays (f x) ≡ []) y ys each i ++ go ys (All-tail (λ x. filter stays (f x) ≡ []) y ys each) i

  -- of a process with this number nothing stays
  own_process : (all : List Kept) (w : ℕ) (e : Kept) → All (λ (s : Sending). s.sender.end.process ≡ p) e.sends → All (λ (x : Kept). All (λ (r : Receiving). r.receiver.end.process ≡ x.process) x.receives) all → filter stays (pairs_from all w e) ≡ []
  own_process all w e sends receives = all_none (sent_on all w) e.sends (λ k d lt. on (get_or e.sends k d) (sends k d lt))
    where
      on : (s : Sending) → s.sender.end.process ≡ p → filter stays (sent_on all w s) ≡ []
      on s own = by (nat_eq s.sender.wire w)
        where
          by : (b : Bool) → filter stays (if b then pairs_of all s else []) ≡ []
          by true = all_none (heard s) all (λ j d under. own_send s (get_or all j d) own (receives j d under))
          by false = refl

module _ (says : Verdicts) (p : ℕ) (sent : List Sending) (hears : List Receiving) (all : List Kept) (within : p < length all) (g0 g1 : GroupsView) (holds : Holds g0 all) (after : Holds g1 (other_offers says p sent hears all)) where
  new : List Kept
  new = other_offers says p sent hears all

  now : Kept
  now = record { process = p; sends = sent; receives = hears }

  long : length (other_offers says p sent hears all) ≡ length all
  long = new_length says p sent hears all within

  own_all : (g : GroupsView) (xs : List Kept) → Holds g xs → All (λ (x : Kept). All (λ (r : Receiving). r.receiver.end.process ≡ x.process) x.receives) xs
  own_all g xs ok = λ k d lt. (ok.sound k d lt).receives_own

  old_number : (k : ℕ) (d : Kept) → k < length all → (get_or all k d).process ≡ k
  old_number k d lt = numbered_at g0 all holds k (get_or all k d) (slice_get-get_or all k d lt)

  -- another send hears from another process what it heard
  same_heard : (s : Sending) (x : Kept) → x.process ≢ p → heard (renewed says p hears s) (renewed_in says p hears x) ≡ heard s x
  same_heard s x other =
      ap (λ (rows : List Row). if nat_eq x.process s.sender.end.process then [] else answers s.sender s.group rows x.receives)
      (filter-append (λ (r : Row). nat_eq r.process x.process) (forgotten p s.rows) (asked says s.sender s.group p hears)
      ∙ ((λ i. rows_remembered p x.process s.rows other i ++ rows_none x.process p (asked says s.sender s.group p hears) (all_asked says s.sender s.group p (λ (r : Row). r.process ≡ p) (λ r. refl) hears) (λ e. other (sym e)) i)
      ∙ append-nil (rows_at x.process s.rows)))

  same_of : (s : Sending) → filter (stays p) (pairs_of (other_offers says p sent hears all) (renewed says p hears s)) ≡ filter (stays p) (pairs_of all s)
  same_of s =
      filter_flat (heard (renewed says p hears s)) (stays p) (other_offers says p sent hears all)
      ∙ (flat_pointwise (λ x. filter (stays p) (heard (renewed says p hears s) x)) (λ x. filter (stays p) (heard s x)) (other_offers says p sent hears all) all long each
      ∙ sym (filter_flat (heard s) (stays p) all))
    where
      each : (k : ℕ) (d : Kept) → k < length (other_offers says p sent hears all) → filter (stays p) (heard (renewed says p hears s) (get_or (other_offers says p sent hears all) k d)) ≡ filter (stays p) (heard s (get_or all k d))
      each k d lt = by (cases_eq k p)
        where
          below : k < length all
          below = omega (arith, lt, long)

          by : (k ≡ p) ⊎ (k ≢ p) → filter (stays p) (heard (renewed says p hears s) (get_or (other_offers says p sent hears all) k d)) ≡ filter (stays p) (heard s (get_or all k d))
          by (inl same) =
              let first : filter (stays p) (heard (renewed says p hears s) (get_or (other_offers says p sent hears all) k d)) ≡ []
              = own_receives p (renewed says p hears s) (get_or (other_offers says p sent hears all) k d)
              (ap (λ (x : Kept). x.process) (ap (λ j. get_or (other_offers says p sent hears all) j d) same ∙ new_here says p sent hears all within d)) (own_all g1 (other_offers says p sent hears all) after k d lt) in
              first ∙ sym (own_receives p s (get_or all k d) (old_number k d below ∙ same) (own_all g0 all holds k d below))
          by (inr other) =
              ap (λ (x : Kept). filter (stays p) (heard (renewed says p hears s) x)) (new_there says p sent hears all within k d other below)
              ∙ ap (filter (stays p)) (same_heard s (get_or all k d) (λ e. other (sym (old_number k d below) ∙ e)))

  same_on : (w : ℕ) → filter (stays p) (pairs_on (other_offers says p sent hears all) w) ≡ filter (stays p) (pairs_on all w)
  same_on w =
      filter_flat (pairs_from (other_offers says p sent hears all) w) (stays p) (other_offers says p sent hears all)
      ∙ (flat_pointwise (λ e. filter (stays p) (pairs_from (other_offers says p sent hears all) w e)) (λ e. filter (stays p) (pairs_from all w e)) (other_offers says p sent hears all) all long each
      ∙ sym (filter_flat (pairs_from all w) (stays p) all))
    where
      each : (k : ℕ) (d : Kept) → k < length (other_offers says p sent hears all) → filter (stays p) (pairs_from (other_offers says p sent hears all) w (get_or (other_offers says p sent hears all) k d)) ≡ filter (stays p) (pairs_from all w (get_or all k d))
      each k d lt = by (cases_eq k p)
        where
          below : k < length all
          below = omega (arith, lt, long)

          on : (s : Sending) → filter (stays p) (sent_on (other_offers says p sent hears all) w (renewed says p hears s)) ≡ filter (stays p) (sent_on all w s)
          on s = at (nat_eq s.sender.wire w)
            where
              at : (b : Bool) → filter (stays p) (if b then pairs_of (other_offers says p sent hears all) (renewed says p hears s) else []) ≡ filter (stays p) (if b then pairs_of all s else [])
              at true = same_of s
              at false = refl

          by : (k ≡ p) ⊎ (k ≢ p) → filter (stays p) (pairs_from (other_offers says p sent hears all) w (get_or (other_offers says p sent hears all) k d)) ≡ filter (stays p) (pairs_from all w (get_or all k d))
          by (inl same) =
              let here : Kept = get_or (other_offers says p sent hears all) k d in
              let mine : here.process ≡ p = ap (λ (x : Kept). x.process) (ap (λ j. get_or (other_offers says p sent hears all) j d) same ∙ new_here says p sent hears all within d) in
              own_process p (other_offers says p sent hears all) w here (All-weaker (λ (s : Sending). s.sender.end.process ≡ here.process) (λ (s : Sending). s.sender.end.process ≡ p) (λ s own. own ∙ mine) here.sends (after.sound k d lt).sends_own) (own_all g1 (other_offers says p sent hears all) after)
              ∙ sym (own_process p all w (get_or all k d) (All-weaker (λ (s : Sending). s.sender.end.process ≡ (get_or all k d).process) (λ (s : Sending). s.sender.end.process ≡ p) (λ s own. own ∙ (old_number k d below ∙ same)) (get_or all k d).sends (holds.sound k d below).sends_own) (own_all g0 all holds))
          by (inr other) =
              let e : Kept = get_or all k d in
              ap (λ (x : Kept). filter (stays p) (pairs_from (other_offers says p sent hears all) w x)) (new_there says p sent hears all within k d other below)
              ∙ (ap (filter (stays p)) (flat_mapped (sent_on (other_offers says p sent hears all) w) (renewed says p hears) e.sends)
              ∙ (filter_flat (λ s. sent_on (other_offers says p sent hears all) w (renewed says p hears s)) (stays p) e.sends
              ∙ (flat_same (λ s. filter (stays p) (sent_on (other_offers says p sent hears all) w (renewed says p hears s))) (λ s. filter (stays p) (sent_on all w s)) e.sends (λ n c under. on (get_or e.sends n c))
              ∙ sym (filter_flat (sent_on all w) (stays p) e.sends))))

  pub others_stay : (n : ℕ) → filter (stays p) (all_pairs (other_offers says p sent hears all) n) ≡ filter (stays p) (all_pairs all n)
  others_stay n =
      filter_flat (pairs_on (other_offers says p sent hears all)) (stays p) (upto n)
      ∙ (flat_same (λ w. filter (stays p) (pairs_on (other_offers says p sent hears all) w)) (λ w. filter (stays p) (pairs_on all w)) (upto n) (λ k d lt. same_on (get_or (upto n) k d))
      ∙ sym (filter_flat (pairs_on all) (stays p) (upto n)))

-- No pairs on further wires

module _ (groups : GroupsView) (all : List Kept) (holds : Holds groups all) (within : All (λ (x : Group). x.wire < groups.wires) groups.groups) where
  pub wire_below : (s : Sending) → SendKeyed groups s → s.sender.wire < groups.wires
  wire_below s key =
      let lt : key.group.wire < groups.wires = subst (λ (x : Group). x.wire < groups.wires) (get_or_from_slice_get groups.groups s.group key.group key.group key.there) (within s.group key.group (slice_get_within groups.groups s.group key.group key.there)) in
      omega (arith, lt, key.wire_is)

  empty_on : (w : ℕ) → groups.wires ≤ w → pairs_on all w ≡ []
  empty_on w le = nothing_in (pairs_from all w) all (λ k d lt. nothing_in (sent_on all w) (get_or all k d).sends (λ n c under. off (get_or (get_or all k d).sends n c) ((holds.sound k d lt).sends_keyed n c under)))
    where
      nothing_in : {X Y : Type 0} (f : X → List Y) (xs : List X) → All (λ x. f x ≡ []) xs → flat_map f xs ≡ []
      nothing_in f [] each = refl
      nothing_in f (x ∷ xs) each = λ i. All-head (λ x. f x ≡ []) x xs each i ++ nothing_in f xs (All-tail (λ x. f x ≡ []) x xs each) i

      off : (s : Sending) → SendKeyed groups s → sent_on all w s ≡ []
      off s key = ap (λ b. if b then pairs_of all s else []) (ne_eqb s.sender.wire w (λ e. let lt = wire_below s key in omega (arith, e, le, lt)))

  pub more_wires : (m : ℕ) → groups.wires ≤ m → all_pairs all m ≡ all_pairs all groups.wires
  more_wires zero le = let none : groups.wires ≡ 0 = omega (arith, le) in ap (all_pairs all) (sym none)
  more_wires (suc m) le = by (split groups.wires m le) (more_wires m)
    where
      split : (n m : ℕ) → n ≤ suc m → (n ≤ m) ⊎ (n ≡ suc m)
      split n m le = grind arith

      by : (groups.wires ≤ m) ⊎ (groups.wires ≡ suc m) → (groups.wires ≤ m → all_pairs all m ≡ all_pairs all groups.wires) → all_pairs all (suc m) ≡ all_pairs all groups.wires
      by (inl below) later =
          flat_map-append (pairs_on all) (upto m) (m ∷ [])
          ∙ (ap (λ (ys : List Judged). flat_map (pairs_on all) (upto m) ++ ys) (append-nil (pairs_on all m) ∙ empty_on m below)
          ∙ (append-nil (flat_map (pairs_on all) (upto m)) ∙ later below))
      by (inr same) later = ap (all_pairs all) (sym same)
