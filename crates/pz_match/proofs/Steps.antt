-- What each step of an update asks.
use Rattle.std.proofs.Common.{◌≡◌, ◌≢◌, ◌<◌, ◌⊎◌, inl, inr, refl, sym, ◌∙◌, ap, subst, ℕ, zero, suc, Bool, true, false, ◌&&◌, nat_eq, List, [], ◌∷◌, ◌+◌, ◌++◌, length, take, get_or, set, Some, if◌then◌else◌, arith}
use Rattle.std.specs.Prelude.{All, Contains, count_by}
use Rattle.std.specs.List.{slice_get, flat_map}
use Rattle.std.proofs.lemmas.Bool.{cases_eq, ne_eqb, eqb-true}
use Rattle.std.proofs.lemmas.List.{length-set, take_more, get_or-set_same, get_or-set_other}
use Rattle.std.proofs.lemmas.List.Elements.{All-head, All-tail, All-nil, All-cons, All-append, All-weaker, All-set, Contains-append_left, Contains-append_right, Contains-append_cases}
use Rattle.std.proofs.lemmas.List.Sums.{sum_by-cons}
use Rattle.std.proofs.lemmas.Option.{slice_get-get_or, get_or_from_slice_get, slice_get_within}
use Rattle.pz_match_lists.specs.Increasing.{list_at}
use Rattle.pz_match.specs.declared.kept.Sending.{Sending}
use Rattle.pz_match.specs.declared.kept.Receiving.{Receiving}
use Rattle.pz_match.specs.declared.users.Users.{Users}
use Rattle.pz_match.specs.devices.Kept.{Kept, asks_in, rows_at}
use Rattle.pz_match.specs.devices.Tallies.{GroupsView, HasKey, Follows}
use Rattle.pz_match.specs.devices.Holding.{Holds, Sound, Answered, SendKeyed, ReceiveKeyed}
use Rattle.pz_match.specs.devices.Updating.{TouchesOnly, Untouched, silent}
use Rattle.pz_match.specs.devices.Users.{Gathered, HaveUsers}
use Rattle.pz_match.proofs.Fitting.{one_key}
use Rattle.pz_match.proofs.Offered.{send_keyed, receive_keyed}
use Rattle.pz_match.proofs.Sought.{numbered_at}

module _ {X : Type 0} (f : Kept → List X) where
  -- what is among the rest is among all
  pub among_rest : (all : List Kept) (p : ℕ) (e : Kept) (x : X) → f e ≡ [] → Contains (flat_map f (set all p e)) x → Contains (flat_map f all) x
  among_rest [] p e x none there = there
  among_rest (y ∷ ys) zero e x none there = Contains-append_right (f y) (flat_map f ys) x (subst (λ (xs : List X). Contains (xs ++ flat_map f ys) x) none there)
  among_rest (y ∷ ys) (suc p) e x none there = by (Contains-append_cases (f y) (flat_map f (set ys p e)) x there) (among_rest ys p e x none)
    where
      by : Contains (f y) x ⊎ Contains (flat_map f (set ys p e)) x → (Contains (flat_map f (set ys p e)) x → Contains (flat_map f ys) x) → Contains (f y ++ flat_map f ys) x
      by (inl here) later = Contains-append_left (f y) (flat_map f ys) x here
      by (inr rest) later = Contains-append_right (f y) (flat_map f ys) x (later rest)

send_within : (g : GroupsView) (s : Sending) → SendKeyed g s → s.group < length g.groups
send_within g s key = slice_get_within g.groups s.group key.group key.there

-- one receive more

abbrev gives : List (List ℕ) → List ℕ → Receiving → Type 0
gives senders places q = q.receiver.conditional ≡ true → (n : ℕ) → Contains (list_at senders q.receiver.wire) n → Contains places n

pub gathered_more : (senders : List (List ℕ)) (old new : List ℕ) (rs : List Receiving) (i : ℕ) (r : Receiving) → i < length rs → r ≡ get_or rs i r → ((n : ℕ) → Contains old n → Contains new n)
    → (r.receiver.conditional ≡ true → (n : ℕ) → Contains (list_at senders r.receiver.wire) n → Contains new n) → Gathered senders old (take i rs) → Gathered senders new (take (i + 1) rs)
gathered_more senders old new rs i r lt is keeps here before =
    subst (Gathered senders new) (sym (take_more rs i r lt))
    (All-append (gives senders new) (take i rs) (get_or rs i r ∷ []) (All-weaker (gives senders old) (gives senders new) (λ q ok asks n on. keeps n (ok asks n on)) (take i rs) before)
    (All-cons (gives senders new) (get_or rs i r) [] (subst (gives senders new) is here) (All-nil (gives senders new))))

-- a send of a process that is not gathered is in no group that these receives ask in
none_gathered : (g : GroupsView) (s : Sending) → SendKeyed g s → (senders : List (List ℕ)) (places : List ℕ) (k : ℕ) → Contains (list_at senders s.sender.wire) k → (Contains places k → ⊥) → (rs : List Receiving) → All (ReceiveKeyed g) rs
    → Gathered senders places rs → count_by (asks_in s.group) rs ≡ 0
none_gathered g s key senders places k on none [] keyed gathered = refl
none_gathered g s key senders places k on none (r ∷ rs) keyed gathered =
    let here : (if asks_in s.group r then 1 else 0) ≡ 0 = by (nat_eq r.group s.group) refl r.receiver.conditional refl in
    omega (
      arith,
      here,
      sum_by-cons (λ (x : Receiving). if asks_in s.group x then 1 else 0) r rs,
      none_gathered g s key senders places k on none rs (All-tail (ReceiveKeyed g) r rs keyed) (All-tail (λ (r : Receiving). r.receiver.conditional ≡ true → (n : ℕ) → Contains (list_at senders r.receiver.wire) n → Contains places n) r rs gathered),
    )
  where
    wire : r.group ≡ s.group → r.receiver.wire ≡ s.sender.wire
    wire same =
        (one_key g.groups s.group r.receiver.wire s.sender.wire r.receiver.message s.sender.message r.receiver.count (length s.sender.parcel.values)
        (subst (λ j. HasKey g.groups j r.receiver.wire r.receiver.message r.receiver.count) same (All-head (ReceiveKeyed g) r rs keyed)) key).0

    by : (b : Bool) → nat_eq r.group s.group ≡ b → (c : Bool) → r.receiver.conditional ≡ c → ◌≡◌ {A = ℕ} (if b && c then 1 else 0) 0
    by true same true asks =
        absurd (none (All-head (λ (r : Receiving). r.receiver.conditional ≡ true → (n : ℕ) → Contains (list_at senders r.receiver.wire) n → Contains places n) r rs gathered asks k
        (subst (λ w. Contains (list_at senders w) k) (sym (wire (eqb-true r.group s.group same))) on)))
    by true same false asks = refl
    by false same c asks = refl

module _ (p : ℕ) (g0 : GroupsView) (all : List Kept) (holds : Holds g0 all) where
  pub sends_keyed : (e : Kept) → slice_get all p ≡ Some e → All (SendKeyed g0) e.sends
  sends_keyed e is = (subst (Sound g0 all) (get_or_from_slice_get all p e e is) (holds.sound p e (slice_get_within all p e is))).sends_keyed

  pub receives_keyed : (e : Kept) → slice_get all p ≡ Some e → All (ReceiveKeyed g0) e.receives
  receives_keyed e is = (subst (Sound g0 all) (get_or_from_slice_get all p e e is) (holds.sound p e (slice_get_within all p e is))).receives_keyed

  -- of the others
  pub rest_keyed : (g : GroupsView) → Follows g0 g → All (λ (e : Kept). All (ReceiveKeyed g) e.receives) (set all p (silent p))
  rest_keyed g follows =
      All-set (λ (e : Kept). All (ReceiveKeyed g) e.receives) all p (silent p) (λ k d lt. absurd (omega (arith, lt)))
      (All-weaker (Sound g0 all) (λ (e : Kept). All (ReceiveKeyed g) e.receives) (λ e ok. All-weaker (ReceiveKeyed g0) (ReceiveKeyed g) (receive_keyed follows) e.receives ok.receives_keyed) all holds.sound)

  pub rest_own : All (λ (e : Kept). All (λ (r : Receiving). r.receiver.end.process ≡ e.process) e.receives) (set all p (silent p))
  rest_own =
      All-set (λ (e : Kept). All (λ (r : Receiving). r.receiver.end.process ≡ e.process) e.receives) all p (silent p) (λ k d lt. absurd (omega (arith, lt)))
      (All-weaker (Sound g0 all) (λ (e : Kept). All (λ (r : Receiving). r.receiver.end.process ≡ e.process) e.receives) (λ e ok. ok.receives_own) all holds.sound)

  pub rest_sends_keyed : (g : GroupsView) → Follows g0 g → All (λ (e : Kept). All (SendKeyed g) e.sends) (set all p (silent p))
  rest_sends_keyed g follows =
      All-set (λ (e : Kept). All (SendKeyed g) e.sends) all p (silent p) (λ k d lt. absurd (omega (arith, lt)))
      (All-weaker (Sound g0 all) (λ (e : Kept). All (SendKeyed g) e.sends) (λ e ok. All-weaker (SendKeyed g0) (SendKeyed g) (send_keyed follows) e.sends ok.sends_keyed) all holds.sound)

  pub rest_within : (g : GroupsView) → Follows g0 g → All (λ (e : Kept). All (λ (s : Sending). s.group < length g.groups) e.sends) (set all p (silent p))
  rest_within g follows =
      All-weaker (λ (e : Kept). All (SendKeyed g) e.sends) (λ (e : Kept). All (λ (s : Sending). s.group < length g.groups) e.sends)
      (λ e ok. All-weaker (SendKeyed g) (λ (s : Sending). s.group < length g.groups) (send_within g) e.sends ok) (set all p (silent p)) (rest_sends_keyed g follows)

  module _ (below : p < length all) where
    -- by place
    rest : (P : Kept → Type 0) → P (silent p) → ((k : ℕ) (e : Kept) → k ≢ p → slice_get all k ≡ Some e → P e) → All P (set all p (silent p))
    rest P here there k d lt = by (cases_eq k p)
      where
        in_all : k < length all
        in_all = omega (arith, lt, length-set all p (silent p))

        by : (k ≡ p) ⊎ (k ≢ p) → P (get_or (set all p (silent p)) k d)
        by (inl same) = subst P (sym (ap (λ j. get_or (set all p (silent p)) j d) same ∙ get_or-set_same all p (silent p) d below)) here
        by (inr other) = subst P (sym (get_or-set_other all p k (silent p) d other)) (there k (get_or all k d) other (slice_get-get_or all k d in_all))

    pub rest_foreign : All (λ (e : Kept). All (λ (s : Sending). s.sender.end.process ≢ p) e.sends) (set all p (silent p))
    rest_foreign = rest (λ (e : Kept). All (λ (s : Sending). s.sender.end.process ≢ p) e.sends) (λ k d lt. absurd (omega (arith, lt))) (λ k e other is.
        let ok : Sound g0 all e = subst (Sound g0 all) (get_or_from_slice_get all k e e is) (holds.sound k e (slice_get_within all k e is)) in
        All-weaker (λ (s : Sending). s.sender.end.process ≡ e.process) (λ (s : Sending). s.sender.end.process ≢ p) (λ s own same. other (sym (numbered_at g0 all holds k e is) ∙ (sym own ∙ same))) e.sends ok.sends_own)

    -- those that are not gathered have nothing of the process
    pub rest_touched : (users : Users) → HaveUsers users all → (places : List ℕ) (heard : List Receiving) (g : GroupsView) → Follows g0 g → All (ReceiveKeyed g) heard → (old : Kept) → slice_get all p ≡ Some old
        → Gathered users.senders places old.receives → Gathered users.senders places heard → TouchesOnly places p heard (set all p (silent p))
    rest_touched users have places heard g follows keyed old is_old before now k e is none = by (cases_eq k p)
      where
        seen : e ≡ get_or (set all p (silent p)) k e
        seen = sym (get_or_from_slice_get (set all p (silent p)) k e e is)

        in_all : k < length all
        in_all = let lt = slice_get_within (set all p (silent p)) k e is in omega (arith, lt, length-set all p (silent p))

        each : k ≢ p → All (Untouched p heard) (get_or all k e).sends
        each other n c under =
            let s : Sending = get_or (get_or all k e).sends n c in
            let is_there : slice_get all k ≡ Some (get_or all k e) = slice_get-get_or all k e in_all in
            let ok : Sound g0 all (get_or all k e) = holds.sound k e in_all in
            let key : SendKeyed g0 s = ok.sends_keyed n c under in
            let on : Contains (list_at users.senders s.sender.wire) k = (have s.sender.wire).sending k (get_or all k e) is_there n c under refl in
            let mine : Sound g0 all old = subst (Sound g0 all) (get_or_from_slice_get all p old old is_old) (holds.sound p old (slice_get_within all p old is_old)) in
            record {
              rows =
                  no_rows s (λ own. other (sym (numbered_at g0 all holds k (get_or all k e) is_there) ∙ (sym (ok.sends_own n c under) ∙ own))) (ok.answered n c under)
                  (none_gathered g0 s key users.senders places k on none old.receives mine.receives_keyed before);
              asks = none_gathered g s (send_keyed follows s key) users.senders places k on none heard keyed now;
            }
          where
            no_rows : (s : Sending) → s.sender.end.process ≢ p → Answered all s → count_by (asks_in s.group) old.receives ≡ 0 → length (rows_at p s.rows) ≡ 0
            no_rows s foreign answered nil =
                let number : old.process ≡ p = numbered_at g0 all holds p old is_old in
                let at : length (rows_at old.process s.rows) ≡ (if nat_eq old.process s.sender.end.process then 0 else count_by (asks_in s.group) old.receives)
                = subst (λ (x : Kept). length (rows_at x.process s.rows) ≡ (if nat_eq x.process s.sender.end.process then 0 else count_by (asks_in s.group) x.receives)) (get_or_from_slice_get all p old old is_old) (answered.each p old (slice_get_within all p old is_old)) in
                let apart : nat_eq old.process s.sender.end.process ≡ false = ne_eqb old.process s.sender.end.process (λ e. foreign (sym e ∙ number)) in
                ap (λ k. length (rows_at k s.rows)) (sym number) ∙ (at ∙ (ap (λ b. if b then 0 else count_by (asks_in s.group) old.receives) apart ∙ nil))

        by : (k ≡ p) ⊎ (k ≢ p) → All (Untouched p heard) e.sends
        by (inl same) =
            let quiet : e ≡ silent p = seen ∙ (ap (λ j. get_or (set all p (silent p)) j e) same ∙ get_or-set_same all p (silent p) e below) in
            subst (λ (x : Kept). All (Untouched p heard) x.sends) (sym quiet) (All-nil (Untouched p heard))
        by (inr other) =
            let was : e ≡ get_or all k e = seen ∙ get_or-set_other all p k (silent p) e other in
            subst (λ (x : Kept). All (Untouched p heard) x.sends) (sym was) (each other)
