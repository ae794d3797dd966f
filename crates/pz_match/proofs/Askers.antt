-- Going through the processes that ask on a wire alone.
use Rattle.std.proofs.Common.{◌≡◌, ◌≢◌, ◌≤◌, ◌<◌, ◌+◌, ◌-◌, ◌⊎◌, inl, inr, refl, sym, ◌∙◌, ap, subst, ℕ, zero, suc, Bool, true, false, ◌&&◌, nat_eq, List, [], ◌∷◌, ◌++◌, length, drop, get_or, set, Option, Some, None, if◌then◌else◌, arith}
use Rattle.std.specs.Prelude.{All, Contains, IfSome, map, count_by}
use Rattle.std.specs.List.{slice_get, flat_map}
use Rattle.std.specs.Option.{option_map_or}
use Rattle.std.proofs.lemmas.Bool.{cases_eq, eqb-true}
use Rattle.std.proofs.lemmas.List.{length-set, get_or_default, drop_all, append-nil, get_or-set_same, get_or-set_other}
use Rattle.std.proofs.lemmas.List.Elements.{All-head, All-tail, All-nil, All-cons, All-weaker}
use Rattle.std.proofs.lemmas.List.Sums.{sum_by-cons}
use Rattle.std.proofs.lemmas.Option.{get_or_from_slice_get, slice_get-get_or, slice_get_within}
use Rattle.pz_match_lists.specs.Increasing.{Increasing, list_at}
use Rattle.pz_offer.specs.declared.ends.SendOffer.{SendOffer}
use Rattle.pz_offer.specs.declared.ends.ReceiveOffer.{ReceiveOffer}
use Rattle.pz_match.specs.declared.offers.Sender.{Sender}
use Rattle.pz_match.specs.declared.offers.Receiver.{Receiver}
use Rattle.pz_match.specs.declared.rows.Row.{Row}
use Rattle.pz_match.specs.declared.kept.Receiving.{Receiving}
use Rattle.pz_match.specs.declared.kept.Offers.{Offers}
use Rattle.pz_match.specs.Offers.{receiver, receivers}
use Rattle.pz_match.specs.Judging.{Verdicts}
use Rattle.pz_match.specs.devices.Kept.{Kept, kept, asks_in}
use Rattle.pz_match.specs.devices.Tallies.{GroupsView, HasKey}
use Rattle.pz_match.specs.devices.Asking.{asked, asked_in}
use Rattle.pz_match.specs.devices.Holding.{ReceiveKeyed}
use Rattle.pz_match.specs.devices.Seeking.{past, OnlyAt}
use Rattle.pz_match.specs.devices.Updating.{Replaced, renewed_in, other_offers, silent}
use Rattle.pz_match.specs.devices.Users.{HaveAskers, KeepsUsers, AskersNoted, asking_wire}
use Rattle.pz_match.proofs.Asked.{rows_next, rows_skip}
use Rattle.pz_match.proofs.Couples.{item_kept}
use Rattle.pz_match.proofs.Fitting.{one_key}
use Rattle.pz_match.proofs.Reaching.{between, follows_past, past_next}
use Rattle.pz_match.proofs.Renewals.{none_asked}
use Rattle.pz_match.proofs.Replacing.{new_here, new_there, new_length}
use Rattle.pz_match.proofs.Updated.{all_seen}

order : (a b : ℕ) → (a < b) ⊎ (b ≤ a)
order a b = grind arith

-- What is behind a process that says nothing

module _ (f : Kept → List Row) where
  abbrev from : List Offers → ℕ → List Row
  from xs j = flat_map f (map kept (drop j xs))

  quiet_next : (xs : List Offers) (j : ℕ) → ((e : Offers) → j < length xs → e ≡ get_or xs j e → f (kept e) ≡ []) → flat_map f (map kept (drop j xs)) ≡ flat_map f (map kept (drop (j + 1) xs))
  quiet_next xs j none = by (order j (length xs)) xs none
    where
      by : (j < length xs) ⊎ (length xs ≤ j) → (ys : List Offers) → ((e : Offers) → j < length ys → e ≡ get_or ys j e → f (kept e) ≡ []) → flat_map f (map kept (drop j ys)) ≡ flat_map f (map kept (drop (j + 1) ys))
      by o [] none = ap (λ (ys : List Offers). flat_map f (map kept ys)) (drop_all j [] (omega arith) ∙ sym (drop_all (j + 1) [] (omega arith)))
      by o (x ∷ ys) none = at (order j (length (x ∷ ys)))
        where
          at : (j < length (x ∷ ys)) ⊎ (length (x ∷ ys) ≤ j) → flat_map f (map kept (drop j (x ∷ ys))) ≡ flat_map f (map kept (drop (j + 1) (x ∷ ys)))
          at (inl lt) =
              let e : Offers = get_or (x ∷ ys) j x in
              let is : e ≡ get_or (x ∷ ys) j e = get_or_default (x ∷ ys) j x e lt in
              sym (rows_skip f (x ∷ ys) j e lt is [] (flat_map f (map kept (drop j (x ∷ ys)))) (none e lt is) refl)
          at (inr over) =
              ap (λ (zs : List Offers). flat_map f (map kept zs)) (drop_all j (x ∷ ys) over ∙ sym (drop_all (j + 1) (x ∷ ys) (omega (arith, over))))

  quiet_between : (xs : List Offers) (i n : ℕ) → ((k : ℕ) (e : Offers) → i ≤ k → k < i + n → k < length xs → e ≡ get_or xs k e → f (kept e) ≡ []) → flat_map f (map kept (drop i xs)) ≡ flat_map f (map kept (drop (i + n) xs))
  quiet_between xs i zero none = let same : i ≡ i + zero = omega arith in ap (λ k. flat_map f (map kept (drop k xs))) same
  quiet_between xs i (suc n) none =
      let next : (i + n) + 1 ≡ i + suc n = omega arith in
      quiet_between xs i n (λ k e from to lt is. none k e from (omega (arith, to)) lt is)
      ∙ (quiet_next xs (i + n) (λ e lt is. none (i + n) e (omega arith) (omega arith) lt is) ∙ ap (λ k. flat_map f (map kept (drop k xs))) next)

  module _ (us : List ℕ) (up : Increasing us) (xs : List Offers) (only : (k : ℕ) (e : Offers) → k < length xs → e ≡ get_or xs k e → (Contains us k → ⊥) → f (kept e) ≡ []) where
    -- the next of them is reached
    to_user : (u : ℕ) → u < length us → flat_map f (map kept (drop (past us u) xs)) ≡ flat_map f (map kept (drop (get_or us u 0) xs))
    to_user u lt =
        let le : past us u ≤ get_or us u 0 = follows_past us up {X = Kept} [] (λ e. 0) (λ k e is none. refl) u lt in
        let end : past us u + (get_or us u 0 - past us u) ≡ get_or us u 0 = omega (arith, le) in
        quiet_between xs (past us u) (get_or us u 0 - past us u) (λ k e from to below is. only k e below is (between us up u k (omega (arith, lt)) from (λ inside. omega (arith, to, end))))
        ∙ ap (λ k. flat_map f (map kept (drop k xs))) end

    -- no such process
    pub none_there : (u : ℕ) (rows whole : List Row) → u < length us → length xs ≤ get_or us u 0 → rows ++ flat_map f (map kept (drop (past us u) xs)) ≡ whole → rows ++ flat_map f (map kept (drop (past us (u + 1)) xs)) ≡ whole
    none_there u rows whole lt over before =
        let next = past_next us up u in
        ap (λ (zs : List Row). rows ++ zs)
        (sym (to_user u lt ∙ ap (λ (zs : List Offers). flat_map f (map kept zs)) (drop_all (get_or us u 0) xs over ∙ sym (drop_all (past us (u + 1)) xs (omega (arith, over, next))))))
        ∙ before

    -- one that is there
    pub user_asked : (u : ℕ) (e : Offers) (rows now whole : List Row) → u < length us → get_or us u 0 < length xs → e ≡ get_or xs (get_or us u 0) e → now ≡ rows ++ f (kept e)
        → rows ++ flat_map f (map kept (drop (past us u) xs)) ≡ whole → now ++ flat_map f (map kept (drop (past us (u + 1)) xs)) ≡ whole
    user_asked u e rows now whole lt inside is more before =
        ap (λ k. now ++ flat_map f (map kept (drop k xs))) (past_next us up u)
        ∙ rows_next f xs (get_or us u 0) e inside is rows now whole more (ap (λ (zs : List Row). rows ++ zs) (sym (to_user u lt)) ∙ before)

    pub user_quiet : (u : ℕ) (e : Offers) (rows whole : List Row) → u < length us → get_or us u 0 < length xs → e ≡ get_or xs (get_or us u 0) e → f (kept e) ≡ []
        → rows ++ flat_map f (map kept (drop (past us u) xs)) ≡ whole → rows ++ flat_map f (map kept (drop (past us (u + 1)) xs)) ≡ whole
    user_quiet u e rows whole lt inside is none before = user_asked u e rows rows whole lt inside is (sym (ap (λ (zs : List Row). rows ++ zs) none ∙ append-nil rows)) before

    -- behind the last
    pub all_asked_for : (u : ℕ) (rows whole : List Row) → u ≤ length us → length us ≤ u → rows ++ flat_map f (map kept (drop (past us u) xs)) ≡ whole → rows ≡ whole
    all_asked_for u rows whole within over before =
        let end : u ≡ length us = omega (arith, within, over) in
        let nil : flat_map f (map kept (drop (past us u) xs)) ≡ []
        = quiet_between xs (past us u) (length xs) (λ k e from to below is. only k e below is (between us up u k (omega (arith, end)) from (λ inside. absurd (omega (arith, inside, end)))))
        ∙ ap (λ (zs : List Offers). flat_map f (map kept zs)) (drop_all (past us u + length xs) xs (omega arith)) in
        sym (append-nil rows) ∙ (ap (λ (zs : List Row). rows ++ zs) (sym nil) ∙ before)

-- Who asks in no group says nothing

pub only_these : (says : Verdicts) (s : Sender) (g : ℕ) (us : List ℕ) (xs : List Offers) → OnlyAt us (map kept xs) (λ e. count_by (asks_in g) e.receives)
    → (k : ℕ) (e : Offers) → k < length xs → e ≡ get_or xs k e → (Contains us k → ⊥) → asked_in says s g (kept e) ≡ []
only_these says s g us xs only k e lt is none = by (nat_eq e.process s.end.process)
  where
    by : (b : Bool) → (if b then [] else asked says s g e.process (kept e).receives) ≡ []
    by true = refl
    by false = none_asked says s g e.process (kept e).receives (only k (kept e) (item_kept xs k e lt is).2 none)

-- Those of a wire are those of a group on it

pub only_askers : (groups : GroupsView) (all : List Kept) (us : List (List ℕ)) (w g : ℕ) (m : List ℕ) (n : ℕ) → HasKey groups.groups g w m n → All (λ (e : Kept). All (ReceiveKeyed groups) e.receives) all → HaveAskers us all
    → OnlyAt (list_at us w) all (λ e. count_by (asks_in g) e.receives)
only_askers groups all us w g m n key keyed have k e is none =
    nil e.receives (subst (λ (x : Kept). All (ReceiveKeyed groups) x.receives) (get_or_from_slice_get all k e e is) (keyed k e (slice_get_within all k e is))) (have w k e is)
  where
    nil : (rs : List Receiving) → All (ReceiveKeyed groups) rs → All (λ (r : Receiving). r.receiver.conditional ≡ true → r.receiver.wire ≡ w → Contains (list_at us w) k) rs → count_by (asks_in g) rs ≡ 0
    nil [] ok among = refl
    nil (r ∷ rs) ok among =
        let here : (if asks_in g r then 1 else 0) ≡ 0 = by (nat_eq r.group g) refl r.receiver.conditional refl in
        omega (
          arith,
          here,
          sum_by-cons (λ (x : Receiving). if asks_in g x then 1 else 0) r rs,
          nil rs (All-tail (ReceiveKeyed groups) r rs ok) (All-tail (λ (r : Receiving). r.receiver.conditional ≡ true → r.receiver.wire ≡ w → Contains (list_at us w) k) r rs among),
        )
      where
        wire : r.group ≡ g → r.receiver.wire ≡ w
        wire same =
            (one_key groups.groups g r.receiver.wire w r.receiver.message m r.receiver.count n
            (subst (λ j. HasKey groups.groups j r.receiver.wire r.receiver.message r.receiver.count) same (All-head (ReceiveKeyed groups) r rs ok)) key).0

        by : (b : Bool) → nat_eq r.group g ≡ b → (c : Bool) → r.receiver.conditional ≡ c → ◌≡◌ {A = ℕ} (if b && c then 1 else 0) 0
        by true same true asks =
            absurd (none (All-head (λ (r : Receiving). r.receiver.conditional ≡ true → r.receiver.wire ≡ w → Contains (list_at us w) k) r rs among asks (wire (eqb-true r.group g same))))
        by true same false asks = refl
        by false same c asks = refl

-- Who asks, before an update and after it

pub keeps_askers : (before after : List (List ℕ)) (all : List Kept) → KeepsUsers before after → HaveAskers before all → HaveAskers after all
keeps_askers before after all keeps have w k e is =
    All-weaker (λ (r : Receiving). r.receiver.conditional ≡ true → r.receiver.wire ≡ w → Contains (list_at before w) k) (λ (r : Receiving). r.receiver.conditional ≡ true → r.receiver.wire ≡ w → Contains (list_at after w) k)
    (λ r ok asks on. keeps w k (ok asks on)) e.receives (have w k e is)

pub rest_askers : (us : List (List ℕ)) (all : List Kept) (p : ℕ) → p < length all → HaveAskers us all → HaveAskers us (set all p (silent p))
rest_askers us all p below have w k e is = by (cases_eq k p)
  where
    now : e ≡ get_or (set all p (silent p)) k e
    now = sym (get_or_from_slice_get (set all p (silent p)) k e e is)

    in_all : k < length all
    in_all = let lt = slice_get_within (set all p (silent p)) k e is in omega (arith, lt, length-set all p (silent p))

    by : (k ≡ p) ⊎ (k ≢ p) → All (λ (r : Receiving). r.receiver.conditional ≡ true → r.receiver.wire ≡ w → Contains (list_at us w) k) e.receives
    by (inl same) =
        let quiet : e ≡ silent p = now ∙ (ap (λ j. get_or (set all p (silent p)) j e) same ∙ get_or-set_same all p (silent p) e below) in
        subst (λ (x : Kept). All (λ (r : Receiving). r.receiver.conditional ≡ true → r.receiver.wire ≡ w → Contains (list_at us w) k) x.receives) (sym quiet)
        (All-nil (λ (r : Receiving). r.receiver.conditional ≡ true → r.receiver.wire ≡ w → Contains (list_at us w) k))
    by (inr other) =
        let was : e ≡ get_or all k e = now ∙ get_or-set_other all p k (silent p) e other in
        subst (λ (x : Kept). All (λ (r : Receiving). r.receiver.conditional ≡ true → r.receiver.wire ≡ w → Contains (list_at us w) k) x.receives) (sym was)
        (have w k (get_or all k e) (slice_get-get_or all k e in_all))

receives_ask : (users : List (List ℕ)) (p w : ℕ) (rs : List ReceiveOffer) → AskersNoted users p rs → All (λ (x : Receiver). x.conditional ≡ true → x.wire ≡ w → Contains (list_at users w) p) (receivers p rs)
receives_ask users p w [] ok = All-nil (λ (x : Receiver). x.conditional ≡ true → x.wire ≡ w → Contains (list_at users w) p)
receives_ask users p w (r ∷ rs) ok =
    by r.wire (λ yes. subst (λ (o : Option ℕ). IfSome o (λ w. Contains (list_at users w) p)) (ap (λ b. if b then r.wire else None) yes) (All-head (λ (r : ReceiveOffer). IfSome (asking_wire r) (λ w. Contains (list_at users w) p)) r rs ok))
    (receives_ask users p w rs (All-tail (λ (r : ReceiveOffer). IfSome (asking_wire r) (λ w. Contains (list_at users w) p)) r rs ok))
  where
    by : (o : Option ℕ) → (r.conditional ≡ true → IfSome o (λ w. Contains (list_at users w) p)) → All (λ (x : Receiver). x.conditional ≡ true → x.wire ≡ w → Contains (list_at users w) p) (receivers p rs)
        → All (λ (x : Receiver). x.conditional ≡ true → x.wire ≡ w → Contains (list_at users w) p) (option_map_or (λ wire. receiver p r wire ∷ []) o [] ++ receivers p rs)
    by None here later = later
    by (Some v) here later =
        All-cons (λ (x : Receiver). x.conditional ≡ true → x.wire ≡ w → Contains (list_at users w) p) (receiver p r v) (receivers p rs) (λ yes same. subst (λ n. Contains (list_at users n) p) same (here yes)) later

module _ (says : Verdicts) (p : ℕ) (sends : List SendOffer) (receives : List ReceiveOffer) (g0 g1 : GroupsView) (all new : List Kept) (r : Replaced says p sends receives g0 all g1 new) (below : p < length all)
    (before after : List (List ℕ)) (have : HaveAskers before all) (keeps : KeepsUsers before after) (noted : AskersNoted after p receives) where
  pub askers_after : HaveAskers after new
  askers_after w k e is = by (cases_eq k p)
    where
      there : e ≡ get_or (other_offers says p r.sent r.heard all) k e
      there = sym (get_or_from_slice_get (other_offers says p r.sent r.heard all) k e e (ap (λ (xs : List Kept). slice_get xs k) (sym r.is) ∙ is))

      inside : k < length all
      inside = let lt = slice_get_within new k e is in let long = ap length r.is in omega (arith, lt, long, new_length says p r.sent r.heard all below)

      by : (k ≡ p) ⊎ (k ≢ p) → All (λ (q : Receiving). q.receiver.conditional ≡ true → q.receiver.wire ≡ w → Contains (list_at after w) k) e.receives
      by (inl same) =
          let now : e ≡ record { process = p; sends = r.sent; receives = r.heard } = there ∙ (ap (λ n. get_or (other_offers says p r.sent r.heard all) n e) same ∙ new_here says p r.sent r.heard all below e) in
          let ok = all_seen (λ (x : Receiver). x.conditional ≡ true → x.wire ≡ w → Contains (list_at after w) p) (λ (q : Receiving). q.receiver) r.heard
          (subst (All (λ (x : Receiver). x.conditional ≡ true → x.wire ≡ w → Contains (list_at after w) p)) (sym r.same_receives) (receives_ask after p w receives noted)) in
          subst (λ n. All (λ (q : Receiving). q.receiver.conditional ≡ true → q.receiver.wire ≡ w → Contains (list_at after w) n) e.receives) (sym same)
          (subst (λ (x : Kept). All (λ (q : Receiving). q.receiver.conditional ≡ true → q.receiver.wire ≡ w → Contains (list_at after w) p) x.receives) (sym now) ok)
      by (inr other) =
          let now : e ≡ renewed_in says p r.heard (get_or all k e) = there ∙ new_there says p r.sent r.heard all below k e other inside in
          subst (λ (x : Kept). All (λ (q : Receiving). q.receiver.conditional ≡ true → q.receiver.wire ≡ w → Contains (list_at after w) k) x.receives) (sym now)
          (keeps_askers before after all keeps have w k (get_or all k e) (slice_get-get_or all k e inside))

-- Nobody has asked anything yet
pub none_asks : (ns : List ℕ) → HaveAskers [] (map silent ns)
none_asks ns w k e is = go ns k is
  where
    go : (ms : List ℕ) (i : ℕ) → slice_get (map silent ms) i ≡ Some e → All (λ (q : Receiving). q.receiver.conditional ≡ true → q.receiver.wire ≡ w → Contains (list_at [] w) k) e.receives
    go [] i is = cc
    go (m ∷ ms) zero is =
        let one : silent m ≡ e = cc in
        subst (λ (x : Kept). All (λ (q : Receiving). q.receiver.conditional ≡ true → q.receiver.wire ≡ w → Contains (list_at [] w) k) x.receives) one
        (All-nil (λ (q : Receiving). q.receiver.conditional ≡ true → q.receiver.wire ≡ w → Contains (list_at [] w) k))
    go (m ∷ ms) (suc i) is = go ms i is
