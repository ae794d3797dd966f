-- Going through the processes that use a wire alone.
use Rattle.std.proofs.Common.{◌≡◌, ◌≤◌, ◌<◌, ◌+◌, ◌⊎◌, inl, inr, refl, sym, ◌∙◌, ap, ℕ, zero, suc, Bool, true, false, nat_eq, List, [], ◌∷◌, length, take, get_or, Option, Some, if◌then◌else◌, arith}
use Rattle.std.specs.Prelude.{All, Contains, sum_by}
use Rattle.std.specs.List.{slice_get}
use Rattle.std.proofs.lemmas.Bool.{ne_eqb, eqb-true}
use Rattle.std.proofs.lemmas.List.{get_or_default, take_all}
use Rattle.std.proofs.lemmas.List.Elements.{All-head, All-tail}
use Rattle.std.proofs.lemmas.List.Sums.{sum_by-cons, sum_by_more}
use Rattle.std.proofs.lemmas.Option.{slice_get-get_or}
use Rattle.pz_match_lists.specs.Increasing.{Increasing}
use Rattle.pz_match.specs.declared.kept.Sending.{Sending}
use Rattle.pz_match.specs.declared.kept.Receiving.{Receiving}
use Rattle.pz_match.specs.declared.rows.Row.{Row}
use Rattle.pz_match.specs.declared.groups.Sort.{Sort}
use Rattle.pz_match.specs.Pairs.{Judged}
use Rattle.pz_match.specs.devices.Kept.{Kept, rows_at, answers, heard}
use Rattle.pz_match.specs.devices.Tallies.{GroupsView}
use Rattle.pz_match.specs.devices.Holding.{Holds, SendKeyed, ReceiveKeyed}
use Rattle.pz_match.specs.devices.Seeking.{sought, number_of, number_on, from_process, past, OnlyAmong}
use Rattle.pz_match.specs.devices.Users.{AreUsersBy}
use Rattle.pz_match.proofs.Couples.{seat_passes}
use Rattle.pz_match.proofs.Sought.{sound_at}

-- what only some places have, counted up to one of them
module _ {X : Type 0} (P : ℕ → Type 0) (f : X → ℕ) where
  abbrev pub Only : List X → Type 0
  Only xs = (k : ℕ) (e : X) → slice_get xs k ≡ Some e → (P k → ⊥) → f e ≡ 0

  module _ (all : List X) (only : Only all) where
    pub gap_by : (i j : ℕ) → i ≤ j → ((k : ℕ) → i ≤ k → k < j → P k → ⊥) → sum_by f (take j all) ≡ sum_by f (take i all)
    gap_by i zero le none = let same : i ≡ zero = omega (arith, le) in ap (λ k. sum_by f (take k all)) (sym same)
    gap_by i (suc j) le none = by (split i j le) (λ below. gap_by i j below (λ k from to. none k from (omega (arith, to))))
      where
        split : (i j : ℕ) → i ≤ suc j → (i ≤ j) ⊎ (i ≡ suc j)
        split i j le = grind arith

        one : suc j ≡ j + 1
        one = omega arith

        next : (below : (j < length all) ⊎ (length all ≤ j)) → i ≤ j → sum_by f (take (suc j) all) ≡ sum_by f (take j all)
        next (inr past_all) below = ap (sum_by f) (take_all (suc j) all (omega (arith, past_all)) ∙ sym (take_all j all past_all))
        next (inl lt) below = at all lt (none j below (omega arith)) only
          where
            at : (xs : List X) → j < length xs → (P j → ⊥) → Only xs → sum_by f (take (suc j) xs) ≡ sum_by f (take j xs)
            at [] lt nobody ok = absurd (omega (arith, lt))
            at (x ∷ xs) lt nobody ok =
                let more : sum_by f (take (j + 1) (x ∷ xs)) ≡ sum_by f (take j (x ∷ xs)) + f (get_or (x ∷ xs) j x) = sum_by_more f (x ∷ xs) j x lt in
                let nil : f (get_or (x ∷ xs) j x) ≡ 0 = ok j (get_or (x ∷ xs) j x) (slice_get-get_or (x ∷ xs) j x lt) nobody in
                ap (λ k. sum_by f (take k (x ∷ xs))) one ∙ omega (arith, more, nil)

        order : (a b : ℕ) → (a < b) ⊎ (b ≤ a)
        order a b = grind arith

        by : (i ≤ j) ⊎ (i ≡ suc j) → (i ≤ j → sum_by f (take j all) ≡ sum_by f (take i all)) → sum_by f (take (suc j) all) ≡ sum_by f (take i all)
        by (inl below) before = next (order j (length all)) below ∙ before below
        by (inr same) before = ap (λ k. sum_by f (take k all)) (sym same)

module _ (us : List ℕ) (up : Increasing us) where
  -- what lies between one of them and the next is none of them
  pub between : (u k : ℕ) → u ≤ length us → past us u ≤ k → (u < length us → k < get_or us u 0) → Contains us k → ⊥
  between u k within after before (n, lt, is) = by u within after before (split n u)
    where
      split : (a b : ℕ) → (a < b) ⊎ (b ≤ a)
      split a b = grind arith

      here : get_or us n 0 ≡ k
      here = get_or_default us n 0 k lt ∙ is

      up_to : (i j : ℕ) → i ≤ j → j < length us → get_or us i 0 ≤ get_or us j 0
      up_to i j le below = at (same i j le)
        where
          same : (i j : ℕ) → i ≤ j → (i < j) ⊎ (i ≡ j)
          same i j le = grind arith

          at : (i < j) ⊎ (i ≡ j) → get_or us i 0 ≤ get_or us j 0
          at (inl less) = let h = up i j 0 less below in omega (arith, h)
          at (inr e) = let h : get_or us i 0 ≡ get_or us j 0 = ap (λ m. get_or us m 0) e in omega (arith, h)

      by : (u : ℕ) → u ≤ length us → past us u ≤ k → (u < length us → k < get_or us u 0) → (n < u) ⊎ (u ≤ n) → ⊥
      by u within after before (inr le) = let h = up_to u n le lt in let g = before (omega (arith, le, lt)) in omega (arith, h, g, here)
      by zero within after before (inl less) = omega (arith, less)
      by (suc v) within after before (inl less) = let h = up_to n v (omega (arith, less)) (omega (arith, within)) in omega (arith, h, after, here)

  pub past_next : (u : ℕ) → past us (u + 1) ≡ get_or us u 0 + 1
  past_next u = let one : u + 1 ≡ suc u = omega arith in ap (past us) one

  -- what only these have, counted up to one of them
  module _ {X : Type 0} (all : List X) (f : X → ℕ) (only : OnlyAmong us all f) where
    pub gap : (i j : ℕ) → i ≤ j → ((k : ℕ) → i ≤ k → k < j → Contains us k → ⊥) → sum_by f (take j all) ≡ sum_by f (take i all)
    gap = gap_by (Contains us) f all only

    pub at_user : (u k rest number : ℕ) → u < length us → k ≡ get_or us u 0 → past us u ≤ k → sum_by f (take (past us u) all) + rest ≡ number → sum_by f (take k all) + rest ≡ number
    at_user u k rest number lt is after adds =
        let same = gap (past us u) k after (λ n from to. between u n (omega (arith, lt)) from (λ inside. omega (arith, to, is))) in
        omega (arith, adds, same)

    -- they follow one another
    pub follows_past : (u : ℕ) → u < length us → past us u ≤ get_or us u 0
    follows_past zero lt = omega arith
    follows_past (suc v) lt = let h = up v (suc v) 0 (omega arith) lt in omega (arith, h)

    -- no such process
    pub no_user : (u k rest number : ℕ) → u < length us → k ≡ get_or us u 0 → length all ≤ k → sum_by f (take (past us u) all) + rest ≡ number → sum_by f (take (past us (u + 1)) all) + rest ≡ number
    no_user u k rest number lt is over adds =
        let to = at_user u k rest number lt is (omega (arith, follows_past u lt, is)) adds in
        let next : past us (u + 1) ≡ k + 1 = past_next u ∙ ap (λ n. n + 1) (sym is) in
        let same : sum_by f (take (past us (u + 1)) all) ≡ sum_by f (take k all)
        = ap (λ n. sum_by f (take n all)) next ∙ ap (sum_by f) (take_all (k + 1) all (omega (arith, over)) ∙ sym (take_all k all over)) in
        omega (arith, to, same)

    -- one that is there
    pub user_passes : (u rest left number : ℕ) (x : X) → u < length us → get_or us u 0 < length all → x ≡ get_or all (get_or us u 0) x → f x + left ≡ rest → sum_by f (take (past us u) all) + rest ≡ number → sum_by f (take (past us (u + 1)) all) + left ≡ number
    user_passes u rest left number x lt inside is leaves adds =
        ap (λ n. sum_by f (take n all) + left) (past_next u)
        ∙ seat_passes f all (get_or us u 0) rest left number x inside is leaves (at_user u (get_or us u 0) rest number lt refl (follows_past u lt) adds)

    -- behind the last
    pub all_passed : (u rest number : ℕ) → u ≤ length us → length us ≤ u → sum_by f (take (past us u) all) + rest ≡ number → sum_by f all + rest ≡ number
    all_passed u rest number within over adds =
        let end : u ≡ length us = omega (arith, within, over) in
        let same = gap (past us u) (past us u + length all) (omega arith) (λ n from to. between u n (omega (arith, end)) from (λ inside. absurd (omega (arith, inside, end)))) in
        let whole : sum_by f (take (past us u + length all) all) ≡ sum_by f all = ap (sum_by f) (take_all (past us u + length all) all (omega arith)) in
        omega (arith, adds, same, whole)

    -- up to a number that some of them are below
    pub from_below : (u place rest number : ℕ) → u ≤ length us → ((k : ℕ) → k < u → get_or us k 0 < place) → ((k : ℕ) → u ≤ k → k < length us → place ≤ get_or us k 0)
        → sum_by f (take place all) + rest ≡ number → sum_by f (take (past us u) all) + rest ≡ number
    from_below u place rest number within before behind adds =
        let same = gap (past us u) place (at u before) (λ k from to. between u k within from (λ inside. let h = behind u (omega arith) inside in omega (arith, h, to))) in
        omega (arith, adds, same)
      where
        at : (v : ℕ) → ((k : ℕ) → k < v → get_or us k 0 < place) → past us v ≤ place
        at zero h = omega arith
        at (suc v) h = let last = h v (omega arith) in omega (arith, last)

    -- one that is there, counted up
    pub user_adds : (u sum : ℕ) (x : X) → u < length us → get_or us u 0 < length all → x ≡ get_or all (get_or us u 0) x → sum_by f (take (past us u) all) ≡ sum → sum_by f (take (past us (u + 1)) all) ≡ sum + f x
    user_adds u sum x lt inside is adds =
        let to = at_user u (get_or us u 0) 0 sum lt refl (follows_past u lt) (omega (arith, adds)) in
        let more = sum_by_more f all (get_or us u 0) x inside in
        let here : f (get_or all (get_or us u 0) x) ≡ f x = ap f (sym is) in
        ap (λ n. sum_by f (take n all)) (past_next u) ∙ omega (arith, to, more, here)

-- What the users of a wire have

module _ (groups : GroupsView) (all : List Kept) (holds : Holds groups all) (number : ℕ → ℕ) (ss hs : List ℕ) (w : ℕ) (users : AreUsersBy number ss hs all w) (sort : Sort) where
  pub only_senders : (k : ℕ) (e : Kept) → slice_get all k ≡ Some e → (Contains ss (number k) → ⊥) → from_process sort groups.groups w e ≡ 0
  only_senders k e is none = nil e.sends (users.sending k e is)
    where
      off : (s : Sending) → (s.sender.wire ≡ w → Contains ss (number k)) → number_on sort groups.groups w e.receives s ≡ 0
      off s among = ap (λ b. if b then number_of sort groups.groups e.receives s else 0) (ne_eqb s.sender.wire w (λ same. none (among same)))

      nil : (xs : List Sending) → All (λ (s : Sending). s.sender.wire ≡ w → Contains ss (number k)) xs → sum_by (number_on sort groups.groups w e.receives) xs ≡ 0
      nil [] ok = refl
      nil (s ∷ xs) ok =
          let here = off s (All-head (λ (s : Sending). s.sender.wire ≡ w → Contains ss (number k)) s xs ok) in
          omega (arith, here, sum_by-cons (number_on sort groups.groups w e.receives) s xs, nil xs (All-tail (λ (s : Sending). s.sender.wire ≡ w → Contains ss (number k)) s xs ok))

  pub only_receivers : (s : Sending) → SendKeyed groups s → s.sender.wire ≡ w → (k : ℕ) (e : Kept) → slice_get all k ≡ Some e → (Contains hs (number k) → ⊥) → length (sought sort (heard s e)) ≡ 0
  only_receivers s key on k e is none = by (nat_eq e.process s.sender.end.process)
    where
      apart : (r : Receiving) → ReceiveKeyed groups r → (r.receiver.wire ≡ w → Contains hs (number k)) → nat_eq r.group s.group ≡ false
      apart r keyed among = ne_eqb r.group s.group (λ same. none (among (wire_same r keyed same)))
        where
          wire_same : (r : Receiving) → ReceiveKeyed groups r → r.group ≡ s.group → r.receiver.wire ≡ w
          wire_same r keyed same =
              let both : Some keyed.group ≡ Some key.group = sym keyed.there ∙ (ap (slice_get groups.groups) same ∙ key.there) in
              let one : keyed.group ≡ key.group = cc in
              sym keyed.wire_is ∙ (ap (λ z. z.wire) one ∙ (key.wire_is ∙ on))

      silent : (rows : List Row) (rs : List Receiving) → All (ReceiveKeyed groups) rs → All (λ (r : Receiving). r.receiver.wire ≡ w → Contains hs (number k)) rs → ◌≡◌ {A = List Judged} (answers s.sender s.group rows rs) []
      silent rows [] ok among = refl
      silent rows (r ∷ rs) ok among =
          let other = apart r (All-head (ReceiveKeyed groups) r rs ok) (All-head (λ (r : Receiving). r.receiver.wire ≡ w → Contains hs (number k)) r rs among) in
          pass (nat_eq r.group s.group) other rows ∙ silent rows rs (All-tail (ReceiveKeyed groups) r rs ok) (All-tail (λ (r : Receiving). r.receiver.wire ≡ w → Contains hs (number k)) r rs among)
        where
          pass : (b : Bool) → nat_eq r.group s.group ≡ false → (rows : List Row) → answers s.sender s.group rows (r ∷ rs) ≡ answers s.sender s.group rows rs
          pass b other rows = rw other refl

      by : (b : Bool) → length (sought sort (if b then [] else answers s.sender s.group (rows_at e.process s.rows) e.receives)) ≡ 0
      by true = refl
      by false = ap (λ (ps : List Judged). length (sought sort ps)) (silent (rows_at e.process s.rows) e.receives (sound_at groups all holds k e is).receives_keyed (users.receiving k e is))

  -- a send at which a number is left is on the wire
  pub on_the_wire : (rs : List Receiving) (s : Sending) (n : ℕ) → n < number_on sort groups.groups w rs s → s.sender.wire ≡ w
  on_the_wire rs s n lt = by (nat_eq s.sender.wire w) refl lt
    where
      by : (b : Bool) → nat_eq s.sender.wire w ≡ b → n < (if b then number_of sort groups.groups rs s else 0) → s.sender.wire ≡ w
      by true is lt = eqb-true s.sender.wire w is
      by false is lt = absurd (omega (arith, lt))

pub some_same : {X : Type 0} (x y : X) → ◌≡◌ {A = Option X} (Some x) (Some y) → x ≡ y
some_same x y is = cc
