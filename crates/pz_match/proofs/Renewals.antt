-- A send, and a process, that is asked for anew.
use Rattle.std.proofs.Common.{◌≡◌, ◌≤◌, ◌<◌, ◌+◌, refl, sym, ◌∙◌, ap, subst, ℕ, zero, suc, Bool, true, false, not, ◌-◌, nat_eq, List, [], ◌∷◌, ◌++◌, length, get_or, set, take, drop, if◌then◌else◌, arith}
use Rattle.std.specs.Prelude.{All, map, count_by, sum_by}
use Rattle.std.proofs.lemmas.List.{length-map, length-take-le, map_more, drop_more, set-append_right, append_assoc, get_or-append_right, get_or-drop, drop_all, take_all, append-nil}
use Rattle.std.proofs.lemmas.List.Elements.{All-head, All-tail}
use Rattle.std.proofs.lemmas.List.Sums.{sum_by-cons}
use Rattle.pz_match.specs.declared.rows.Row.{Row}
use Rattle.pz_match.specs.declared.groups.Tally.{Tally}
use Rattle.pz_match.specs.declared.offers.Sender.{Sender}
use Rattle.pz_match.specs.declared.kept.Sending.{Sending}
use Rattle.pz_match.specs.declared.kept.Receiving.{Receiving}
use Rattle.pz_match.specs.Judging.{Verdicts}
use Rattle.pz_match.specs.declared.kept.Offers.{Offers}
use Rattle.pz_match.specs.devices.Kept.{Kept, kept, free_in, asks_in, rows_at}
use Rattle.pz_match.specs.devices.Tallies.{GroupsView, Moves, Alike, tally_at, plus, pick, only_in, yeses, troubled, send_part, sends_part}
use Rattle.pz_match.specs.devices.Asking.{asked, row_of, renewed}
use Rattle.pz_match.specs.devices.Updating.{Untouched, renewed_in}
use Rattle.pz_match.proofs.Couples.{item_kept}
use Rattle.pz_match.proofs.Replacing.{forgotten}

abbrev pub rows_part : List Row → Tally
rows_part rows = record { sends = 0; free = 0; own = 0; asking = 0; yes = yeses rows; troubles = troubled rows }

-- the send has other rows
pub renew_moves : (a b : GroupsView) (s t : Sending) (less more : Tally) → t.group ≡ s.group → less ≡ rows_part s.rows → more ≡ rows_part t.rows → Moves a b (only_in s.group less) (only_in s.group more)
    → (rs : List Receiving) → Moves a b (send_part rs s) (send_part rs t)
renew_moves a b s t less more group is_less is_more m rs g =
    subst (λ n. Alike (plus (tally_at b.groups g) (send_part rs s g)) (plus (tally_at a.groups g) (only_in n (record { sends = 1; free = 0; own = count_by (free_in n) rs; asking = 0; yes = yeses t.rows; troubles = troubled t.rows }) g))) (sym group) (by (nat_eq s.group g) (m g))
  where
    by : (c : Bool) → Alike (plus (tally_at b.groups g) (pick c less)) (plus (tally_at a.groups g) (pick c more))
        → Alike (plus (tally_at b.groups g) (pick c (record { sends = 1; free = 0; own = count_by (free_in s.group) rs; asking = 0; yes = yeses s.rows; troubles = troubled s.rows })))
        (plus (tally_at a.groups g) (pick c (record { sends = 1; free = 0; own = count_by (free_in s.group) rs; asking = 0; yes = yeses t.rows; troubles = troubled t.rows })))
    by true h =
        record {
          sends = let e = ap (λ (x : Tally). x.sends) is_less in let f = ap (λ (x : Tally). x.sends) is_more in let k = h.sends in omega (arith, e, f, k);
          free = let e = ap (λ (x : Tally). x.free) is_less in let f = ap (λ (x : Tally). x.free) is_more in let k = h.free in omega (arith, e, f, k);
          own = let e = ap (λ (x : Tally). x.own) is_less in let f = ap (λ (x : Tally). x.own) is_more in let k = h.own in omega (arith, e, f, k);
          asking = let e = ap (λ (x : Tally). x.asking) is_less in let f = ap (λ (x : Tally). x.asking) is_more in let k = h.asking in omega (arith, e, f, k);
          yes = let e = ap (λ (x : Tally). x.yes) is_less in let f = ap (λ (x : Tally). x.yes) is_more in let k = h.yes in omega (arith, e, f, k);
          troubles = let e = ap (λ (x : Tally). x.troubles) is_less in let f = ap (λ (x : Tally). x.troubles) is_more in let k = h.troubles in omega (arith, e, f, k);
        }
    by false h = h

-- one after the other

pub part_set : (rs : List Receiving) (ss : List Sending) (i : ℕ) (s t : Sending) (g : ℕ) → i < length ss → s ≡ get_or ss i s → Alike (plus (sends_part rs (set ss i t) g) (send_part rs s g)) (plus (sends_part rs ss g) (send_part rs t g))
part_set rs [] i s t g lt is = absurd (omega (arith, lt))
part_set rs (x ∷ ss) zero s t g lt is =
    let same : send_part rs s g ≡ send_part rs x g = ap (λ (z : Sending). send_part rs z g) is in
    record {
      sends = let e = ap (λ (x : Tally). x.sends) same in omega (arith, e);
      free = let e = ap (λ (x : Tally). x.free) same in omega (arith, e);
      own = let e = ap (λ (x : Tally). x.own) same in omega (arith, e);
      asking = let e = ap (λ (x : Tally). x.asking) same in omega (arith, e);
      yes = let e = ap (λ (x : Tally). x.yes) same in omega (arith, e);
      troubles = let e = ap (λ (x : Tally). x.troubles) same in omega (arith, e);
    }
part_set rs (x ∷ ss) (suc i) s t g lt is =
    let h = part_set rs ss i s t g (omega (arith, lt)) is in
    record { sends = omega (arith, h.sends); free = omega (arith, h.free); own = omega (arith, h.own); asking = omega (arith, h.asking); yes = omega (arith, h.yes); troubles = omega (arith, h.troubles) }

pub moves_set : (a b c : GroupsView) (whole rest now one other : ℕ → Tally) → Moves a b whole rest → Moves b c one other → ((g : ℕ) → Alike (plus (now g) (one g)) (plus (rest g) (other g))) → Moves a c whole now
moves_set a b c whole rest now one other m n adds g =
    let h = m g in let k = n g in let s = adds g in
    record {
      sends = omega (arith, h.sends, k.sends, s.sends);
      free = omega (arith, h.free, k.free, s.free);
      own = omega (arith, h.own, k.own, s.own);
      asking = omega (arith, h.asking, k.asking, s.asking);
      yes = omega (arith, h.yes, k.yes, s.yes);
      troubles = omega (arith, h.troubles, k.troubles, s.troubles);
    }

-- a list of which the front is mapped
module _ {X : Type 0} (f : X → X) (xs : List X) (i : ℕ) (lt : i < length xs) where
  abbrev part_way : List X
  part_way = map f (take i xs) ++ drop i xs

  front_long : length (map f (take i xs)) ≡ i
  front_long = length-map (take i xs) f ∙ length-take-le i xs (omega (arith, lt))

  -- the next is as it was
  pub next_there : (d : X) → get_or (map f (take i xs) ++ drop i xs) i d ≡ get_or xs i d
  next_there d =
      get_or-append_right (map f (take i xs)) (drop i xs) i i d front_long (omega arith)
      ∙ (get_or-drop i xs (i - i) d ∙ (let e : i + (i - i) ≡ i = omega arith in ap (λ k. get_or xs k d) e))

  pub next_mapped : (x : X) → x ≡ get_or xs i x → set (map f (take i xs) ++ drop i xs) i (f x) ≡ map f (take (i + 1) xs) ++ drop (i + 1) xs
  next_mapped x is =
      set-append_right (map f (take i xs)) (drop i xs) i i (f x) front_long (omega arith)
      ∙ (ap (λ (ys : List X). map f (take i xs) ++ ys) ((let e : i - i ≡ 0 = omega arith in ap (λ k. set (drop i xs) k (f x)) e) ∙ ap (λ (ys : List X). set ys 0 (f x)) (drop_more xs i x lt))
      ∙ (sym (append_assoc (map f (take i xs)) (f x ∷ []) (drop (i + 1) xs))
      ∙ ap (λ (ys : List X). ys ++ drop (i + 1) xs) (sym (map_more f xs i x lt ∙ ap (λ (z : X). map f (take i xs) ++ f z ∷ []) (sym is)))))

pub all_mapped : {X : Type 0} (f : X → X) (xs : List X) (i : ℕ) → length xs ≤ i → map f (take i xs) ++ drop i xs ≡ map f xs
all_mapped f xs i le = (λ k. map f (take_all i xs le k) ++ drop_all i xs le k) ∙ append-nil (map f xs)

-- Where no receive asks, nothing is new

pub none_asked : (says : Verdicts) (s : Sender) (g p : ℕ) (rs : List Receiving) → count_by (asks_in g) rs ≡ 0 → asked says s g p rs ≡ []
none_asked says s g p [] none = refl
none_asked says s g p (r ∷ rs) none = by (asks_in g r) (sym (sum_by-cons (λ (x : Receiving). if asks_in g x then 1 else 0) r rs) ∙ none) (none_asked says s g p rs)
  where
    by : (b : Bool) → (if b then 1 else 0) + count_by (asks_in g) rs ≡ 0 → (count_by (asks_in g) rs ≡ 0 → asked says s g p rs ≡ []) → (if b then row_of says s p r ∷ [] else []) ++ asked says s g p rs ≡ []
    by true nil later = absurd (omega (arith, nil))
    by false nil later = later (omega (arith, nil))

no_rows : (p : ℕ) (rows : List Row) → length (rows_at p rows) ≡ 0 → forgotten p rows ≡ rows
no_rows p [] none = refl
no_rows p (x ∷ xs) none = by (nat_eq x.process p) none (no_rows p xs)
  where
    by : (b : Bool) → length (if b then x ∷ rows_at p xs else rows_at p xs) ≡ 0 → (length (rows_at p xs) ≡ 0 → forgotten p xs ≡ xs) → (if not b then x ∷ forgotten p xs else forgotten p xs) ≡ x ∷ xs
    by true none later = absurd (omega (arith, none))
    by false none later = ap (λ (ys : List Row). x ∷ ys) (later none)

not_renewed : (says : Verdicts) (p : ℕ) (hears : List Receiving) (s : Sending) → Untouched p hears s → renewed says p hears s ≡ s
not_renewed says p hears s un =
    let rows : forgotten p s.rows ++ asked says s.sender s.group p hears ≡ s.rows = (λ i. no_rows p s.rows un.rows i ++ none_asked says s.sender s.group p hears un.asks i) ∙ append-nil s.rows in
    λ i. record { sender = s.sender; group = s.group; rows = rows i }

pub map_same : {X : Type 0} (f : X → X) (xs : List X) → All (λ x. f x ≡ x) xs → map f xs ≡ xs
map_same f [] each = refl
map_same f (x ∷ xs) each = λ i. each 0 x (omega arith) i ∷ map_same f xs (λ k d lt. each (suc k) d (omega (arith, lt))) i

pub untouched_same : (says : Verdicts) (p : ℕ) (hears : List Receiving) (e : Kept) → All (Untouched p hears) e.sends → renewed_in says p hears e ≡ e
untouched_same says p hears e each =
    let same : map (renewed says p hears) e.sends ≡ e.sends = map_same (renewed says p hears) e.sends (λ n c under. not_renewed says p hears (get_or e.sends n c) (each n c under)) in
    λ i. record { process = e.process; sends = same i; receives = e.receives }

pub untouched_asks : (says : Verdicts) (p : ℕ) (hears : List Receiving) (ss : List Sending) → All (Untouched p hears) ss → sum_by (λ (s : Sending). length (asked says s.sender s.group p hears)) ss ≡ 0
untouched_asks says p hears [] each = refl
untouched_asks says p hears (s ∷ ss) each =
    let here : length (asked says s.sender s.group p hears) ≡ 0 = ap length (none_asked says s.sender s.group p hears (All-head (Untouched p hears) s ss each).asks) in
    omega (arith, sum_by-cons (λ (x : Sending). length (asked says x.sender x.group p hears)) s ss, here, untouched_asks says p hears ss (All-tail (Untouched p hears) s ss each))

-- a process that is read is as it was
pub item_first : (f : Kept → Kept) (now : List Offers) (first : List Kept) (i : ℕ) (e : Offers) → e ≡ get_or now i e → map kept now ≡ map f (take i first) ++ drop i first → i < length now → i < length first → (i < length first) × (kept e ≡ get_or first i (kept e))
item_first f now first i e is all here lt =
    let item = item_kept now i e here is in
    (lt, item.1 ∙ (ap (λ (xs : List Kept). get_or xs i (kept e)) all ∙ next_there f first i lt (kept e)))
