-- The pair that is found is that of the number.
use Rattle.std.proofs.Common.{◌≡◌, ◌≤◌, ◌<◌, ◌+◌, sym, ◌∙◌, ap, subst, ℕ, Bool, true, false, nat_eq, List, [], ◌∷◌, length, take, drop, get_or, Option, Some, None, if◌then◌else◌, arith}
use Rattle.std.specs.Prelude.{sum_by, map}
use Rattle.std.specs.List.{slice_get}
use Rattle.std.specs.Option.{MatchOption}
use Rattle.std.proofs.lemmas.List.{get_or_default, drop_all, get_or-map, length-map}
use Rattle.std.proofs.lemmas.List.Sums.{sum_by_more}
use Rattle.std.proofs.lemmas.Option.{slice_get-get_or, get_or_from_slice_get, slice_get_within}
use Rattle.pz_offer.specs.declared.ends.Verdict.TheVariants.{No}
use Rattle.pz_match.specs.declared.rows.Row.{Row}
use Rattle.pz_match.specs.declared.kept.Sending.{Sending}
use Rattle.pz_match.specs.declared.groups.Sort.{Sort}
use Rattle.pz_match.specs.declared.places.Seat.{Seat}
use Rattle.pz_match.specs.declared.places.Couple.{Couple}
use Rattle.pz_match.specs.declared.kept.Offers.{Offers}
use Rattle.pz_match.specs.devices.Kept.{Kept, kept, rows_at, next_verdict, pairs_of, pairs_on}
use Rattle.pz_match.specs.devices.Tallies.{GroupsView}
use Rattle.pz_match.specs.devices.Holding.{Holds, Sound, Answered}
use Rattle.pz_match.specs.devices.Seeking.{sought, number_of, number_on, from_process, IsSeat, IsAnswer, IsTaker, IsCouple}
use Rattle.pz_match.proofs.Hits.{row_here}
use Rattle.pz_match.proofs.Sought.{at_send, wire_counted, counted, sound_at}

-- A row is read

-- the next row of the process
pub answer_read : (conditional : Bool) (rows : List Row) (from place process : ℕ) (d : Row) → conditional ≡ true → place < length rows → rows_at process (drop from rows) ≡ rows_at process (drop place rows)
    → ((e : Row) → (get_or rows place e).process ≡ process) → IsAnswer conditional (rows_at process (drop from rows)) (get_or rows place d).verdict (rows_at process (drop (place + 1) rows))
answer_read conditional rows from place process d asks lt same here =
    let at : rows_at process (drop from rows) ≡ get_or rows place d ∷ rows_at process (drop (place + 1) rows)
    = same ∙ row_here rows place process (get_or rows place d) lt (get_or_default rows place d (get_or rows place d) lt) (here d) in
    subst (λ c. IsAnswer c (rows_at process (drop from rows)) (get_or rows place d).verdict (rows_at process (drop (place + 1) rows))) (sym asks)
    (record { says_so = ap next_verdict (sym at); left_is = sym (ap (drop 1) at) })

-- there is none
pub answer_none : (conditional : Bool) (rows : List Row) (from place process : ℕ) → conditional ≡ true → length rows ≤ place → rows_at process (drop from rows) ≡ rows_at process (drop place rows)
    → IsAnswer conditional (rows_at process (drop from rows)) No (rows_at process (drop place rows))
answer_none conditional rows from place process asks end same =
    let nil : rows_at process (drop place rows) ≡ [] = ap (rows_at process) (drop_all place rows end) in
    subst (λ c. IsAnswer c (rows_at process (drop from rows)) No (rows_at process (drop place rows))) (sym asks)
    (record { says_so = sym (ap next_verdict (same ∙ nil)); left_is = nil ∙ sym (ap (drop 1) (same ∙ nil)) })

-- A process is passed over

pub seat_skips : {X : Type 0} (f : X → ℕ) (xs : List X) (i rest number : ℕ) (x : X) → i < length xs → x ≡ get_or xs i x → f x ≡ 0 → sum_by f (take i xs) + rest ≡ number → sum_by f (take (i + 1) xs) + rest ≡ number
seat_skips f xs i rest number x lt is none adds =
    let more = sum_by_more f xs i x lt in let here : f (get_or xs i x) ≡ f x = ap f (sym is) in omega (arith, adds, more, here, none)

pub seat_passes : {X : Type 0} (f : X → ℕ) (xs : List X) (i rest left number : ℕ) (x : X) → i < length xs → x ≡ get_or xs i x → f x + left ≡ rest → sum_by f (take i xs) + rest ≡ number → sum_by f (take (i + 1) xs) + left ≡ number
seat_passes f xs i rest left number x lt is leaves adds =
    let more = sum_by_more f xs i x lt in let here : f (get_or xs i x) ≡ f x = ap f (sym is) in omega (arith, adds, leaves, more, here)

pub seat_found : {X : Type 0} (f : X → ℕ) (xs : List X) (i rest number : ℕ) (x : X) → i < length xs → x ≡ get_or xs i x → rest < f x → sum_by f (take i xs) + rest ≡ number → IsSeat f xs number (record { place = i; rest = rest })
seat_found f xs i rest number x lt is below adds = record { item = x; there = slice_get-get_or xs i x lt ∙ ap (λ z. Some z) (sym is); before = adds; inside = below }

-- The pair of a send

module _ (sort : Sort) (groups : GroupsView) (all : List Kept) (holds : Holds groups all) (w : ℕ) where
  pub couple_found : (o : Option Couple) (p number rest : ℕ) (e : Kept) (seat : Seat) (s : Sending) → slice_get all p ≡ Some e
      → sum_by (from_process sort groups.groups w) (take p all) + rest ≡ number → IsSeat (number_on sort groups.groups w e.receives) e.sends rest seat → slice_get e.sends seat.place ≡ Some s
      → MatchOption o (length (sought sort (pairs_of all s)) ≤ seat.rest)
      (λ c. (c.sender ≡ (p, seat.place)) × IsTaker sort all s seat.rest (record { process = c.receiver.0; hit = record { place = c.receiver.1; verdict = c.verdict } }))
      → MatchOption o (length (sought sort (pairs_on all w)) ≤ number) (IsCouple (sought sort (pairs_on all w)) all number)
  couple_found o p number rest e seat s is adds at there given = by o given
    where
      same : at.item ≡ s
      same = let both : Some at.item ≡ Some s = sym at.there ∙ there in cc

      inside : seat.rest < number_on sort groups.groups w e.receives s
      inside = subst (λ (z : Sending). seat.rest < number_on sort groups.groups w e.receives z) same at.inside

      ok : Sound groups all e
      ok = sound_at groups all holds p e is

      lt : seat.place < length e.sends
      lt = slice_get_within e.sends seat.place s there

      is_s : get_or e.sends seat.place s ≡ s
      is_s = get_or_from_slice_get e.sends seat.place s s there

      own : s.sender.end.process ≡ e.process
      own = subst (λ (z : Sending). z.sender.end.process ≡ e.process) is_s (ok.sends_own seat.place s lt)

      number_is : number_of sort groups.groups e.receives s ≡ length (sought sort (pairs_of all s))
      number_is = counted groups all holds sort p e s is own (subst (Answered all) is_s (ok.answered seat.place s lt))

      below : seat.rest < length (sought sort (pairs_of all s))
      below = on (nat_eq s.sender.wire w) inside
        where
          on : (b : Bool) → seat.rest < (if b then number_of sort groups.groups e.receives s else 0) → seat.rest < length (sought sort (pairs_of all s))
          on true h = omega (arith, h, number_is)
          on false h = absurd (omega (arith, h))

      at_number : slice_get (sought sort (pairs_on all w)) number ≡ slice_get (sought sort (pairs_of all s)) seat.rest
      at_number = at_send groups all holds sort w p seat.place seat.rest number e s is there (omega (arith, adds, at.before)) inside

      by : (o : Option Couple) → MatchOption o (length (sought sort (pairs_of all s)) ≤ seat.rest)
          (λ c. (c.sender ≡ (p, seat.place)) × IsTaker sort all s seat.rest (record { process = c.receiver.0; hit = record { place = c.receiver.1; verdict = c.verdict } }))
          → MatchOption o (length (sought sort (pairs_on all w)) ≤ number) (IsCouple (sought sort (pairs_on all w)) all number)
      by None few = absurd (omega (arith, few, below))
      by (Some c) found = record {
        sending_process = e;
        send = s;
        receiving_process = found.1.process;
        receive = found.1.receive;
        sends = ap (λ (x : ℕ × ℕ). slice_get all x.0) found.0 ∙ is;
        send_there = ap (λ (x : ℕ × ℕ). slice_get e.sends x.1) found.0 ∙ there;
        receives = found.1.there;
        receive_there = found.1.receive_there;
        at = at_number ∙ found.1.at;
      }

  pub none_found : (rest number : ℕ) → sum_by (from_process sort groups.groups w) all + rest ≡ number → length (sought sort (pairs_on all w)) ≤ number
  none_found rest number adds = let size = wire_counted groups all holds sort w in omega (arith, adds, size)

-- A process that is read, as it is kept

pub item_kept : (all : List Offers) (i : ℕ) (e : Offers) → i < length all → e ≡ get_or all i e → (i < length (map kept all)) × (kept e ≡ get_or (map kept all) i (kept e)) × (slice_get (map kept all) i ≡ Some (kept e))
item_kept all i e lt is =
    let inside : i < length (map kept all) = omega (arith, lt, length-map all kept) in
    let at : kept e ≡ get_or (map kept all) i (kept e) = ap kept is ∙ sym (get_or-map kept all i e (kept e) lt) in
    (inside, at, slice_get-get_or (map kept all) i (kept e) inside ∙ ap (λ (x : Kept). Some x) (sym at))
