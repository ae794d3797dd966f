-- How the k-th pair is come to, receive by receive and send by send.
use Rattle.std.proofs.Common.{◌≡◌, ◌≢◌, ◌≤◌, ◌<◌, ◌+◌, refl, sym, ◌∙◌, ap, ℕ, suc, Bool, true, false, List, [], ◌∷◌, length, take, drop, get_or, Some, if◌then◌else◌, arith}
use Rattle.std.specs.Prelude.{sum_by}
use Rattle.std.specs.List.{slice_get}
use Rattle.std.proofs.lemmas.Bool.{eq-eqb, ne_eqb}
use Rattle.std.proofs.lemmas.List.{drop_more, drop_all}
use Rattle.std.proofs.lemmas.List.Sums.{sum_by_more}
use Rattle.std.proofs.lemmas.List.Concat.{length-flat_map}
use Rattle.std.proofs.lemmas.Option.{get_or_from_slice_get, slice_get_within}
use Rattle.pz_offer.specs.declared.ends.Verdict.{Verdict}
use Rattle.pz_offer.specs.declared.ends.Verdict.TheVariants.{Yes}
use Rattle.pz_match.specs.declared.offers.Sender.{Sender}
use Rattle.pz_match.specs.declared.rows.Row.{Row}
use Rattle.pz_match.specs.declared.kept.Sending.{Sending}
use Rattle.pz_match.specs.declared.kept.Receiving.{Receiving}
use Rattle.pz_match.specs.declared.groups.Sort.{Sort}
use Rattle.pz_match.specs.declared.places.Hit.{Hit}
use Rattle.pz_match.specs.Pairs.{Judged}
use Rattle.pz_match.specs.devices.Kept.{Kept, rows_at, judged, next_verdict, answers, heard, pairs_of}
use Rattle.pz_match.specs.devices.Seeking.{wants, sought, IsAnswer, IsHit, IsTaker}
use Rattle.pz_match.proofs.Sums.{filter_flat, at_flat}

-- The rows of a process from a place on

pub row_other : (rows : List Row) (place process : ℕ) (d : Row) → place < length rows → (get_or rows place d).process ≢ process → rows_at process (drop place rows) ≡ rows_at process (drop (place + 1) rows)
row_other rows place process d lt other =
    ap (rows_at process) (drop_more rows place d lt)
    ∙ ap (λ b. if b then get_or rows place d ∷ rows_at process (drop (place + 1) rows) else rows_at process (drop (place + 1) rows)) (ne_eqb (get_or rows place d).process process other)

pub row_here : (rows : List Row) (place process : ℕ) (x : Row) → place < length rows → x ≡ get_or rows place x → x.process ≡ process → rows_at process (drop place rows) ≡ x ∷ rows_at process (drop (place + 1) rows)
row_here rows place process x lt is here =
    ap (rows_at process) (drop_more rows place x lt ∙ ap (λ (y : Row). y ∷ drop (place + 1) rows) (sym is))
    ∙ ap (λ b. if b then x ∷ rows_at process (drop (place + 1) rows) else rows_at process (drop (place + 1) rows)) (eq-eqb x.process process here)

-- One receive

module _ (sort : Sort) (s : Sender) (g : ℕ) where
  abbrev pub hits : List Row → List Receiving → List Judged
  hits rows rs = sought sort (answers s g rows rs)

  pub of_other : (r : Receiving) (rs : List Receiving) (rows : List Row) → r.group ≢ g → hits rows (r ∷ rs) ≡ hits rows rs
  of_other r rs rows other =
      ap (λ b. sought sort (if b then (if r.receiver.conditional then judged s r.receiver (next_verdict rows) ∷ answers s g (drop 1 rows) rs else judged s r.receiver Yes ∷ answers s g rows rs) else answers s g rows rs)) (ne_eqb r.group g other)

  one : (r : Receiving) (rs : List Receiving) (rows left : List Row) (v : Verdict) → r.group ≡ g → IsAnswer r.receiver.conditional rows v left → answers s g rows (r ∷ rs) ≡ judged s r.receiver v ∷ answers s g left rs
  one r rs rows left v same is =
      ap (λ b. if b then (if r.receiver.conditional then judged s r.receiver (next_verdict rows) ∷ answers s g (drop 1 rows) rs else judged s r.receiver Yes ∷ answers s g rows rs) else answers s g rows rs) (eq-eqb r.group g same)
      ∙ by r.receiver.conditional is
    where
      by : (c : Bool) → IsAnswer c rows v left → (if c then judged s r.receiver (next_verdict rows) ∷ answers s g (drop 1 rows) rs else judged s r.receiver Yes ∷ answers s g rows rs) ≡ judged s r.receiver v ∷ answers s g left rs
      by true a = λ i. judged s r.receiver (sym a.says_so i) ∷ answers s g (sym a.left_is i) rs
      by false a = λ i. judged s r.receiver (sym a.says_so i) ∷ answers s g (sym a.left_is i) rs

  pub of_unsought : (r : Receiving) (rs : List Receiving) (rows left : List Row) (v : Verdict) → r.group ≡ g → IsAnswer r.receiver.conditional rows v left → wants sort v ≡ false → hits rows (r ∷ rs) ≡ hits left rs
  of_unsought r rs rows left v same is unwanted =
      ap (sought sort) (one r rs rows left v same is) ∙ ap (λ b. if b then judged s r.receiver v ∷ hits left rs else hits left rs) unwanted

  pub of_sought : (r : Receiving) (rs : List Receiving) (rows left : List Row) (v : Verdict) → r.group ≡ g → IsAnswer r.receiver.conditional rows v left → wants sort v ≡ true → hits rows (r ∷ rs) ≡ judged s r.receiver v ∷ hits left rs
  of_sought r rs rows left v same is wanted =
      ap (sought sort) (one r rs rows left v same is) ∙ ap (λ b. if b then judged s r.receiver v ∷ hits left rs else hits left rs) wanted

-- how far the receives of a process are gone through
pub record Going (sort : Sort) (s : Sender) (g : ℕ) (rows : List Row) (rs : List Receiving) (process number place from rest : ℕ) : Type 0 where
  pub within : from ≤ length rows
  pub at : slice_get (hits sort s g (rows_at process rows) rs) number ≡ slice_get (hits sort s g (rows_at process (drop from rows)) (drop place rs)) rest
  pub count : length (hits sort s g (rows_at process rows) rs) + rest ≡ number + length (hits sort s g (rows_at process (drop from rows)) (drop place rs))

module _ (sort : Sort) (s : Sender) (g : ℕ) (rows : List Row) (rs : List Receiving) (process number : ℕ) where
  pub going_start : Going sort s g rows rs process number 0 0 number
  going_start = record { within = omega arith; at = refl; count = omega arith }

  module _ (place from rest : ℕ) (going : Going sort s g rows rs process number place from rest) (r : Receiving) (lt : place < length rs) (is : r ≡ get_or rs place r) where
    here : drop place rs ≡ r ∷ drop (place + 1) rs
    here = drop_more rs place r lt ∙ ap (λ (x : Receiving). x ∷ drop (place + 1) rs) (sym is)

    left_at : List Row → List Receiving → List Judged
    left_at left xs = hits sort s g left xs

    now : hits sort s g (rows_at process (drop from rows)) (drop place rs) ≡ hits sort s g (rows_at process (drop from rows)) (r ∷ drop (place + 1) rs)
    now = ap (hits sort s g (rows_at process (drop from rows))) here

    pub going_other : r.group ≢ g → Going sort s g rows rs process number (place + 1) from rest
    going_other other =
        let same : hits sort s g (rows_at process (drop from rows)) (drop place rs) ≡ hits sort s g (rows_at process (drop from rows)) (drop (place + 1) rs) = now ∙ of_other sort s g r (drop (place + 1) rs) (rows_at process (drop from rows)) other in
        record {
          within = going.within;
          at = going.at ∙ ap (λ (ys : List Judged). slice_get ys rest) same;
          count = let e = ap length same in let c = going.count in omega (arith, c, e);
        }

    module _ (next : ℕ) (v : Verdict) (group : r.group ≡ g) (fits : next ≤ length rows) (answer : IsAnswer r.receiver.conditional (rows_at process (drop from rows)) v (rows_at process (drop next rows))) where
      pub going_unsought : wants sort v ≡ false → Going sort s g rows rs process number (place + 1) next rest
      going_unsought unwanted =
          let same : hits sort s g (rows_at process (drop from rows)) (drop place rs) ≡ hits sort s g (rows_at process (drop next rows)) (drop (place + 1) rs)
          = now ∙ of_unsought sort s g r (drop (place + 1) rs) (rows_at process (drop from rows)) (rows_at process (drop next rows)) v group answer unwanted in
          record {
            within = fits;
            at = going.at ∙ ap (λ (ys : List Judged). slice_get ys rest) same;
            count = let e = ap length same in let c = going.count in omega (arith, c, e);
          }

      found : wants sort v ≡ true → hits sort s g (rows_at process (drop from rows)) (drop place rs) ≡ judged s r.receiver v ∷ hits sort s g (rows_at process (drop next rows)) (drop (place + 1) rs)
      found wanted = now ∙ of_sought sort s g r (drop (place + 1) rs) (rows_at process (drop from rows)) (rows_at process (drop next rows)) v group answer wanted

      pub going_on : wants sort v ≡ true → (less : ℕ) → rest ≡ less + 1 → Going sort s g rows rs process number (place + 1) next less
      going_on wanted less more =
          let same = found wanted in
          let at_less : slice_get (judged s r.receiver v ∷ hits sort s g (rows_at process (drop next rows)) (drop (place + 1) rs)) rest ≡ slice_get (hits sort s g (rows_at process (drop next rows)) (drop (place + 1) rs)) less
          = ap (slice_get (judged s r.receiver v ∷ hits sort s g (rows_at process (drop next rows)) (drop (place + 1) rs))) (let e : rest ≡ suc less = omega (arith, more) in e) in
          record {
            within = fits;
            at = going.at ∙ (ap (λ (ys : List Judged). slice_get ys rest) same ∙ at_less);
            count = let e = ap length same in let c = going.count in omega (arith, c, e, more);
          }

      pub going_hit : wants sort v ≡ true → rest ≡ 0 → slice_get (hits sort s g (rows_at process rows) rs) number ≡ Some (judged s r.receiver v)
      going_hit wanted none = going.at ∙ (ap (λ (ys : List Judged). slice_get ys rest) (found wanted) ∙ ap (slice_get (judged s r.receiver v ∷ hits sort s g (rows_at process (drop next rows)) (drop (place + 1) rs))) none)

  pub going_end : (place from rest : ℕ) → Going sort s g rows rs process number place from rest → length rs ≤ place → length (hits sort s g (rows_at process rows) rs) + rest ≡ number
  going_end place from rest going end =
      let none : length (hits sort s g (rows_at process (drop from rows)) (drop place rs)) ≡ 0 = ap (λ (xs : List Receiving). length (hits sort s g (rows_at process (drop from rows)) xs)) (drop_all place rs end) in
      let c = going.count in omega (arith, c, none)

-- All processes

module _ (sort : Sort) (all : List Kept) (s : Sending) where
  abbrev pub heard_of : Kept → List Judged
  heard_of e = sought sort (heard s e)

  pub heard_own : (e : Kept) → e.process ≡ s.sender.end.process → length (heard_of e) ≡ 0
  heard_own e own = ap (λ b. length (sought sort (if b then [] else answers s.sender s.group (rows_at e.process s.rows) e.receives))) (eq-eqb e.process s.sender.end.process own)

  pub heard_other : (e : Kept) → e.process ≢ s.sender.end.process → heard_of e ≡ hits sort s.sender s.group (rows_at e.process s.rows) e.receives
  heard_other e other = ap (λ b. sought sort (if b then [] else answers s.sender s.group (rows_at e.process s.rows) e.receives)) (ne_eqb e.process s.sender.end.process other)

  pub taker_more : (i rest left number : ℕ) (e : Kept) → i < length all → slice_get all i ≡ Some e → sum_by (λ x. length (heard_of x)) (take i all) + rest ≡ number → length (heard_of e) + left ≡ rest
      → sum_by (λ x. length (heard_of x)) (take (i + 1) all) + left ≡ number
  taker_more i rest left number e lt is adds leaves =
      let more : sum_by (λ x. length (heard_of x)) (take (i + 1) all) ≡ sum_by (λ x. length (heard_of x)) (take i all) + length (heard_of (get_or all i e)) = sum_by_more (λ x. length (heard_of x)) all i e lt in
      let here : length (heard_of (get_or all i e)) ≡ length (heard_of e) = ap (λ (x : Kept). length (heard_of x)) (get_or_from_slice_get all i e e is) in
      omega (arith, adds, leaves, more, here)

  pub taker_found : (i rest number : ℕ) (e : Kept) (r : Receiving) (hit : Hit) → slice_get all i ≡ Some e → e.process ≢ s.sender.end.process → sum_by (λ x. length (heard_of x)) (take i all) + rest ≡ number
      → IsHit sort s e.receives (rows_at e.process s.rows) rest hit → IsTaker sort all s number (record { process = i; hit = hit })
  taker_found i rest number e r hit is other adds found =
      let there : slice_get (heard_of e) rest ≡ Some (judged s.sender found.receive.receiver hit.verdict) = ap (λ (ys : List Judged). slice_get ys rest) (heard_other e other) ∙ found.at in
      record {
        process = e;
        receive = found.receive;
        there = is;
        receive_there = found.there;
        at =
            ap (λ (ys : List Judged). slice_get ys number) (filter_flat (heard s) (λ p. wants sort p.verdict) all)
            ∙ (at_flat heard_of all i rest number e is adds (slice_get_within (heard_of e) rest (judged s.sender found.receive.receiver hit.verdict) there) ∙ there);
      }

  pub taker_none : (rest number : ℕ) → sum_by (λ x. length (heard_of x)) all + rest ≡ number → length (sought sort (pairs_of all s)) ≤ number
  taker_none rest number adds =
      let size : length (sought sort (pairs_of all s)) ≡ sum_by (λ x. length (heard_of x)) all = ap length (filter_flat (heard s) (λ p. wants sort p.verdict) all) ∙ length-flat_map heard_of all in
      omega (arith, adds, size)
