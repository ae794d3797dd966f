-- The taken pairs of a wire are counted by its groups.
use Rattle.std.proofs.Common.{◌≡◌, ◌≤◌, ◌<◌, ◌+◌, ◌-◌, ◌*◌, refl, sym, ◌∙◌, ap, subst, ℕ, Bool, true, false, not, ◌&&◌, nat_eq, List, [], ◌∷◌, length, get_or, Option, Some, None, if◌then◌else◌, arith}
use Rattle.std.specs.Prelude.{All, sum_by, count_by, map}
use Rattle.std.specs.List.{slice_get, flat_map}
use Rattle.std.specs.Option.{option_map_or}
use Rattle.std.proofs.lemmas.Bool.{eqb-true}
use Rattle.std.proofs.lemmas.List.Elements.{All-head, All-tail, All-weaker}
use Rattle.std.proofs.lemmas.List.Sums.{sum_by-cons, get_or-le-sum_by}
use Rattle.std.proofs.lemmas.Option.{slice_get-get_or, get_or_from_slice_get, slice_get_within, none-some}
use Rattle.pz_match.specs.declared.groups.Group.{Group}
use Rattle.pz_match.specs.declared.kept.Sending.{Sending}
use Rattle.pz_match.specs.declared.kept.Receiving.{Receiving}
use Rattle.pz_match.specs.devices.Lists.{upto}
use Rattle.pz_match.specs.devices.Kept.{Kept, free_in}
use Rattle.pz_match.specs.devices.Tallies.{HasKey, Alike, tally_at, no_tally, taken_in, taken_on, on_wire, pick, yeses, troubled, receive_tally, sends_part, receives_part, total_of}
use Rattle.pz_match.proofs.Sums.{sum_same, sum_mapped, sum_flat, regroup, sum_indexed, at_place, get_upto, length_upto}

pub all_upto : (P : ℕ → Type 0) (n : ℕ) → ((i : ℕ) → i < n → P i) → All P (upto n)
all_upto P n each = λ k d lt.
    let below : k < n = omega (arith, lt, length_upto n) in
    let is : get_or (upto n) k d ≡ k = get_or_from_slice_get (upto n) k k d (get_upto n k below) in
    subst P (sym is) (each k below)

count_cons : {X : Type 0} (p : X → Bool) (x : X) (xs : List X) → count_by p (x ∷ xs) ≡ (if p x then 1 else 0) + count_by p xs
count_cons p x xs = sum_by-cons (λ y. if p y then 1 else 0) x xs

-- the free receives of all processes in a group

abbrev pub free_all : List Kept → ℕ → ℕ
free_all all g = sum_by (λ e. count_by (free_in g) e.receives) all

free_part : (g : ℕ) (rs : List Receiving) → (receives_part rs g).free ≡ count_by (free_in g) rs
free_part g [] = refl
free_part g (r ∷ rs) = by (nat_eq r.group g) r.receiver.conditional (free_part g rs) ∙ sym (count_cons (free_in g) r rs)
  where
    by : (b c : Bool) → (receives_part rs g).free ≡ count_by (free_in g) rs → (pick b (receive_tally c)).free + (receives_part rs g).free ≡ (if b && not c then 1 else 0) + count_by (free_in g) rs
    by true true later = omega arith
    by true false later = omega arith
    by false true later = omega arith
    by false false later = omega arith

no_free : (g : ℕ) (rs : List Receiving) (ss : List Sending) → (sends_part rs ss g).free ≡ 0
no_free g rs [] = refl
no_free g rs (s ∷ ss) = by (nat_eq s.group g) (no_free g rs ss)
  where
    by : (b : Bool) → (sends_part rs ss g).free ≡ 0 → (pick b (record { sends = 1; free = 0; own = count_by (free_in s.group) rs; asking = 0; yes = yeses s.rows; troubles = troubled s.rows })).free + (sends_part rs ss g).free ≡ 0
    by true later = omega arith
    by false later = omega arith

no_yes : (g : ℕ) (rs : List Receiving) → ((receives_part rs g).yes ≡ 0) × ((receives_part rs g).sends ≡ 0) × ((receives_part rs g).own ≡ 0)
no_yes g [] = (refl, refl, refl)
no_yes g (r ∷ rs) = by (nat_eq r.group g) r.receiver.conditional (no_yes g rs)
  where
    by : (b c : Bool) → ((receives_part rs g).yes ≡ 0) × ((receives_part rs g).sends ≡ 0) × ((receives_part rs g).own ≡ 0)
        → ((pick b (receive_tally c)).yes + (receives_part rs g).yes ≡ 0) × ((pick b (receive_tally c)).sends + (receives_part rs g).sends ≡ 0) × ((pick b (receive_tally c)).own + (receives_part rs g).own ≡ 0)
    by true true later = (omega (arith, later.0), omega (arith, later.1), omega (arith, later.2))
    by true false later = (omega (arith, later.0), omega (arith, later.1), omega (arith, later.2))
    by false true later = (omega (arith, later.0), omega (arith, later.1), omega (arith, later.2))
    by false false later = (omega (arith, later.0), omega (arith, later.1), omega (arith, later.2))

pub total_free : (g : ℕ) (all : List Kept) → (total_of all g).free ≡ free_all all g
total_free g [] = refl
total_free g (e ∷ all) = omega (arith, free_part g e.receives, no_free g e.receives e.sends, total_free g all, sum_by-cons (λ x. count_by (free_in g) x.receives) e all)

-- One group

module _ (i F : ℕ) where
  -- of the sends of one process with this many free receives of its own
  abbrev left_of : ℕ → List Sending → ℕ
  left_of p ss = sum_by (λ s. if nat_eq s.group i then F - p else 0) ss

  one_left : (rs : List Receiving) (ss : List Sending) → count_by (free_in i) rs ≤ F → left_of (count_by (free_in i) rs) ss + (sends_part rs ss i).own ≡ (sends_part rs ss i).sends * F
  one_left rs [] le = omega arith
  one_left rs (s ∷ ss) le =
      ap (λ n. n + (sends_part rs (s ∷ ss) i).own) (sum_by-cons (λ s. if nat_eq s.group i then F - count_by (free_in i) rs else 0) s ss) ∙ by (nat_eq s.group i) refl (one_left rs ss le)
    where
      by : (b : Bool) → nat_eq s.group i ≡ b → left_of (count_by (free_in i) rs) ss + (sends_part rs ss i).own ≡ (sends_part rs ss i).sends * F
          → ((if b then F - count_by (free_in i) rs else 0) + left_of (count_by (free_in i) rs) ss)
          + ((pick b (record { sends = 1; free = 0; own = count_by (free_in s.group) rs; asking = 0; yes = yeses s.rows; troubles = troubled s.rows })).own + (sends_part rs ss i).own)
          ≡ ((pick b (record { sends = 1; free = 0; own = count_by (free_in s.group) rs; asking = 0; yes = yeses s.rows; troubles = troubled s.rows })).sends + (sends_part rs ss i).sends) * F
      by true is later =
          let same : s.group ≡ i = eqb-true s.group i is in
          let own : count_by (free_in s.group) rs ≡ count_by (free_in i) rs = ap (λ g. count_by (free_in g) rs) same in
          let more : (1 + (sends_part rs ss i).sends) * F ≡ F + (sends_part rs ss i).sends * F = distribute (sends_part rs ss i).sends F in
          omega (arith, later, own, more, le)
        where
          distribute : (n m : ℕ) → (1 + n) * m ≡ m + n * m
          distribute n m = grind arith
      by false is later =
          let none : (0 + (sends_part rs ss i).sends) ≡ (sends_part rs ss i).sends = omega arith in
          omega (arith, later, ap (λ n. n * F) none)

  one_yes : (p : ℕ) (rs : List Receiving) (ss : List Sending) → sum_by (λ s. if nat_eq s.group i then (F - p) + yeses s.rows else 0) ss ≡ left_of p ss + (sends_part rs ss i).yes
  one_yes p rs [] = refl
  one_yes p rs (s ∷ ss) =
      let both : (if nat_eq s.group i then (F - p) + yeses s.rows else 0) + sum_by (λ s. if nat_eq s.group i then (F - p) + yeses s.rows else 0) ss
      ≡ ((if nat_eq s.group i then F - p else 0) + left_of p ss) + (sends_part rs (s ∷ ss) i).yes
      = by (nat_eq s.group i) (one_yes p rs ss) in
      omega (arith, both, sum_by-cons (λ s. if nat_eq s.group i then (F - p) + yeses s.rows else 0) s ss, sum_by-cons (λ s. if nat_eq s.group i then F - p else 0) s ss)
    where
      by : (b : Bool) → sum_by (λ s. if nat_eq s.group i then (F - p) + yeses s.rows else 0) ss ≡ left_of p ss + (sends_part rs ss i).yes
          → (if b then (F - p) + yeses s.rows else 0) + sum_by (λ s. if nat_eq s.group i then (F - p) + yeses s.rows else 0) ss
          ≡ ((if b then F - p else 0) + left_of p ss)
          + ((pick b (record { sends = 1; free = 0; own = count_by (free_in s.group) rs; asking = 0; yes = yeses s.rows; troubles = troubled s.rows })).yes + (sends_part rs ss i).yes)
      by true later = omega arith
      by false later = omega arith

  -- of all processes
  abbrev in_group : Kept → ℕ
  in_group e = sum_by (λ s. if nat_eq s.group i then (F - count_by (free_in i) e.receives) + yeses s.rows else 0) e.sends

  abbrev lefts : List Kept → ℕ
  lefts xs = sum_by (λ e. left_of (count_by (free_in i) e.receives) e.sends) xs

  all_left : (xs : List Kept) → All (λ e. count_by (free_in i) e.receives ≤ F) xs → lefts xs + (total_of xs i).own ≡ (total_of xs i).sends * F
  all_left [] le = omega arith
  all_left (e ∷ xs) le =
      let here = one_left e.receives e.sends (All-head (λ (e : Kept). count_by (free_in i) e.receives ≤ F) e xs le) in
      let later = all_left xs (All-tail (λ (e : Kept). count_by (free_in i) e.receives ≤ F) e xs le) in
      let none = no_yes i e.receives in
      let sends : (total_of (e ∷ xs) i).sends ≡ (sends_part e.receives e.sends i).sends + (total_of xs i).sends = omega (arith, none.1) in
      let product : (total_of (e ∷ xs) i).sends * F ≡ (sends_part e.receives e.sends i).sends * F + (total_of xs i).sends * F
      = ap (λ n. n * F) sends ∙ distribute (sends_part e.receives e.sends i).sends (total_of xs i).sends F in
      omega (arith, here, later, none.2, product, sum_by-cons (λ e. left_of (count_by (free_in i) e.receives) e.sends) e xs)
    where
      distribute : (n m k : ℕ) → (n + m) * k ≡ n * k + m * k
      distribute n m k = grind arith

  all_yes : (xs : List Kept) → sum_by in_group xs ≡ lefts xs + (total_of xs i).yes
  all_yes [] = refl
  all_yes (e ∷ xs) =
      omega (arith, one_yes (count_by (free_in i) e.receives) e.receives e.sends, (no_yes i e.receives).0, all_yes xs, sum_by-cons in_group e xs, sum_by-cons (λ e. left_of (count_by (free_in i) e.receives) e.sends) e xs)

  pub group_counts : (xs : List Kept) → All (λ e. count_by (free_in i) e.receives ≤ F) xs → sum_by in_group xs ≡ ((total_of xs i).sends * F - (total_of xs i).own) + (total_of xs i).yes
  group_counts xs le = let left = all_left xs le in let yes = all_yes xs in omega (arith, left, yes)

-- All groups of a wire

pub record Sent : Type 0 where
  pub process : Kept
  pub send : Sending

abbrev pub sent : List Kept → List Sent
sent = flat_map (λ e. map (λ s. record { process = e; send = s }) e.sends)

module _ (all : List Kept) where
  -- the taken pairs of a send of this process
  abbrev pub takes : Kept → Sending → ℕ
  takes e s = (free_all all s.group - count_by (free_in s.group) e.receives) + yeses s.rows

  abbrev pub takes_on : ℕ → Kept → Sending → ℕ
  takes_on w e s = if nat_eq s.sender.wire w then takes e s else 0

  module _ (f : Kept → Sending → ℕ) where
    -- send by send, or process by process
    pub sum_sent : (xs : List Kept) → sum_by (λ (y : Sent). f y.process y.send) (sent xs) ≡ sum_by (λ e. sum_by (f e) e.sends) xs
    sum_sent xs =
        sum_flat (λ (y : Sent). f y.process y.send) (λ (e : Kept). map (λ s. record { process = e; send = s }) e.sends) xs
        ∙ sum_same _ (λ e. sum_by (f e) e.sends) xs (λ k d lt. sum_mapped (λ (y : Sent). f y.process y.send) (λ s. record { process = get_or xs k d; send = s }) (get_or xs k d).sends)

  -- of some processes
  module _ (groups : List Group) (w : ℕ) (xs : List Kept) (few : (i : ℕ) → All (λ (e : Kept). count_by (free_in i) e.receives ≤ free_all all i) xs)
      (keyed : All (λ (y : Sent). HasKey groups y.send.group y.send.sender.wire y.send.sender.message (length y.send.sender.parcel.values)) (sent xs)) where
    abbrev of_group : ℕ → Sent → ℕ
    of_group i y = if nat_eq y.send.group i then takes_on w y.process y.send else 0

    in_range : All (λ (y : Sent). y.send.group < length groups) (sent xs)
    in_range =
        All-weaker (λ (y : Sent). HasKey groups y.send.group y.send.sender.wire y.send.sender.message (length y.send.sender.parcel.values)) (λ (y : Sent). y.send.group < length groups)
        (λ y key. slice_get_within groups y.send.group key.group key.there) (sent xs) keyed

    -- of a group on this wire all sends are, of another none
    on_or_off : (i : ℕ) (x : Group) → slice_get groups i ≡ Some x → sum_by (of_group i) (sent xs) ≡ (if nat_eq x.wire w then sum_by (λ (y : Sent). if nat_eq y.send.group i then takes y.process y.send else 0) (sent xs) else 0)
    on_or_off i x there = go (sent xs) keyed
      where
        one : (y : Sent) → HasKey groups y.send.group y.send.sender.wire y.send.sender.message (length y.send.sender.parcel.values) → of_group i y ≡ (if nat_eq x.wire w then (if nat_eq y.send.group i then takes y.process y.send else 0) else 0)
        one y key = by (nat_eq y.send.group i) refl
          where
            flat : (c : Bool) → ◌≡◌ {A = ℕ} 0 (if c then 0 else 0)
            flat true = refl
            flat false = refl

            by : (b : Bool) → nat_eq y.send.group i ≡ b → (if b then takes_on w y.process y.send else 0) ≡ (if nat_eq x.wire w then (if b then takes y.process y.send else 0) else 0)
            by true is =
                let same : y.send.group ≡ i = eqb-true y.send.group i is in
                let found : Some key.group ≡ Some x = sym key.there ∙ (ap (slice_get groups) same ∙ there) in
                let one_group : key.group ≡ x = cc in
                let wire : y.send.sender.wire ≡ x.wire = sym key.wire_is ∙ ap (λ (z : Group). z.wire) one_group in
                ap (λ u. if nat_eq u w then takes y.process y.send else 0) wire
            by false is = flat (nat_eq x.wire w)

        split : (c : Bool) (y : Sent) (ys : List Sent)
            → (if c then (if nat_eq y.send.group i then takes y.process y.send else 0) else 0) + (if c then sum_by (λ (z : Sent). if nat_eq z.send.group i then takes z.process z.send else 0) ys else 0)
            ≡ (if c then sum_by (λ (z : Sent). if nat_eq z.send.group i then takes z.process z.send else 0) (y ∷ ys) else 0)
        split true y ys = sym (sum_by-cons (λ (z : Sent). if nat_eq z.send.group i then takes z.process z.send else 0) y ys)
        split false y ys = omega arith

        start : (c : Bool) → ◌≡◌ {A = ℕ} 0 (if c then sum_by (λ (z : Sent). if nat_eq z.send.group i then takes z.process z.send else 0) [] else 0)
        start true = refl
        start false = refl

        go : (ys : List Sent) → All (λ (y : Sent). HasKey groups y.send.group y.send.sender.wire y.send.sender.message (length y.send.sender.parcel.values)) ys
            → sum_by (of_group i) ys ≡ (if nat_eq x.wire w then sum_by (λ (y : Sent). if nat_eq y.send.group i then takes y.process y.send else 0) ys else 0)
        go [] keys = start (nat_eq x.wire w)
        go (y ∷ ys) keys =
            let first = one y (All-head (λ (y : Sent). HasKey groups y.send.group y.send.sender.wire y.send.sender.message (length y.send.sender.parcel.values)) y ys keys) in
            let later = go ys (All-tail (λ (y : Sent). HasKey groups y.send.group y.send.sender.wire y.send.sender.message (length y.send.sender.parcel.values)) y ys keys) in
            sum_by-cons (of_group i) y ys ∙ ((λ k. first k + later k) ∙ split (nat_eq x.wire w) y ys)

    -- by the number of the group
    in_group_is : (i : ℕ) → sum_by (λ (y : Sent). if nat_eq y.send.group i then takes y.process y.send else 0) (sent xs) ≡ sum_by (in_group i (free_all all i)) xs
    in_group_is i =
        sum_sent (λ e s. if nat_eq s.group i then takes e s else 0) xs
        ∙ sum_same (λ e. sum_by (λ s. if nat_eq s.group i then takes e s else 0) e.sends) (in_group i (free_all all i)) xs (λ k d lt. each (get_or xs k d))
      where
        each : (e : Kept) → sum_by (λ s. if nat_eq s.group i then takes e s else 0) e.sends ≡ in_group i (free_all all i) e
        each e = sum_same (λ s. if nat_eq s.group i then takes e s else 0) (λ s. if nat_eq s.group i then (free_all all i - count_by (free_in i) e.receives) + yeses s.rows else 0) e.sends (λ k d lt. one (get_or e.sends k d))
          where
            one : (s : Sending) → (if nat_eq s.group i then takes e s else 0) ≡ (if nat_eq s.group i then (free_all all i - count_by (free_in i) e.receives) + yeses s.rows else 0)
            one s = by (nat_eq s.group i) refl
              where
                by : (b : Bool) → nat_eq s.group i ≡ b → (if b then takes e s else 0) ≡ (if b then (free_all all i - count_by (free_in i) e.receives) + yeses s.rows else 0)
                by true is = ap (λ g. (free_all all g - count_by (free_in g) e.receives) + yeses s.rows) (eqb-true s.group i is)
                by false is = refl

    -- in a group
    abbrev pub taken_of : ℕ → ℕ
    taken_of i = ((total_of xs i).sends * free_all all i - (total_of xs i).own) + (total_of xs i).yes

    abbrev pub counted_on : ℕ → ℕ
    counted_on i = option_map_or (λ (x : Group). if nat_eq x.wire w then taken_of i else 0) (slice_get groups i) 0

    one_group : (i : ℕ) (x : Group) → slice_get groups i ≡ Some x → sum_by (of_group i) (sent xs) ≡ (if nat_eq x.wire w then taken_of i else 0)
    one_group i x there = on_or_off i x there ∙ ap (λ n. if nat_eq x.wire w then n else 0) (in_group_is i ∙ group_counts i (free_all all i) xs (few i))

    -- what the groups count is the sum over the sends
    pub part_counts : sum_by counted_on (upto (length groups)) ≡ sum_by (λ e. sum_by (takes_on w e) e.sends) xs
    part_counts =
        sum_same counted_on (λ i. sum_by (of_group i) (sent xs)) (upto (length groups))
        (all_upto (λ i. counted_on i ≡ sum_by (of_group i) (sent xs)) (length groups) (λ i lt. here i lt (slice_get groups i) refl))
        ∙ (regroup (λ (y : Sent). y.send.group) (λ (y : Sent). takes_on w y.process y.send) (length groups) (sent xs) in_range
        ∙ sum_sent (takes_on w) xs)
      where
        here : (i : ℕ) → i < length groups → (o : Option Group) → slice_get groups i ≡ o → counted_on i ≡ sum_by (of_group i) (sent xs)
        here i lt None is = absurd (none-some (get_or groups i (head_of groups lt)) (sym is ∙ slice_get-get_or groups i (head_of groups lt) lt))
          where
            head_of : (ys : List Group) → i < length ys → Group
            head_of [] h = absurd (omega (arith, h))
            head_of (x ∷ ys) h = x
        here i lt (Some x) is = ap (λ (o : Option Group). option_map_or (λ (x : Group). if nat_eq x.wire w then taken_of i else 0) o 0) is ∙ sym (one_group i x is)

  pub few_free : (i : ℕ) → All (λ (e : Kept). count_by (free_in i) e.receives ≤ free_all all i) all
  few_free i = λ k d lt. get_or-le-sum_by (λ (e : Kept). count_by (free_in i) e.receives) all k d lt

  -- what the groups of a wire count is the sum over its sends
  pub wire_counts : (groups : List Group) (w : ℕ) → ((g : ℕ) → Alike (tally_at groups g) (total_of all g))
      → All (λ (y : Sent). HasKey groups y.send.group y.send.sender.wire y.send.sender.message (length y.send.sender.parcel.values)) (sent all)
      → on_wire groups w ≡ sum_by (λ e. sum_by (takes_on w e) e.sends) all
  wire_counts groups w tallied keyed =
      sum_indexed (taken_on w) groups
      ∙ (sum_same (at_place (taken_on w) groups) (counted_on groups w all few_free keyed) (upto (length groups))
      (all_upto (λ i. at_place (taken_on w) groups i ≡ counted_on groups w all few_free keyed i) (length groups) (λ i lt. here i (slice_get groups i) refl))
      ∙ part_counts groups w all few_free keyed)
    where
      here : (i : ℕ) (o : Option Group) → slice_get groups i ≡ o → option_map_or (taken_on w) o 0 ≡ option_map_or (λ (x : Group). if nat_eq x.wire w then taken_of groups w all few_free keyed i else 0) o 0
      here i None there = refl
      here i (Some x) there =
          let is : tally_at groups i ≡ x.tally = ap (λ (o : Option Group). option_map_or (λ z. z.tally) o no_tally) there in
          let alike = tallied i in
          let free : free_all all i ≡ (tally_at groups i).free = sym (alike.free ∙ total_free i all) in
          let sends : (total_of all i).sends ≡ (tally_at groups i).sends = sym alike.sends in
          let product : (total_of all i).sends * free_all all i ≡ (tally_at groups i).sends * (tally_at groups i).free = λ k. sends k * free k in
          let counted : ((total_of all i).sends * free_all all i - (total_of all i).own) + (total_of all i).yes ≡ taken_in (tally_at groups i) = omega (arith, product, alike.own, alike.yes) in
          ap (λ n. if nat_eq x.wire w then n else 0) (sym (counted ∙ ap taken_in is))
