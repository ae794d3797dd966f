-- The pairs of all senders, turn by turn, are those that fit, in order.
use Rattle.std.proofs.Common.{◌≡◌, ◌<◌, ◌≤◌, ◌+◌, ◌⊎◌, inl, inr, refl, sym, ◌∙◌, ap, subst, ℕ, zero, suc, Bool, true, false, ◌&&◌, not, nat_eq, List, [], ◌∷◌, ◌++◌, length, drop, take, get_or, Option, Some, unwrap_or, if◌then◌else◌, arith}
use Rattle.std.specs.Prelude.{All, AllPairs, Contains}
use Rattle.std.specs.List.{slice_get, flat_map}
use Rattle.std.specs.Option.{option_map, option_map_or}
use Rattle.std.specs.Str.{bytes_eq}
use Rattle.std.proofs.lemmas.Bool.{false≢true, eq-eqb, ne_eqb, and_parts, and_from}
use Rattle.std.proofs.lemmas.List.Elements.{All-nil, All-cons, All-head, All-tail, All-append, All-weaker, Contains-append_left, Contains-append_right}
use Rattle.std.proofs.lemmas.List.{append-nil, take_more}
use Rattle.std.proofs.lemmas.List.Concat.{flat_map-append}
use Rattle.std.proofs.lemmas.Option.{slice_get-get_or}
use Rattle.std.proofs.lemmas.List.Kept.{AllPairs-cons}
use Rattle.std.proofs.lemmas.Slice.Eq.{bytes_eq-Decides}
use Rattle.pz_term_matching.specs.declared.ends.Sender.{Sender}
use Rattle.pz_term_matching.specs.declared.ends.Receiver.{Receiver}
use Rattle.pz_term_matching.specs.declared.ends.Pair.{Pair}
use Rattle.pz_term_matching.specs.declared.turns.Turn.{Turn}
use Rattle.pz_term_matching.specs.Matches.{Fits, wire_of, Before, AreMatches}
use Rattle.pz_term_matching.specs.devices.Turns.{TurnBefore, IsTurn, AreTurns}
use Rattle.pz_term_matching.specs.devices.Pairing.{pair, pairs_from, pairs_of}
use Rattle.pz_term_matching.proofs.Firsts.{drop_next, at_head, none_past}
use Rattle.pz_term_matching.proofs.Chained.{Heard, heard}
use Rattle.pz_term_matching.proofs.Walking.{hears_it, fits_it}
use Rattle.pz_term_matching.proofs.Turning.{turn}

-- Lists

module _ {X : Type 0} (R : X → X → Type 0) where
  pairs_head : (x : X) (xs : List X) → AllPairs R (x ∷ xs) → All (R x) xs
  pairs_head x xs all = λ k d within. all 0 (suc k) d (omega arith) (omega (arith, within))

  pairs_tail : (x : X) (xs : List X) → AllPairs R (x ∷ xs) → AllPairs R xs
  pairs_tail x xs all = λ i j d before within. all (suc i) (suc j) d (omega (arith, before)) (omega (arith, within))

  pairs_append : (xs ys : List X) → AllPairs R xs → AllPairs R ys → All (λ x. All (R x) ys) xs → AllPairs R (xs ++ ys)
  pairs_append [] ys firsts lasts across = lasts
  pairs_append (x ∷ xs) ys firsts lasts across =
      AllPairs-cons R x (xs ++ ys) (All-append (R x) xs ys (pairs_head x xs firsts) (All-head (λ (z : X). All (R z) ys) x xs across))
      (pairs_append xs ys (pairs_tail x xs firsts) lasts (All-tail (λ (z : X). All (R z) ys) x xs across))

module _ {X Y : Type 0} (f : X → List Y) where
  all_flat : (P : X → Type 0) (Q : Y → Type 0) → ((x : X) → P x → All Q (f x)) → (xs : List X) → All P xs → All Q (flat_map f xs)
  all_flat P Q each [] all = All-nil Q
  all_flat P Q each (x ∷ xs) all = All-append Q (f x) (flat_map f xs) (each x (All-head P x xs all)) (all_flat P Q each xs (All-tail P x xs all))

  contained_flat : (xs : List X) (x : X) (y : Y) → Contains xs x → Contains (f x) y → Contains (flat_map f xs) y
  contained_flat [] x y (k, within, is) there = absurd (omega (arith, within))
  contained_flat (z ∷ zs) x y (zero, within, is) there = Contains-append_left (f z) (flat_map f zs) y (subst (λ (w : X). Contains (f w) y) (sym is) there)
  contained_flat (z ∷ zs) x y (suc k, within, is) there = Contains-append_right (f z) (flat_map f zs) y (contained_flat zs x y (k, omega (arith, within), is) there)

  -- in order where each part is, and parts are in order among themselves
  pairs_flat : (P : X → Type 0) (S : X → X → Type 0) (R : Y → Y → Type 0) → ((x : X) → P x → AllPairs R (f x)) → ((x z : X) → P x → P z → S x z → All (λ y. All (R y) (f z)) (f x))
      → (xs : List X) → All P xs → AllPairs S xs → AllPairs R (flat_map f xs)
  pairs_flat P S R each across [] all ordered = λ i j d before within. absurd (omega (arith, within))
  pairs_flat P S R each across (x ∷ xs) all ordered =
      pairs_append R (f x) (flat_map f xs) (each x (All-head P x xs all))
      (pairs_flat P S R each across xs (All-tail P x xs all) (pairs_tail S x xs ordered))
      (before xs (All-tail P x xs all) (pairs_head S x xs ordered))
    where
      before : (zs : List X) → All P zs → All (S x) zs → All (λ y. All (R y) (flat_map f zs)) (f x)
      before [] ps rs = λ k d within j e below. absurd (omega (arith, below))
      before (z ∷ zs) ps rs = λ k d within.
          All-append (R (get_or (f x) k d)) (f z) (flat_map f zs) (across x z (All-head P x xs all) (All-head P z zs ps) (All-head (S x) z zs rs) k d within)
          (before zs (All-tail P z zs ps) (All-tail (S x) z zs rs) k d within)

-- One sender

fits : (senders : List Sender) (receivers : List Receiver) (s : Sender) (r : Receiver) (i j : ℕ) → slice_get senders i ≡ Some s → slice_get receivers j ≡ Some r → fits_it s r ≡ true → Fits senders receivers (pair i j)
fits senders receivers s r i j sends receives is =
    let both = and_parts (hears_it s r) (not (nat_eq s.end.process r.end.process)) is in
    let like : Heard s.wire s.message (length s.parcel.values) r = heard s.wire s.message (length s.parcel.values) r both.0 in
    record {
      sender = s;
      receiver = r;
      sends = sends;
      receives = receives;
      wire = like.wire;
      message = like.message;
      values = like.count;
      two = λ same. let other : false ≡ true = sym (ap not (eq-eqb s.end.process r.end.process same)) ∙ both.1 in absurd (false≢true other);
    }

tested : (senders : List Sender) (receivers : List Receiver) (s : Sender) (p : Pair) (f : Fits senders receivers p) → f.sender ≡ s → fits_it s f.receiver ≡ true
tested senders receivers s p f is =
    subst (λ (t : Sender). fits_it t f.receiver ≡ true) is
    (and_from (hears_it f.sender f.receiver) (not (nat_eq f.sender.end.process f.receiver.end.process))
    (and_from (nat_eq f.sender.wire f.receiver.wire) (bytes_eq f.sender.message f.receiver.message && nat_eq (length f.sender.parcel.values) f.receiver.count) (eq-eqb f.sender.wire f.receiver.wire f.wire)
    (and_from (bytes_eq f.sender.message f.receiver.message) (nat_eq (length f.sender.parcel.values) f.receiver.count) ((bytes_eq-Decides f.sender.message f.receiver.message).1 f.message) (eq-eqb (length f.sender.parcel.values) f.receiver.count f.values)))
    (ap not (ne_eqb f.sender.end.process f.receiver.end.process f.two)))

module _ (senders : List Sender) (receivers : List Receiver) (s : Sender) (i : ℕ) where
  -- by the test of the first receive, for what holds of the pairs
  abbrev more : Receiver → ℕ → List Receiver → Bool → List Pair
  more r place rs b = if b then pair i place ∷ pairs_from s i (place + 1) rs else pairs_from s i (place + 1) rs

  all_fit : slice_get senders i ≡ Some s → (place : ℕ) (rs : List Receiver) → drop place receivers ≡ rs → All (Fits senders receivers) (pairs_from s i place rs)
  all_fit sends place [] is = All-nil (Fits senders receivers)
  all_fit sends place (r ∷ rs) is = by (fits_it s r) refl (all_fit sends (place + 1) rs (drop_next receivers place r rs is))
    where
      by : (b : Bool) → fits_it s r ≡ b → All (Fits senders receivers) (pairs_from s i (place + 1) rs) → All (Fits senders receivers) (more r place rs b)
      by true passes later = All-cons (Fits senders receivers) (pair i place) (pairs_from s i (place + 1) rs) (fits senders receivers s r i place sends (at_head receivers place r rs is) passes) later
      by false fails later = later

  -- all of this sender, and of receives from the place on
  pub record IsFrom (place : ℕ) (p : Pair) : Type 0 where
    pub sender : p.sender ≡ i
    pub receiver : place ≤ p.receiver

  all_from : (place : ℕ) (rs : List Receiver) → All (IsFrom place) (pairs_from s i place rs)
  all_from place [] = All-nil (IsFrom place)
  all_from place (r ∷ rs) = by (fits_it s r) (All-weaker (IsFrom (place + 1)) (IsFrom place) (λ p from. record { sender = from.sender; receiver = omega (arith, from.receiver) }) (pairs_from s i (place + 1) rs) (all_from (place + 1) rs))
    where
      by : (b : Bool) → All (IsFrom place) (pairs_from s i (place + 1) rs) → All (IsFrom place) (more r place rs b)
      by true later = All-cons (IsFrom place) (pair i place) (pairs_from s i (place + 1) rs) (record { sender = refl; receiver = omega arith }) later
      by false later = later

  all_rise : (place : ℕ) (rs : List Receiver) → AllPairs (Before senders) (pairs_from s i place rs)
  all_rise place [] = λ k j d before within. absurd (omega (arith, within))
  all_rise place (r ∷ rs) = by (fits_it s r) (all_rise (place + 1) rs)
    where
      after : (p : Pair) → IsFrom (place + 1) p → Before senders (pair i place) p
      after p from = inr (ap (wire_of senders) (sym from.sender), inr (sym from.sender, omega (arith, from.receiver)))

      by : (b : Bool) → AllPairs (Before senders) (pairs_from s i (place + 1) rs) → AllPairs (Before senders) (more r place rs b)
      by true later =
          AllPairs-cons (Before senders) (pair i place) (pairs_from s i (place + 1) rs)
          (All-weaker (IsFrom (place + 1)) (Before senders (pair i place)) after (pairs_from s i (place + 1) rs) (all_from (place + 1) rs)) later
      by false later = later

  all_there : (place : ℕ) (rs : List Receiver) → drop place receivers ≡ rs → (j : ℕ) (r : Receiver) → place ≤ j → slice_get receivers j ≡ Some r → fits_it s r ≡ true → Contains (pairs_from s i place rs) (pair i j)
  all_there place [] is j r from receives passes = absurd (none_past receivers place j r from is receives)
  all_there place (x ∷ rs) is j r from receives passes = by (split j from) (fits_it s x) refl (λ later. all_there (place + 1) rs (drop_next receivers place x rs is) j r later receives passes)
    where
      split : (n : ℕ) → place ≤ n → (place ≡ n) ⊎ (place + 1 ≤ n)
      split n h = grind arith

      by : (place ≡ j) ⊎ (place + 1 ≤ j) → (b : Bool) → fits_it s x ≡ b → (place + 1 ≤ j → Contains (pairs_from s i (place + 1) rs) (pair i j)) → Contains (more x place rs b) (pair i j)
      by (inl here) true is_so later =
          subst (λ (n : ℕ). Contains (pair i place ∷ pairs_from s i (place + 1) rs) (pair i n)) here (Contains-append_left (pair i place ∷ []) (pairs_from s i (place + 1) rs) (pair i place) (0, omega arith, refl))
      by (inl here) false is_so later =
          let same : Some x ≡ Some r = sym (at_head receivers place x rs is) ∙ (ap (slice_get receivers) here ∙ receives) in
          let one : x ≡ r = cc in
          absurd (false≢true (sym is_so ∙ (ap (fits_it s) one ∙ passes)))
      by (inr after) true is_so later = Contains-append_right (pair i place ∷ []) (pairs_from s i (place + 1) rs) (pair i j) (later after)
      by (inr after) false is_so later = later after

-- All senders

module _ (senders : List Sender) (receivers : List Receiver) where
  of_turn : (t : Turn) (s : Sender) → slice_get senders t.sender ≡ Some s → pairs_of senders receivers t ≡ pairs_from s t.sender 0 receivers
  of_turn t s is = ap (λ (o : Option Sender). option_map_or (λ x. pairs_from x t.sender 0 receivers) o []) is

  at_turn : (Q : List Pair → Type 0) (t : Turn) (known : IsTurn senders t) → Q (pairs_from known.sender t.sender 0 receivers) → Q (pairs_of senders receivers t)
  at_turn Q t known q = subst Q (sym (of_turn t known.sender known.there)) q

  turn_fits : (t : Turn) → IsTurn senders t → All (Fits senders receivers) (pairs_of senders receivers t)
  turn_fits t known = at_turn (All (Fits senders receivers)) t known (all_fit senders receivers known.sender t.sender known.there 0 receivers refl)

  turn_rises : (t : Turn) → IsTurn senders t → AllPairs (Before senders) (pairs_of senders receivers t)
  turn_rises t known = at_turn (AllPairs (Before senders)) t known (all_rise senders receivers known.sender t.sender 0 receivers)

  wire_at : (t : Turn) → IsTurn senders t → wire_of senders t.sender ≡ t.wire
  wire_at t known = ap (λ (o : Option Sender). unwrap_or (option_map (λ s. s.wire) o) 0) known.there ∙ known.wire

  turn_from : (t : Turn) → IsTurn senders t → All (λ p. p.sender ≡ t.sender) (pairs_of senders receivers t)
  turn_from t known =
      at_turn (All (λ p. p.sender ≡ t.sender)) t known
      (All-weaker (IsFrom senders receivers known.sender t.sender 0) (λ p. p.sender ≡ t.sender) (λ p from. from.sender) (pairs_from known.sender t.sender 0 receivers) (all_from senders receivers known.sender t.sender 0 receivers))

  across : (t u : Turn) → IsTurn senders t → IsTurn senders u → TurnBefore t u → All (λ p. All (Before senders p) (pairs_of senders receivers u)) (pairs_of senders receivers t)
  across t u is_t is_u order =
      All-weaker (λ p. p.sender ≡ t.sender) (λ p. All (Before senders p) (pairs_of senders receivers u))
      (λ p of_t. All-weaker (λ q. q.sender ≡ u.sender) (Before senders p) (λ q of_u. before p q of_t of_u order) (pairs_of senders receivers u) (turn_from u is_u))
      (pairs_of senders receivers t) (turn_from t is_t)
    where
      before : (p q : Pair) → p.sender ≡ t.sender → q.sender ≡ u.sender → TurnBefore t u → Before senders p q
      before p q of_t of_u (inl below) =
          let first : wire_of senders p.sender ≡ t.wire = ap (wire_of senders) of_t ∙ wire_at t is_t in
          let second : wire_of senders q.sender ≡ u.wire = ap (wire_of senders) of_u ∙ wire_at u is_u in
          inl (omega (arith, first, second, below))
      before p q of_t of_u (inr (same, below)) =
          inr (ap (wire_of senders) of_t ∙ (wire_at t is_t ∙ (same ∙ (sym (wire_at u is_u) ∙ sym (ap (wire_of senders) of_u)))), inl (omega (arith, of_t, of_u, below)))

  -- one turn more
  pub turn_more : (turns : List Turn) (n : ℕ) (d : Turn) (s : Sender) (old new : List Pair) → n < length turns
      → s ≡ get_or senders (get_or turns n d).sender s → (get_or turns n d).sender < length senders
      → old ≡ flat_map (pairs_of senders receivers) (take n turns) → new ≡ old ++ pairs_from s (get_or turns n d).sender 0 receivers
      → new ≡ flat_map (pairs_of senders receivers) (take (n + 1) turns)
  turn_more turns n d s old new within is there so_far added =
      let found : slice_get senders (get_or turns n d).sender ≡ Some s = slice_get-get_or senders (get_or turns n d).sender s there ∙ ap (λ x. Some x) (sym is) in
      added
      ∙ ((λ i. so_far i ++ sym (of_turn (get_or turns n d) s found) i)
      ∙ (sym (ap (λ l. flat_map (pairs_of senders receivers) (take n turns) ++ l) (append-nil (pairs_of senders receivers (get_or turns n d))))
      ∙ (sym (flat_map-append (pairs_of senders receivers) (take n turns) (get_or turns n d ∷ []))
      ∙ sym (ap (flat_map (pairs_of senders receivers)) (take_more turns n d within)))))

  pub are_matches : (turns : List Turn) → AreTurns senders turns → AreMatches senders receivers (flat_map (pairs_of senders receivers) turns)
  are_matches turns are = record {
    ordered = pairs_flat (pairs_of senders receivers) (IsTurn senders) TurnBefore (Before senders) turn_rises across turns are.known are.ordered;
    fit = all_flat (pairs_of senders receivers) (IsTurn senders) (Fits senders receivers) turn_fits turns are.known;
    every = λ p f.
        let known : IsTurn senders (turn f.sender.wire p.sender) = record { sender = f.sender; there = f.sends; wire = refl } in
        contained_flat (pairs_of senders receivers) turns (turn f.sender.wire p.sender) p (are.every p.sender f.sender f.sends)
        (at_turn (λ l. Contains l p) (turn f.sender.wire p.sender) known
        (all_there senders receivers f.sender p.sender 0 receivers refl p.receiver f.receiver (omega arith) f.receives (tested senders receivers f.sender p f refl)));
  }
