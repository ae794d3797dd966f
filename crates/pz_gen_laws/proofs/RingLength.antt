-- How long the text of a ring is at most.
use Rattle.std.proofs.Common.{sym, subst, ℕ, zero, suc, ◌+◌, ◌*◌, ◌≤◌, ◌<◌, ◌==◌, Bool, true, false, List, [], ◌∷◌, ◌++◌, length, codes, arith, length-append, add-le-add, lit≤, lit<, if◌then◌else◌, lt_of_lt_of_le}
use Rattle.std.specs.List.{flat_map, range_with_len}
use Rattle.std.proofs.lemmas.Fmt.{length-decimal-le}
use Rattle.pz_gen.specs.Ring as ring
use Rattle.pz_gen_laws.specs.Rings.{RingsAreShort}
use Rattle.pz_gen_laws.proofs.RingKeys.{next_below}

module _ where
  joined : (x y : List ℕ) (a b : ℕ) → length x ≤ a → length y ≤ b → length (x ++ y) ≤ a + b
  joined x y a b front back = subst (λ (l : ℕ). l ≤ a + b) (sym (length-append x y)) (add-le-add front back)

  name_short : (i : ℕ) → i < 1000 → length (ring.name i) ≤ 4
  name_short i low =
      let digits = length-decimal-le 3 i (lit< tt) low (lt_of_lt_of_le low (lit≤ tt)) in
      omega (arith, digits)

  truth_short : (first : Bool) → length (if first then codes "true" else codes "false") ≤ 5
  truth_short true = lit≤ tt
  truth_short false = lit≤ tt

  station_short : (i : ℕ) → i < 1000 → length (ring.station i) ≤ 31
  station_short i low =
      joined (ring.name i) _ 4 27 (name_short i low)
      (joined (codes " : Station(first := ") _ 20 7 (lit≤ tt) (joined (ring.is_first i) (codes ")\n") 5 2 (truth_short (i == 0)) (lit≤ tt)))

  -- the end of a channel between these texts
  abbrev end_text : List ℕ → ℕ → List ℕ → List ℕ
  end_text before i behind = before ++ (ring.name i ++ behind)

  end_short : (before behind : List ℕ) (i a b : ℕ) → i < 1000 → length before ≤ a → length behind ≤ b → length (end_text before i behind) ≤ a + (4 + b)
  end_short before behind i a b low front back = joined before (ring.name i ++ behind) a (4 + b) front (joined (ring.name i) behind 4 b (name_short i low) back)

  channel_short : (i j : ℕ) → i < 1000 → j < 1000 → length (end_text (codes "{") i (end_text (codes ".right, ") j (codes ".left}\n"))) ≤ 24
  channel_short i j low high =
      end_short (codes "{") (end_text (codes ".right, ") j (codes ".left}\n")) i 1 19 low (lit≤ tt)
      (end_short (codes ".right, ") (codes ".left}\n") j 8 7 high (lit≤ tt) (lit≤ tt))

  halted_short : (i : ℕ) → i < 1000 → length (ring.halted_end i) ≤ 10
  halted_short i low = end_short (codes ", ") (codes ".sup") i 2 4 low (lit≤ tt) (lit≤ tt)

  -- each of these texts has at most b bytes
  each_short : (text : ℕ → List ℕ) (b n : ℕ) → ((i : ℕ) → i < n → length (text i) ≤ b) → (a k : ℕ) → a + k ≤ n → length (flat_map text (range_with_len a k)) ≤ b * k
  each_short text b n short a zero within = omega arith
  each_short text b n short a (suc k) within =
      let all : length (flat_map text (range_with_len a (suc k))) ≤ b + b * k = joined (text a) (flat_map text (range_with_len (a + 1) k)) b (b * k) (short a (omega arith)) (each_short text b n short (a + 1) k (omega arith)) in
      omega (arith, all)

  pub rings_are_short : RingsAreShort
  rings_are_short n few =
      let stations = each_short ring.station 31 n (λ i low. station_short i (lt_of_lt_of_le low few)) 0 n (omega arith) in
      let channels = each_short (ring.channel n) 24 n (λ i low. channel_short i (ring.next n i) (lt_of_lt_of_le low few) (lt_of_lt_of_le (next_below n i low) few)) 0 n (omega arith) in
      let halted = each_short ring.halted_end 10 n (λ i low. halted_short i (lt_of_lt_of_le low few)) 0 n (omega arith) in
      let all : length (ring.model n) ≤ 600 + (31 * n + (24 + (24 * n + (6 + (10 * n + 2))))) =
      joined ring.classes _ 600 _ (lit≤ tt)
      (joined (ring.each n ring.station) _ (31 * n) _ stations
      (joined (ring.lines (codes "v : Supervisor" ∷ codes "channels" ∷ [])) _ 24 _ (lit≤ tt)
      (joined (ring.each n (ring.channel n)) (ring.halting n) (24 * n) _ channels
      (joined (codes "{v.sup") _ 6 _ (lit≤ tt) (joined (ring.each n ring.halted_end) (codes "}\n") (10 * n) 2 halted (lit≤ tt)))))) in
      omega (arith, all, few)
