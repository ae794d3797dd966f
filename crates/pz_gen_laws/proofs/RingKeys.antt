-- No two parts of a ring have one name, and no end stands twice.
use Rattle.std.proofs.Common.{◌≡◌, ◌≢◌, refl, sym, ◌∙◌, ap, ℕ, ◌+◌, ◌≤◌, ◌<◌, ◌^◌, Bool, false, ◌==◌, List, [], ◌∷◌, map, codes, bytes_eq, true≢false, arith, ne_eqb, lit≤, lt_of_lt_of_le}
use Rattle.std.specs.List.{AllByRecursion, flat_map}
use Rattle.std.proofs.lemmas.Bool.{cond-false, cond_both, eqb-false}
use Rattle.pz_lexer.specs.Bytes.{begins}
use Rattle.pz_gen.specs.Ring.{name, next}
use Rattle.pz_gen_laws.specs.devices.RingBits.{stations}
use Rattle.pz_gen_laws.specs.devices.RingParts.{Key, part_names, ring_keys, halted_key, halting_keys, all_keys, NotAmong, AreDistinct}
use Rattle.pz_gen_laws.proofs.Names.{name_injective}
use Rattle.pz_gen_laws.proofs.Distinct.{differ, distinct_append, distinct_range, distinct_map}

-- it begins with the letter of a station
abbrev pub begins_s : List ℕ → Bool
begins_s = begins (λ b. b == 115)

module _ where
  pub name_is_not : (i : ℕ) (x : List ℕ) → begins_s x ≡ false → name i ≢ x
  name_is_not i x other same = true≢false (ap begins_s same ∙ other)

  is_short : (i n : ℕ) → i < n → n ≤ 1000 → i < 2 ^ 64
  is_short i n low few = lt_of_lt_of_le (lt_of_lt_of_le low few) (lit≤ tt)

  name_differs : (i j n : ℕ) → i < n → j < n → n ≤ 1000 → i ≢ j → name i ≢ name j
  name_differs i j n low high few differ same = differ (name_injective i j (is_short i n low few) (is_short j n high few) same)

  next_is : (n i j : ℕ) → i < j → j < n → next n i ≡ i + 1
  next_is n i j less low = cond-false (i + 1 == n) 0 (i + 1) (ne_eqb (i + 1) n (λ e. omega arith))

  pub next_below : (n i : ℕ) → i < n → next n i < n
  next_below n i low = cond_both (i + 1 == n) 0 (i + 1) (λ v. v < n) (λ _. omega arith) (λ f. let apart : i + 1 ≢ n = eqb-false (i + 1) n f in omega (arith, apart))

  next_differs : (n i j : ℕ) → i < j → j < n → next n i ≢ next n j
  next_differs n i j less low same =
      let other : next n j ≡ i + 1 → ⊥ = cond_both (j + 1 == n) 0 (j + 1) (λ v. v ≡ i + 1 → ⊥) (λ _ e. omega arith) (λ _ e. omega arith) in
      other (sym same ∙ next_is n i j less low)

  other_name : (x y p q : List ℕ) → x ≢ y → ◌≢◌ {A = Key} (x, p) (y, q)
  other_name x y p q apart same = apart (ap (λ (k : Key). k.0) same)

  other_port : (x y p q : List ℕ) → bytes_eq p q ≡ false → ◌≢◌ {A = Key} (x, p) (y, q)
  other_port x y p q apart same = differ p q apart (ap (λ (k : Key). k.1) same)

  last_name : (is : List ℕ) → AllByRecursion (λ (x : List ℕ). NotAmong x (codes "v" ∷ [])) (map name is)
  last_name [] = tt
  last_name (i ∷ is) = ((name_is_not i (codes "v") refl, tt), last_name is)

  pub names_distinct : (n : ℕ) → n ≤ 1000 → AreDistinct (part_names (stations n))
  names_distinct n few =
      distinct_append (map name (stations n)) (codes "v" ∷ [])
      (distinct_map name n (λ i j less low. name_differs i j n (omega arith) low few (λ e. omega arith)))
      (tt, tt) (last_name (stations n))

  keys_own : (n i : ℕ) → AreDistinct (ring_keys n i)
  keys_own n i = ((other_port (name i) (name (next n i)) (codes "right") (codes "left") refl, tt), (tt, tt))

  keys_across : (n : ℕ) → n ≤ 1000 → (i j : ℕ) → i < j → j < n → AllByRecursion (λ (x : Key). NotAmong x (ring_keys n j)) (ring_keys n i)
  keys_across n few i j less low =
      let here : i < n = omega arith in
      let names : name i ≢ name j = name_differs i j n here low few (λ e. omega arith) in
      let nexts : name (next n i) ≢ name (next n j) = name_differs (next n i) (next n j) n (next_below n i here) (next_below n j low) few (next_differs n i j less low) in (
        (other_name (name i) (name j) (codes "right") (codes "right") names, (other_port (name i) (name (next n j)) (codes "right") (codes "left") refl, tt)),
        ((other_port (name (next n i)) (name j) (codes "left") (codes "right") refl, (other_name (name (next n i)) (name (next n j)) (codes "left") (codes "left") nexts, tt)), tt),
      )

  -- ---- the ends at `sup`

  first_key : (is : List ℕ) → NotAmong {K = Key} (codes "v", codes "sup") (map halted_key is)
  first_key [] = tt
  first_key (i ∷ is) = (other_name (codes "v") (name i) (codes "sup") (codes "sup") (λ e. name_is_not i (codes "v") refl (sym e)), first_key is)

  halting_distinct : (n : ℕ) → n ≤ 1000 → AreDistinct (halting_keys (stations n))
  halting_distinct n few = (
    first_key (stations n),
    distinct_map halted_key n (λ i j less low. other_name (name i) (name j) (codes "sup") (codes "sup") (name_differs i j n (omega arith) low few (λ e. omega arith))),
  )

  HasPort : List ℕ → Key → Type 0
  HasPort p k = k.1 ≡ p

  at_sup : (is : List ℕ) → AllByRecursion (HasPort (codes "sup")) (map halted_key is)
  unfolding HasPort
  at_sup [] = tt
  at_sup (i ∷ is) = (refl, at_sup is)

  not_sup : (n : ℕ) (is : List ℕ) → AllByRecursion (λ (k : Key). bytes_eq k.1 (codes "sup") ≡ false) (flat_map (ring_keys n) is)
  not_sup n [] = tt
  not_sup n (i ∷ is) = (refl, (refl, not_sup n is))

  apart_from : (k : Key) (ys : List Key) (p : List ℕ) → bytes_eq k.1 p ≡ false → AllByRecursion (HasPort p) ys → NotAmong k ys
  unfolding HasPort
  apart_from k [] p other all = tt
  apart_from k (y ∷ ys) p other all = ((λ e. differ k.1 p other (ap (λ (l : Key). l.1) e ∙ all.0)), apart_from k ys p other all.1)

  ports_apart : (xs ys : List Key) (p : List ℕ) → AllByRecursion (λ (k : Key). bytes_eq k.1 p ≡ false) xs → AllByRecursion (HasPort p) ys → AllByRecursion (λ (x : Key). NotAmong x ys) xs
  ports_apart [] ys p one other = tt
  ports_apart (x ∷ xs) ys p one other = (apart_from x ys p one.0 other, ports_apart xs ys p one.1 other)

  halting_at_sup : (is : List ℕ) → AllByRecursion (HasPort (codes "sup")) (halting_keys is)
  unfolding HasPort
  halting_at_sup is = (refl, at_sup is)

  pub keys_distinct : (n : ℕ) → n ≤ 1000 → AreDistinct (all_keys n (stations n))
  keys_distinct n few =
      distinct_append (flat_map (ring_keys n) (stations n)) (halting_keys (stations n))
      (distinct_range (ring_keys n) n (λ i low. keys_own n i) (keys_across n few) 0 n (omega arith))
      (halting_distinct n few)
      (ports_apart (flat_map (ring_keys n) (stations n)) (halting_keys (stations n)) (codes "sup") (not_sup n (stations n)) (halting_at_sup (stations n)))
