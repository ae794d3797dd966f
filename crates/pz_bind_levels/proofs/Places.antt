-- No two things stand at one place.
use Rattle.std.proofs.Common.{◌≡◌, ◌≢◌, refl, sym, ap, ◌∙◌, ℕ, zero, suc, ◌-◌, ◌≤◌, Bool, true, false, List, [], ◌∷◌, ◌++◌, length, drop, Option, Some, if◌then◌else◌, slice_get, arith}
use Rattle.std.specs.Option.{is_some}
use Rattle.std.specs.List.{flat_map}
use Rattle.pz_bind_levels.specs.declared.plan.LevelPart.{LevelPart}
use Rattle.pz_bind_levels.specs.Layouts.{Layout, layout}
use Rattle.pz_bind_levels.specs.Places.{Address, Spot, spot, the_system, with_inside, each_part, inside, spots, levels, layout_at}
use Rattle.pz_bind_levels.specs.Wires.{Channel, channel, joined_by, ending, wires_of, wires}
use Rattle.pz_bind_levels.proofs.Pairs.{Each, each_append, no_each, one_each, each_implied, Pairs, no_pairs, one_pairs, pairs_append, pairs_filter, once}

-- the outermost d numbers of a place
abbrev outermost : ℕ → Address → Address
outermost d place = drop (length place - d) place

drop_next : (n : ℕ) (xs : List ℕ) → drop (suc n) xs ≡ drop 1 (drop n xs)
drop_next zero xs = refl
drop_next (suc n) [] = refl
drop_next (suc n) (x ∷ xs) = drop_next n xs

-- in part i of the level at this place
abbrev In : Address → ℕ → Spot → Type 0
In up i s = (suc (length up) ≤ length s.place) × (outermost (suc (length up)) s.place ≡ i ∷ up)

-- deeper than this place, in the level there
abbrev Below : Address → Spot → Type 0
Below up s = (suc (length up) ≤ length s.place) × (outermost (length up) s.place ≡ up)

abbrev InLater : Address → ℕ → Spot → Type 0
InLater up i s = (j : ℕ) × (i ≤ j) × In up j s

abbrev Apart : Spot → Spot → Type 0
Apart s t = s.place ≢ t.place

below_in : (up : Address) (i : ℕ) (s : Spot) → In up i s → Below up s
below_in up i s (deep, is) =
    let more : length s.place - length up ≡ suc (length s.place - suc (length up)) = omega arith in
    (deep, ap (λ n. drop n s.place) more ∙ (drop_next (length s.place - suc (length up)) s.place ∙ ap (λ (xs : List ℕ). drop 1 xs) is))

module _ (layouts : List Layout) where
  block_in : (inside : ℕ → Address → List Spot) → ((class : ℕ) (up : Address) → Each (Below up) (inside class up)) → (up : Address) (i : ℕ) (p : LevelPart) → Each (In up i) (with_inside inside up i p)
  block_in inside all up i p = one_each (In up i) (spot up i p) (if p.is_level then inside p.class (i ∷ up) else []) here (rest p.is_level)
    where
      none_left : suc (length up) - suc (length up) ≡ 0
      none_left = omega arith

      here : In up i (spot up i p)
      here = (omega arith, ap (λ n. drop n (i ∷ up)) none_left)

      rest : (b : Bool) → Each (In up i) (if b then inside p.class (i ∷ up) else [])
      rest true = each_implied (Below (i ∷ up)) (In up i) (λ s (deep, is). (omega arith, is)) (inside p.class (i ∷ up)) (all p.class (i ∷ up))
      rest false = no_each (In up i)

  later_in : (f : ℕ → LevelPart → List Spot) (up : Address) → ((i : ℕ) (p : LevelPart) → Each (In up i) (f i p)) → (i : ℕ) (ps : List LevelPart) → Each (InLater up i) (each_part f i ps)
  later_in f up all i [] = no_each (InLater up i)
  later_in f up all i (p ∷ ps) =
      each_append (InLater up i) (f i p) (each_part f (suc i) ps)
      (each_implied (In up i) (InLater up i) (λ s is. (i, omega arith, is)) (f i p) (all i p))
      (each_implied (InLater up (suc i)) (InLater up i) (λ s (j, more, is). (j, omega arith, is)) (each_part f (suc i) ps) (later_in f up all (suc i) ps))

  inside_below : (levels class : ℕ) (up : Address) → Each (Below up) (inside layouts levels class up)
  inside_below zero class up = no_each (Below up)
  inside_below (suc levels) class up =
      each_implied (InLater up 0) (Below up) (λ s (j, more, is). below_in up j s is) (each_part (with_inside (inside layouts levels) up) 0 (layout layouts class).parts)
      (later_in (with_inside (inside layouts levels) up) up (block_in (inside layouts levels) (inside_below levels) up) 0 (layout layouts class).parts)

  parts_apart : (f : ℕ → LevelPart → List Spot) (up : Address) → ((i : ℕ) (p : LevelPart) → Each (In up i) (f i p)) → ((i : ℕ) (p : LevelPart) → Pairs Apart (f i p)) → (i : ℕ) (ps : List LevelPart) → Pairs Apart (each_part f i ps)
  parts_apart f up all apart i [] = no_pairs Apart
  parts_apart f up all apart i (p ∷ ps) = pairs_append Apart (f i p) (each_part f (suc i) ps) (apart i p) (parts_apart f up all apart (suc i) ps)
      (each_implied (In up i) (λ s. Each (Apart s) (each_part f (suc i) ps)) (λ s is. each_implied (InLater up (suc i)) (Apart s) (λ t later. differ s t is later) (each_part f (suc i) ps) (later_in f up all (suc i) ps)) (f i p) (all i p))
    where
      differ : (s t : Spot) → In up i s → InLater up (suc i) t → Apart s t
      differ s t (deep, is) (j, more, (deeper, other)) same =
          let both : i ∷ up ≡ j ∷ up = sym is ∙ (ap (outermost (suc (length up))) same ∙ other) in
          let wrong : i ≡ j = cc in
          omega arith

  inside_apart : (levels class : ℕ) (up : Address) → Pairs Apart (inside layouts levels class up)
  inside_apart zero class up = no_pairs Apart
  inside_apart (suc levels) class up = parts_apart (with_inside (inside layouts levels) up) up (block_in (inside layouts levels) (inside_below levels) up) (λ i p. block_apart (inside_apart levels) i p) 0 (layout layouts class).parts
    where
      block_apart : ((class : ℕ) (up : Address) → Pairs Apart (inside layouts levels class up)) → (i : ℕ) (p : LevelPart) → Pairs Apart (with_inside (inside layouts levels) up i p)
      block_apart all i p = by_test p.is_level
        where
          longer : (s t : Spot) → suc (length s.place) ≤ length t.place → Apart s t
          longer s t more same = let lengths : length s.place ≡ length t.place = ap (λ (xs : List ℕ). length xs) same in omega arith

          by_test : (b : Bool) → Pairs Apart (spot up i p ∷ (if b then inside layouts levels p.class (i ∷ up) else []))
          by_test true = one_pairs Apart (spot up i p) (inside layouts levels p.class (i ∷ up))
              (each_implied (Below (i ∷ up)) (Apart (spot up i p)) (λ t (deep, is). longer (spot up i p) t deep) (inside layouts levels p.class (i ∷ up)) (inside_below levels p.class (i ∷ up)))
              (all p.class (i ∷ up))
          by_test false = one_pairs Apart (spot up i p) [] (no_each (Apart (spot up i p))) (no_pairs Apart)

  module _ (system : ℕ) where
    pub levels_apart : Pairs Apart (levels layouts system)
    levels_apart = pairs_filter Apart (λ s. s.is_level) (spots layouts system) all
      where
        deeper : (s : Spot) → Below [] s → Apart (the_system system) s
        deeper s (deep, is) same = let lengths : 0 ≡ length s.place = ap (λ (xs : List ℕ). length xs) same in omega arith

        all : Pairs Apart (spots layouts system)
        all = one_pairs Apart (the_system system) (inside layouts (length layouts - 1) system [])
            (each_implied (Below []) (Apart (the_system system)) deeper (inside layouts (length layouts - 1) system []) (inside_below (length layouts - 1) system []))
            (inside_apart (length layouts - 1) system [])

    -- a channel of the level at this place, from this number on
    abbrev From : Address → ℕ → Channel → Type 0
    From place k c = (c.place ≡ place) × (k ≤ c.number)

    abbrev Differ : Channel → Channel → Type 0
    Differ c d = c ≢ d

    ending_from : (place : Address) (k : ℕ) (ports : List (Option ℕ)) → Each (From place k) (ending layouts system place k ports)
    ending_from place k [] = no_each (From place k)
    ending_from place k (port ∷ ports) = by_test (each_implied (From place (suc k)) (From place k) (λ c (at, more). (at, omega arith)) (ending layouts system place (suc k) ports) (ending_from place (suc k) ports)) (is_some (joined_by layouts system place port))
      where
        by_test : Each (From place k) (ending layouts system place (suc k) ports) → (b : Bool) → Each (From place k) ((if b then [] else channel place k ∷ []) ++ ending layouts system place (suc k) ports)
        by_test rest true = rest
        by_test rest false = one_each (From place k) (channel place k) (ending layouts system place (suc k) ports) (refl, omega arith) rest

    ending_apart : (place : Address) (k : ℕ) (ports : List (Option ℕ)) → Pairs Differ (ending layouts system place k ports)
    ending_apart place k [] = no_pairs Differ
    ending_apart place k (port ∷ ports) = by_test (ending_apart place (suc k) ports) (is_some (joined_by layouts system place port))
      where
        later : (c : Channel) → From place (suc k) c → Differ (channel place k) c
        later c (at, more) same = let numbers : k ≡ c.number = ap (λ (d : Channel). d.number) same in omega arith

        by_test : Pairs Differ (ending layouts system place (suc k) ports) → (b : Bool) → Pairs Differ ((if b then [] else channel place k ∷ []) ++ ending layouts system place (suc k) ports)
        by_test rest true = rest
        by_test rest false = one_pairs Differ (channel place k) (ending layouts system place (suc k) ports) (each_implied (From place (suc k)) (Differ (channel place k)) later (ending layouts system place (suc k) ports) (ending_from place (suc k) ports)) rest

    of_levels : (ss : List Spot) → Pairs Apart ss → Pairs Differ (flat_map (wires_of layouts system) ss)
    unfolding Pairs Each
    of_levels [] all = no_pairs Differ
    of_levels (s ∷ ss) (here, all) = pairs_append Differ (wires_of layouts system s) (flat_map (wires_of layouts system) ss) (ending_apart s.place 0 (layout_at layouts system s.place).outer) (of_levels ss all)
        (each_implied (From s.place 0) (λ c. Each (Differ c) (flat_map (wires_of layouts system) ss)) (λ c (at, more). cross ss here c at) (wires_of layouts system s) (ending_from s.place 0 (layout_at layouts system s.place).outer))
      where
        cross : (ts : List Spot) → Each (Apart s) ts → (c : Channel) → c.place ≡ s.place → Each (Differ c) (flat_map (wires_of layouts system) ts)
        cross [] apart c at = no_each (Differ c)
        cross (t ∷ ts) (apart, rest) c at = each_append (Differ c) (wires_of layouts system t) (flat_map (wires_of layouts system) ts)
            (each_implied (From t.place 0) (Differ c) (λ d (there, more) same. apart (sym at ∙ (ap (λ (e : Channel). e.place) same ∙ there))) (wires_of layouts system t) (ending_from t.place 0 (layout_at layouts system t.place).outer))
            (cross ts rest c at)

    -- each wire stands once
    pub wires_once : (n m : ℕ) (c : Channel) → slice_get (wires layouts system) n ≡ Some c → slice_get (wires layouts system) m ≡ Some c → n ≡ m
    wires_once n m c at other = once (wires layouts system) (of_levels (levels layouts system) levels_apart) n m c at other
