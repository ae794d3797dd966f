-- What stands in the cells: a list, and behind it the cells of its sums of neighbours.
use Rattle.std.proofs.Common.{◌≡◌, ℕ, zero, suc, ◌-◌, ◌/◌, ◌<◌, ◌≤◌, List, [], ◌∷◌, ◌++◌, length, set, get_or, take, drop, replicate, Option, Some, None, Result, Ok, Err, refl, sym, ap, subst, ◌∙◌, arith}
use Rattle.std.specs.Prelude.{slice_get, OnOk, OnErr}
use Rattle.std.proofs.lemmas.List.{append-nil, append_assoc, take-append-drop, length-append, length-set, length-replicate, length-take-le, drop_all}
use Rattle.pz_sim_totals.specs.declared.total.Total.{Total}
use Rattle.pz_sim_totals.specs.Sums.{none, both, all}
use Rattle.pz_sim_totals.specs.devices.Levels.{pairs, levels, AreLevels}
use Rattle.pz_sim_totals.proofs.Pairing.{both_right, pairs_all, length_pairs, pairs_replicate, pairs_set}

front_of : (ts us : List Total) → take (length ts) (ts ++ us) ≡ ts
front_of [] us = refl
front_of (t ∷ ts) us = ap (λ vs. t ∷ vs) (front_of ts us)

behind : (ts us : List Total) → drop (length ts) (ts ++ us) ≡ us
behind [] us = refl
behind (t ∷ ts) us = behind ts us

levels_more : (f g : ℕ) (ts : List Total) → length ts ≤ f → length ts ≤ g → levels f ts ≡ levels g ts
levels_more zero zero ts a b = refl
levels_more zero (suc g) [] a b = refl
levels_more zero (suc g) (t ∷ ts) a b = absurd (omega (arith, a))
levels_more (suc f) zero [] a b = refl
levels_more (suc f) zero (t ∷ ts) a b = absurd (omega (arith, b))
levels_more (suc f) (suc g) [] a b = refl
levels_more (suc f) (suc g) (t ∷ []) a b = refl
levels_more (suc f) (suc g) (s ∷ (t ∷ ts)) a b =
    let long = length_pairs ts in
    ap (λ us. (s ∷ (t ∷ ts)) ++ us) (levels_more f g (both s t ∷ pairs ts) (omega (arith, a, long)) (omega (arith, b, long)))

-- one level, and those above
pub raise : (ts : List Total) → 1 < length ts → levels (length ts) ts ≡ ts ++ levels (length ts - length ts / 2) (pairs ts)
raise [] lt = absurd (omega (arith, lt))
raise (t ∷ []) lt = absurd (omega (arith, lt))
raise (s ∷ (t ∷ ts)) lt =
    let long = length_pairs (s ∷ (t ∷ ts)) in
    ap (λ us. (s ∷ (t ∷ ts)) ++ us) (levels_more (suc (length ts)) (length (s ∷ (t ∷ ts)) - length (s ∷ (t ∷ ts)) / 2) (both s t ∷ pairs ts) (let rest = length_pairs ts in omega (arith, rest)) (omega (arith, long)))

pub flat : (ts : List Total) → length ts ≤ 1 → levels (length ts) ts ≡ ts
flat [] le = refl
flat (t ∷ []) le = refl
flat (s ∷ (t ∷ ts)) le = absurd (omega (arith, le))

levels_begin : (f : ℕ) (ts : List Total) → (us : List Total) × (levels f ts ≡ ts ++ us)
levels_begin zero ts = ([], sym (append-nil ts))
levels_begin (suc f) [] = ([], refl)
levels_begin (suc f) (t ∷ []) = ([], refl)
levels_begin (suc f) (s ∷ (t ∷ ts)) = (levels f (both s t ∷ pairs ts), refl)

levels_end : (f : ℕ) (ts : List Total) → length ts ≤ f → 0 < length ts → (us : List Total) × (levels f ts ≡ us ++ all ts ∷ [])
levels_end zero ts le lt = absurd (omega (arith, le, lt))
levels_end (suc f) [] le lt = absurd (omega (arith, lt))
levels_end (suc f) (t ∷ []) le lt = ([], ap (λ s. s ∷ []) (sym (both_right t)))
levels_end (suc f) (s ∷ (t ∷ ts)) le lt =
    let long = length_pairs ts in
    let above = levels_end f (both s t ∷ pairs ts) (omega (arith, le, long)) (omega arith) in
    ((s ∷ (t ∷ ts)) ++ above.0, ap (λ us. (s ∷ (t ∷ ts)) ++ us) (above.1 ∙ ap (λ sum. above.0 ++ sum ∷ []) (pairs_all (s ∷ (t ∷ ts)))) ∙ sym (append_assoc (s ∷ (t ∷ ts)) above.0 (all (s ∷ (t ∷ ts)) ∷ [])))

-- a list and the cells that it has
module _ (n : ℕ) (ts cells : List Total) (long : length ts ≡ n) (is : cells ≡ levels n ts) where
  begins : (us : List Total) × (cells ≡ ts ++ us)
  begins = let b = levels_begin n ts in (b.0, is ∙ b.1)

  pub of_list : take n cells ≡ ts
  of_list = let b = begins in subst (λ k. take k cells ≡ ts) long (ap (λ us. take (length ts) us) b.1 ∙ front_of ts b.0)

  pub are_levels : AreLevels n cells
  are_levels = record {
    long = let b = begins in let whole = ap length b.1 in let two = length-append ts b.0 in omega (arith, long, whole, two);
    sums = is ∙ ap (λ us. levels n us) (sym of_list);
  }

module _ (n : ℕ) (cells : List Total) (are : AreLevels n cells) where
  pub listed : length (take n cells) ≡ n
  listed = let le = are.long in length-take-le n cells le

  is : levels (length (take n cells)) (take n cells) ≡ cells
  is = ap (λ k. levels k (take n cells)) listed ∙ sym are.sums

  pub flat_cells : n ≤ 1 → take n cells ≡ cells
  flat_cells le = let long = listed in sym (flat (take n cells) (omega (arith, long, le))) ∙ is

  module _ (two : 1 < n) where
    pub over : drop n cells ≡ levels (n - n / 2) (pairs (take n cells))
    over =
        let long = listed in
        let cut : take n cells ++ drop n cells ≡ take n cells ++ levels (n - n / 2) (pairs (take n cells)) =
        take-append-drop n cells ∙ sym is ∙ raise (take n cells) (omega (arith, long, two)) ∙ ap (λ k. take n cells ++ levels (k - k / 2) (pairs (take n cells))) listed in
        sym (behind (take n cells) (drop n cells)) ∙ ap (λ us. drop (length (take n cells)) us) cut ∙ behind (take n cells) (levels (n - n / 2) (pairs (take n cells)))

    over_long : length (pairs (take n cells)) ≡ n - n / 2
    over_long = length_pairs (take n cells) ∙ ap (λ k. k - k / 2) listed

    pub over_levels : AreLevels (n - n / 2) (drop n cells)
    over_levels = are_levels (n - n / 2) (pairs (take n cells)) (drop n cells) over_long over

    pub over_list : take (n - n / 2) (drop n cells) ≡ pairs (take n cells)
    over_list = of_list (n - n / 2) (pairs (take n cells)) (drop n cells) over_long over

    -- one is another, and so is its sum
    pub mended : (i : ℕ) (t d : Total) (above : List Total) → i < n → above ≡ levels (n - n / 2) (set (take (n - n / 2) (drop n cells)) (i / 2) (get_or (pairs (set (take n cells) i t)) (i / 2) d))
        → set (take n cells) i t ++ above ≡ levels n (set (take n cells) i t)
    mended i t d above lt new =
        let long = listed in
        let size : length (set (take n cells) i t) ≡ n = length-set (take n cells) i t ∙ long in
        let changed : above ≡ levels (n - n / 2) (pairs (set (take n cells) i t)) =
        new ∙ ap (λ us. levels (n - n / 2) (set us (i / 2) (get_or (pairs (set (take n cells) i t)) (i / 2) d))) over_list
        ∙ ap (λ us. levels (n - n / 2) us) (pairs_set (take n cells) i t d (omega (arith, long, lt))) in
        ap (λ us. set (take n cells) i t ++ us) changed
        ∙ ap (λ k. set (take n cells) i t ++ levels (k - k / 2) (pairs (set (take n cells) i t))) (sym size)
        ∙ sym (raise (set (take n cells) i t) (omega (arith, size, two)))
        ∙ ap (λ k. levels k (set (take n cells) i t)) size

    pub same_sum : (i : ℕ) (t d : Total) → i < n → all (set (take (n - n / 2) (drop n cells)) (i / 2) (get_or (pairs (set (take n cells) i t)) (i / 2) d)) ≡ all (set (take n cells) i t)
    same_sum i t d lt =
        let long = listed in
        ap (λ us. all (set us (i / 2) (get_or (pairs (set (take n cells) i t)) (i / 2) d))) over_list
        ∙ ap all (pairs_set (take n cells) i t d (omega (arith, long, lt))) ∙ pairs_all (set (take n cells) i t)

    pub over_sum : all (take (n - n / 2) (drop n cells)) ≡ all (take n cells)
    over_sum = ap all over_list ∙ pairs_all (take n cells)

    -- the same of the two parts into which the cells are split
    module _ (front back : List Total) (f : front ≡ take n cells) (b : back ≡ drop n cells) where
      pub split_pairs : take (n - n / 2) back ≡ pairs front
      split_pairs = ap (λ us. take (n - n / 2) us) b ∙ over_list ∙ ap pairs (sym f)

      module _ (i : ℕ) (t sum : Total) (lt : i < n) (is_sum : sum ≡ get_or (pairs (set front i t)) (i / 2) none) where
        new_sum : sum ≡ get_or (pairs (set (take n cells) i t)) (i / 2) none
        new_sum = is_sum ∙ ap (λ us. get_or (pairs (set us i t)) (i / 2) none) f

        pub split_sum : all (set (take (n - n / 2) back) (i / 2) sum) ≡ all (set (take n cells) i t)
        split_sum =
            ap (λ us. all (set (take (n - n / 2) us) (i / 2) sum)) b
            ∙ ap (λ s. all (set (take (n - n / 2) (drop n cells)) (i / 2) s)) new_sum
            ∙ same_sum i t none lt

        pub split_set : (above : List Total) → above ≡ levels (n - n / 2) (set (take (n - n / 2) back) (i / 2) sum) → set front i t ++ above ≡ levels n (set (take n cells) i t)
        split_set above new =
            ap (λ us. set us i t ++ above) f
            ∙ mended i t none above lt (new ∙ ap (λ us. levels (n - n / 2) (set (take (n - n / 2) us) (i / 2) sum)) b ∙ ap (λ s. levels (n - n / 2) (set (take (n - n / 2) (drop n cells)) (i / 2) s)) new_sum)

  pub one_set : (front back above : List Total) → front ≡ take n cells → back ≡ drop n cells → above ≡ back → n ≤ 1 → (i : ℕ) (t : Total) → set front i t ++ above ≡ levels n (set (take n cells) i t)
  one_set front back above f b same le i t =
      let long = listed in
      let whole = ap length (flat_cells le) in
      let none_left : above ≡ [] = same ∙ b ∙ drop_all n cells (omega (arith, long, whole)) in
      let size : length (set (take n cells) i t) ≡ n = length-set (take n cells) i t ∙ long in
      ap (λ us. set us i t ++ above) f ∙ ap (λ us. set (take n cells) i t ++ us) none_left ∙ append-nil (set (take n cells) i t)
      ∙ sym (flat (set (take n cells) i t) (omega (arith, size, le))) ∙ ap (λ k. levels k (set (take n cells) i t)) size

  sum_behind : 0 < n → (us : List Total) × (cells ≡ us ++ all (take n cells) ∷ [])
  sum_behind lt = let long = listed in let e = levels_end n (take n cells) (omega (arith, long)) (omega (arith, long, lt)) in (e.0, are.sums ∙ e.1)

at_end : (us : List Total) (t d : Total) → get_or (us ++ t ∷ []) (length us) d ≡ t
at_end [] t d = refl
at_end (u ∷ us) t d = at_end us t d

sum_last : (n : ℕ) (cells : List Total) → AreLevels n cells → get_or cells (length cells - 1) none ≡ all (take n cells)
sum_last zero cells are = ap (λ us. get_or us (length us - 1) none) are.sums
sum_last (suc n) cells are =
    let s = sum_behind (suc n) cells are (omega arith) in
    let whole = ap length s.1 in
    let parts = length-append s.0 (all (take (suc n) cells) ∷ []) in
    let at : length cells - 1 ≡ length s.0 = omega (arith, whole, parts) in
    ap (λ k. get_or cells k none) at ∙ ap (λ us. get_or us (length s.0) none) s.1 ∙ at_end s.0 (all (take (suc n) cells)) none

abbrev value_of : Option Total → Total
value_of None = none
value_of (Some t) = t

read : (us : List Total) (i : ℕ) → value_of (slice_get us i) ≡ get_or us i none
read [] i = refl
read (u ∷ us) zero = refl
read (u ∷ us) (suc i) = read us i

pub sum_read : (n : ℕ) (cells seen : List Total) → AreLevels n cells → seen ≡ cells → (t : Total) → Some t ≡ slice_get seen (length seen - 1) → t ≡ all (take n cells)
sum_read n cells seen are same t is =
    ap value_of is ∙ read seen (length seen - 1) ∙ ap (λ us. get_or us (length us - 1) none) same ∙ sum_last n cells are

pub on_err : {T E : Type 0} {P : Type 0} (r : Result T E) → P → OnErr r P
on_err (Ok x) p = tt
on_err (Err e) p = p

-- the cells of totals of nothing
pub fresh : (n : ℕ) → 1 < n → replicate n none ++ levels (n - n / 2) (replicate (n - n / 2) none) ≡ levels n (replicate n none)
fresh n lt =
    let long = length-replicate n none in
    ap (λ us. replicate n none ++ levels (n - n / 2) us) (sym (pairs_replicate n))
    ∙ ap (λ k. replicate n none ++ levels (k - k / 2) (pairs (replicate n none))) (sym long)
    ∙ sym (raise (replicate n none) (omega (arith, long, lt)))
    ∙ ap (λ k. levels k (replicate n none)) long

-- what a call that may leave all as it was leaves
module _ {T E : Type 0} (r : Result T E) (n : ℕ) (old new : List Total) (are : AreLevels n old) (i : ℕ) (t : Total) (ok : OnOk r (new ≡ levels n (set (take n old) i t))) where
  size : length (set (take n old) i t) ≡ n
  size = length-set (take n old) i t ∙ listed n old are

  pub set_levels : OnErr r (new ≡ old) → AreLevels n new
  set_levels = by r ok
    where
      by : (r : Result T E) → OnOk r (new ≡ levels n (set (take n old) i t)) → OnErr r (new ≡ old) → AreLevels n new
      by (Ok x) written err = are_levels n (set (take n old) i t) new size written
      by (Err e) written err = subst (AreLevels n) (sym err) are

  pub set_seen : (cells now : List Total) → cells ≡ new → take n old ≡ now → OnOk r (take n cells ≡ set now i t)
  set_seen cells now same seen = by r ok
    where
      by : (r : Result T E) → OnOk r (new ≡ levels n (set (take n old) i t)) → OnOk r (take n cells ≡ set now i t)
      by (Ok x) written = ap (λ us. take n us) same ∙ of_list n (set (take n old) i t) new size written ∙ ap (λ us. set us i t) seen
      by (Err e) written = tt
