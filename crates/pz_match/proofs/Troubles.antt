-- The first trouble.
use Rattle.std.proofs.Common.{◌≡◌, ◌≤◌, ◌<◌, ◌+◌, ◌⊎◌, inl, inr, refl, sym, ◌∙◌, ap, ℕ, zero, suc, true, List, [], ◌∷◌, ◌++◌, length, Some, None, if◌then◌else◌, arith}
use Rattle.std.specs.List.{slice_get, flat_map}
use Rattle.std.proofs.lemmas.Bool.{false≢true}
use Rattle.std.proofs.lemmas.List.Concat.{flat_map-append}
use Rattle.std.proofs.lemmas.List.{append-nil, append_assoc}
use Rattle.pz_offer.specs.declared.trouble.Trouble.{Trouble}
use Rattle.pz_offer.specs.declared.ends.Verdict.{Verdict}
use Rattle.pz_offer.specs.declared.ends.Verdict.TheVariants as says
use Rattle.pz_match.specs.declared.groups.Sort.TheVariants.{Troubled}
use Rattle.pz_match.specs.Pairs.{Judged, is_trouble, first_or, first_trouble}
use Rattle.pz_match.specs.devices.Lists.{upto}
use Rattle.pz_match.specs.devices.Kept.{Kept, pairs_on, all_pairs}
use Rattle.pz_match.specs.devices.Seeking.{sought}

pub trouble_append : (ps qs : List Judged) → first_trouble ps ≡ None → first_trouble (ps ++ qs) ≡ first_trouble qs
trouble_append [] qs none = refl
trouble_append (p ∷ ps) qs none = by p.verdict none (trouble_append ps qs)
  where
    by : (v : Verdict) → first_or v (first_trouble ps) ≡ None → (first_trouble ps ≡ None → first_trouble (ps ++ qs) ≡ first_trouble qs) → first_or v (first_trouble (ps ++ qs)) ≡ first_trouble qs
    by says.Yes none later = later none
    by says.No none later = later none
    by (says.Trouble t) none later = cc

pub trouble_first : (ps qs : List Judged) (t : Trouble) → first_trouble ps ≡ Some t → first_trouble (ps ++ qs) ≡ Some t
trouble_first [] qs t is = cc
trouble_first (p ∷ ps) qs t is = by p.verdict is (trouble_first ps qs t)
  where
    by : (v : Verdict) → first_or v (first_trouble ps) ≡ Some t → (first_trouble ps ≡ Some t → first_trouble (ps ++ qs) ≡ Some t) → first_or v (first_trouble (ps ++ qs)) ≡ Some t
    by says.Yes is later = later is
    by says.No is later = later is
    by (says.Trouble u) is later = is

-- by what is sought
pub trouble_none : (ps : List Judged) → length (sought Troubled ps) ≤ 0 → first_trouble ps ≡ None
trouble_none [] few = refl
trouble_none (p ∷ ps) few = by p.verdict few (trouble_none ps)
  where
    by : (v : Verdict) → length (if is_trouble v then p ∷ sought Troubled ps else sought Troubled ps) ≤ 0 → (length (sought Troubled ps) ≤ 0 → first_trouble ps ≡ None) → first_or v (first_trouble ps) ≡ None
    by says.Yes few later = later few
    by says.No few later = later few
    by (says.Trouble t) few later = absurd (omega (arith, few))

pub trouble_some : (ps : List Judged) (q : Judged) (t : Trouble) → slice_get (sought Troubled ps) 0 ≡ Some q → q.verdict ≡ says.Trouble t → first_trouble ps ≡ Some t
trouble_some [] q t at is = cc
trouble_some (p ∷ ps) q t at is = by p.verdict refl at (λ later. trouble_some ps q t later is)
  where
    by : (v : Verdict) → p.verdict ≡ v → slice_get (if is_trouble v then p ∷ sought Troubled ps else sought Troubled ps) 0 ≡ Some q → (slice_get (sought Troubled ps) 0 ≡ Some q → first_trouble ps ≡ Some t) → first_or v (first_trouble ps) ≡ Some t
    by says.Yes same at later = later at
    by says.No same at later = later at
    by (says.Trouble u) same at later =
        let one : p ≡ q = cc in
        let both : says.Trouble u ≡ says.Trouble t = sym same ∙ (ap (λ (x : Judged). x.verdict) one ∙ is) in
        let equal : u ≡ t = cc in ap (λ z. Some z) equal

-- what is sought is troubled
pub sought_is : (ps : List Judged) (k : ℕ) (q : Judged) → slice_get (sought Troubled ps) k ≡ Some q → is_trouble q.verdict ≡ true
sought_is [] k q at = cc
sought_is (p ∷ ps) k q at = by p.verdict refl k at (sought_is ps)
  where
    by : (v : Verdict) → p.verdict ≡ v → (k : ℕ) → slice_get (if is_trouble v then p ∷ sought Troubled ps else sought Troubled ps) k ≡ Some q → ((n : ℕ) (x : Judged) → slice_get (sought Troubled ps) n ≡ Some x → is_trouble x.verdict ≡ true) → is_trouble q.verdict ≡ true
    by says.Yes same k at later = later k q at
    by says.No same k at later = later k q at
    by (says.Trouble t) same zero at later = let one : p ≡ q = cc in ap (λ (x : Judged). is_trouble x.verdict) (sym one) ∙ ap is_trouble same
    by (says.Trouble t) same (suc k) at later = later k q at

-- wire by wire
pub trouble_upto : (all : List Kept) (n : ℕ) (m : ℕ) → first_trouble (all_pairs all n) ≡ None → n ≤ m → (rest : List ℕ) → upto m ≡ upto n ++ rest → first_trouble (all_pairs all m) ≡ first_trouble (flat_map (pairs_on all) rest)
trouble_upto all n m none le rest is =
    ap (λ (ws : List ℕ). first_trouble (flat_map (pairs_on all) ws)) is
    ∙ (ap first_trouble (flat_map-append (pairs_on all) (upto n) rest) ∙ trouble_append (flat_map (pairs_on all) (upto n)) (flat_map (pairs_on all) rest) none)

pub trouble_more : (all : List Kept) (n : ℕ) → first_trouble (all_pairs all n) ≡ None → first_trouble (pairs_on all n) ≡ None → first_trouble (all_pairs all (n + 1)) ≡ None
trouble_more all n before here =
    let one : n + 1 ≡ suc n = omega arith in
    ap (λ m. first_trouble (all_pairs all m)) one
    ∙ (ap first_trouble (flat_map-append (pairs_on all) (upto n) (n ∷ []))
    ∙ (trouble_append (flat_map (pairs_on all) (upto n)) (flat_map (pairs_on all) (n ∷ [])) before
    ∙ (ap first_trouble (append-nil (pairs_on all n)) ∙ here)))

-- the numbers from one on
upto_from : (n m : ℕ) → n < m → (rest : List ℕ) × (upto m ≡ upto n ++ n ∷ rest)
upto_from n zero lt = absurd (omega (arith, lt))
upto_from n (suc m) lt = by (split n m lt) (upto_from n m)
  where
    split : (n m : ℕ) → n < suc m → (n < m) ⊎ (n ≡ m)
    split n m lt = grind arith

    by : (n < m) ⊎ (n ≡ m) → (n < m → (rest : List ℕ) × (upto m ≡ upto n ++ n ∷ rest)) → (rest : List ℕ) × (upto (suc m) ≡ upto n ++ n ∷ rest)
    by (inl below) later = let h = later below in (h.0 ++ m ∷ [], ap (λ (ws : List ℕ). ws ++ m ∷ []) h.1 ∙ append_assoc (upto n) (n ∷ h.0) (m ∷ []))
    by (inr same) later = ([], ap (λ k. upto m ++ k ∷ []) (sym same) ∙ ap (λ k. upto k ++ n ∷ []) (sym same))

pub trouble_at : (all : List Kept) (n m : ℕ) (t : Trouble) → n < m → first_trouble (all_pairs all n) ≡ None → first_trouble (pairs_on all n) ≡ Some t → first_trouble (all_pairs all m) ≡ Some t
trouble_at all n m t lt before here =
    let h = upto_from n m lt in
    trouble_upto all n m before (omega (arith, lt)) (n ∷ h.0) h.1 ∙ trouble_first (pairs_on all n) (flat_map (pairs_on all) h.0) t here

-- the first that is sought has the first trouble
pub trouble_found : (ps : List Judged) (q : Judged) → slice_get (sought Troubled ps) 0 ≡ Some q → first_trouble ps ≡ first_or q.verdict None
trouble_found ps q at = by q.verdict refl (sought_is ps 0 q at)
  where
    by : (v : Verdict) → q.verdict ≡ v → is_trouble q.verdict ≡ true → first_trouble ps ≡ first_or v None
    by says.Yes same yes_it = absurd (false≢true (sym (ap is_trouble same) ∙ yes_it))
    by says.No same yes_it = absurd (false≢true (sym (ap is_trouble same) ∙ yes_it))
    by (says.Trouble t) same yes_it = trouble_some ps q t at same
