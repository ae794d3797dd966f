-- A tree over which time passes, as it is read and put.
use Rattle.std.proofs.Common.{◌≡◌, ◌≤◌, ◌<◌, ◌+◌, ◌-◌, ◌*◌, ℕ, zero, suc, List, [], ◌∷◌, map, set, get_or, length, Option, Some, None, take, refl, sym, subst, ap, ◌∙◌, arith}
use Rattle.std.specs.Prelude.{slice_get, IfSome, All}
use Rattle.std.specs.Coded.{Coded-set, coded_option, le_prop}
use Rattle.std.proofs.Math.Logic.{∥∥₁_elim, ∥∥₁_map, ∥∥₁_map₂}
use Rattle.std.specs.Prelude.{slice_set}
use Rattle.std.proofs.lemmas.Option.{same_Some, slice_get-get_or}
use Rattle.std.proofs.lemmas.List.{map-set}
use Rattle.pz_rules.specs.pz_syntax.Classes.{ModelTree}
use Rattle.pz_rules.specs.pz_offer.contracts.trouble.Trouble as trouble_row
use Rattle.pz_rules.specs.Delays.{Passes}
use Rattle.pz_rules.specs.Leaving.{is_done}
use Rattle.pz_sim_totals.specs.declared.total.Total.{Total}
use Rattle.pz_sim_totals.specs.contracts.total.Total as total_row
use Rattle.pz_sim_laws.specs.Deciding.{unfinished}
use Rattle.pz_tree.specs.pz_tree_standing.Steady.{later}
use Rattle.pz_tree.specs.pz_tree_standing.Summaries.{summary_of}
use Rattle.pz_tree.specs.declared.tree.Tree.{Tree}
use Rattle.pz_tree.specs.Trees.{at_in, term_in, IsFresh}
use Rattle.pz_sim.specs.Costs.{visited, visited_all}
use Rattle.pz_sim.specs.devices.Passing.{MayPass, HasPassed, HavePassed, own_total}
use Rattle.pz_sim.proofs.Passed.{passed_more, next_is}
use Rattle.pz_sim.proofs.Replaced.{all_at, got_mapped}

-- of a bound of what there may be, there is one proof at most
bound_prop : (c : ℕ) (o : Option ℕ) (x y : IfSome o (λ due. c ≤ due)) → x ≡ y
bound_prop c None x y = refl
bound_prop c (Some due) x y = le_prop x y

module _ (m : ModelTree) (clock : ℕ) (t : Tree) (may : ∥ MayPass m clock t ∥₁) where
  pub may_fresh : ∥ IsFresh m t ∥₁
  may_fresh = ∥∥₁_map may (λ k. k.fresh)

  pub may_later : t.clock ≤ clock
  may_later = ∥∥₁_elim may le_prop (λ k. k.ahead)

  pub may_untroubled : (summary_of (at_in m t) t.clock 0 (term_in t)).trouble ≡ None
  may_untroubled = ∥∥₁_elim may (Coded-set (coded_option trouble_row.the_row.coded) (summary_of (at_in m t) t.clock 0 (term_in t)).trouble None) (λ k. k.untroubled)

  pub may_due : IfSome (summary_of (at_in m t) t.clock 0 (term_in t)).due (λ due. clock ≤ due)
  may_due = ∥∥₁_elim may (bound_prop clock (summary_of (at_in m t) t.clock 0 (term_in t)).due) (λ k. k.due)

  pub has_passed : (u : Tree) → (IsFresh m t → Passes (at_in m t) (clock - t.clock) 0 (term_in t) (term_in u)) → at_in m u ≡ later (at_in m t) (clock - t.clock) → ∥ IsFresh m u ∥₁ → ∥ HasPassed m clock t u ∥₁
  has_passed u passes seen fresh = ∥∥₁_map₂ may fresh (λ k f. record { passes = passes k.fresh; seen = seen; fresh = f })

-- what is told of a fresh tree is its total
pub total_told : (m : ModelTree) (t : Tree) (total : Total) → ∥ IsFresh m t ∥₁ → ((model : ModelTree) → IsFresh model t → total ≡ own_total model t) → total ≡ own_total m t
total_told m t total fresh told = ∥∥₁_elim fresh (Coded-set total_row.the_row.coded total (own_total m t)) (told m)

-- what stands at a place, put there once more
put_again : {X : Type 0} (xs : List X) (i : ℕ) (x : X) → slice_get xs i ≡ Some x → xs ≡ slice_set xs i x
put_again [] i x is = refl
put_again (y ∷ ys) zero x is = ap (λ z. z ∷ ys) (same_Some y x is)
put_again (y ∷ ys) (suc i) x is = ap (λ zs. y ∷ zs) (put_again ys i x is)

-- where nothing has woken, the total that is there stays
module _ (m : ModelTree) (clock : ℕ) (t u : Tree) (may : ∥ MayPass m clock t ∥₁) where
  same_total : (IsFresh m t → summary_of (at_in m u) u.clock 0 (term_in u) ≡ summary_of (at_in m t) t.clock 0 (term_in t)) → (IsFresh m t → is_done (term_in u) ≡ is_done (term_in t)) → own_total m t ≡ own_total m u
  same_total summary done = ∥∥₁_elim may (Coded-set total_row.the_row.coded (own_total m t) (own_total m u)) (λ k. sym (of (summary k.fresh) (done k.fresh)))
    where
      of : summary_of (at_in m u) u.clock 0 (term_in u) ≡ summary_of (at_in m t) t.clock 0 (term_in t) → is_done (term_in u) ≡ is_done (term_in t) → own_total m u ≡ own_total m t
      of e d = λ i. record { summary = e i; unfinished = unfinished (d i) }

  pub total_stays : (totals : List Total) (number : ℕ) → slice_get totals number ≡ Some (own_total m t)
      → (IsFresh m t → summary_of (at_in m u) u.clock 0 (term_in u) ≡ summary_of (at_in m t) t.clock 0 (term_in t)) → (IsFresh m t → is_done (term_in u) ≡ is_done (term_in t))
      → totals ≡ slice_set totals number (own_total m u)
  total_stays totals number is summary done = put_again totals number (own_total m t) is ∙ ap (λ (x : Total). slice_set totals number x) (same_total summary done)

-- one more tree is visited
visited_more : (ts us : List Tree) (n : ℕ) (t u : Tree) → slice_get ts n ≡ Some t → n < length us → visited_all (take (suc n) ts) (set us n u) ≡ visited_all (take n ts) us + visited t u
visited_more [] us n t u is within = cc
visited_more (x ∷ ts) [] n t u is within = absurd (omega (arith, within))
visited_more (x ∷ ts) (v ∷ us) zero t u is within = let same : visited x u ≡ visited t u = ap (λ (y : Tree). visited y u) (same_Some x t is) in omega (arith, same)
visited_more (x ∷ ts) (v ∷ us) (suc n) t u is within = let rest = visited_more ts us n t u is (omega (arith, within)) in omega (arith, rest)

-- The next tree of many

module _ (m : ModelTree) (clock : ℕ) (ts us : List Tree) (n : ℕ) (d : Tree) (within : n < length us) where
  abbrev pub next : Tree
  next = get_or us n d

  is_next : slice_get us n ≡ Some next
  is_next = slice_get-get_or us n d within

  pub next_may : ∥ All (MayPass m clock) ts ∥₁ → ∥ HavePassed m clock n ts us ∥₁ → ∥ MayPass m clock next ∥₁
  next_may may have = ∥∥₁_map₂ may have (λ all k. all_at (MayPass m clock) ts n next all (next_is m clock ts us n next k is_next))

  pub next_passed : (u : Tree) → ∥ HavePassed m clock n ts us ∥₁ → ∥ HasPassed m clock next u ∥₁ → ∥ HavePassed m clock (n + 1) ts (set us n u) ∥₁
  next_passed u have has = ∥∥₁_map₂ have has (λ k x. passed_more m clock ts us n next u is_next k x)

  pub totals_more : (u : Tree) (old new : List Total) → old ≡ map (own_total m) us → new ≡ set old n (own_total m u) → new ≡ map (own_total m) (set us n u)
  totals_more u old new are is = is ∙ ap (λ (xs : List Total). set xs n (own_total m u)) are ∙ sym (map-set (own_total m) us n u)

  -- its total stands at its place
  pub next_own : (totals : List Total) → totals ≡ map (own_total m) us → slice_get totals n ≡ Some (own_total m next)
  next_own totals are = ap (λ (xs : List Total). slice_get xs n) are ∙ got_mapped (own_total m) us n next is_next

  pub next_soon : (u : Tree) (begun before after : ℕ) → ∥ HavePassed m clock n ts us ∥₁ → before ≤ begun + 64 * visited_all (take n ts) us → after ≤ before + 64 * visited next u → after ≤ begun + 64 * visited_all (take (n + 1) ts) (set us n u)
  next_soon u begun before after have few more = ∥∥₁_elim have le_prop (λ k.
      let e = visited_more ts us n next u (next_is m clock ts us n next k is_next) within in
      let same : suc n ≡ n + 1 = omega arith in
      subst (λ (j : ℕ). after ≤ begun + 64 * visited_all (take j ts) (set us n u)) same (omega (arith, few, more, e)))
