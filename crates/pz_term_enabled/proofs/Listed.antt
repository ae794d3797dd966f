-- Things at ends, of the first processes and of one more.
use Rattle.std.proofs.Common.{◌≡◌, ◌<◌, ◌≤◌, ◌+◌, ◌⊎◌, inl, inr, ℕ, List, [], ◌++◌, Option, Some, refl, sym, subst, ap, arith}
use Rattle.std.specs.List.{All, AllPairs, Contains, filter_map}
use Rattle.std.proofs.lemmas.Bool.{cases_lt}
use Rattle.std.proofs.lemmas.List.Elements.{All-nil, All-append, All-weaker, Contains-append_left, Contains-append_right}
use Rattle.pz_rules.specs.pz_offer.declared.end.End.{End}
use Rattle.pz_rules.specs.pz_offer.PlaceOrder.{Place, PlaceBefore, EndBefore}
use Rattle.pz_term_enabled.specs.devices.Adding.{end_at}
use Rattle.pz_term_enabled.specs.devices.Below.{Listed}
use Rattle.pz_term_enabled.proofs.Lists.{AllPairs-nil, AllPairs-append, AllPairs-filter_map, All-filter_map, Contains-filter_map}

-- a number below i + 1 is one below i, or i
pub below_cases : (k i : ℕ) → k < i + 1 → (k < i) ⊎ (k ≡ i)
below_cases k i below = by (cases_lt k i)
  where
    by : (k < i) ⊎ (i ≤ k) → (k < i) ⊎ (k ≡ i)
    by (inl less) = inl less
    by (inr more) = inr (omega (arith, below, more))

module _ {X : Type 0} (end : X → End) (Holds : X → Type 0) where
  abbrev Before : X → X → Type 0
  Before x y = EndBefore (end x) (end y)

  pub listed_none : Listed end Holds (λ k. k < 0) []
  listed_none = record {
    ordered = AllPairs-nil Before;
    derivable = All-nil Holds;
    among = All-nil (λ x. (end x).process < 0);
    every = λ x holds below. absurd (omega (arith, below));
  }

  -- those of process i behind those of the processes before it
  pub listed_more : (i : ℕ) (xs ys : List X) → Listed end Holds (λ k. k < i) xs → Listed end Holds (λ k. k ≡ i) ys → Listed end Holds (λ k. k < i + 1) (xs ++ ys)
  listed_more i xs ys first second = record {
    ordered = AllPairs-append Before xs ys first.ordered second.ordered
        (λ j d within k e inside. inl (let less = first.among j d within in let same = second.among k e inside in omega (arith, less, same)));
    derivable = All-append Holds xs ys first.derivable second.derivable;
    among = All-append (λ x. (end x).process < i + 1) xs ys
        (All-weaker (λ x. (end x).process < i) (λ x. (end x).process < i + 1) (λ x less. omega (arith, less)) xs first.among)
        (All-weaker (λ x. (end x).process ≡ i) (λ x. (end x).process < i + 1) (λ x same. omega (arith, same)) ys second.among);
    every = λ x holds below. by x holds (below_cases (end x).process i below);
  }
    where
      by : (x : X) → Holds x → ((end x).process < i) ⊎ ((end x).process ≡ i) → Contains (xs ++ ys) x
      by x holds (inl less) = Contains-append_left xs ys x (first.every x holds less)
      by x holds (inr same) = Contains-append_right xs ys x (second.every x holds same)

-- What is found in one term, strictly by place: exactly that of which this holds.
pub record Here {D : Type 0} (place : D → Place) (Holds : D → Type 0) (ds : List D) : Type 0 where
  pub ordered : AllPairs (λ x y. PlaceBefore (place x) (place y)) ds
  pub derivable : All Holds ds
  pub every : (d : D) → Holds d → Contains ds d

before_here : (i : ℕ) (p q : Place) (a b : End) → a ≡ end_at i p → b ≡ end_at i q → PlaceBefore p q → EndBefore a b
before_here i p q a b is_a is_b before =
    subst (λ (e : End). EndBefore e b) (sym is_a) (subst (λ (e : End). EndBefore (end_at i p) e) (sym is_b) (inr (refl, before)))

-- some of what is found in the term of process i, as things at ends
module _ {D X : Type 0} (place : D → Place) (HoldsHere : D → Type 0) (end : X → End) (Holds : X → Type 0) (i : ℕ) (to : D → Option X) where
  pub record Becomes (d : D) (x : X) : Type 0 where
    pub holds : Holds x
    pub at : end x ≡ end_at i (place d)

  pub record ComesFrom (x : X) : Type 0 where
    pub one : D
    pub holds : HoldsHere one
    pub is : to one ≡ Some x

  abbrev Both : D → D → Type 0
  Both d e = HoldsHere d × HoldsHere e × PlaceBefore (place d) (place e)

  pub listed_at : ((d : D) (x : X) → to d ≡ Some x → HoldsHere d → Becomes d x) → ((x : X) → Holds x → (end x).process ≡ i → ComesFrom x)
      → (ds : List D) → Here place HoldsHere ds → Listed end Holds (λ k. k ≡ i) (filter_map to ds)
  listed_at sound complete ds here = record {
    ordered = AllPairs-filter_map to Both (λ x y. EndBefore (end x) (end y)) ds each
        (λ j k d before within. (here.derivable j d (omega (arith, before, within)), here.derivable k d within, here.ordered j k d before within));
    derivable = All-filter_map to HoldsHere Holds ds (λ d x holds is. (sound d x is holds).holds) here.derivable;
    among = All-filter_map to HoldsHere (λ x. (end x).process ≡ i) ds (λ d x holds is. ap (λ (e : End). e.process) (sound d x is holds).at) here.derivable;
    every = λ x holds at. let from = complete x holds at in Contains-filter_map to ds from.one x (here.every from.one from.holds) from.is;
  }
    where
      each : (d e : D) (x y : X) → to d ≡ Some x → to e ≡ Some y → Both d e → EndBefore (end x) (end y)
      each d e x y is_x is_y both = before_here i (place d) (place e) (end x) (end y) (sound d x is_x both.0).at (sound e y is_y both.1).at both.2
