-- A ring opens: none of its methods begins with a call, and each has few statements and one plain call at
-- most.
use Rattle.std.proofs.Common.{◌≡◌, refl, sym, subst, ◌+◌, ◌≤◌, ℕ, zero, suc, List, [], ◌∷◌, length, Option, Some, None, Contains, arith, lit≤}
use Rattle.std.specs.List.{sum_by}
use Rattle.std.proofs.lemmas.List.Sums.{sum_by-cons}
use Rattle.pz_classes_rules.specs.pz_syntax.declared.tokens.Pos.{Pos}
use Rattle.pz_classes_rules.specs.pz_syntax.declared.names.Id.{Id}
use Rattle.pz_classes_rules.specs.pz_syntax.declared.clusters.SystemDecl.{SystemDecl}
use Rattle.pz_classes_rules.specs.pz_syntax.Classes.{ModelTree}
use Rattle.pz_classes_rules.specs.pz_check_violations.declared.violation.Violation.{Violation}
use Rattle.pz_classes_rules.specs.declared.method_id.MethodId.{MethodId}
use Rattle.pz_classes_openings.specs.Openings.{begun_at, calls_at, statements_at, called, of_called, opened_to, spread_to}
use Rattle.pz_classes_openings.specs.OpeningRules.{BreaksC23, round, BreaksC24, too_large, Opens}
use Rattle.pz_gen_laws.specs.devices.RingTree.{with_system}

-- what is told of a called method, if there is one
of_called_low : (count : ℕ → ℕ) (most : ℕ) → ((n : ℕ) → count n ≤ most) → (method : Option MethodId) → of_called count method ≤ most
of_called_low count most low None = omega arith
of_called_low count most low (Some n) = low n.0

of_one : (f : Id → ℕ) (most : ℕ) → ((x : Id) → f x ≤ most) → (xs : List Id) → length xs ≤ 1 → sum_by f xs ≤ most
of_one f most low [] few = omega arith
of_one f most low (x ∷ []) few = omega (arith, low x, sum_by-cons f x [])
of_one f most low (x ∷ y ∷ xs) few = absurd (omega (arith, few))

module _ (at : ℕ → Pos) (s : SystemDecl) where
  abbrev m : ModelTree
  m = with_system at s

  record IsSmall (k : ℕ) : Type 0 where
    pub begins : begun_at m k ≡ []
    pub few : length (calls_at m k) ≤ 1
    pub short : statements_at m k ≤ 7

  small : (k : ℕ) → IsSmall k
  small zero = record { begins = refl; few = lit≤ tt; short = lit≤ tt }
  small (suc zero) = record { begins = refl; few = lit≤ tt; short = lit≤ tt }
  small (suc (suc zero)) = record { begins = refl; few = lit≤ tt; short = lit≤ tt }
  small (suc (suc (suc k))) = record { begins = refl; few = lit≤ tt; short = lit≤ tt }

  opened_low : (c depth k : ℕ) → opened_to m c depth k ≤ 7
  opened_low c zero k = lit≤ tt
  opened_low c (suc depth) k =
      let f : Id → ℕ = λ x. of_called (opened_to m c depth) (called m c x) in
      subst (λ (xs : List Id). statements_at m k + sum_by f xs ≤ 7) (sym (small k).begins) (omega (arith, (small k).short))

  spread_low : (c depth k : ℕ) → spread_to m c depth k ≤ 14
  spread_low c depth k =
      let f : Id → ℕ = λ x. of_called (opened_to m c depth) (called m c x) in
      let rest : sum_by f (calls_at m k) ≤ 7 = of_one f 7 (λ x. of_called_low (opened_to m c depth) 7 (opened_low c depth) (called m c x)) (calls_at m k) (small k).few in
      omega (arith, rest, (small k).short)

  no_round : (v : Violation) → BreaksC23 m v → ⊥
  no_round _ (round c k n d x declared process has begins is leads) =
      let there : Contains [] x = subst (λ (xs : List Id). Contains xs x) (small k).begins begins in
      omega (arith, there.1)

  none_large : (v : Violation) → BreaksC24 m v → ⊥
  none_large _ (too_large c k depth d r declared process has is large) = omega (arith, large, spread_low c depth k)

  pub ring_opens : Opens m
  ring_opens = record { rounds = no_round; sizes = none_large }
