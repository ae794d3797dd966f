use Rattle.std.proofs.Common.{◌≡◌, subst, ℕ, zero, suc, ◌<◌, List, [], ◌∷◌, get_or, Option, Some, None, arith}
use Rattle.pz_classes_lineage.specs.Parents.{parent_in}
use Rattle.pz_classes_lineage.proofs.Ranks.{nobody_goes_round}
use Rattle.tests_front.proofs.lineage.a_class_comes_with_all_that_descend_from_it.Goals as goal

abbrev parents : List (Option ℕ)
parents = None ∷ Some 3 ∷ Some 0 ∷ None ∷ Some 3 ∷ Some 2 ∷ []

abbrev depth : ℕ → ℕ
depth c = get_or (0 ∷ 1 ∷ 1 ∷ 0 ∷ 1 ∷ 2 ∷ []) c 0

below : (q p d : ℕ) → Some q ≡ Some p → depth q < d → depth p < d
below q p d is less = let same : q ≡ p = cc in subst (λ (x : ℕ). depth x < d) same less

falls : (c p : ℕ) → parent_in parents c ≡ Some p → depth p < depth c
falls zero p is = cc
falls (suc zero) p is = below 3 p 1 is (omega arith)
falls (suc (suc zero)) p is = below 0 p 1 is (omega arith)
falls (suc (suc (suc zero))) p is = cc
falls (suc (suc (suc (suc zero)))) p is = below 3 p 1 is (omega arith)
falls (suc (suc (suc (suc (suc zero))))) p is = below 2 p 2 is (omega arith)
falls (suc (suc (suc (suc (suc (suc c)))))) p is = cc

pub preorder-requires-clause-acyclic : goal.preorder-requires-clause-acyclic
preorder-requires-clause-acyclic g c = nobody_goes_round (parent_in parents) depth falls
