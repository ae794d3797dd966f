-- The totals of trees, one after the other.
use Rattle.std.proofs.Common.{◌≡◌, ◌≤◌, ◌+◌, ◌∙◌, ℕ, List, length, map, set, replicate, length-set, Some, sym, ap}
use Rattle.std.specs.Prelude.{slice_get, All}
use Rattle.std.proofs.lemmas.List.{length-replicate}
use Rattle.pz_rules.specs.pz_syntax.Classes.{ModelTree}
use Rattle.pz_sim_totals.specs.declared.total.Total.{Total}
use Rattle.pz_sim_totals.specs.Sums.{none}
use Rattle.pz_sim_laws.specs.Deciding.{total_of}
use Rattle.pz_tree.specs.declared.tree.Tree.{Tree}
use Rattle.pz_tree.specs.Trees.{IsFresh}
use Rattle.pz_sim.specs.Members.{member_of}
use Rattle.pz_sim.proofs.Filled.{filled, filled_none, filled_past, filled_next, all_alike}
use Rattle.pz_sim.proofs.Replaced.{all_at}

abbrev pub total : ModelTree → Tree → Total
total m t = total_of t.clock (member_of m t)

-- so many of them are there, and the others are those of no process
abbrev pub summed : ModelTree → ℕ → List Tree → List Total
summed m k ts = filled (total m) (λ t. none) k ts

pub none_summed : (m : ModelTree) (ts : List Tree) (n : ℕ) (totals : List Total) → n ≡ length ts → totals ≡ replicate n none → totals ≡ summed m 0 ts
none_summed m ts n totals count are = are ∙ ap (λ (k : ℕ). replicate k none) count ∙ sym (all_alike none ts) ∙ sym (filled_none (total m) (λ t. none) ts)

pub one_summed : (m : ModelTree) (ts : List Tree) (k : ℕ) (t : Tree) (x : Total) (old new : List Total) → slice_get ts k ≡ Some t → old ≡ summed m k ts → All (IsFresh m) ts
    → (IsFresh m t → x ≡ total m t) → new ≡ set old k x → new ≡ summed m (k + 1) ts
one_summed m ts k t x old new at were fresh is put =
    put ∙ ap (λ (xs : List Total). set xs k x) were ∙ ap (λ (y : Total). set (summed m k ts) k y) (is (all_at (IsFresh m) ts k t fresh at))
    ∙ filled_next (total m) (λ t. none) k ts t at

pub all_summed : (m : ModelTree) (ts : List Tree) (k : ℕ) (totals : List Total) → length ts ≤ k → totals ≡ summed m k ts → totals ≡ map (λ t. total_of t.clock (member_of m t)) ts
all_summed m ts k totals past are = are ∙ filled_past (total m) (λ t. none) k ts past

pub count_kept : (ts : List Tree) (k : ℕ) (x : Total) (old new : List Total) → length old ≡ length ts → new ≡ set old k x → length new ≡ length ts
count_kept ts k x old new were put = ap (λ (xs : List Total). length xs) put ∙ length-set old k x ∙ were

pub count_first : (ts : List Tree) (n : ℕ) (totals : List Total) → n ≡ length ts → totals ≡ replicate n none → length totals ≡ length ts
count_first ts n totals count are = ap (λ (xs : List Total). length xs) are ∙ length-replicate n none ∙ count
