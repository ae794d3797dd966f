-- Which classes have numbers.
use Rattle.std.proofs.Common.{◌≡◌, refl, sym, ap, ◌∙◌, ℕ, zero, suc, ◌<◌, ◌≤◌, ◌+◌, arith, Bool, true, false, List, [], ◌∷◌, length, Some, None, slice_get, ◌⊎◌, inl, inr}
use Rattle.std.specs.List.{Contains}
use Rattle.std.proofs.lemmas.List.{length-map}
use Rattle.std.proofs.lemmas.Option.{slice_get-get_or, slice_get_within, get_or_from_slice_get}
use Rattle.pz_classes_code.specs.pz_syntax.Classes.{DeclTree, ModelTree}
use Rattle.pz_classes_lineage.specs.declared.visit.Visit.{Visit}
use Rattle.pz_classes_lineage.specs.Preorder.{visited}
use Rattle.pz_classes_code.specs.ReservedNames.{is_unsupported}
use Rattle.pz_classes.specs.pz_classes_rules.Numbers.{declaration, class, first_named, is_named}
use Rattle.pz_classes.specs.pz_classes_rules.NameRules.{has_instances}
use Rattle.pz_classes.specs.pz_classes_rules.Instances.{instance_class}
use Rattle.pz_classes.specs.pz_classes_rules.Preorder.{IsPreorderOf}
use Rattle.pz_classes.specs.devices.Rows.{Row, rows_from, row_view, AreClasses}
use Rattle.pz_classes.specs.declared.classes.Classes.{Classes}
use Rattle.pz_check_instances.proofs.Contained.{first_of, later_of, either_of, in_none}

rows_length : (m : ModelTree) (n : ℕ) (ds : List DeclTree) → length (rows_from m n ds) ≡ length ds
rows_length m n [] = refl
rows_length m n (d ∷ ds) = ap (λ (k : ℕ). suc k) (rows_length m (suc n) ds)

-- there is one class more than there are declarations
pub entries_length : (m : ModelTree) (classes : Classes) → AreClasses m classes → length classes.entries ≡ suc (length m.decls)
entries_length m classes are =
    sym (length-map classes.entries row_view)
    ∙ ap (λ (rs : List Row). length rs) are.rows
    ∙ ap (λ (k : ℕ). suc k) (rows_length m 1 m.decls)

pub declared_within : (m : ModelTree) (c : ℕ) (d : DeclTree) → declaration m c ≡ Some d → c ≤ length m.decls
declared_within m zero d here = omega arith
declared_within m (suc i) d here = let within : i < length m.decls = slice_get_within m.decls i d here in omega arith

-- what stands among the declarations has a number, and the other way round
pub numbered : (m : ModelTree) (d : DeclTree) → Contains m.decls d → (c : ℕ) × (declaration m c ≡ Some d)
numbered m d among = (suc among.0, slice_get-get_or m.decls among.0 d among.1 ∙ ap (λ (e : DeclTree). Some e) among.2)

pub declared : (m : ModelTree) (c : ℕ) (d : DeclTree) → declaration m c ≡ Some d → Contains m.decls d
declared m zero d here = cc
declared m (suc i) d here = (i, slice_get_within m.decls i d here, get_or_from_slice_get m.decls i d d here)

first_within : (ds : List DeclTree) (n : ℕ) (name : List ℕ) (k : ℕ) → first_named ds n name ≡ Some k → k < n + length ds
first_within [] n name k here = cc
first_within (d ∷ ds) n name k here = by_test (is_named name d) refl (first_within ds (suc n) name k)
  where
    by_test : (b : Bool) → is_named name d ≡ b → (first_named ds (suc n) name ≡ Some k → k < suc n + length ds) → k < n + suc (length ds)
    by_test true is rest =
        let found : Some n ≡ Some k = rw is at here in
        let same : n ≡ k = cc in
        omega arith
    by_test false is rest = let later = rest (rw is at here) in omega arith

-- the class of an instance is one of the model's
pub instance_class_within : (m : ModelTree) (name : List ℕ) (k : ℕ) → instance_class m name ≡ Some k → k ≤ length m.decls
instance_class_within m name k here = by_tests (is_unsupported name) (has_instances m name) refl refl
  where
    by_tests : (a b : Bool) → is_unsupported name ≡ a → has_instances m name ≡ b → k ≤ length m.decls
    by_tests true b left_out may = let none : None ≡ Some k = rw left_out at here in cc
    by_tests false false left_out may = let none : None ≡ Some k = rw (left_out, may) at here in cc
    by_tests false true left_out may =
        let found : class m name ≡ Some k = rw (left_out, may) at here in
        let within : k < 1 + length m.decls = first_within m.decls 1 name k found in
        omega arith

visit_in : (visits : List Visit) (k : ℕ) → Contains (visited visits) k → (v : Visit) × Contains visits v × (v.class ≡ k)
visit_in [] k found = absurd (in_none k found)
visit_in (w ∷ visits) k found = by_part (visit_in visits k) (either_of w.class k (visited visits) found)
  where
    by_part : (Contains (visited visits) k → (v : Visit) × Contains visits v × (v.class ≡ k)) → (w.class ≡ k) ⊎ Contains (visited visits) k
        → (v : Visit) × Contains (w ∷ visits) v × (v.class ≡ k)
    by_part rest (inl here) = (w, first_of w visits, here)
    by_part rest (inr later) = let there = rest later in (there.0, later_of w there.0 visits there.1, there.2)

-- the walk comes to each class, and to no others
pub visit_of : (m : ModelTree) (visits : List Visit) (k : ℕ) → IsPreorderOf m visits → k ≤ length m.decls → (v : Visit) × Contains visits v × (v.class ≡ k)
visit_of m visits k preorder within = visit_in visits k (preorder.whole k within)

in_visited : (visits : List Visit) (i : ℕ) (v : Visit) → slice_get visits i ≡ Some v → Contains (visited visits) v.class
in_visited [] i v here = cc
in_visited (w ∷ visits) zero v here =
    let same : w ≡ v = cc in
    rw (← same) (first_of w.class (visited visits))
in_visited (w ∷ visits) (suc i) v here = later_of w.class v.class (visited visits) (in_visited visits i v here)

pub visit_within : (m : ModelTree) (visits : List Visit) (i : ℕ) (v : Visit) → IsPreorderOf m visits → slice_get visits i ≡ Some v → v.class ≤ length m.decls
visit_within m visits i v preorder here = preorder.within v.class (in_visited visits i v here)
