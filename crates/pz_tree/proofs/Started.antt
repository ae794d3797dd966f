-- A tree of a process that has just begun.
use Rattle.std.proofs.Common.{◌≡◌, ◌≤◌, ◌<◌, ℕ, zero, suc, List, [], ◌∷◌, length, Option, Some, None, refl, sym, ap, subst, ◌∙◌, arith}
use Rattle.std.specs.Prelude.{slice_get}
use Rattle.std.proofs.Math.Logic.{∥∥₁_elim}
use Rattle.std.proofs.Math.Nat.{ℕ_set}
use Rattle.std.proofs.Math.Bridge.{le_prop}
use Rattle.std.proofs.lemmas.List.{length-map}
use Rattle.pz_rules.specs.pz_syntax.Classes.{ModelTree}
use Rattle.pz_rules.specs.pz_value.declared.value.ClassId.{ClassId}
use Rattle.pz_rules.specs.pz_classes_rules.ClassNames.{class_id}
use Rattle.pz_bind_levels.specs.Places.{Address}
use Rattle.pz_rules.specs.pz_bind_rules.Nest.{processes, class_at}
use Rattle.pz_bind.specs.NetView.{HasProcess}
use Rattle.pz_bind.specs.devices.Nets.{IsNet, node_at}
use Rattle.pz_bind.specs.declared.net.Net.{Net}
use Rattle.pz_nodes.specs.Arena.{find}
use Rattle.pz_nodes_shapes.specs.Rose.{Map}
use Rattle.pz_nodes_shapes.specs.Change.{no_key, BecomesOption}
use Rattle.pz_rules.specs.Terms.{Term, height}
use Rattle.pz_tree_acting.specs.pz_tree_nodes.declared.node.What.{What}
use Rattle.pz_tree_acting.specs.pz_tree_nodes.View.{Plant}
use Rattle.pz_tree_acting.specs.pz_tree_nodes.Planting.{Planted}
use Rattle.pz_tree_acting.specs.pz_tree_regrowing.Regrowing.{StandsOption}
use Rattle.pz_rules.specs.Short.{IsShort}
use Rattle.pz_tree_acting.specs.pz_tree_standing.Soon.{HasRoom}
use Rattle.pz_tree.specs.declared.tree.Tree.{Tree}
use Rattle.pz_tree.specs.Trees.{term_in, IsOf, IsThere, IsFresh}
use Rattle.pz_tree.proofs.Reading.{Under, its_term, there_by}

some_at : {X : Type 0} (xs : List X) (i : ℕ) → i < length xs → slice_get xs i ≡ None → ⊥
some_at [] i within e = absurd (omega (arith, within))
some_at (x ∷ xs) zero within e = absurd cc
some_at (x ∷ xs) (suc i) within e = some_at xs i (omega (arith, within)) e

⊥_prop : (x y : ⊥) → x ≡ y
⊥_prop x y = absurd x

-- each process of a net stands somewhere
pub place_of : (m : ModelTree) (net : Net) (i : ℕ) → ∥ IsNet m net ∥₁ → HasProcess net i → (place : Address) × (slice_get (processes m) i ≡ Some place)
place_of m net i known has = by (slice_get (processes m) i) refl
  where
    by : (o : Option Address) → slice_get (processes m) i ≡ o → (place : Address) × (slice_get (processes m) i ≡ Some place)
    by (Some place) is = (place, is)
    by None is = absurd (∥∥₁_elim known ⊥_prop (λ net_is.
        let count : length net.nodes ≡ length (processes m) = ap (λ xs. length xs) net_is.nodes ∙ length-map (processes m) (node_at m) in
        some_at (processes m) i (subst (λ (n : ℕ). i < n) count has) is))

-- and is of its class
pub class_is : (m : ModelTree) (net : Net) (i : ℕ) (place : Address) (class : ClassId) → ∥ IsNet m net ∥₁ → slice_get (processes m) i ≡ Some place
    → ((n : ModelTree) (p : Address) → IsNet n net → slice_get (processes n) i ≡ Some p → class ≡ class_id (class_at n p))
    → class.0 ≡ class_at m place
class_is m net i place class known at told = ∥∥₁_elim known (ℕ_set class.0 (class_at m place)) (λ net_is. ap (λ (c : ClassId). c.0) (told m place net_is at))

pub record IsBegun (m : ModelTree) (t : Tree) (term : Term) : Type 0 where
  pub there : IsThere m t
  pub is : term_in t ≡ term

pub has_begun : (m : ModelTree) (t : Tree) (before : Map What) (term : Term) → IsOf m t → HasRoom t.clock → Planted before (find t.nodes) t.clock term t.root → IsShort term → height term ≤ t.limits.height → IsBegun m t term
has_begun m t before term of_model room p short low =
    let under : Under t p.plant = record { under = p.under; stands = by p.plant p.made } in
    record {
      there = there_by m t p.plant under of_model (p.tended 0) (subst IsShort p.means short) room (subst (λ (x : Term). height x ≤ t.limits.height) p.means low);
      is = its_term t p.plant under ∙ sym p.means;
    }
  where
    by : (q : Option Plant) → BecomesOption before (find t.nodes) no_key q → StandsOption (find t.nodes) q
    by None b = tt
    by (Some q) b = b.stands

-- a tree's process is one of the net
pub net_has : (m : ModelTree) (net : Net) (t : Tree) → ∥ IsFresh m t ∥₁ → ∥ IsNet m net ∥₁ → HasProcess net t.process
net_has m net t fresh known = ∥∥₁_elim fresh le_prop (λ f. ∥∥₁_elim known le_prop (λ net_is.
    let count : length net.nodes ≡ length (processes m) = ap (λ xs. length xs) net_is.nodes ∙ length-map (processes m) (node_at m) in
    subst (λ (n : ℕ). t.process < n) (sym count) (within (processes m) t.process f.there.of_model.place f.there.of_model.is_process)))
  where
    within : {X : Type 0} (xs : List X) (i : ℕ) (x : X) → slice_get xs i ≡ Some x → i < length xs
    within [] i x is = absurd cc
    within (y ∷ xs) zero x is = omega arith
    within (y ∷ xs) (suc i) x is = let later = within xs i x is in omega (arith, later)
