-- What stands under the root of a tree is what is read there.
use Rattle.std.proofs.Common.{◌≡◌, ◌≤◌, ℕ, Option, Some, None, refl, sym, ap, subst, arith}
use Rattle.std.specs.Option.{option_and_then}
use Rattle.pz_rules.specs.pz_syntax.Classes.{ModelTree}
use Rattle.pz_nodes.specs.Arena.{Arena, find, live}
use Rattle.pz_nodes_shapes.specs.declared.node.Node.{Node}
use Rattle.pz_nodes_shapes.specs.Reading.{read}
use Rattle.pz_nodes_shapes.proofs.Readings.{reads, depth_le}
use Rattle.pz_nodes_shapes.proofs.Sizes.{size_le_live}
use Rattle.pz_rules.specs.pz_offer.declared.summary.Summary.{Summary}
use Rattle.pz_rules.specs.Terms.{height}
use Rattle.pz_tree_acting.specs.pz_tree_standing.Summaries.{summary_of}
use Rattle.pz_tree_acting.specs.pz_tree_nodes.declared.node.What.{What}
use Rattle.pz_tree_acting.specs.pz_tree_nodes.View.{Plant, term_in_option}
use Rattle.pz_tree_acting.specs.pz_tree_nodes.Tended.{TendedOption}
use Rattle.pz_tree_acting.specs.pz_tree_nodes.Planting.{root_of}
use Rattle.pz_tree_acting.specs.pz_tree_regrowing.Regrowing.{StandsOption}
use Rattle.pz_rules.specs.Short.{IsShort}
use Rattle.pz_tree_acting.specs.pz_tree_standing.Soon.{HasRoom, IsSoon}
use Rattle.pz_tree.specs.declared.tree.Tree.{Tree}
use Rattle.pz_tree.specs.Trees.{plant_in, term_in, at_in, IsOf, IsThere, FreshOption, TimelyOption, IsFresh}
use Rattle.pz_tree.specs.devices.Kept.{kept_of}
use Rattle.pz_tree.proofs.Asked.{kept_summary}

plant_is : (a : Arena (Node What)) (key : Option ℕ) (p : Option Plant) → root_of p ≡ key → StandsOption (find a) p → option_and_then (read (live a) (find a)) key ≡ p
plant_is a key None under stands = subst (λ (k : Option ℕ). option_and_then (read (live a) (find a)) k ≡ None) under refl
plant_is a key (Some p) under stands =
    subst (λ (k : Option ℕ). option_and_then (read (live a) (find a)) k ≡ Some p) under
    (reads (find a) (live a) p stands (omega (arith, depth_le p, size_le_live a p stands)))

-- what stands under the root of a tree
pub record Under (t : Tree) (p : Option Plant) : Type 0 where
  pub under : root_of p ≡ t.root
  pub stands : StandsOption (find t.nodes) p

pub is_read : (t : Tree) (p : Option Plant) → Under t p → plant_in t ≡ p
is_read t p u = plant_is t.nodes t.root p u.under u.stands

pub its_term : (t : Tree) (p : Option Plant) → Under t p → term_in t ≡ term_in_option t.clock p
its_term t p u = ap (term_in_option t.clock) (is_read t p u)

-- so a tree is there by whatever stands under its root
pub there_by : (m : ModelTree) (t : Tree) (p : Option Plant) → Under t p → IsOf m t → TendedOption 0 t.clock p → IsShort (term_in_option t.clock p) → HasRoom t.clock
    → height (term_in_option t.clock p) ≤ t.limits.height → IsThere m t
there_by m t p u of_model tended short room low =
    let back = sym (is_read t p u) in
    record {
      of_model = of_model;
      under = subst (λ (q : Option Plant). root_of q ≡ t.root) back u.under;
      stands = subst (λ (q : Option Plant). StandsOption (find t.nodes) q) back u.stands;
      tended = subst (λ (q : Option Plant). TendedOption 0 t.clock q) back tended;
      short = subst (λ (q : Option Plant). IsShort (term_in_option t.clock q)) back short;
      room = room;
      low = subst (λ (q : Option Plant). height (term_in_option t.clock q) ≤ t.limits.height) back low;
    }

pub fresh_by : (m : ModelTree) (t : Tree) (p : Option Plant) → Under t p → FreshOption (at_in m t) 0 t.clock p → TimelyOption t.clock p → IsSoon t.clock (kept_of p).summary.due → IsThere m t → IsFresh m t
fresh_by m t p u fresh timely soon there =
    let back = sym (is_read t p u) in
    record {
      there = there;
      fresh = subst (λ (q : Option Plant). FreshOption (at_in m t) 0 t.clock q) back fresh;
      timely = subst (λ (q : Option Plant). TimelyOption t.clock q) back timely;
      soon = subst (λ (q : Option Plant). IsSoon t.clock (summary_of (at_in m t) t.clock 0 (term_in_option t.clock q)).due) back
          (subst (λ (s : Summary). IsSoon t.clock s.due) (kept_summary (at_in m t) t.clock p fresh) soon);
    }
