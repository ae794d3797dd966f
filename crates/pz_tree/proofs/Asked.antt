-- What is kept of a whole term, and that right nodes stand for it.
use Rattle.std.proofs.Common.{◌≡◌, ℕ, Option, Some, None, refl, sym, ap, subst, ◌∙◌}
use Rattle.pz_rules.specs.pz_syntax.Classes.{ModelTree}
use Rattle.pz_nodes.specs.Arena.{find}
use Rattle.pz_nodes_shapes.specs.Rose.{node}
use Rattle.pz_rules.specs.Settings.{Context}
use Rattle.pz_tree_acting.specs.pz_tree_standing.Summaries.{summary_of}
use Rattle.pz_tree_acting.specs.pz_tree_nodes.View.{Plant, term_in_option}
use Rattle.pz_tree_acting.specs.pz_tree_nodes.Tended.{TendedOption}
use Rattle.pz_tree_acting.specs.pz_tree_nodes.Planting.{root_of}
use Rattle.pz_tree_acting.specs.pz_tree_regrowing.Regrowing.{StandsOption}
use Rattle.pz_tree_acting.specs.pz_tree_nodes.Standing.{RightUnder}
use Rattle.pz_tree.specs.declared.tree.Tree.{Tree}
use Rattle.pz_tree.specs.Trees.{plant_in, term_in, at_in, FreshOption, IsFresh}
use Rattle.pz_tree.specs.devices.Kept.{kept_of}

pub kept_summary : (a : Context) (c : ℕ) (p : Option Plant) → FreshOption a 0 c p → (kept_of p).summary ≡ summary_of a c 0 (term_in_option c p)
kept_summary a c None fresh = refl
kept_summary a c (Some (node k x ps)) fresh = fresh.right.0

module _ (m : ModelTree) (t : Tree) (fresh : IsFresh m t) where
  -- right nodes stand under the root, for its term
  pub right_under : RightUnder (at_in m t) (find t.nodes) 0 t.root t.clock (term_in t)
  right_under = by (plant_in t) refl
    where
      by : (p : Option Plant) → plant_in t ≡ p → RightUnder (at_in m t) (find t.nodes) 0 t.root t.clock (term_in t)
      by None is =
          subst (λ (k : Option ℕ). RightUnder (at_in m t) (find t.nodes) 0 k t.clock (term_in t)) (ap root_of (sym is) ∙ fresh.there.under)
          (ap (term_in_option t.clock) is)
      by (Some p) is =
          subst (λ (k : Option ℕ). RightUnder (at_in m t) (find t.nodes) 0 k t.clock (term_in t)) (ap root_of (sym is) ∙ fresh.there.under)
          (record {
            plant = p;
            stands = subst (StandsOption (find t.nodes)) is fresh.there.stands;
            under = refl;
            tended = subst (TendedOption 0 t.clock) is fresh.there.tended;
            right = (subst (FreshOption (at_in m t) 0 t.clock) is fresh.fresh).right;
            means = ap (term_in_option t.clock) is;
          })

module _ (m : ModelTree) (t : Tree) (fresh : IsFresh m t) (key : Option ℕ) (frame clock : ℕ) (at_root : key ≡ t.root) (in_none : frame ≡ 0) (by_clock : clock ≡ t.clock) where
  pub right_there : RightUnder (at_in m t) (find t.nodes) frame key clock (term_in t)
  right_there =
      subst (λ (o : Option ℕ). RightUnder (at_in m t) (find t.nodes) frame o clock (term_in t)) (sym at_root)
      (subst (λ (f : ℕ). RightUnder (at_in m t) (find t.nodes) f t.root clock (term_in t)) (sym in_none)
      (subst (λ (c : ℕ). RightUnder (at_in m t) (find t.nodes) 0 t.root c (term_in t)) (sym by_clock) (right_under m t fresh)))
