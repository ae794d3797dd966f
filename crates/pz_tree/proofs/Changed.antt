-- A tree of which nodes have changed.
use Rattle.std.proofs.Common.{◌≡◌, ◌≤◌, ◌+◌, ◌*◌, ℕ, Option, Some, None, Result, Ok, Err, refl, sym, ap, subst, ◌∙◌, arith}
use Rattle.std.specs.Prelude.{OnOk}
use Rattle.pz_rules.specs.pz_syntax.Classes.{ModelTree}
use Rattle.pz_nodes.specs.Arena.{Arena, find}
use Rattle.pz_nodes_shapes.specs.declared.node.Node.{Node}
use Rattle.pz_nodes_shapes.specs.Rose.{root}
use Rattle.pz_rules.specs.Settings.{left_by}
use Rattle.pz_rules.specs.Terms.{Term, height}
use Rattle.pz_rules.specs.pz_state.Marks.{Seen}
use Rattle.pz_tree_acting.specs.pz_tree_standing.Summaries.{summary_of}
use Rattle.pz_tree_acting.specs.pz_tree_nodes.declared.node.What.{What}
use Rattle.pz_tree_acting.specs.pz_tree_nodes.View.{Plant, term_in_option}
use Rattle.pz_tree_acting.specs.pz_tree_nodes.Tended.{TendedOption}
use Rattle.pz_tree_acting.specs.pz_tree_nodes.Planting.{root_of}
use Rattle.pz_tree_acting.specs.pz_tree_regrowing.Regrowing.{StandsOption}
use Rattle.pz_rules.specs.Short.{IsShort}
use Rattle.pz_tree_acting.specs.pz_tree_standing.Soon.{IsSoon}
use Rattle.pz_tree_elapsing.specs.pz_tree_refreshing.Refreshing.{RefreshRule, IsRefreshed}
use Rattle.pz_tree.specs.declared.tree.Tree.{Tree}
use Rattle.pz_tree.specs.Trees.{plant_in, term_in, process_in, at_in, IsThere, FreshOption, TimelyOption, IsFresh, live_of, live_in}
use Rattle.pz_tree.proofs.Reading.{Under, is_read, its_term, there_by, fresh_by}

pub on_ok : {E A B : Type 0} (r : Result (Unit {0}) E) → (A → B) → OnOk r A → OnOk r B
on_ok (Ok x) f a = f a
on_ok (Err e) f a = tt

-- the tree over these nodes, with this state
abbrev pub over : Tree → Arena (Node What) → Seen → Tree
over t n s = record t { nodes = n; state = s }

pub record Refreshed (m : ModelTree) (t u : Tree) (old new : ℕ) : Type 0 where
  pub fresh : IsFresh m u
  pub process : process_in u ≡ process_in t
  pub ticks : new ≤ old + 16 * (1 + live_in u)

module _ (m : ModelTree) (t : Tree) (there : IsThere m t) (old new : ℕ) where
  module _ (n : Arena (Node What)) where
    abbrev u : Tree
    u = over t n t.state

    some_refreshed : (p : Plant) → plant_in t ≡ Some p → IsRefreshed (at_in m t) (find t.nodes) (find n) 0 t.clock p old new → Refreshed m t u old new
    some_refreshed p is r =
        let was : term_in t ≡ term_in_option t.clock (Some p) = ap (term_in_option t.clock) is in
        let same : term_in t ≡ term_in_option t.clock (Some r.plant) = was ∙ sym r.means in
        let under : Under u (Some r.plant) = record {
          under = ap Some r.under ∙ ap root_of (sym is) ∙ there.under;
          stands = r.made.stands;
        } in
        let now : IsThere m u = there_by m u (Some r.plant) under (record { place = there.of_model.place; is_process = there.of_model.is_process; class = there.of_model.class }) r.tended
        (subst IsShort same there.short) there.room (subst (λ (x : Term). height x ≤ t.limits.height) same there.low) in
        record {
          fresh = fresh_by m u (Some r.plant) under r.fresh r.timely r.soon now;
          process = ap (left_by t.state.held) (its_term u (Some r.plant) under ∙ sym same);
          ticks =
              let nodes : live_in u ≡ live_of (Some r.plant) = ap live_of (is_read u (Some r.plant) under) in
              let steps = r.ticks in
              omega (arith, nodes, steps);
        }

    by_plant : (key : ℕ) → t.root ≡ Some key → RefreshRule (at_in m t) (find t.nodes) (find n) key 0 t.clock old new
        → (p : Option Plant) → plant_in t ≡ p → Refreshed m t u old new
    by_plant key at rule None is = absurd (none_some (sym (ap root_of is) ∙ there.under ∙ at))
      where
        none_some : None ≡ Some key → ⊥
        none_some e = cc
    by_plant key at rule (Some p) is =
        some_refreshed p is (rule p
        (subst (StandsOption (find t.nodes)) is there.stands)
        (same (ap root_of (sym is) ∙ there.under ∙ at))
        (subst (TendedOption 0 t.clock) is there.tended)
        (subst (λ (q : Option Plant). IsShort (term_in_option t.clock q)) is there.short)
        there.room)
      where
        same : Some (root p) ≡ Some key → root p ≡ key
        same e = cc

  -- the state is as before
  pub refreshed : (n : Arena (Node What)) (s : Seen) → s ≡ t.state → (key : ℕ) → t.root ≡ Some key → RefreshRule (at_in m t) (find t.nodes) (find n) key 0 t.clock old new
      → Refreshed m t (over t n s) old new
  refreshed n s same key at rule = subst (λ (z : Seen). Refreshed m t (over t n z) old new) (sym same) (by_plant n key at rule (plant_in t) refl)

-- where nothing stands there is nothing to ask
pub nothing_asked : (m : ModelTree) (t : Tree) (old : ℕ) → IsThere m t → t.root ≡ None → Refreshed m t t old old
nothing_asked m t old there at = record {
  fresh = by (plant_in t) refl;
  process = refl;
  ticks = omega arith;
}
  where
    some_none : (p : Plant) → Some (root p) ≡ None → ⊥
    some_none p e = cc

    by : (p : Option Plant) → plant_in t ≡ p → IsFresh m t
    by None is = record {
      there = there;
      fresh = subst (FreshOption (at_in m t) 0 t.clock) (sym is) tt;
      timely = subst (TimelyOption t.clock) (sym is) tt;
      soon = subst (λ (q : Option Plant). IsSoon t.clock (summary_of (at_in m t) t.clock 0 (term_in_option t.clock q)).due) (sym is) tt;
    }
    by (Some p) is = absurd (some_none p (ap root_of (sym is) ∙ there.under ∙ at))
