-- A tree over which time has passed.
use Rattle.std.proofs.Common.{◌≡◌, ◌≤◌, ◌+◌, ◌*◌, ℕ, Option, Some, None, refl, sym, ap, subst, ◌∙◌, arith}
use Rattle.std.specs.Prelude.{IfSome}
use Rattle.pz_rules.specs.pz_syntax.Classes.{ModelTree}
use Rattle.pz_rules.specs.pz_classes_rules.Soundness.{IsSound}
use Rattle.pz_nodes.specs.Arena.{Arena, find}
use Rattle.pz_nodes_shapes.specs.declared.node.Node.{Node}
use Rattle.pz_nodes_shapes.specs.Rose.{root}
use Rattle.pz_rules.specs.Delays.{Passes, is_done}
use Rattle.pz_rules.specs.Terms.{Term, done, height}
use Rattle.pz_rules.specs.Leaving as leaving
use Rattle.pz_rules.specs.devices.Computed.{IsUntroubled}
use Rattle.pz_rules.specs.devices.Walks.{TroublesAreListed}
use Rattle.pz_rules.specs.pz_state.Marks.{Seen}
use Rattle.pz_tree_acting.specs.pz_tree_standing.Summaries.{summary_of}
use Rattle.pz_tree_acting.specs.pz_tree_standing.Steady.{later}
use Rattle.pz_tree_acting.specs.pz_tree_nodes.declared.node.What.{What}
use Rattle.pz_tree_acting.specs.pz_tree_nodes.View.{Plant, term_in_option}
use Rattle.pz_tree_acting.specs.pz_tree_nodes.Tended.{TendedOption}
use Rattle.pz_tree_acting.specs.pz_tree_nodes.Planting.{root_of}
use Rattle.pz_tree_acting.specs.pz_tree_regrowing.Regrowing.{StandsOption}
use Rattle.pz_rules.specs.Short.{IsShort}
use Rattle.pz_tree_acting.specs.pz_tree_standing.Soon.{HasRoom}
use Rattle.pz_tree_elapsing.specs.Elapsing.{IsNotBefore, HasElapsed, ElapseRule}
use Rattle.pz_tree.specs.declared.tree.Tree.{Tree}
use Rattle.pz_tree.specs.Trees.{plant_in, term_in, at_in, woken_of, woken_in, IsThere, FreshOption, TimelyOption, IsFresh}
use Rattle.pz_tree.specs.devices.Kept.{kept_of}
use Rattle.pz_tree.specs.devices.Resting.{RestRule}
use Rattle.pz_tree.proofs.Asked.{kept_summary}
use Rattle.pz_tree.proofs.Reading.{Under, is_read, its_term, there_by, fresh_by}
use Rattle.pz_tree.proofs.Heights.{passed_high, passed_done}
use Rattle.pz_tree.proofs.Unasked.{untroubled}

-- so much later, over these nodes
abbrev pub later_over : Tree → Arena (Node What) → Seen → ℕ → Tree
later_over t n s now = record t { nodes = n; state = s; clock = now }

pub record Elapsed (m : ModelTree) (t u : Tree) (d old new : ℕ) : Type 0 where
  pub passes : Passes (at_in m t) d 0 (term_in t) (term_in u)
  pub fresh : IsFresh m u
  pub settled : leaving.is_done (term_in u) ≡ leaving.is_done (term_in t)
  pub ticks : new ≤ old + 16 * woken_in t u

-- no delay is over before this moment
abbrev pub IsDue : ℕ → Option ℕ → Type 0
IsDue now due = IfSome due (λ d. now ≤ d)

module _ (m : ModelTree) (t : Tree) (fresh : IsFresh m t) (d : ℕ) (room : HasRoom (t.clock + d)) where
  abbrev now : ℕ
  now = t.clock + d

  not_before : (x y : Option ℕ) → x ≡ y → IsDue now y → IsNotBefore now x
  not_before x y same h = by x (subst (IsDue now) (sym same) h)
    where
      by : (z : Option ℕ) → IsDue now z → IsNotBefore now z
      by None k = tt
      by (Some due) k = k

  module _ (listed : TroublesAreListed) (sound : IsSound m) (calm : (summary_of (at_in m t) t.clock 0 (term_in t)).trouble ≡ None) (due : IsDue now (summary_of (at_in m t) t.clock 0 (term_in t)).due) where
    module _ (n : Arena (Node What)) where
      abbrev u : Tree
      u = later_over t n t.state now

      some_elapsed : (p : Plant) (old new : ℕ) → plant_in t ≡ Some p → HasElapsed (at_in m t) d (find t.nodes) (find n) 0 t.clock p old new → Elapsed m t u d old new
      some_elapsed p old new is r =
          let was : term_in t ≡ term_in_option t.clock (Some p) = ap (term_in_option t.clock) is in
          let under : Under u (Some r.plant) = record {
            under = ap Some r.under ∙ ap root_of (sym is) ∙ fresh.there.under;
            stands = r.made.stands;
          } in
          let high : height (term_in_option now (Some r.plant)) ≡ height (term_in t) = ap height r.computed ∙ passed_high (at_in m t) d 0 (term_in_option t.clock (Some p)) ∙ ap height (sym was) in
          let there : IsThere m u = there_by m u (Some r.plant) under
          (record { place = fresh.there.of_model.place; is_process = fresh.there.of_model.is_process; class = fresh.there.of_model.class })
          r.tended r.short room (let low = fresh.there.low in omega (arith, low, high)) in
          record {
            passes =
                subst (λ (x : Term). Passes (at_in m t) d 0 (term_in t) x) (sym (its_term u (Some r.plant) under))
                (subst (λ (x : Term). Passes (at_in m t) d 0 x (term_in_option now (Some r.plant))) (sym was)
                (r.passes (subst (λ (x : Term). IsUntroubled (at_in m t) 0 x) was (untroubled listed (at_in m t) t.clock (term_in t) calm))));
            fresh = fresh_by m u (Some r.plant) under r.fresh r.timely r.soon there;
            settled =
                ap leaving.is_done (its_term u (Some r.plant) under) ∙ ap leaving.is_done r.computed
                ∙ passed_done (at_in m t) d 0 (term_in_option t.clock (Some p)) ∙ ap leaving.is_done (sym was);
            ticks =
                let nodes : woken_in t u ≡ woken_of now (Some p) (Some r.plant) = (λ i. woken_of now (is i) (is_read u (Some r.plant) under i)) in
                let steps = r.ticks in
                omega (arith, nodes, steps);
          }

      by_plant : (key old new : ℕ) → t.root ≡ Some key → ElapseRule (at_in m u) (find t.nodes) (find n) key 0 now old new → (p : Option Plant) → plant_in t ≡ p → Elapsed m t u d old new
      by_plant key old new at rule None is = absurd (none_some (sym (ap root_of is) ∙ fresh.there.under ∙ at))
        where
          none_some : None ≡ Some key → ⊥
          none_some e = cc
      by_plant key old new at rule (Some p) is =
          let kept : (kept_of (Some p)).summary ≡ summary_of (at_in m t) t.clock 0 (term_in t) =
          kept_summary (at_in m t) t.clock (Some p) (subst (FreshOption (at_in m t) 0 t.clock) is fresh.fresh)
          ∙ ap (λ (q : Option Plant). summary_of (at_in m t) t.clock 0 (term_in_option t.clock q)) (sym is) in
          some_elapsed p old new is (rule (at_in m t) d t.clock refl refl p
          (subst (StandsOption (find t.nodes)) is fresh.there.stands)
          (same (ap root_of (sym is) ∙ fresh.there.under ∙ at))
          sound
          (record {
            tended = subst (TendedOption 0 t.clock) is fresh.there.tended;
            fresh = subst (FreshOption (at_in m t) 0 t.clock) is fresh.fresh;
            untroubled = ap (λ s. s.trouble) kept ∙ calm;
            within = not_before (kept_of (Some p)).summary.due (summary_of (at_in m t) t.clock 0 (term_in t)).due (ap (λ s. s.due) kept) due;
            timely = subst (TimelyOption t.clock) is fresh.timely;
            short = subst (λ (q : Option Plant). IsShort (term_in_option t.clock q)) is fresh.there.short;
          })
          room)
        where
          same : Some (root p) ≡ Some key → root p ≡ key
          same e = cc

    pub elapsed : (n : Arena (Node What)) (s : Seen) → s ≡ t.state → (key old new : ℕ) → t.root ≡ Some key → ElapseRule (at_in m (later_over t n t.state now)) (find t.nodes) (find n) key 0 now old new
        → Elapsed m t (later_over t n s now) d old new
    elapsed n s same key old new at rule = subst (λ (z : Seen). Elapsed m t (later_over t n z now) d old new) (sym same) (by_plant n key old new at rule (plant_in t) refl)

  -- where nothing stands, the clock alone goes on
  pub nothing_elapsed : (steps : ℕ) → t.root ≡ None → Elapsed m t (later_over t t.nodes t.state now) d steps steps
  nothing_elapsed steps at = by (plant_in t) refl
    where
      v : Tree
      v = later_over t t.nodes t.state now

      some_none : (p : Plant) → Some (root p) ≡ None → ⊥
      some_none p e = cc

      by : (p : Option Plant) → plant_in t ≡ p → Elapsed m t v d steps steps
      by None is =
          let under : Under v None = record { under = ap root_of (sym is) ∙ fresh.there.under; stands = tt } in
          let was : term_in t ≡ done = ap (term_in_option t.clock) is in
          let there : IsThere m v = there_by m v None under
          (record { place = fresh.there.of_model.place; is_process = fresh.there.of_model.is_process; class = fresh.there.of_model.class })
          tt tt room (let low = fresh.there.low in let high : height (term_in t) ≡ 1 = ap height was in omega (arith, low, high)) in
          record {
            passes =
                subst (λ (x : Term). Passes (at_in m t) d 0 (term_in t) x) (sym (its_term v None under))
                (subst (λ (x : Term). Passes (at_in m t) d 0 x done) (sym was) (is_done 0));
            fresh = fresh_by m v None under tt tt tt there;
            settled = ap leaving.is_done (its_term v None under) ∙ ap leaving.is_done (sym was);
            ticks = omega arith;
          }
      by (Some p) is = absurd (some_none p (ap root_of (sym is) ∙ fresh.there.under ∙ at))

-- where the clock shows this moment when the time has passed

module _ (m : ModelTree) (t : Tree) (fresh : IsFresh m t) (d clock : ℕ) (is : t.clock + d ≡ clock) (room : HasRoom clock) where
  room_there : HasRoom (t.clock + d)
  room_there = subst HasRoom (sym is) room

  pub elapsed_at : TroublesAreListed → IsSound m → (summary_of (at_in m t) t.clock 0 (term_in t)).trouble ≡ None → IsDue clock (summary_of (at_in m t) t.clock 0 (term_in t)).due
      → (n : Arena (Node What)) (s : Seen) → s ≡ t.state → (key old new : ℕ) → t.root ≡ Some key → ElapseRule (at_in m (later_over t t.nodes t.state clock)) (find t.nodes) (find n) key 0 clock old new
      → Elapsed m t (later_over t n s clock) d old new
  elapsed_at listed sound calm due n s same key old new at rule =
      subst (λ (k : ℕ). Elapsed m t (later_over t n s k) d old new) is
      (elapsed m t fresh d room_there listed sound calm
      (subst (λ (k : ℕ). IsDue k (summary_of (at_in m t) t.clock 0 (term_in t)).due) (sym is) due)
      n s same key old new at
      (subst (λ (k : ℕ). ElapseRule (at_in m (later_over t n t.state k)) (find t.nodes) (find n) key 0 k old new) (sym is) rule))

  pub nothing_elapsed_at : (steps : ℕ) → t.root ≡ None → Elapsed m t (later_over t t.nodes t.state clock) d steps steps
  nothing_elapsed_at steps at = subst (λ (k : ℕ). Elapsed m t (later_over t t.nodes t.state k) d steps steps) is (nothing_elapsed m t fresh d room_there steps at)

  -- the same nodes
  abbrev rested_tree : Tree
  rested_tree = later_over t t.nodes t.state clock

  -- where nothing wakes
  pub record Rested : Type 0 where
    pub passes : Passes (at_in m t) d 0 (term_in t) (term_in rested_tree)
    pub still : IsFresh m rested_tree
    pub summary : summary_of (at_in m rested_tree) clock 0 (term_in rested_tree) ≡ summary_of (at_in m t) t.clock 0 (term_in t)
    pub settled : leaving.is_done (term_in rested_tree) ≡ leaving.is_done (term_in t)

  rested_by : (old new : ℕ) → Elapsed m t rested_tree d old new → Rested
  rested_by old new e =
      let after = e.fresh in
      record {
        passes = e.passes;
        still = after;
        summary = sym (kept_summary (at_in m rested_tree) clock (plant_in t) after.fresh) ∙ kept_summary (at_in m t) t.clock (plant_in t) fresh.fresh;
        settled = e.settled;
      }

  pub rested : TroublesAreListed → IsSound m → (summary_of (at_in m t) t.clock 0 (term_in t)).trouble ≡ None → IsDue clock (summary_of (at_in m t) t.clock 0 (term_in t)).due
      → (old new : ℕ) → RestRule (find t.nodes) t.root clock old new → Rested
  rested listed sound calm due old new rule = by t.root refl rule
    where
      by : (root : Option ℕ) → t.root ≡ root → RestRule (find t.nodes) root clock old new → Rested
      by None at r = rested_by old old (nothing_elapsed_at old at)
      by (Some key) at r = rested_by old new (elapsed_at listed sound calm due t.nodes t.state refl key old new at (r (at_in m rested_tree)))

-- what its statements see
pub seen_later : (m : ModelTree) (t : Tree) (d clock : ℕ) → t.clock + d ≡ clock → (n : Arena (Node What)) (s : Seen) → s ≡ t.state → at_in m (later_over t n s clock) ≡ later (at_in m t) d
seen_later m t d clock is n s same = λ i. record {
  setting = (at_in m t).setting;
  process = t.process;
  class = t.class.0;
  clock = sym is i;
  state = (same i).held;
}
