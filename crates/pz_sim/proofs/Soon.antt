-- In how many steps a tree, and all trees, have come where they are.
use Rattle.std.proofs.Common.{◌≡◌, ◌≤◌, ◌+◌, ◌*◌, ℕ, List, [], ◌∷◌, set, get_or, Some, Result, Ok, Err, refl, sym, subst, ap, ◌∙◌, arith}
use Rattle.std.specs.Prelude.{slice_get, IfOk, OnOk, ⊤}
use Rattle.std.specs.declared.alloc.AllocError.{AllocError}
use Rattle.std.proofs.Math.Logic.{∥∥₁_elim, ∥∥₁_map}
use Rattle.std.proofs.lemmas.Option.{get_or_from_slice_get, slice_get_within}
use Rattle.pz_rules.specs.pz_syntax.Classes.{ModelTree}
use Rattle.pz_rules.specs.pz_syntax.declared.tokens.Pos.{Pos}
use Rattle.pz_rules.specs.pz_copy.Parcels.{ParcelView}
use Rattle.pz_rules.specs.pz_offer.declared.end.End.{End}
use Rattle.pz_rules.specs.pz_offer.declared.trouble.Trouble.{Trouble}
use Rattle.pz_rules.specs.pz_offer.PlaceOrder.{Place}
use Rattle.pz_rules.specs.declared.action.Action.{Action}
use Rattle.pz_rules.specs.declared.action.Action.TheVariants.{Internal, Comm}
use Rattle.pz_rules.specs.declared.action.Kind.{Kind}
use Rattle.pz_rules.specs.InternalActions.{Performs}
use Rattle.pz_rules.specs.Leaving.{settled}
use Rattle.pz_rules.specs.Meanings.{and_then}
use Rattle.pz_rules.specs.Messages.{Hands, Takes}
use Rattle.pz_rules.specs.Settings.{Setting, Process, home_of}
use Rattle.pz_rules.specs.Steps.{Deed}
use Rattle.pz_rules.specs.Terms.{Term}
use Rattle.pz_tree.specs.pz_tree_regrowing.Costs.{on_way, made_all, dropped_all}
use Rattle.pz_tree.specs.Acting.{LeavesSoon}
use Rattle.pz_tree.specs.Deeds.{CanAct, Leaves}
use Rattle.pz_tree.specs.declared.tree.Tree.{Tree}
use Rattle.pz_tree.specs.Trees.{IsThere, at_in, term_in, process_in, live_in}
use Rattle.pz_sim.specs.Costs as costs
use Rattle.pz_sim.specs.Costs.{Concerns, ConcernsAll, ActsSoon}
use Rattle.pz_sim.specs.devices.Acting.{MayAct, CanDoAt, HasActed, HasActedSoon}
use Rattle.pz_sim.specs.devices.Holding.{AreTrees}
use Rattle.pz_sim.proofs.Acted.{may_there}
use Rattle.pz_sim.proofs.Heard.{set_same}
use Rattle.pz_sim.proofs.Replaced.{got_set}
use Rattle.std.proofs.lemmas.Option.{same_Some}

-- One tree

way_some : (t : Term) (place : Place) → 1 ≤ on_way t place
way_some t [] = omega arith
way_some t (i ∷ place) = omega arith

never : (q : Process) (trouble : Trouble) → Ok q ≡ Err trouble → ⊥
never q trouble e = cc

module _ (m : ModelTree) (does : Deed) (t u : Tree) (place : Place) where
  abbrev nodes : Process → ℕ
  nodes x = on_way (term_in t) place + (made_all (home_of (at_in m t)) 0 (term_in t) place x + (dropped_all (home_of (at_in m t)) 0 (term_in t) place x + live_in u))

  -- what leaves a process has no trouble
  left_none : (l : Leaves (at_in m t) does (term_in t) place (Ok (process_in u))) (trouble : Trouble) → l.left ≡ Err trouble → ⊥
  left_none l trouble is = never (process_in u) trouble (l.leaves ∙ ap (λ (r : Result Process Trouble). and_then r (settled (at_in m t) l.pos (term_in t) place)) is)

  way_within : (n : ℕ) → Concerns m does t u place n → on_way (term_in t) place ≤ n
  way_within n x = by x.leaves.left refl
    where
      by : (r : Result Process Trouble) → x.leaves.left ≡ r → on_way (term_in t) place ≤ n
      by (Err trouble) is = absurd (left_none x.leaves trouble is)
      by (Ok y) is = let are : n ≡ nodes y = subst (λ (r : Result Process Trouble). IfOk r (λ z. n ≡ nodes z)) is x.nodes_are in omega (arith, are)

  module _ (mid : Tree) (there : ∥ IsThere m mid ∥₁) (stays : IsThere m mid → process_in u ≡ process_in mid) (begun between ended : ℕ) where
    abbrev First : Process → Type 0
    First x = between ≤ begun + 16 * (on_way (term_in t) place + made_all (home_of (at_in m t)) 0 (term_in t) place x + dropped_all (home_of (at_in m t)) 0 (term_in t) place x)

    by_left : (l : Leaves (at_in m t) does (term_in t) place (Ok (process_in u))) → IfOk l.left First → ended ≤ between + 16 * (1 + live_in u) → (r : Result Process Trouble) → l.left ≡ r → HasActedSoon m does t u place begun ended
    by_left l first second (Err trouble) is = absurd (left_none l trouble is)
    by_left l first second (Ok x) is =
        let acted : First x = subst (λ (r : Result Process Trouble). IfOk r First) is first in
        let some = way_some (term_in t) place in
        record {
          nodes = nodes x;
          concerns = record { leaves = l; nodes_are = subst (λ (r : Result Process Trouble). IfOk r (λ y. nodes x ≡ nodes y)) (sym is) refl };
          few = omega (arith, acted, second, some);
        }

    -- it acted, and was asked again
    pub acted_soon : LeavesSoon (at_in m t) does (term_in t) place (process_in mid) begun between → ended ≤ between + 16 * (1 + live_in u) → ∥ HasActedSoon m does t u place begun ended ∥₁
    acted_soon soon later = ∥∥₁_map there (λ h.
        let x = subst (λ (p : Process). LeavesSoon (at_in m t) does (term_in t) place p begun between) (sym (stays h)) soon in
        by_left x.leaves x.ticks later x.leaves.left refl)

-- what is so of the tree that is read, and of that which is put
pub as_read : (ts : List Tree) (i : ℕ) (d t u v : Tree) (P : Tree → Tree → Type 0) → slice_get ts i ≡ Some t → slice_get (set ts i v) i ≡ Some u → P (get_or ts i d) v → P t u
as_read ts i d t u v P t_is u_is p = subst (λ (x : Tree). P x u) (get_or_from_slice_get ts i t d t_is) (subst (P (get_or ts i d)) (sym (set_same ts i v u u_is)) p)

-- All trees

module _ (setting : Setting) (clock : ℕ) (ts us : List Tree) (at : End) (are : ∥ AreTrees setting clock ts ∥₁) (can : ∥ CanDoAt setting.model CanAct ts at ∥₁) (kind : Kind) (pos : Pos) (begun ended : ℕ) where
  abbrev Acted : Result ⊤ Trouble → Type 0
  Acted = HasActed setting.model clock (λ parcel. CanAct) (λ parcel. Performs) at ts us

  abbrev InSteps : Result ⊤ Trouble → Tree → Tree → Type 0
  InSteps left t u = OnOk left (∥ HasActedSoon setting.model Performs t u at.place begun ended ∥₁)

  pub alone_soon : (r : Result (Result ⊤ Trouble) AllocError) → IfOk r Acted
      → ((t u : Tree) → slice_get ts at.process ≡ Some t → slice_get us at.process ≡ Some u → (parcel : ParcelView) → MayAct setting.model clock CanAct t at.place → IfOk r (λ left. InSteps left t u))
      → IfOk r (λ left. OnOk left (∥ ActsSoon setting.model ts us (Internal at kind pos) 0 begun ended ∥₁))
  alone_soon (Err e) x soon = tt
  alone_soon (Ok (Err trouble)) x soon = tt
  alone_soon (Ok (Ok y)) x soon = ∥∥₁_elim are squash₁ (λ k. ∥∥₁_elim can squash₁ (λ z.
      let w = may_there setting clock ts CanAct at k z in
      let same : w.tree ≡ x.old = same_Some w.tree x.old (sym w.is ∙ x.is) in
      let new_is : slice_get us at.process ≡ Some x.new = subst (λ (vs : List Tree). slice_get vs at.process ≡ Some x.new) (sym x.now) (got_set ts at.process x.new (slice_get_within ts at.process x.old x.is)) in
      ∥∥₁_map (soon x.old x.new x.is new_is (record { values = []; objects = [] }) (subst (λ (t : Tree). MayAct setting.model clock CanAct t at.place) same w.may)) (λ h.
      let few = h.few in
      record {
        nodes = h.nodes;
        concerned = costs.internal at kind pos h.nodes (record { old = x.old; is_old = x.is; new = x.new; is_new = new_is; concerns = h.concerns });
        few = omega (arith, few);
      })))

module _ (m : ModelTree) (ts us : List Tree) (wire : ℕ) (sender receiver : End) (message : List ℕ) (parcel : ParcelView) where
  pub both_soon : (s u r v : Tree) (begun tried taken ended : ℕ) → slice_get ts sender.process ≡ Some s → slice_get us sender.process ≡ Some u → slice_get ts receiver.process ≡ Some r → slice_get us receiver.process ≡ Some v
      → tried ≤ begun + 5 * on_way (term_in s) sender.place → HasActedSoon m (λ a f. Takes a f parcel) r v receiver.place tried taken → HasActedSoon m (λ a f. Hands a f parcel) s u sender.place taken ended
      → ActsSoon m ts us (Comm wire sender receiver message parcel) 0 begun ended
  both_soon s u r v begun tried taken ended s_is u_is r_is v_is first second third =
      let receives = second.few in
      let sends = third.few in
      let way = way_within m (λ a f. Hands a f parcel) s u sender.place third.nodes third.concerns in
      record {
        nodes = third.nodes + second.nodes;
        concerned = costs.communication wire sender receiver message parcel third.nodes second.nodes
            (record { old = s; is_old = s_is; new = u; is_new = u_is; concerns = third.concerns })
            (record { old = r; is_old = r_is; new = v; is_new = v_is; concerns = second.concerns });
        few = omega (arith, first, receives, sends, way);
      }

-- with questions after it, of equal trees
pub soon_moved : (m : ModelTree) (ts ts1 us us1 : List Tree) (a : Action) (asked begun begun1 ended1 ended : ℕ) → ts1 ≡ ts → us1 ≡ us → begun1 ≡ begun → ended ≤ ended1 + asked
    → ∥ ActsSoon m ts1 us a 0 begun1 ended1 ∥₁ → ∥ ActsSoon m ts us1 a asked begun ended ∥₁
soon_moved m ts ts1 us us1 a asked begun begun1 ended1 ended same stay from more soon = ∥∥₁_map soon (λ x.
    let few = x.few in
    record {
      nodes = x.nodes;
      concerned = subst (λ (vs : List Tree). ConcernsAll m vs us1 a x.nodes) same (subst (λ (vs : List Tree). ConcernsAll m ts1 vs a x.nodes) (sym stay) x.concerned);
      few = omega (arith, few, from, more);
    })
