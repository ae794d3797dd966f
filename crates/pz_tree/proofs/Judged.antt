-- The receive at a place, and what it says.
use Rattle.std.proofs.Common.{◌≡◌, ℕ, Option, Some, None, refl, sym, ap, subst, ◌∙◌}
use Rattle.std.specs.Prelude.{option_map}
use Rattle.std.proofs.Math.Logic.{∥∥₁_elim}
use Rattle.pz_rules.specs.pz_syntax.Statements as statement
use Rattle.pz_rules.specs.pz_syntax.Classes.{ModelTree}
use Rattle.pz_rules.specs.pz_copy.Parcels.{ParcelView}
use Rattle.pz_nodes.specs.Arena.{find}
use Rattle.pz_nodes_shapes.specs.declared.node.Node.{Node}
use Rattle.pz_nodes_shapes.specs.Rose.{node, Map, root, roots, Stands}
use Rattle.pz_nodes_shapes.specs.Seen.{seen, seen_node}
use Rattle.pz_rules.specs.pz_offer.PlaceOrder.{Place}
use Rattle.pz_rules.specs.pz_offer.declared.ends.Verdict.{Verdict}
use Rattle.pz_rules.specs.Acting.{IsReceive}
use Rattle.pz_rules.specs.Laws.{part_of}
use Rattle.pz_rules.specs.Messages.{Judges}
use Rattle.pz_rules.specs.Terms.{Step, Term, Terms, done}
use Rattle.pz_rules.specs.Terms as term
use Rattle.pz_rules.specs.View.{term_view}
use Rattle.pz_rules.specs.declared.term.Term as code
use Rattle.pz_rules.specs.pz_state.declared.state.FrameId.{FrameId}
use Rattle.pz_tree_acting.specs.pz_tree_standing.Heads as heads
use Rattle.pz_tree_acting.specs.pz_tree_standing.Heads.{Head, Shape, formed}
use Rattle.pz_tree_acting.specs.pz_tree_standing.Standing.{term_of, terms_of}
use Rattle.pz_tree_acting.specs.pz_tree_standing.Whole.{IsNoShift}
use Rattle.pz_tree_acting.specs.pz_tree_standing.Meaning.{StandsFor}
use Rattle.pz_tree_acting.specs.pz_tree_nodes.declared.node.What.{What}
use Rattle.pz_tree_acting.specs.pz_tree_nodes.View.{Plant, head_view, what_view, term_in_option}
use Rattle.pz_tree_acting.specs.pz_tree_nodes.Tended.{TendedOption}
use Rattle.pz_tree_acting.specs.pz_tree_nodes.Planting.{root_of}
use Rattle.pz_tree_acting.specs.pz_tree_regrowing.Regrowing.{StandsOption}
use Rattle.pz_tree_acting.specs.pz_tree_nodes.Seeking.{frame_at, StandsUnder, IsBare, IsBareUnder, SeekRule, ActiveAtPlace, TendedStand}
use Rattle.pz_tree.specs.declared.tree.Tree.{Tree}
use Rattle.pz_tree.specs.Asking.{HasReceive, said_by, JudgesAt}
use Rattle.pz_tree.specs.Trees.{plant_in, term_in, at_in, IsThere, IsFresh}
use Rattle.pz_tree.specs.devices.Receiving.{IsFoundReceive, ReceiveRule}

-- ---------------------------------------------------------- which statements receive

statement_prop : (s : Step) → IsProp (IsReceive (term.leaf s))
statement_prop (statement.receive at port name into condition after) = λ x y. refl
statement_prop (statement.skip at) = λ x y. absurd x
statement_prop (statement.delay at e) = λ x y. absurd x
statement_prop (statement.bracketed at ts) = λ x y. absurd x
statement_prop (statement.block at es) = λ x y. absurd x
statement_prop (statement.guarded at e t) = λ x y. absurd x
statement_prop (statement.parallel at bs) = λ x y. absurd x
statement_prop (statement.select at bs) = λ x y. absurd x
statement_prop (statement.conditional at e ts other) = λ x y. absurd x
statement_prop (statement.repeated at e ts) = λ x y. absurd x
statement_prop (statement.abort at ts t) = λ x y. absurd x
statement_prop (statement.interrupt at ts t) = λ x y. absurd x
statement_prop (statement.send at port name args after) = λ x y. absurd x
statement_prop (statement.call at method args results) = λ x y. absurd x
statement_prop (statement.assignment at x e) = λ y z. absurd y
statement_prop (statement.value at e) = λ x y. absurd x

receive_prop : (t : Term) → IsProp (IsReceive t)
receive_prop (term.leaf s) = statement_prop s
receive_prop done = λ x y. absurd x
receive_prop (term.wait left at) = λ x y. absurd x
receive_prop (term.sequence t rest) = λ x y. absurd x
receive_prop (term.parallel ts) = λ x y. absurd x
receive_prop (term.select ts) = λ x y. absurd x
receive_prop (term.guarded test at t) = λ x y. absurd x
receive_prop (term.frame number inputs results t) = λ x y. absurd x
receive_prop (term.abort t u) = λ x y. absurd x
receive_prop (term.idle t u again) = λ x y. absurd x
receive_prop (term.handling t u again) = λ x y. absurd x

-- ---------------------------------------------------------- under a key

-- what the code made of the head of a node that is a statement
abbrev pub HeadGives : Head → code.Term → Type 0
HeadGives h part = (s : Step) → h ≡ heads.leaf s → term_view part ≡ term.leaf s

by_head : (part : code.Term) (h : Head) (c : ℕ) (ts : Terms) → IsNoShift h → IsReceive (formed h c ts) → HeadGives h part → term_view part ≡ formed h c ts
by_head part (heads.leaf s) c ts bare is gives = gives s refl
by_head part (heads.wait due at) c ts bare is gives = absurd is
by_head part (heads.sequence rest) c ts bare is gives = absurd is
by_head part heads.parallel c ts bare is gives = absurd is
by_head part heads.select c ts bare is gives = absurd is
by_head part (heads.guarded e at s) c ts bare is gives = absurd is
by_head part (heads.frame number inputs results) c ts bare is gives = absurd is
by_head part heads.abort c ts bare is gives = absurd is
by_head part (heads.idle again s) c ts bare is gives = absurd is
by_head part (heads.handling again s) c ts bare is gives = absurd is
by_head part (heads.shifted s) c ts bare is gives = absurd bare

module _ (m : Map What) (root_key : Option ℕ) (f c : ℕ) (place : Place) (key : Option ℕ) (frame : FrameId) (clock : ℕ) (rule : SeekRule (seen what_view m) root_key f c place key frame.0 clock) where
  -- nothing stands where a receive does
  pub receive_nowhere : (part : code.Term) → key ≡ None → ReceiveRule m root_key f c place frame part
  receive_nowhere part none t stands is =
      let found = rule t stands in
      let under : part_of t place ≡ done = subst (λ (k : Option ℕ). StandsUnder (seen what_view m) k clock (part_of t place)) none found.part in
      absurd (subst IsReceive under is)

  module _ (k : ℕ) (some : key ≡ Some k) where
    stands_there : (t : Term) → StandsUnder (seen what_view m) root_key c t → StandsFor (seen what_view m) k clock (part_of t place)
    stands_there t stands = subst (λ (o : Option ℕ). StandsUnder (seen what_view m) o clock (part_of t place)) some (rule t stands).part

    pub receive_vacant : (part : code.Term) → m k ≡ None → ReceiveRule m root_key f c place frame part
    receive_vacant part none t stands is = by it.shape it.stands it.under
      where
        it : StandsFor (seen what_view m) k clock (part_of t place)
        it = stands_there t stands

        no_node : (w : heads.What) (keys : _) → ◌≡◌ {A = Option (Node heads.What)} None (Some (record { what = w; kids = keys })) → ⊥
        no_node w keys e = cc

        by : (s : Shape) → Stands (seen what_view m) s → root s ≡ k → IsFoundReceive f t place frame part
        by (node i x ss) st at = absurd (no_node x (roots ss) (sym (ap (option_map (seen_node what_view)) none) ∙ ap (seen what_view m) (sym at) ∙ st.0))

    pub receive_there : (part : code.Term) (n : Node What) → m k ≡ Some n → HeadGives (head_view n.what.head) part → ReceiveRule m root_key f c place frame part
    receive_there part n there gives t stands is = record {
      in_frame = (rule t stands).in_frame;
      is_part = by it.shape it.stands it.under it.means;
    }
      where
        it : StandsFor (seen what_view m) k clock (part_of t place)
        it = stands_there t stands

        seen_there : seen what_view m k ≡ Some (seen_node what_view n)
        seen_there = ap (option_map (seen_node what_view)) there

        bare : IsNoShift (head_view n.what.head)
        bare = subst IsBare seen_there (subst (IsBareUnder (seen what_view m)) some (rule t stands).bare)

        one_node : (a b : Node heads.What) → ◌≡◌ {A = Option (Node heads.What)} (Some a) (Some b) → a ≡ b
        one_node a b e = cc

        by : (s : Shape) → Stands (seen what_view m) s → root s ≡ k → part_of t place ≡ term_of clock s → term_view part ≡ part_of t place
        by (node i x ss) st at means =
            let same : seen_node what_view n ≡ record { what = x; kids = roots ss } = one_node (seen_node what_view n) (record { what = x; kids = roots ss }) (sym seen_there ∙ ap (seen what_view m) (sym at) ∙ st.0) in
            let head : head_view n.what.head ≡ x.head = ap (λ (y : Node heads.What). y.what.head) same in
            by_head part x.head clock (terms_of x.head clock 0 ss)
            (subst IsNoShift head bare)
            (subst IsReceive means is)
            (subst (λ (h : Head). HeadGives h part) head gives)
            ∙ sym means

-- ---------------------------------------------------------- in a tree

module _ (m : ModelTree) (t : Tree) (there : IsThere m t) (law : TendedStand) where
  pub stands_under : (key : Option ℕ) (clock : ℕ) → key ≡ t.root → clock ≡ t.clock → StandsUnder (seen what_view (find t.nodes)) key clock (term_in t)
  stands_under key clock at_root by_clock =
      subst (λ (o : Option ℕ). StandsUnder (seen what_view (find t.nodes)) o clock (term_in t)) (sym at_root)
      (subst (λ (c : ℕ). StandsUnder (seen what_view (find t.nodes)) t.root c (term_in t)) (sym by_clock)
      (by (plant_in t) refl))
    where
      by : (p : Option Plant) → plant_in t ≡ p → StandsUnder (seen what_view (find t.nodes)) t.root t.clock (term_in t)
      by None is =
          subst (λ (k : Option ℕ). StandsUnder (seen what_view (find t.nodes)) k t.clock (term_in t)) (ap root_of (sym is) ∙ there.under)
          (ap (term_in_option t.clock) is)
      by (Some p) is =
          subst (λ (k : Option ℕ). StandsUnder (seen what_view (find t.nodes)) k t.clock (term_in t)) (ap root_of (sym is) ∙ there.under)
          (subst (StandsFor (seen what_view (find t.nodes)) (root p) t.clock) (sym (ap (term_in_option t.clock) is))
          (law (find t.nodes) 0 t.clock p (subst (StandsOption (find t.nodes)) is there.stands) (subst (TendedOption 0 t.clock) is there.tended)))

module _ (m : ModelTree) (t : Tree) (place : Place) (at : ActiveAtPlace) (law : TendedStand) (frame : FrameId) (part : code.Term) (key : Option ℕ) (clock whole : ℕ)
    (at_root : key ≡ t.root) (in_none : whole ≡ 0) (by_clock : clock ≡ t.clock) (rule : ReceiveRule (find t.nodes) key whole clock place frame part) where
  found_so : IsThere m t → IsReceive (part_of (term_in t) place) → IsFoundReceive whole (term_in t) place frame part
  found_so there is = rule (term_in t) (stands_under m t there law key clock at_root by_clock) is

  is_receive : HasReceive (at_in m t) (term_in t) place → IsReceive (part_of (term_in t) place)
  is_receive has = subst IsReceive (at (at_in m t) 0 (term_in t) place has.frame has.part has.active).0 has.it_holds

  pub receives_so : ∥ IsFresh m t ∥₁ → ∥ HasReceive (at_in m t) (term_in t) place ∥₁ → IsReceive (term_view part)
  receives_so fresh has =
      ∥∥₁_elim fresh (receive_prop (term_view part)) (λ f.
      ∥∥₁_elim has (receive_prop (term_view part)) (λ h.
      subst IsReceive (sym (found_so f.there (is_receive h)).is_part) (is_receive h)))

  pub judges_so : IsFresh m t → (parcel : ParcelView) (v : Verdict) → Judges (at_in m t) frame.0 parcel (term_view part) (said_by v) → IsReceive (term_view part) → ∥ HasReceive (at_in m t) (term_in t) place ∥₁
      → JudgesAt (at_in m t) (term_in t) place parcel v
  judges_so fresh parcel v judges is has g x active =
      let here = at (at_in m t) 0 (term_in t) place g x active in
      let receive : IsReceive (part_of (term_in t) place) = ∥∥₁_elim has (receive_prop (part_of (term_in t) place)) is_receive in
      let found = found_so fresh.there receive in
      subst (λ (y : Term). Judges (at_in m t) g parcel y (said_by v)) (found.is_part ∙ sym here.0)
      (subst (λ (k : ℕ). Judges (at_in m t) k parcel (term_view part) (said_by v)) (found.in_frame ∙ ap (λ (k : ℕ). frame_at k (term_in t) place) in_none ∙ sym here.1) judges)
