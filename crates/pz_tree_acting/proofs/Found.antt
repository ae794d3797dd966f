-- The part that is found is the part that can act.
use Rattle.std.proofs.Common.{◌≡◌, ℕ, Option, Some, None, refl, sym, ap, ◌∙◌, subst}
use Rattle.pz_classes_code.specs.pz_syntax.declared.tokens.Pos.{Pos}
use Rattle.pz_nodes_shapes.specs.declared.node.Node.{Node}
use Rattle.pz_nodes_shapes.specs.Rose.{node, Map, root, roots, Stands}
use Rattle.pz_nodes_shapes.specs.Seen.{seen, seen_node}
use Rattle.pz_rules.specs.pz_offer.PlaceOrder.{Place}
use Rattle.pz_rules.specs.Laws.{part_of}
use Rattle.pz_rules.specs.Settings.{Context}
use Rattle.pz_rules.specs.Terms.{Term, Terms, done}
use Rattle.pz_rules.specs.Terms as term
use Rattle.pz_part_actions.specs.pz_part_queries.Parts.{IsPartAt}
use Rattle.pz_tree_regrowing.specs.pz_tree_standing.Heads.{Head, What, formed, leaf, wait, sequence, parallel, select, guarded, frame, abort, idle, handling, shifted}
use Rattle.pz_tree_regrowing.specs.pz_tree_standing.Standing.{terms_of}
use Rattle.pz_tree_regrowing.specs.pz_tree_standing.Whole.{IsNoShift}
use Rattle.pz_tree_regrowing.specs.pz_tree_nodes.declared.node.What as lying
use Rattle.pz_tree_regrowing.specs.pz_tree_nodes.View.{Plant, head_view, what_view, term_in_option}
use Rattle.pz_tree_regrowing.specs.pz_tree_nodes.Seeking.{frame_at, StandsUnder, IsBareUnder, IsFound, ActiveAtPlace, TendedStand}
use Rattle.pz_rules.specs.pz_copy.Parcels.{ParcelView}
use Rattle.pz_tree_acting.specs.declared.how.How.{How}
use Rattle.pz_tree_acting.specs.declared.how.How.TheVariants.{Internal, Send, Receive}
use Rattle.pz_tree_acting.specs.Deeds.{able}
use Rattle.pz_tree_acting.specs.Acting.{Rooted}
use Rattle.pz_part_actions.proofs.Statements.{acting_place, sending_place, receiving_place}
use Rattle.pz_tree_acting.specs.devices.Parts.{IsSimple, PartRule, HeadRule}
use Rattle.pz_part_actions.specs.StatementPlaces.{IsFrom}

pub simple_from : (pos : Pos) (t : Term) → IsFrom pos t → IsSimple t
simple_from pos (term.leaf s) h = tt
simple_from pos (term.wait left at) h = tt
simple_from pos done h = h
simple_from pos (term.sequence t rest) h = h
simple_from pos (term.parallel ts) h = h
simple_from pos (term.select ts) h = h
simple_from pos (term.guarded test at t) h = h
simple_from pos (term.frame number inputs results t) h = h
simple_from pos (term.abort t u) h = h
simple_from pos (term.idle t u again) h = h
simple_from pos (term.handling t u again) h = h

-- ------------------------------------------------------------ of a node

-- what acts is a leaf or a delay
pub no_part : (h : Head) (c : ℕ) (t : Term) → ((s : term.Step) → h ≡ leaf s → ⊥) → ((due : ℕ) (at : Pos) → h ≡ wait due at → ⊥) → HeadRule h c t
no_part (leaf s) c t one other ts n simple = absurd (one s refl)
no_part (wait due at) c t one other ts n simple = absurd (other due at refl)
no_part (sequence rest) c t one other ts n simple = absurd simple
no_part parallel c t one other ts n simple = absurd simple
no_part select c t one other ts n simple = absurd simple
no_part (guarded e at s) c t one other ts n simple = absurd simple
no_part (frame number inputs results) c t one other ts n simple = absurd simple
no_part abort c t one other ts n simple = absurd simple
no_part (idle again s) c t one other ts n simple = absurd simple
no_part (handling again s) c t one other ts n simple = absurd simple
no_part (shifted s) c t one other ts n simple = absurd n

-- ------------------------------------------------------------ under a key

pub none_under : (m : Map What) (key : Option ℕ) (c : ℕ) (t : Term) → key ≡ None → PartRule m key c t
none_under m None c t is u stands bare simple = absurd (subst IsSimple stands simple)
none_under m (Some k) c t is u stands bare simple = absurd cc

pub vacant_under : (m : Map What) (key : Option ℕ) (k c : ℕ) (t : Term) → key ≡ Some k → m k ≡ None → PartRule m key c t
vacant_under m None k c t is v u stands bare simple = absurd cc
vacant_under m (Some j) k c t is v u stands bare simple = none stands.shape stands.stands stands.under
  where
    none : (s : Rattle.pz_tree_regrowing.specs.pz_tree_standing.Heads.Shape) → Stands m s → root s ≡ j → t ≡ u
    none (node i x ss) st under = absurd (let e : j ≡ k = cc in let w = st.0 in cc)

pub part_under : (m : Map lying.What) (key : Option ℕ) (k c : ℕ) (n : Node lying.What) (t : Term) → key ≡ Some k → Some n ≡ m k → HeadRule (head_view n.what.head) c t → PartRule (seen what_view m) key c t
part_under m None k c n t is stood rule u stands bare simple = absurd cc
part_under m (Some j) k c n t is stood rule u stands bare simple = by stands.shape stands.stands stands.under stands.means
  where
    same : (a b : Node What) → ◌≡◌ {A = Option (Node What)} (Some a) (Some b) → a ≡ b
    same a b e = cc

    by : (s : Rattle.pz_tree_regrowing.specs.pz_tree_standing.Heads.Shape) → Stands (seen what_view m) s → root s ≡ j → u ≡ Rattle.pz_tree_regrowing.specs.pz_tree_standing.Standing.term_of c s → t ≡ u
    by (node i x ss) st under means =
        let here : seen what_view m j ≡ Some (seen_node what_view n) = ap (λ (o : Option (Node lying.What)). Rattle.std.specs.Prelude.option_map (seen_node what_view) o) (ap m (let e : j ≡ k = cc in e) ∙ sym stood) in
        let is_node : seen_node what_view n ≡ record { what = x; kids = roots ss } = same (seen_node what_view n) (record { what = x; kids = roots ss }) (sym here ∙ ap (seen what_view m) (sym under) ∙ st.0) in
        let head : head_view n.what.head ≡ x.head = ap (λ (o : Node What). o.what.head) is_node in
        let ts = terms_of x.head c 0 ss in
        let bare_here : IsNoShift (head_view n.what.head) = subst Rattle.pz_tree_regrowing.specs.pz_tree_nodes.Seeking.IsBare here bare in
        let is_formed : u ≡ formed (head_view n.what.head) c ts = means ∙ ap (λ h. formed h c ts) (sym head) in
        rule ts bare_here (subst IsSimple is_formed simple) ∙ sym is_formed

-- ------------------------------------------------------------ at a place

-- whatever is active at the place is this
pub found_at : ActiveAtPlace → (t : Term) (place : Place) (f : ℕ) (y : Term) → f ≡ frame_at 0 t place → y ≡ part_of t place → IsPartAt 0 t place f y
found_at law t place f y framed is a g x active =
    let at = law a 0 t place g x active in
    (framed ∙ sym at.1, is ∙ sym at.0)

pub rooted_stands : TendedStand → (m : Map lying.What) (key : Option ℕ) (c : ℕ) (p : Option Plant) → Rooted m key c p → StandsUnder (seen what_view m) key c (term_in_option c p)
rooted_stands law m key c None r = subst (λ k. StandsUnder (seen what_view m) k c done) r.under refl
rooted_stands law m key c (Some p) r = subst (λ k. StandsUnder (seen what_view m) k c (term_in_option c (Some p))) r.under (law m 0 c p r.stands r.tended)

-- ------------------------------------------------------------ the place of its statement

pub able_place : (how : How) (parcel : ParcelView) (a : Context) (g : ℕ) (x : Term) (pos : Pos) → able how parcel a g x pos → IsFrom pos x
able_place Internal parcel a g x pos can = acting_place a g x can.0 pos can.1
able_place Send parcel a g x pos can = sending_place a g x pos can.0 can.1 parcel can.2
able_place (Receive taken) parcel a g x pos can = receiving_place x pos can.0 can.1 can.2 can.3

pub vacant_seen : (m : Map lying.What) (key : Option ℕ) (k c : ℕ) (t : Term) → key ≡ Some k → None ≡ m k → PartRule (seen what_view m) key c t
vacant_seen m key k c t is v = vacant_under (seen what_view m) key k c t is (ap (λ (o : Option (Node lying.What)). Rattle.std.specs.Prelude.option_map (seen_node what_view) o) (sym v))
