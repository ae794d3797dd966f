-- What a part sends or receives, by its node.
use Rattle.std.proofs.Common.{◌≡◌, ℕ, List, [], ◌∷◌, ◌++◌, Option, Some, None, Result, Ok, Err, refl, ap, sym, ◌∙◌, subst}
use Rattle.std.specs.Prelude.{option_map}
use Rattle.pz_classes_code.specs.pz_syntax.declared.tokens.Pos.{Pos}
use Rattle.pz_classes_code.specs.pz_syntax.declared.names.Id.{Id}
use Rattle.pz_classes_code.specs.pz_syntax.Expressions as ours
use Rattle.pz_classes_code.specs.pz_syntax.Statements as statement
use Rattle.pz_classes_code.specs.pz_value.declared.value.ClassId.{ClassId}
use Rattle.pz_classes_code.specs.pz_value.declared.value.Value.{Value}
use Rattle.pz_classes_code.specs.declared.slot.Slot.{Slot}
use Rattle.pz_classes_code.specs.declared.step.Step as lying
use Rattle.pz_classes_code.specs.StepView as step
use Rattle.pz_classes_code.specs.CodeView.{part_view}
use Rattle.pz_tree_nodes.specs.pz_state.States.{StateView}
use Rattle.pz_tree_nodes.specs.pz_copy.Parcels.{ParcelView}
use Rattle.pz_tree_nodes.specs.pz_copy.Packing.{IsParcelOf}
use Rattle.pz_tree_nodes.specs.pz_offer.declared.trouble.Trouble.{Trouble}
use Rattle.pz_nodes_shapes.specs.declared.node.Node.{Node}
use Rattle.pz_nodes_shapes.specs.Rose.{node, Map, root, roots, Stands}
use Rattle.pz_nodes_shapes.specs.Seen.{seen, seen_node}
use Rattle.pz_tree_nodes.specs.pz_rules.Laws.{part_of}
use Rattle.pz_tree_nodes.specs.pz_rules.Settings.{Context}
use Rattle.pz_tree_nodes.specs.pz_rules.Terms.{Step, Term, leaf}
use Rattle.pz_tree_nodes.specs.pz_rules.Evaluations.{GivesPart}
use Rattle.pz_tree_nodes.specs.pz_rules.devices.Computed.{PartsAreComputed}
use Rattle.pz_tree_nodes.specs.pz_rules.devices.Found.{found_part, left_part}
use Rattle.pz_tree_nodes.specs.pz_rules.devices.Walk as walk
use Rattle.pz_tree_nodes.specs.pz_rules.devices.Walk.{Noted, sent_by, statement_sends, sending, received_by, statement_receives}
use Rattle.pz_part_queries.specs.Parcels.{Packs, packs, fails}
use Rattle.pz_tree_nodes.specs.pz_tree_standing.Heads.{formed}
use Rattle.pz_tree_nodes.specs.pz_tree_standing.Standing.{terms_of}
use Rattle.pz_tree_nodes.specs.pz_tree_standing.Whole.{IsNoShift}
use Rattle.pz_tree_nodes.specs.declared.node.Head.TheVariants as kind
use Rattle.pz_tree_nodes.specs.declared.node.What.{What}
use Rattle.pz_tree_nodes.specs.View.{Plant, head_view, what_view, shapes_of}
use Rattle.pz_tree_nodes.specs.declared.found.Part.{Part}
use Rattle.pz_tree_nodes.specs.Seeking.{IsBare, IsBareUnder}
use Rattle.pz_tree_nodes.specs.Standing.{StandsRight}
use Rattle.pz_tree_nodes.specs.Listing.{IsOf}
use Rattle.pz_tree_nodes.proofs.Tops.{has_top}
use Rattle.pz_tree_nodes.proofs.Listed.{over_is, sends_nothing, receives_nothing}
use Rattle.pz_tree_offering.specs.declared.forms.SendForm.{SendForm}
use Rattle.pz_tree_offering.specs.declared.offers.ActiveSend.{ActiveSend}
use Rattle.pz_tree_offering.specs.Offers.{IsSend}
use Rattle.pz_tree_offering.specs.devices.Forms.{IsSending, IsSendForm}
use Rattle.pz_tree_offering.specs.devices.Parts.{SendRule}
use Rattle.pz_tree_offering.proofs.Each.{Takes}

-- ---------------------------------------------------------- statements

-- what it sends, if it is a send
pub record IsASend (s : Step) (x : SendForm) : Type 0 where
  pub at : Pos
  pub port : ℕ
  pub name : Id
  pub args : ours.Part Slot ClassId
  pub after : ours.Part Slot ClassId
  pub is : s ≡ statement.send at port name args after
  pub sending : IsSending x at port name args

pub a_send : (s : Step) (x : SendForm) → IsSendForm s (Some x) → IsASend s x
a_send (statement.skip at) x form = absurd form
a_send (statement.delay at e) x form = absurd form
a_send (statement.bracketed at ts) x form = absurd form
a_send (statement.block at es) x form = absurd form
a_send (statement.guarded at e t) x form = absurd form
a_send (statement.parallel at bs) x form = absurd form
a_send (statement.select at bs) x form = absurd form
a_send (statement.conditional at e ts other) x form = absurd form
a_send (statement.repeated at e ts) x form = absurd form
a_send (statement.abort at ts t) x form = absurd form
a_send (statement.interrupt at ts t) x form = absurd form
a_send (statement.send at port name args after) x form = record { at = at; port = port; name = name; args = args; after = after; is = refl; sending = form }
a_send (statement.receive at port name into condition after) x form = absurd form
a_send (statement.call at method args results) x form = absurd form
a_send (statement.assignment at y e) x form = absurd form
a_send (statement.value at e) x form = absurd form

no_send : (a : Context) (f : ℕ) (s : Step) → IsSendForm s None → statement_sends a f s ≡ None
no_send a f (statement.skip at) form = refl
no_send a f (statement.delay at e) form = refl
no_send a f (statement.bracketed at ts) form = refl
no_send a f (statement.block at es) form = refl
no_send a f (statement.guarded at e t) form = refl
no_send a f (statement.parallel at bs) form = refl
no_send a f (statement.select at bs) form = refl
no_send a f (statement.conditional at e ts other) form = refl
no_send a f (statement.repeated at e ts) form = refl
no_send a f (statement.abort at ts t) form = refl
no_send a f (statement.interrupt at ts t) form = refl
no_send a f (statement.send at port name args after) form = absurd form
no_send a f (statement.receive at port name into condition after) form = refl
no_send a f (statement.call at method args results) form = refl
no_send a f (statement.assignment at y e) form = refl
no_send a f (statement.value at e) form = refl

-- ---------------------------------------------------------- nodes

pub some_same : {X : Type 0} (x y : X) → ◌≡◌ {A = Option X} (Some x) (Some y) → x ≡ y
some_same x y e = cc

pub no_and_some : {X : Type 0} (o : Option X) (x : X) → o ≡ None → o ≡ Some x → ⊥
no_and_some o x e g = cc

module _ (m : Map What) (k : ℕ) where
  -- a vacant key has nothing
  pub not_vacant : (a : Context) (f c : ℕ) (t : Term) → m k ≡ None → StandsRight a m f k c t → ⊥
  not_vacant a f c t v r = by r.plant r.stands r.under
    where
      by : (p : Plant) → Stands m p → root p ≡ k → ⊥
      by (node j x ps) st un = let e : ◌≡◌ {A = Option (Node What)} None (Some (record { what = x; kids = roots ps })) = sym v ∙ ap m (sym un) ∙ st.0 in cc

  module _ (n : Node What) (there : m k ≡ Some n) (a : Context) (f c : ℕ) (t : Term) (right : StandsRight a m f k c t) where
    -- a statement
    pub leaf_here : (s : lying.Step) → n.what.head ≡ kind.Leaf s → t ≡ leaf (step.view s)
    leaf_here s e = let top = has_top a m f k c t n there right in
        top.means ∙ ap (λ h. formed (head_view h) c (terms_of (head_view n.what.head) c 0 (shapes_of top.below))) e

    module _ (bare : IsBareUnder (seen what_view m) (Some k)) (plain : (s : lying.Step) → n.what.head ≡ kind.Leaf s → ⊥) where
      no_shift : IsNoShift (head_view n.what.head)
      no_shift = subst IsBare (ap (option_map (seen_node what_view)) there) bare

      -- what is over others neither sends nor receives
      pub no_leaf_sends : sent_by a f t ≡ None
      no_leaf_sends = let top = has_top a m f k c t n there right in
          ap (sent_by a f) top.means ∙ sends_nothing a f (head_view n.what.head) c (terms_of (head_view n.what.head) c 0 (shapes_of top.below)) (over_is n.what.head plain no_shift)

      pub no_leaf_receives : received_by t ≡ None
      no_leaf_receives = let top = has_top a m f k c t n there right in
          ap received_by top.means ∙ receives_nothing (head_view n.what.head) c (terms_of (head_view n.what.head) c 0 (shapes_of top.below)) (over_is n.what.head plain no_shift)

-- ---------------------------------------------------------- sends

module _ (a : Context) (m : Map What) (part : Part) (old new : List ActiveSend) where
  pub sent_vacant : m part.key ≡ None → SendRule a m part old new
  sent_vacant v t what right bare is = absurd (not_vacant m part.key a part.frame.0 part.clock t v right)

  module _ (n : Node What) (there : m part.key ≡ Some n) where
    pub sent_over : ((s : lying.Step) → n.what.head ≡ kind.Leaf s → ⊥) → SendRule a m part old new
    sent_over plain t what right bare is = absurd (no_and_some (sent_by a part.frame.0 t) what (no_leaf_sends m part.key n there a part.frame.0 part.clock t right bare plain) is)

    module _ (s : lying.Step) (head : n.what.head ≡ kind.Leaf s) where
      pub sent_other : IsSendForm (step.view s) None → SendRule a m part old new
      sent_other form t what right bare is =
          absurd (no_and_some (sent_by a part.frame.0 t) what (ap (sent_by a part.frame.0) (leaf_here m part.key n there a part.frame.0 part.clock t right s head) ∙ no_send a part.frame.0 (step.view s) form) is)

      module _ (law : PartsAreComputed) (x : SendForm) (form : IsSendForm (step.view s) (Some x)) where
        sends_so : (r : Result (List Value) Trouble) (left : StateView) → GivesPart a part.frame.0 x.pos (part_view x.args.now) r left
            → statement_sends a part.frame.0 (step.view s) ≡ sending x.pos x.port x.name.now.name left r
        sends_so r left gives =
            let it = a_send (step.view s) x form in
            let only = law a part.frame.0 x.pos (part_view x.args.now) r left gives in
            ap (statement_sends a part.frame.0) it.is
            ∙ (λ i. sending (sym it.sending.pos i) (sym it.sending.port i) (ap (λ (z : Id). z.name) (sym it.sending.name) i) (left_part a part.frame.0 (sym it.sending.args i)) (found_part a part.frame.0 (sym it.sending.pos i) (sym it.sending.args i)))
            ∙ (λ i. sending x.pos x.port x.name.now.name (sym only.1 i) (sym only.0 i))

        pub sent_troubled : (u : Trouble) → Packs a part.frame.0 x.pos (part_view x.args.now) (Err u) → SendRule a m part old new
        sent_troubled _ (fails u left gives) t what right bare is =
            absurd (no_and_some (sent_by a part.frame.0 t) what (ap (sent_by a part.frame.0) (leaf_here m part.key n there a part.frame.0 part.clock t right s head) ∙ sends_so (Err u) left gives) is)

        pub sent_packed : (parcel : ParcelView) (y : ActiveSend) → Packs a part.frame.0 x.pos (part_view x.args.now) (Ok parcel) → y.place ≡ part.place → y.port ≡ x.port → y.message ≡ x.name.now.name → y.parcel ≡ parcel
            → new ≡ old ++ y ∷ [] → SendRule a m part old new
        sent_packed _ y (packs values left parcel gives packed) place port message holds grown t what right bare is =
            let so : ◌≡◌ {A = Option walk.ActiveSend} (Some (record { pos = x.pos; port = x.port; message = x.name.now.name; values = values; state = left })) (Some what) =
            sym (sends_so (Ok values) left gives) ∙ sym (ap (sent_by a part.frame.0) (leaf_here m part.key n there a part.frame.0 part.clock t right s head)) ∙ is in
            let same : record { pos = x.pos; port = x.port; message = x.name.now.name; values = values; state = left } ≡ what = some_same _ what so in
            record {
              one = y;
              grown = grown;
              sent = record {
                place = place;
                port = port ∙ ap (λ (z : walk.ActiveSend). z.port) same;
                message = message ∙ ap (λ (z : walk.ActiveSend). z.message) same;
                parcel = subst (λ (z : walk.ActiveSend). IsParcelOf z.state z.values y.parcel) same (subst (IsParcelOf left values) (sym holds) packed);
              };
            }

-- the next of those that are listed
pub send_taken : (a : Context) (m : Map What) (f : ℕ) (t : Term) (x : Part) (old new : List ActiveSend) → SendRule a m x old new → (n : Noted walk.ActiveSend) → IsOf a m (sent_by a) f t x n → Takes a m (sent_by a) f t IsSend n old new
send_taken a m f t x old new rule n it =
    let adds = rule (part_of t x.place) n.what it.part.right it.part.found.bare it.has in
    record {
      one = adds.one;
      grown = adds.grown;
      holds = record { place = adds.sent.place ∙ it.place; port = adds.sent.port; message = adds.sent.message; parcel = adds.sent.parcel };
    }
