-- What a part receives, by its node.
use Rattle.std.proofs.Common.{◌≡◌, ℕ, Bool, true, false, ◌||◌, List, [], ◌∷◌, ◌++◌, length, Option, Some, None, refl, ap, sym, ◌∙◌}
use Rattle.std.specs.Prelude.{is_some}
use Rattle.pz_classes_code.specs.pz_syntax.declared.tokens.Pos.{Pos}
use Rattle.pz_classes_code.specs.pz_syntax.declared.names.Id.{Id}
use Rattle.pz_classes_code.specs.pz_syntax.Expressions as ours
use Rattle.pz_classes_code.specs.pz_syntax.Statements as statement
use Rattle.pz_classes_code.specs.pz_value.declared.value.ClassId.{ClassId}
use Rattle.pz_classes_code.specs.declared.slot.Slot.{Slot}
use Rattle.pz_classes_code.specs.declared.step.Step as lying
use Rattle.pz_classes_code.specs.StepView as step
use Rattle.pz_nodes_shapes.specs.declared.node.Node.{Node}
use Rattle.pz_nodes_shapes.specs.Rose.{node, Map, root, roots, Stands}
use Rattle.pz_tree_nodes.specs.pz_rules.Terms.{Code, Step, Term, leaf}
use Rattle.pz_tree_nodes.specs.pz_rules.Laws.{part_of}
use Rattle.pz_tree_nodes.specs.pz_rules.Messages.{variables_of}
use Rattle.pz_tree_nodes.specs.pz_rules.Settings.{Context}
use Rattle.pz_tree_nodes.specs.pz_rules.devices.Walk as walk
use Rattle.pz_tree_nodes.specs.pz_rules.devices.Walk.{Noted, received_by, statement_receives}
use Rattle.pz_tree_nodes.specs.pz_tree_standing.Asked.{asks}
use Rattle.pz_tree_nodes.specs.pz_tree_standing.Woken.{is_clocked, clocked}
use Rattle.pz_tree_nodes.specs.declared.node.Head.TheVariants as kind
use Rattle.pz_tree_nodes.specs.declared.node.What.{What}
use Rattle.pz_tree_nodes.specs.View.{Plant, term_in}
use Rattle.pz_tree_nodes.specs.Tended.{Marked}
use Rattle.pz_tree_nodes.specs.declared.found.Part.{Part}
use Rattle.pz_tree_nodes.specs.Standing.{StandsRight}
use Rattle.pz_tree_nodes.specs.Listing.{IsOf}
use Rattle.pz_tree_offering.specs.declared.forms.ReceiveForm.{ReceiveForm}
use Rattle.pz_tree_offering.specs.declared.offers.ActiveReceive.{ActiveReceive}
use Rattle.pz_tree_offering.specs.Offers.{has_condition, IsReceive}
use Rattle.pz_tree_offering.specs.devices.Forms.{IsReceiving, IsReceiveForm}
use Rattle.pz_tree_offering.specs.devices.Parts.{ReceiveRule}
use Rattle.pz_tree_offering.proofs.Each.{Takes}
use Rattle.pz_tree_offering.proofs.Sent.{no_and_some, some_same, not_vacant, leaf_here, no_leaf_receives}

-- what it receives, if it is a receive
pub record IsAReceive (s : Step) (x : ReceiveForm) : Type 0 where
  pub at : Pos
  pub port : ℕ
  pub name : Id
  pub into : Option (List Slot)
  pub condition : Option Code
  pub after : ours.Part Slot ClassId
  pub is : s ≡ statement.receive at port name into condition after
  pub receiving : IsReceiving x port name (length (variables_of into)) (is_some condition)

a_receive : (s : Step) (x : ReceiveForm) → IsReceiveForm s (Some x) → IsAReceive s x
a_receive (statement.skip at) x form = absurd form
a_receive (statement.delay at e) x form = absurd form
a_receive (statement.bracketed at ts) x form = absurd form
a_receive (statement.block at es) x form = absurd form
a_receive (statement.guarded at e t) x form = absurd form
a_receive (statement.parallel at bs) x form = absurd form
a_receive (statement.select at bs) x form = absurd form
a_receive (statement.conditional at e ts other) x form = absurd form
a_receive (statement.repeated at e ts) x form = absurd form
a_receive (statement.abort at ts t) x form = absurd form
a_receive (statement.interrupt at ts t) x form = absurd form
a_receive (statement.send at port name args after) x form = absurd form
a_receive (statement.receive at port name into condition after) x form = record { at = at; port = port; name = name; into = into; condition = condition; after = after; is = refl; receiving = form }
a_receive (statement.call at method args results) x form = absurd form
a_receive (statement.assignment at y e) x form = absurd form
a_receive (statement.value at e) x form = absurd form

no_receive : (s : Step) → IsReceiveForm s None → statement_receives s ≡ None
no_receive (statement.skip at) form = refl
no_receive (statement.delay at e) form = refl
no_receive (statement.bracketed at ts) form = refl
no_receive (statement.block at es) form = refl
no_receive (statement.guarded at e t) form = refl
no_receive (statement.parallel at bs) form = refl
no_receive (statement.select at bs) form = refl
no_receive (statement.conditional at e ts other) form = refl
no_receive (statement.repeated at e ts) form = refl
no_receive (statement.abort at ts t) form = refl
no_receive (statement.interrupt at ts t) form = refl
no_receive (statement.send at port name args after) form = refl
no_receive (statement.receive at port name into condition after) form = absurd form
no_receive (statement.call at method args results) form = refl
no_receive (statement.assignment at y e) form = refl
no_receive (statement.value at e) form = refl

or_none : (b : Bool) → b || false ≡ b
or_none false = refl
or_none true = refl

module _ (m : Map What) (part : Part) (old new : List ActiveReceive) where
  pub received_vacant : m part.key ≡ None → ReceiveRule m part old new
  received_vacant v a t what right bare is = absurd (not_vacant m part.key a part.frame.0 part.clock t v right)

  module _ (n : Node What) (there : m part.key ≡ Some n) where
    pub received_over : ((s : lying.Step) → n.what.head ≡ kind.Leaf s → ⊥) → ReceiveRule m part old new
    received_over plain a t what right bare is = absurd (no_and_some (received_by t) what (no_leaf_receives m part.key n there a part.frame.0 part.clock t right bare plain) is)

    -- a node of a statement that is asked nothing keeps whether it names the clock
    clock_kept : (a : Context) (t : Term) → StandsRight a m part.frame.0 part.key part.clock t → (s : Step) → t ≡ leaf s → asks (leaf s) ≡ false → n.what.kept.clocked ≡ is_clocked (leaf s)
    clock_kept a t right s is quiet = by right.plant right.stands right.under right.tended.marked right.means
      where
        by : (p : Plant) → Stands m p → root p ≡ part.key → Marked p → t ≡ term_in part.clock p → n.what.kept.clocked ≡ is_clocked (leaf s)
        by (node j x ps) st un marked means =
            let same : n ≡ record { what = x; kids = roots ps } = some_same n (record { what = x; kids = roots ps }) (sym there ∙ ap m (sym un) ∙ st.0) in
            let term : term_in part.clock (node j x ps) ≡ leaf s = sym means ∙ is in
            ap (λ (z : Node What). z.what.kept.clocked) same
            ∙ ((marked.0 part.clock).flags (ap asks term ∙ quiet) a part.frame.0).clocked
            ∙ ap (clocked a part.frame.0) term
            ∙ or_none (is_clocked (leaf s))

    module _ (s : lying.Step) (head : n.what.head ≡ kind.Leaf s) where
      pub received_other : IsReceiveForm (step.view s) None → ReceiveRule m part old new
      received_other form a t what right bare is =
          absurd (no_and_some (received_by t) what (ap received_by (leaf_here m part.key n there a part.frame.0 part.clock t right s head) ∙ no_receive (step.view s) form) is)

      pub received_so : (x : ReceiveForm) → IsReceiveForm (step.view s) (Some x) → (y : ActiveReceive) → y.place ≡ part.place → y.port ≡ x.port → y.message ≡ x.name.now.name → y.count ≡ x.count → y.conditional ≡ x.conditional
          → y.uses_clock ≡ n.what.kept.clocked → new ≡ old ++ y ∷ [] → ReceiveRule m part old new
      received_so x form y place port message count conditional clock grown a t what right bare is =
          let it = a_receive (step.view s) x form in
          let t_is : t ≡ leaf (statement.receive it.at it.port it.name it.into it.condition it.after) = leaf_here m part.key n there a part.frame.0 part.clock t right s head ∙ ap leaf it.is in
          let same : record { pos = it.at; port = it.port; message = it.name.name; count = length (variables_of it.into) } ≡ what = some_same _ what (sym (ap received_by t_is) ∙ is) in
          record {
            one = y;
            grown = grown;
            received = record {
              place = place;
              port = port ∙ it.receiving.port ∙ ap (λ (z : walk.ActiveReceive). z.port) same;
              message = message ∙ ap (λ (z : Id). z.name) it.receiving.name ∙ ap (λ (z : walk.ActiveReceive). z.message) same;
              count = count ∙ it.receiving.count ∙ ap (λ (z : walk.ActiveReceive). z.count) same;
              conditional = conditional ∙ it.receiving.conditional ∙ sym (ap has_condition t_is);
              clocked = clock ∙ clock_kept a t right (statement.receive it.at it.port it.name it.into it.condition it.after) t_is refl ∙ sym (ap is_clocked t_is);
            };
          }

-- the next of those that are listed
pub receive_taken : (a : Context) (m : Map What) (f : ℕ) (t : Term) (x : Part) (old new : List ActiveReceive) → ReceiveRule m x old new → (n : Noted walk.ActiveReceive) → IsOf a m (λ g. received_by) f t x n → Takes a m (λ g. received_by) f t (IsReceive t) n old new
receive_taken a m f t x old new rule n it =
    let adds = rule a (part_of t x.place) n.what it.part.right it.part.found.bare it.has in
    let at : part_of t x.place ≡ part_of t adds.one.place = ap (part_of t) (sym adds.received.place) in
    record {
      one = adds.one;
      grown = adds.grown;
      holds = record {
        place = adds.received.place ∙ it.place;
        port = adds.received.port;
        message = adds.received.message;
        count = adds.received.count;
        conditional = adds.received.conditional ∙ ap has_condition at;
        clocked = adds.received.clocked ∙ ap is_clocked at;
      };
    }
