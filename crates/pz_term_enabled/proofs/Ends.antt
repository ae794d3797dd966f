-- What is found in the term of a process, as what the configuration offers, sends and receives at the
-- ends of that process.
use Rattle.std.proofs.Common.{◌≡◌, ℕ, List, map, Option, Some, None, refl, sym, subst, ap, ◌∙◌}
use Rattle.std.specs.List.{filter_map}
use Rattle.std.proofs.lemmas.Option.{same_Some, none-some}
use Rattle.pz_bind_levels.specs.Places as levels
use Rattle.pz_rules.specs.pz_bind_rules.Nest.{class_at}
use Rattle.pz_rules.specs.pz_offer.declared.end.End.{End}
use Rattle.pz_rules.specs.pz_offer.PlaceOrder.{Place}
use Rattle.pz_rules.specs.declared.action.Action.{Action}
use Rattle.pz_rules.specs.declared.action.Action.TheVariants.{Internal}
use Rattle.pz_rules.specs.Terms.{Term}
use Rattle.pz_rules.specs.Settings.{Setting, Process, Context}
use Rattle.pz_rules.specs.Active.{IsActive}
use Rattle.pz_rules.specs.InternalActions.{Can}
use Rattle.pz_rules.specs.Messages.{Sends, Receives}
use Rattle.pz_rules.specs.Ports.{HasWires}
use Rattle.pz_rules.specs.Configurations.{Config, Stands}
use Rattle.pz_rules.specs.Offers as offers
use Rattle.pz_rules.specs.Offers.{PartAt, Offers}
use Rattle.pz_rules.specs.devices.Walks.{IsThere}
use Rattle.pz_term_matching.specs.declared.ends.Sender.{Sender}
use Rattle.pz_term_matching.specs.declared.ends.Receiver.{Receiver}
use Rattle.pz_term_enabled.specs.declared.found.Doing.{Doing}
use Rattle.pz_term_enabled.specs.declared.found.ActiveSend.{ActiveSend}
use Rattle.pz_term_enabled.specs.declared.found.ActiveReceive.{ActiveReceive}
use Rattle.pz_term_enabled.specs.Surveyed.{IsInternal, IsSender, IsReceiver}
use Rattle.pz_term_enabled.specs.devices.Adding.{end_at, action_of, sender_over, sender_of, receiver_over, receiver_of}
use Rattle.pz_term_enabled.specs.devices.Below.{Listed, end_of, IsOffered}
use Rattle.pz_term_enabled.proofs.Lists.{map_kept}
use Rattle.pz_term_enabled.proofs.Listed.{Here, Becomes, ComesFrom, listed_at}
use Rattle.pz_term_enabled.proofs.OneProcess.{DoesThere, SendsThere, ReceivesThere}

pub record IsSame (p q : Process) (a b : Context) : Type 0 where
  pub process : p ≡ q
  pub seen : a ≡ b

-- one process stands under a number
stands_once : (setting : Setting) (c : Config) (i : ℕ) (p q : Process) (a b : Context) → Stands setting c i p a → Stands setting c i q b → IsSame p q a b
stands_once setting c i p q a b x y =
    let places : x.place ≡ y.place = same_Some x.place y.place (sym x.is_process ∙ y.is_process) in
    let both : p ≡ q = same_Some p q (sym x.is_here ∙ y.is_here) in
    record {
      process = both;
      seen = x.seen ∙ ap (λ (l : levels.Address). record { setting = setting; process = i; class = class_at setting.model l; clock = c.clock; state = p.state }) places
          ∙ ap (λ (r : Process). record { setting = setting; process = i; class = class_at setting.model y.place; clock = c.clock; state = r.state }) both ∙ sym y.seen;
    }

module _ (setting : Setting) (c : Config) (i : ℕ) (p : Process) (a : Context) (stands : Stands setting c i p a) where
  pub part_there : (place : Place) (frame : ℕ) (part : Term) → IsActive a p.term place frame part → PartAt setting c (end_at i place) a frame part
  part_there place frame part active = record { process = p; stands = stands; active = active }

  -- what holds at an end of the process, holds in its term
  pub there : (holds : Context → ℕ → Term → Type 0) (at : End) (b : Context) (f : ℕ) (part : Term) → at.process ≡ i → PartAt setting c at b f part → holds b f part
      → IsThere a p.term at.place (λ g t. holds a g t)
  there holds at b f part same x h =
      let one = stands_once setting c i x.process p b a (subst (λ (k : ℕ). Stands setting c k x.process b) same x.stands) stands in
      record {
        frame = f;
        part = part;
        active = subst (λ (z : Context). IsActive z p.term at.place f part) one.seen (subst (λ (q : Process). IsActive b q.term at.place f part) one.process x.active);
        it_holds = subst (λ (z : Context). holds z f part) one.seen h;
      }

  -- Internal actions

  abbrev OfDoing : Action → Type 0
  OfDoing x = ComesFrom (λ (d : Doing). d.place) (DoesThere a p.term) end_of (IsOffered setting c) i (λ (d : Doing). Some (action_of i d)) x

  action_from : (x : Action) → IsInternal x → Offers setting c x → (end_of x).process ≡ i → OfDoing x
  action_from _ is (offers.internal at b f part kind pos active can) same = record {
    one = record { place = at.place; kind = kind; pos = pos };
    holds = there (λ (z : Context) (g : ℕ) (t : Term). Can z g t kind pos) at b f part same active can;
    is = ap (λ (k : ℕ). Some (Internal (record { process = k; place = at.place }) kind pos)) (sym same);
  }
  action_from _ is (offers.communication number sender receiver message parcel pair judged) same = absurd is

  pub actions_listed : (ds : List Doing) → Here (λ (d : Doing). d.place) (DoesThere a p.term) ds → Listed end_of (IsOffered setting c) (λ k. k ≡ i) (map (action_of i) ds)
  actions_listed ds here =
      subst (λ (xs : List Action). Listed end_of (IsOffered setting c) (λ k. k ≡ i) xs) (sym (map_kept (action_of i) ds))
      (listed_at (λ (d : Doing). d.place) (DoesThere a p.term) end_of (IsOffered setting c) i (λ (d : Doing). Some (action_of i d)) sound (λ x h at. action_from x h.0 h.1 at) ds here)
    where
      sound : (d : Doing) (x : Action) → Some (action_of i d) ≡ Some x → DoesThere a p.term d
          → Becomes (λ (e : Doing). e.place) (DoesThere a p.term) end_of (IsOffered setting c) i (λ (e : Doing). Some (action_of i e)) d x
      sound d x is h =
          subst (λ (y : Action). Becomes (λ (e : Doing). e.place) (DoesThere a p.term) end_of (IsOffered setting c) i (λ (e : Doing). Some (action_of i e)) d y) (same_Some (action_of i d) x is)
          (record { holds = (tt, offers.internal (end_at i d.place) a h.frame h.part d.kind d.pos (part_there d.place h.frame h.part h.active) h.it_holds); at = refl })

  -- Sends and receives over wires
  module _ (wires : HasWires setting.model) where
    abbrev wire : ℕ → Option ℕ
    wire port = wires.wire i port

    abbrev Sender_of : ActiveSend → Sender → Type 0
    Sender_of x s = Becomes (λ (y : ActiveSend). y.place) (SendsThere a p.term) (λ (r : Sender). r.end) (IsSender setting c) i (sender_of wire i) x s

    sender_so : (x : ActiveSend) (s : Sender) (o : Option ℕ) → wire x.port ≡ o → sender_over i x o ≡ Some s → SendsThere a p.term x → Sender_of x s
    sender_so x s None e is h = absurd (none-some s is)
    sender_so x s (Some w) e is h =
        subst (λ (r : Sender). Sender_of x r) (same_Some _ s is) (record {
          holds = record {
            seen = a;
            frame = h.frame;
            part = h.part;
            active = part_there x.place h.frame h.part h.active;
            pos = x.pos;
            port = x.port;
            sends = h.it_holds;
            over = wires.has i x.port w e;
          };
          at = refl;
        })

    sender_from : (s : Sender) → IsSender setting c s → s.end.process ≡ i → ComesFrom (λ (y : ActiveSend). y.place) (SendsThere a p.term) (λ (r : Sender). r.end) (IsSender setting c) i (sender_of wire i) s
    sender_from s h same = record {
      one = record { place = s.end.place; pos = h.pos; port = h.port; message = s.message; parcel = s.parcel };
      holds = there (λ (z : Context) (g : ℕ) (t : Term). Sends z g t h.pos h.port s.message s.parcel) s.end h.seen h.frame h.part same h.active h.sends;
      is = ap (λ (o : Option ℕ). sender_over i (record { place = s.end.place; pos = h.pos; port = h.port; message = s.message; parcel = s.parcel }) o)
          (ap (λ (k : ℕ). wires.wire k h.port) (sym same) ∙ wires.only s.end.process h.port s.wire h.over)
          ∙ ap (λ (k : ℕ). Some (record { end = record { process = k; place = s.end.place }; wire = s.wire; message = s.message; parcel = s.parcel })) (sym same);
    }

    pub senders_listed : (xs : List ActiveSend) → Here (λ (x : ActiveSend). x.place) (SendsThere a p.term) xs → Listed (λ (s : Sender). s.end) (IsSender setting c) (λ k. k ≡ i) (filter_map (sender_of wire i) xs)
    senders_listed xs here =
        listed_at (λ (x : ActiveSend). x.place) (SendsThere a p.term) (λ (s : Sender). s.end) (IsSender setting c) i (sender_of wire i) (λ x s is h. sender_so x s (wire x.port) refl is h) sender_from xs here

    abbrev Receiver_of : ActiveReceive → Receiver → Type 0
    Receiver_of x r = Becomes (λ (y : ActiveReceive). y.place) (ReceivesThere a p.term) (λ (q : Receiver). q.end) (IsReceiver setting c) i (receiver_of wire i) x r

    receiver_so : (x : ActiveReceive) (r : Receiver) (o : Option ℕ) → wire x.port ≡ o → receiver_over i x o ≡ Some r → ReceivesThere a p.term x → Receiver_of x r
    receiver_so x r None e is h = absurd (none-some r is)
    receiver_so x r (Some w) e is h =
        subst (λ (q : Receiver). Receiver_of x q) (same_Some _ r is) (record {
          holds = record {
            seen = a;
            frame = h.frame;
            part = h.part;
            active = part_there x.place h.frame h.part h.active;
            pos = x.pos;
            port = x.port;
            receives = h.it_holds;
            over = wires.has i x.port w e;
          };
          at = refl;
        })

    receiver_from : (r : Receiver) → IsReceiver setting c r → r.end.process ≡ i → ComesFrom (λ (y : ActiveReceive). y.place) (ReceivesThere a p.term) (λ (q : Receiver). q.end) (IsReceiver setting c) i (receiver_of wire i) r
    receiver_from r h same = record {
      one = record { place = r.end.place; pos = h.pos; port = h.port; message = r.message; count = r.count };
      holds = there (λ (z : Context) (g : ℕ) (t : Term). Receives t h.pos h.port r.message r.count) r.end h.seen h.frame h.part same h.active h.receives;
      is = ap (λ (o : Option ℕ). receiver_over i (record { place = r.end.place; pos = h.pos; port = h.port; message = r.message; count = r.count }) o)
          (ap (λ (k : ℕ). wires.wire k h.port) (sym same) ∙ wires.only r.end.process h.port r.wire h.over)
          ∙ ap (λ (k : ℕ). Some (record { end = record { process = k; place = r.end.place }; wire = r.wire; message = r.message; count = r.count })) (sym same);
    }

    pub receivers_listed : (xs : List ActiveReceive) → Here (λ (x : ActiveReceive). x.place) (ReceivesThere a p.term) xs
        → Listed (λ (r : Receiver). r.end) (IsReceiver setting c) (λ k. k ≡ i) (filter_map (receiver_of wire i) xs)
    receivers_listed xs here =
        listed_at (λ (x : ActiveReceive). x.place) (ReceivesThere a p.term) (λ (r : Receiver). r.end) (IsReceiver setting c) i (receiver_of wire i) (λ x r is h. receiver_so x r (wire x.port) refl is h) receiver_from xs here
