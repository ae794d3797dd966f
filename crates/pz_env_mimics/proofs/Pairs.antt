-- The pairs of both are the same.
use Rattle.std.proofs.Common.{◌≡◌, ◌<◌, ◌⊎◌, inl, inr, ℕ, List, [], length, sym, subst, ◌∙◌, arith}
use Rattle.pz_env_tree.specs.pz_syntax.Classes.{ModelTree}
use Rattle.pz_env_tree.specs.pz_copy.Parcels.{ParcelView}
use Rattle.pz_env_tree.specs.pz_offer.declared.end.End.{End}
use Rattle.pz_env_tree.specs.pz_offer.PlaceOrder.{Place}
use Rattle.pz_env_tree.specs.pz_rules.declared.action.Action.{Action}
use Rattle.pz_env_tree.specs.pz_rules.Terms.{leaf}
use Rattle.pz_env_tree.specs.pz_rules.Settings.{Context}
use Rattle.pz_env_tree.specs.pz_rules.Messages.{Sends}
use Rattle.pz_env_tree.specs.pz_rules.Ports.{IsWire}
use Rattle.pz_env_tree.specs.pz_rules.Configurations.{Config}
use Rattle.pz_env_tree.specs.pz_rules.Offers.{IsPair}
use Rattle.pz_env_tree.specs.pz_env_rules.Environment.{Line, at_line}
use Rattle.pz_env_tree.specs.pz_env_rules.Joining.{Driving}
use Rattle.pz_env_tree.specs.pz_env_rules.Driven.{Driven, environment_end, IsWireOf}
use Rattle.pz_env_tree.specs.pz_env_rules.Offers.{Hears, Says, IsDrivenPair, of_processes, to_system, from_system}
use Rattle.pz_env_same.specs.SameRules.{seen_in}
use Rattle.pz_env_mimics.specs.Environments.{exchange}
use Rattle.pz_env_mimics.specs.Closing.{Closes, closed}
use Rattle.pz_env_mimics.proofs.Known.{Known}
use Rattle.pz_env_mimics.proofs.Environment.{place_of}
use Rattle.pz_env_mimics.proofs.Doing.{sends_only, receives_only, sends_there, receives_there}
use Rattle.pz_env_mimics.proofs.Mimics as mimics
use Rattle.pz_env_mimics.proofs.Mimics.{Mimics, Fit, fit_plain}
use Rattle.pz_env_mimics.proofs.Matching.{SameEnds, of_system, of_env, SameActions}
use Rattle.pz_env_mimics.proofs.Parts as parts

module _ (known : Known) (g : Driving) (n : ModelTree) (closes : Closes g n) (d : Driven) (c : Config) (m : Mimics known g n closes d c) where
  abbrev env : ℕ
  env = mimics.env known g n closes

  abbrev port : Line → ℕ
  port = mimics.port known g n closes

  abbrev Fits : Line → Type 0
  Fits = Fit known g n closes

  abbrev seen : Context
  seen = mimics.seen known g n closes d c m

  -- the place of the environment's part that acts
  abbrev here : Place
  here = place_of d.environment.doing

  abbrev Ends : End → End → Type 0
  Ends = SameEnds env [] here

  abbrev Actions : Action → Action → Type 0
  Actions = SameActions env [] here

  abbrev env_there : End
  env_there = record { process = env; place = here }

  pub record PairOn (w : ℕ) (s r : End) (message : List ℕ) (parcel : ParcelView) : Type 0 where
    pub sender : End
    pub receiver : End
    pub same_sender : Ends s sender
    pub same_receiver : Ends r receiver
    pub is : IsPair (closed g n) c w sender receiver message parcel

  pub pair_on : (w : ℕ) (s r : End) (message : List ℕ) (parcel : ParcelView) → IsDrivenPair g d w s r message parcel → PairOn w s r message parcel
  pair_on w s r message parcel (of_processes _ _ _ _ _ is) =
      let low = parts.low_of known g n closes d c m s is.sends_at is.sends_frame is.sends_part is.sender_active in
      let less = parts.low_of known g n closes d c m r is.receives_at is.receives_frame is.receives_part is.receiver_active in
      record {
        sender = s;
        receiver = r;
        same_sender = of_system s low;
        same_receiver = of_system r less;
        is = (known.pairs n g.setting d.system c m.more closes.rules m.both w s r message parcel low less).0 is;
      }
  pair_on w _ r _ _ (to_system _ _ x rest values gives on hears) =
      let at = parts.offered known g n closes d c m x rest gives.doing in
      let less = parts.low_of known g n closes d c m r hears.seen hears.frame hears.part hears.active in
      record {
        sender = env_there;
        receiver = r;
        same_sender = of_env;
        same_receiver = of_system r less;
        is = record {
          sends_at = seen;
          sends_frame = 1;
          sends_part = leaf (exchange (port x) x x.entry.transfer);
          sender_active = at.part;
          sends_pos = at_line x;
          sends_port = port x;
          sends = sends_there seen closes.limits port Fits (fit_plain known g n closes) x values at.fit gives.sends gives.paid;
          receives_at = seen_in n hears.seen;
          receives_frame = hears.frame;
          receives_part = hears.part;
          receiver_active = parts.part_on known g n closes d c m r hears.seen hears.frame hears.part hears.active;
          receives_pos = hears.pos;
          receives_port = hears.port;
          receives = hears.receives;
          two = λ e. omega (arith, less, e);
          sender_wire = (at.fit.wires w).1 on;
          receiver_wire = (closes.rules.wires r.process hears.port w less).0 hears.on;
        };
      }
  pair_on w s _ _ parcel (from_system _ _ x rest _ gets on says) =
      let at = parts.offered known g n closes d c m x rest gets.doing in
      let low = parts.low_of known g n closes d c m s says.seen says.frame says.part says.active in
      record {
        sender = s;
        receiver = env_there;
        same_sender = of_system s low;
        same_receiver = of_env;
        is = record {
          sends_at = seen_in n says.seen;
          sends_frame = says.frame;
          sends_part = says.part;
          sender_active = parts.part_on known g n closes d c m s says.seen says.frame says.part says.active;
          sends_pos = says.pos;
          sends_port = says.port;
          sends = parts.sends_on known g n closes d c m s says.seen says.frame says.part says.pos says.port x.entry.message parcel says.active says.sends;
          receives_at = seen;
          receives_frame = 1;
          receives_part = leaf (exchange (port x) x x.entry.transfer);
          receiver_active = at.part;
          receives_pos = at_line x;
          receives_port = port x;
          receives = receives_there seen closes.limits port Fits (fit_plain known g n closes) x (length parcel.values) gets.receives;
          two = λ e. omega (arith, low, e);
          sender_wire = (closes.rules.wires s.process says.port w low).0 says.on;
          receiver_wire = (at.fit.wires w).1 on;
        };
      }

  pub record PairBack (w : ℕ) (s r : End) (message : List ℕ) (parcel : ParcelView) : Type 0 where
    pub sender : End
    pub receiver : End
    pub same_sender : Ends sender s
    pub same_receiver : Ends receiver r
    pub is : IsDrivenPair g d w sender receiver message parcel

  -- the sender is the environment
  from_env : (w : ℕ) (s r : End) (message : List ℕ) (parcel : ParcelView) → IsPair (closed g n) c w s r message parcel → s.process ≡ env
      → r.process < env → PairBack w s r message parcel
  from_env w s r message parcel is at less =
      let e = mimics.env_part known g n closes d c m s is.sends_at is.sends_frame is.sends_part is.sender_active at in
      let says : Sends seen is.sends_frame is.sends_part is.sends_pos is.sends_port message parcel =
      subst (λ (a : Context). Sends a is.sends_frame is.sends_part is.sends_pos is.sends_port message parcel) e.context is.sends
      in
      let h = sends_only seen closes.limits port Fits (fit_plain known g n closes) d.environment.doing m.more.term s.place is.sends_frame is.sends_part is.sends_pos is.sends_port message parcel e.is says in
      let hears : Hears g d r w message (length parcel.values) = record {
        seen = seen_in g.setting.model is.receives_at;
        frame = is.receives_frame;
        part = is.receives_part;
        active = parts.part_back known g n closes d c m r is.receives_at is.receives_frame is.receives_part less is.receiver_active;
        pos = is.receives_pos;
        port = is.receives_port;
        receives = is.receives;
        on = (closes.rules.wires r.process is.receives_port w less).1 is.receiver_wire;
      } in
      let on : IsWireOf g h.line w =
      (h.fit.wires w).0 (subst (λ (k : ℕ). IsWire n env k w) h.over_it (subst (λ (k : ℕ). IsWire n k is.sends_port w) at is.sender_wire))
      in
      record {
        sender = environment_end g;
        receiver = r;
        same_sender = subst (Ends (environment_end g)) (parts.end_is known g n closes d c m s at h.there) of_env;
        same_receiver = of_system r less;
        is =
            subst (λ (p : ParcelView). IsDrivenPair g d w (environment_end g) r message p) (sym h.parcel_is)
            (subst (λ (k : List ℕ). IsDrivenPair g d w (environment_end g) r k (record { values = h.values; objects = [] })) (sym h.name)
            (to_system w r h.line h.rest h.values (record { doing = h.is; sends = h.sends; paid = h.paid }) on
            (subst (λ (k : List ℕ). Hears g d r w k (length h.values)) h.name (subst (λ (p : ParcelView). Hears g d r w message (length p.values)) h.parcel_is hears))));
      }

  -- the receiver is
  into_env : (w : ℕ) (s r : End) (message : List ℕ) (parcel : ParcelView) → IsPair (closed g n) c w s r message parcel → s.process < env
      → r.process ≡ env → PairBack w s r message parcel
  into_env w s r message parcel is low at =
      let e = mimics.env_part known g n closes d c m r is.receives_at is.receives_frame is.receives_part is.receiver_active at in
      let h = receives_only seen closes.limits port Fits (fit_plain known g n closes) d.environment.doing m.more.term r.place is.receives_frame is.receives_part is.receives_pos is.receives_port message (length parcel.values) e.is is.receives in
      let says : Says g d s w message parcel = record {
        seen = seen_in g.setting.model is.sends_at;
        frame = is.sends_frame;
        part = is.sends_part;
        active = parts.part_back known g n closes d c m s is.sends_at is.sends_frame is.sends_part low is.sender_active;
        pos = is.sends_pos;
        port = is.sends_port;
        sends = parts.sends_back known g n closes d c m s is.sends_at is.sends_frame is.sends_part is.sends_pos is.sends_port message parcel low is.sender_active is.sends;
        on = (closes.rules.wires s.process is.sends_port w low).1 is.sender_wire;
      } in
      let on : IsWireOf g h.line w =
      (h.fit.wires w).0 (subst (λ (k : ℕ). IsWire n env k w) h.over_it (subst (λ (k : ℕ). IsWire n k is.receives_port w) at is.receiver_wire))
      in
      record {
        sender = s;
        receiver = environment_end g;
        same_sender = of_system s low;
        same_receiver = subst (Ends (environment_end g)) (parts.end_is known g n closes d c m r at h.there) of_env;
        is =
            subst (λ (k : List ℕ). IsDrivenPair g d w s (environment_end g) k parcel) (sym h.name)
            (from_system w s h.line h.rest parcel (record { doing = h.is; receives = h.receives }) on (subst (λ (k : List ℕ). Says g d s w k parcel) h.name says));
      }

  pub pair_back : (w : ℕ) (s r : End) (message : List ℕ) (parcel : ParcelView) → IsPair (closed g n) c w s r message parcel → PairBack w s r message parcel
  pair_back w s r message parcel is =
      by (mimics.which_part known g n closes d c m s is.sends_at is.sends_frame is.sends_part is.sender_active) (mimics.which_part known g n closes d c m r is.receives_at is.receives_frame is.receives_part is.receiver_active)
    where
      by : (s.process < env) ⊎ (s.process ≡ env) → (r.process < env) ⊎ (r.process ≡ env) → PairBack w s r message parcel
      by (inl low) (inl less) = record {
        sender = s;
        receiver = r;
        same_sender = of_system s low;
        same_receiver = of_system r less;
        is = of_processes w s r message parcel ((known.pairs n g.setting d.system c m.more closes.rules m.both w s r message parcel low less).1 is);
      }
      by (inr at) (inl less) = from_env w s r message parcel is at less
      by (inl low) (inr at) = into_env w s r message parcel is low at
      by (inr one) (inr other) = absurd (is.two (one ∙ sym other))
