-- What a part can do, computed, is what the rules derive of it.
use Rattle.std.proofs.Common.{◌≡◌, ℕ, zero, suc, Bool, List, Option, Some, None, Result, Ok, Err, refl, sym, subst, ap, ◌∙◌}
use Rattle.pz_bind_rules.specs.pz_syntax.declared.tokens.Pos.{Pos}
use Rattle.pz_bind_rules.specs.pz_syntax.Statements.{skip, delay, block, conditional, repeated, call, value, send, receive}
use Rattle.pz_bind_rules.specs.pz_value.declared.value.Value.{Value}
use Rattle.pz_offer.specs.pz_state.States.{StateView}
use Rattle.pz_offer.specs.pz_copy.Parcels.{ParcelView}
use Rattle.pz_offer.specs.pz_copy.Packing.{IsParcelOf}
use Rattle.pz_offer.specs.declared.trouble.Trouble.{Trouble}
use Rattle.pz_rules.specs.declared.action.Kind.{Kind}
use Rattle.pz_rules.specs.declared.action.Kind.TheVariants.{Expire}
use Rattle.pz_rules.specs.Terms.{Step, Term, leaf, wait, guarded}
use Rattle.pz_rules.specs.Settings.{Context}
use Rattle.pz_rules.specs.Evaluations.{GivesPart, Tests, Lasts}
use Rattle.pz_rules.specs.InternalActions as actions
use Rattle.pz_rules.specs.InternalActions.{Can}
use Rattle.pz_rules.specs.Messages as messages
use Rattle.pz_rules.specs.Messages.{Sends, Receives}
use Rattle.pz_rules.specs.Asking as asking
use Rattle.pz_rules.specs.Asking.{Asks}
use Rattle.pz_rules.specs.Delays as delays
use Rattle.pz_rules.specs.Delays.{Delays}
use Rattle.pz_rules.specs.devices.Found.{tested, lasting, found_part, left_part}
use Rattle.pz_rules.specs.devices.Walk.{Doing, doing, expiry, does, statement_does, ActiveSend, sending, sent_by, statement_sends, ActiveReceive, received_by, statement_receives, answered, waiting, statement_waits, trouble_of, troubled_by, statement_troubles}
use Rattle.pz_rules.proofs.Found.{gives_part_found, gives_part_only, tests_found, tests_only, lasts_found, lasts_only}

pub some_is : {X : Type 0} {x y : X} → Some x ≡ Some y → x ≡ y
some_is e = cc

pub no_some : {P X : Type 0} {x : X} → None ≡ Some x → P
no_some {P} {X} {x} e = absurd (differ e)
  where
    differ : None ≡ Some x → ⊥
    differ d = cc

-- a send and its parcel
pub record Packs (o : Option ActiveSend) (pos : Pos) (port : ℕ) (message : List ℕ) (parcel : ParcelView) : Type 0 where
  pub values : List Value
  pub state : StateView
  pub is : o ≡ Some (record { pos = pos; port = port; message = message; values = values; state = state })
  pub packed : IsParcelOf state values parcel

module _ (a : Context) (f : ℕ) where
  -- Internal actions

  pub does_complete : (t : Term) (kind : Kind) (pos : Pos) → Can a f t kind pos → does a f t ≡ doing kind pos
  does_complete _ _ _ (actions.skips at) = refl
  does_complete _ _ _ (actions.evaluates at e) = refl
  does_complete _ _ _ (actions.evaluates_block at es) = refl
  does_complete _ _ _ (actions.tests at e ts other) = refl
  does_complete _ _ _ (actions.repeats at e ts) = refl
  does_complete _ _ _ (actions.elapses at e is) = ap (expiry at) (sym (lasts_only a f at e (Ok 0) is))
  does_complete _ _ _ (actions.expires at) = refl
  does_complete _ _ _ (actions.calls at method args results) = refl

  abbrev Does : Term → Doing → Type 0
  Does t d = Can a f t d.kind d.pos

  expiry_sound : (t : Term) (at : Pos) (r : Result ℕ Trouble) (d : Doing) → expiry at r ≡ Some d → (r ≡ Ok 0 → Can a f t Expire at) → Does t d
  expiry_sound t at (Ok zero) d is can = subst (Does t) (some_is is) (can refl)
  expiry_sound t at (Ok (suc n)) d is can = no_some is
  expiry_sound t at (Err trouble) d is can = no_some is

  statement_does_sound : (s : Step) (d : Doing) → statement_does a f s ≡ Some d → Does (leaf s) d
  statement_does_sound (skip at) d is = subst (Does (leaf (skip at))) (some_is is) (actions.skips at)
  statement_does_sound (value at e) d is = subst (Does (leaf (value at e))) (some_is is) (actions.evaluates at e)
  statement_does_sound (block at es) d is = subst (Does (leaf (block at es))) (some_is is) (actions.evaluates_block at es)
  statement_does_sound (conditional at e ts other) d is = subst (Does (leaf (conditional at e ts other))) (some_is is) (actions.tests at e ts other)
  statement_does_sound (repeated at e ts) d is = subst (Does (leaf (repeated at e ts))) (some_is is) (actions.repeats at e ts)
  statement_does_sound (delay at e) d is =
      expiry_sound (leaf (delay at e)) at (lasting a f at e) d is
      (λ none. actions.elapses at e (subst (λ (r : Result ℕ Trouble). Lasts a f at e r) none (lasts_found a f at e)))
  statement_does_sound (call at method args results) d is = subst (Does (leaf (call at method args results))) (some_is is) (actions.calls at method args results)
  statement_does_sound s d is = no_some is

  wait_sound : (left : ℕ) (at : Pos) (d : Doing) → expiry at (Ok left) ≡ Some d → Does (wait left at) d
  wait_sound zero at d is = subst (Does (wait 0 at)) (some_is is) (actions.expires at)
  wait_sound (suc n) at d is = no_some is

  pub does_sound : (t : Term) (d : Doing) → does a f t ≡ Some d → Can a f t d.kind d.pos
  does_sound (leaf s) d is = statement_does_sound s d is
  does_sound (wait left at) d is = wait_sound left at d is
  does_sound t d is = no_some is

  -- Sends

  pub sends_complete : (t : Term) (pos : Pos) (port : ℕ) (message : List ℕ) (parcel : ParcelView) → Sends a f t pos port message parcel → Packs (sent_by a f t) pos port message parcel
  sends_complete _ _ _ _ _ (messages.sends at port name args after values s parcel gives packed) =
      let only = gives_part_only a f at args (Ok values) s gives in
      record {
        values = values;
        state = s;
        is = ap (sending at port name.name (left_part a f args)) (sym only.0) ∙ ap (λ (x : StateView). sending at port name.name x (Ok values)) (sym only.1);
        packed = packed;
      }

  statement_sends_sound : (s : Step) (x : ActiveSend) (parcel : ParcelView) → statement_sends a f s ≡ Some x → IsParcelOf x.state x.values parcel → Sends a f (leaf s) x.pos x.port x.message parcel
  statement_sends_sound (send at port name args after) x parcel is packed = by (found_part a f at args) refl is packed
    where
      by : (r : Result (List Value) Trouble) → found_part a f at args ≡ r → sending at port name.name (left_part a f args) r ≡ Some x → IsParcelOf x.state x.values parcel → Sends a f (leaf (send at port name args after)) x.pos x.port x.message parcel
      by (Ok vs) e some =
          subst (λ (y : ActiveSend). IsParcelOf y.state y.values parcel → Sends a f (leaf (send at port name args after)) y.pos y.port y.message parcel) (some_is some)
          (λ fits. messages.sends at port name args after vs (left_part a f args) parcel (subst (λ (r : Result (List Value) Trouble). GivesPart a f at args r (left_part a f args)) e (gives_part_found a f at args)) fits)
      by (Err trouble) e some = no_some some
  statement_sends_sound s x parcel is packed = no_some is

  pub sends_sound : (t : Term) (x : ActiveSend) (parcel : ParcelView) → sent_by a f t ≡ Some x → IsParcelOf x.state x.values parcel → Sends a f t x.pos x.port x.message parcel
  sends_sound (leaf s) x parcel is packed = statement_sends_sound s x parcel is packed
  sends_sound t x parcel is packed = no_some is

  -- Delays

  pub delays_complete : (t : Term) (left : ℕ) → Delays a f t left → waiting a f t ≡ Some left
  delays_complete _ _ (delays.not_begun at e left is) = ap answered (sym (lasts_only a f at e (Ok left) is))
  delays_complete _ _ (delays.begun left at) = refl

  statement_delays_sound : (s : Step) (left : ℕ) → statement_waits a f s ≡ Some left → Delays a f (leaf s) left
  statement_delays_sound (delay at e) left is = by (lasting a f at e) refl is
    where
      by : (r : Result ℕ Trouble) → lasting a f at e ≡ r → answered r ≡ Some left → Delays a f (leaf (delay at e)) left
      by (Ok n) is_n some = delays.not_begun at e left (subst (λ (r : Result ℕ Trouble). Lasts a f at e r) (is_n ∙ ap (λ (m : ℕ). Ok m) (some_is some)) (lasts_found a f at e))
      by (Err trouble) is_n some = no_some some
  statement_delays_sound s left is = no_some is

  pub delays_sound : (t : Term) (left : ℕ) → waiting a f t ≡ Some left → Delays a f t left
  delays_sound (leaf s) left is = statement_delays_sound s left is
  delays_sound (wait n at) left is = subst (λ (m : ℕ). Delays a f (wait n at) m) (some_is is) (delays.begun n at)
  delays_sound t left is = no_some is

  -- Troubles

  pub asks_complete : (t : Term) (trouble : Trouble) → Asks a f t trouble → troubled_by a f t ≡ Some trouble
  asks_complete _ _ (asking.guard test at t trouble is) = ap trouble_of (sym (tests_only a f at test (Err trouble) is))
  asks_complete _ _ (asking.time at e trouble is) = ap trouble_of (sym (lasts_only a f at e (Err trouble) is))
  asks_complete _ _ (asking.arguments at port name args after trouble s is) = ap trouble_of (sym (gives_part_only a f at args (Err trouble) s is).0)

  trouble_sound : {A : Type 0} (x r : Result A Trouble) (trouble : Trouble) → x ≡ r → trouble_of r ≡ Some trouble → x ≡ Err trouble
  trouble_sound x (Ok y) trouble e some = no_some some
  trouble_sound x (Err t) trouble e some = e ∙ ap (λ (u : Trouble). Err u) (some_is some)

  statement_asks_sound : (s : Step) (trouble : Trouble) → statement_troubles a f s ≡ Some trouble → Asks a f (leaf s) trouble
  statement_asks_sound (delay at e) trouble is =
      asking.time at e trouble (subst (λ (r : Result ℕ Trouble). Lasts a f at e r) (trouble_sound (lasting a f at e) (lasting a f at e) trouble refl is) (lasts_found a f at e))
  statement_asks_sound (send at port name args after) trouble is =
      asking.arguments at port name args after trouble (left_part a f args)
      (subst (λ (r : Result (List Value) Trouble). GivesPart a f at args r (left_part a f args)) (trouble_sound (found_part a f at args) (found_part a f at args) trouble refl is) (gives_part_found a f at args))
  statement_asks_sound s trouble is = no_some is

  pub asks_sound : (t : Term) (trouble : Trouble) → troubled_by a f t ≡ Some trouble → Asks a f t trouble
  asks_sound (leaf s) trouble is = statement_asks_sound s trouble is
  asks_sound (guarded test at t) trouble is =
      asking.guard test at t trouble (subst (λ (r : Result Bool Trouble). Tests a f at test r) (trouble_sound (tested a f at test) (tested a f at test) trouble refl is) (tests_found a f at test))
  asks_sound t trouble is = no_some is

-- Receives

pub receives_complete : (t : Term) (pos : Pos) (port : ℕ) (message : List ℕ) (count : ℕ) → Receives t pos port message count → received_by t ≡ Some (record { pos = pos; port = port; message = message; count = count })
receives_complete _ _ _ _ _ (messages.receives at port name into condition after) = refl

abbrev Receiver : Term → ActiveReceive → Type 0
Receiver t x = Receives t x.pos x.port x.message x.count

statement_receives_sound : (s : Step) (x : ActiveReceive) → statement_receives s ≡ Some x → Receiver (leaf s) x
statement_receives_sound (receive at port name into condition after) x is = subst (Receiver (leaf (receive at port name into condition after))) (some_is is) (messages.receives at port name into condition after)
statement_receives_sound s x is = no_some is

pub receives_sound : (t : Term) (x : ActiveReceive) → received_by t ≡ Some x → Receives t x.pos x.port x.message x.count
receives_sound (leaf s) x is = statement_receives_sound s x is
receives_sound t x is = no_some is
