-- The walk of a term is what it is to be.
use Rattle.std.proofs.Common.{◌≡◌, ℕ, List, Option, Some, Result, Ok, Err, refl, sym, subst, ap, ◌∙◌}
use Rattle.std.specs.List.{Contains}
use Rattle.std.proofs.lemmas.List.Elements.{All-weaker, All-contains_itself}
use Rattle.pz_bind_rules.specs.pz_syntax.Statements.{send}
use Rattle.pz_bind_rules.specs.pz_value.declared.value.Value.{Value}
use Rattle.pz_offer.specs.pz_state.States.{StateView}
use Rattle.pz_offer.specs.declared.trouble.Trouble.{Trouble}
use Rattle.pz_rules.specs.Terms.{Step, Term, leaf}
use Rattle.pz_rules.specs.Settings.{Context}
use Rattle.pz_rules.specs.Evaluations.{GivesPart}
use Rattle.pz_rules.specs.devices.Found.{found_part, left_part}
use Rattle.pz_rules.specs.devices.Walk.{Noted, noted, active_parts, does, ActiveSend, sending, sent_by, statement_sends, received_by, waiting, troubled_by}
use Rattle.pz_rules.specs.devices.Walks.{IsThere, Lists, Offering, offering, InternalActionsAreListed, SendsAreListed, SendsHaveParcels, ReceivesAreListed, DelaysAreListed, TroublesAreListed}
use Rattle.pz_rules.proofs.Found.{gives_part_found, gives_part_only}
use Rattle.pz_rules.proofs.Locals.{some_is, no_some, does_complete, does_sound, sends_complete, sends_sound, receives_complete, receives_sound, delays_complete, delays_sound, asks_complete, asks_sound}
use Rattle.pz_rules.proofs.Noted.{noted_complete, noted_sound, noted_ordered}
use Rattle.pz_rules.proofs.Parcels.{the_parcel, parcel_is, parcel_once}

-- what is noted of each part is what holds of it
pub lists : {X : Type 0} (a : Context) (t : Term) (holds : X → ℕ → Term → Type 0) (h : ℕ → Term → Option X)
    → ((f : ℕ) (part : Term) (x : X) → h f part ≡ Some x → holds x f part) → ((f : ℕ) (part : Term) (x : X) → holds x f part → h f part ≡ Some x)
    → Lists a t holds (noted h (active_parts a 0 t))
lists {X} a t holds h sound complete = record {
  ordered = noted_ordered a h 0 t;
  derivable = All-weaker (Contains (noted h (active_parts a 0 t))) (λ n. IsThere a t n.place (holds n.what)) each (noted h (active_parts a 0 t)) (All-contains_itself (noted h (active_parts a 0 t)));
  every = λ place x there. noted_complete a h 0 t place there.frame there.part x there.active (complete there.frame there.part x there.it_holds);
}
  where
    each : (n : Noted X) → Contains (noted h (active_parts a 0 t)) n → IsThere a t n.place (holds n.what)
    each n within = let at = noted_sound a h 0 t n within in record { frame = at.frame; part = at.part; active = at.active; it_holds = sound at.frame at.part n.what at.is }

module _ (a : Context) (f : ℕ) where
  offering_complete : (t : Term) (x : ActiveSend) → Offering a f t x → sent_by a f t ≡ Some x
  offering_complete _ _ (offering at port name args after values s gives) =
      let only = gives_part_only a f at args (Ok values) s gives in
      ap (sending at port name.name (left_part a f args)) (sym only.0) ∙ ap (λ (z : StateView). sending at port name.name z (Ok values)) (sym only.1)

  statement_offering : (s : Step) (x : ActiveSend) → statement_sends a f s ≡ Some x → Offering a f (leaf s) x
  statement_offering (send at port name args after) x is = by (found_part a f at args) refl is
    where
      by : (r : Result (List Value) Trouble) → found_part a f at args ≡ r → sending at port name.name (left_part a f args) r ≡ Some x → Offering a f (leaf (send at port name args after)) x
      by (Ok vs) e some =
          subst (Offering a f (leaf (send at port name args after))) (some_is some)
          (offering at port name args after vs (left_part a f args) (subst (λ (r : Result (List Value) Trouble). GivesPart a f at args r (left_part a f args)) e (gives_part_found a f at args)))
      by (Err trouble) e some = no_some some
  statement_offering s x is = no_some is

  offering_sound : (t : Term) (x : ActiveSend) → sent_by a f t ≡ Some x → Offering a f t x
  offering_sound (leaf s) x is = statement_offering s x is
  offering_sound t x is = no_some is

pub internal_actions_are_listed : InternalActionsAreListed
internal_actions_are_listed a t = lists a t _ (does a) (λ f part d is. does_sound a f part d is) (λ f part d can. does_complete a f part d.kind d.pos can)

pub sends_are_listed : SendsAreListed
sends_are_listed a t = lists a t _ (sent_by a) (λ f part x is. offering_sound a f part x is) (λ f part x h. offering_complete a f part x h)

pub sends_have_parcels : SendsHaveParcels
sends_have_parcels a f part x h =
    let is = offering_complete a f part x h in (
      the_parcel x.state x.values,
      record {
        sends = sends_sound a f part x (the_parcel x.state x.values) is (parcel_is x.state x.values);
        packed = parcel_is x.state x.values;
        only = λ other sends.
            let packs = sends_complete a f part x.pos x.port x.message other sends in
            parcel_once packs.state packs.values other packs.packed ∙ ap (λ (z : ActiveSend). the_parcel z.state z.values) (some_is (sym packs.is ∙ is));
      },
    )

pub receives_are_listed : ReceivesAreListed
receives_are_listed a t = lists a t _ (λ f. received_by) (λ f part x is. receives_sound part x is) (λ f part x h. receives_complete part x.pos x.port x.message x.count h)

pub delays_are_listed : DelaysAreListed
delays_are_listed a t = lists a t _ (waiting a) (λ f part left is. delays_sound a f part left is) (λ f part left h. delays_complete a f part left h)

pub troubles_are_listed : TroublesAreListed
troubles_are_listed a t = lists a t _ (troubled_by a) (λ f part trouble is. asks_sound a f part trouble is) (λ f part trouble h. asks_complete a f part trouble h)
