-- What is noted of delays and sends, from what they are asked.
use Rattle.std.proofs.Common.{◌≡◌, ◌<◌, ◌^◌, ℕ, List, [], ◌∷◌, ◌++◌, None, Result, Ok, Err, IfOk, Vec, sym, subst, ap, ◌∙◌, arith}
use Rattle.std.specs.declared.alloc.Global.{Global}
use Rattle.pz_classes_code.specs.pz_syntax.declared.tokens.Pos.{Pos}
use Rattle.pz_classes_code.specs.pz_syntax.declared.names.Id.{Id}
use Rattle.pz_classes_code.specs.pz_syntax.Expressions as ours
use Rattle.pz_classes_code.specs.pz_syntax.Statements.{delay, send}
use Rattle.pz_classes_code.specs.pz_value.declared.value.ClassId.{ClassId}
use Rattle.pz_classes_code.specs.pz_value.declared.value.Value.{Value}
use Rattle.pz_classes_code.specs.declared.slot.Slot.{Slot}
use Rattle.pz_rules.specs.pz_state.States.{StateView}
use Rattle.pz_rules.specs.pz_copy.Parcels.{ParcelView}
use Rattle.pz_rules.specs.pz_offer.PlaceOrder.{Place}
use Rattle.pz_rules.specs.pz_offer.declared.trouble.Trouble.{Trouble}
use Rattle.pz_rules.specs.Terms.{Code, leaf}
use Rattle.pz_rules.specs.Settings.{Context}
use Rattle.pz_rules.specs.Evaluations.{Lasts, GivesPart}
use Rattle.pz_rules.specs.devices.Found.{left_part}
use Rattle.pz_rules.specs.devices.Computed.{TimesAreComputed, PartsAreComputed}
use Rattle.pz_rules.specs.devices.Walk as walk
use Rattle.pz_rules.specs.devices.Walk.{here, expiry, answered, trouble_of, sending}
use Rattle.pz_term_processes.specs.pz_part_queries.Parcels.{Packs, packs, fails}
use Rattle.pz_term_enabled.specs.declared.found.ActiveSend.{ActiveSend}
use Rattle.pz_term_enabled.specs.declared.found.Found.{Found}
use Rattle.pz_term_enabled.specs.devices.Listings.{Adds, Notes, notes_of, only_waits, only_troubles}
use Rattle.pz_term_enabled.proofs.OnePart.{only_sends, grows_send, adds_one}

abbrev delayed : Pos → Result ℕ Trouble → Notes
delayed at r = record { does = expiry at r; sends = None; receives = None; left = answered r; trouble = trouble_of r }

pub delay_waits : TimesAreComputed → (a : Context) (f : ℕ) (at : Pos) (e : Code) (left : ℕ) → Lasts a f at e (Ok left) → notes_of a f (leaf (delay at e)) ≡ only_waits left at
delay_waits law a f at e left lasts = ap (delayed at) (sym (law a f at e (Ok left) lasts))

pub delay_troubled : TimesAreComputed → (a : Context) (f : ℕ) (at : Pos) (e : Code) (u : Trouble) → Lasts a f at e (Err u) → notes_of a f (leaf (delay at e)) ≡ only_troubles u
delay_troubled law a f at e u lasts = ap (delayed at) (sym (law a f at e (Err u) lasts))

abbrev sent : Pos → ℕ → List ℕ → StateView → Result (List Value) Trouble → Notes
sent at port message s r = record { does = None; sends = sending at port message s r; receives = None; left = None; trouble = trouble_of r }

module _ (law : PartsAreComputed) (a : Context) (f : ℕ) (at : Pos) (port : ℕ) (name : Id) (args after : ours.Part Slot ClassId) where
  noted_as : (r : Result (List Value) Trouble) (s : StateView) → GivesPart a f at args r s → notes_of a f (leaf (send at port name args after)) ≡ sent at port name.name s r
  noted_as r s gives =
      let only = law a f at args r s gives in
      ap (λ (x : Result (List Value) Trouble). sent at port name.name (left_part a f args) x) (sym only.0) ∙ ap (λ (x : StateView). sent at port name.name x r) (sym only.1)

  pub send_added : (place copy : Place) (message : List ℕ) (parcel : ParcelView) (o : Found) (v : Vec ActiveSend Global) → Packs a f at args (Ok parcel) → copy ≡ place → message ≡ name.name
      → v.items ≡ o.sends.items ++ record { place = copy; pos = at; port = port; message = message; parcel = parcel } ∷ []
      → Adds a place (here f (leaf (send at port name args after)) ∷ []) o (record o { sends = v })
  send_added place copy message _ o v (packs values s parcel gives packed) same spelled grown =
      let x : walk.ActiveSend = record { pos = at; port = port; message = name.name; values = values; state = s } in
      adds_one a place f (leaf (send at port name args after)) (only_sends x) o (record o { sends = v }) (noted_as (Ok values) s gives) (grows_send place copy x message parcel o v same spelled packed grown) (λ unbegun. tt)

  pub send_troubled : (u : Trouble) → Packs a f at args (Err u) → notes_of a f (leaf (send at port name args after)) ≡ only_troubles u
  send_troubled _ (fails u s gives) = noted_as (Err u) s gives

pub time_few : (r : Result ℕ Trouble) (left : ℕ) → r ≡ Ok left → IfOk r (λ time. time < 2 ^ 63) → left < 2 ^ 64
time_few r left is few = let short : left < 2 ^ 63 = subst (λ (x : Result ℕ Trouble). IfOk x (λ time. time < 2 ^ 63)) is few in omega (arith, short)
