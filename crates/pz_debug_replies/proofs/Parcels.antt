-- The value of a variable has a parcel, in every state: it could be sent.
use Rattle.std.proofs.Common.{◌≡◌, ℕ, List, [], ◌∷◌, refl, arith}
use Rattle.pz_classes_code.specs.pz_syntax.declared.tokens.Pos.{Pos}
use Rattle.pz_classes_code.specs.pz_syntax.declared.names.Id.{Id}
use Rattle.pz_classes_code.specs.pz_syntax.Classes.{ModelTree}
use Rattle.pz_classes_code.specs.pz_syntax.Expressions.{Part, left_out, written, variable as read, none, more}
use Rattle.pz_classes_code.specs.pz_syntax.Statements.{send}
use Rattle.pz_classes_code.specs.pz_value.declared.value.ClassId.{ClassId}
use Rattle.pz_classes_code.specs.pz_value.declared.value.Value.{Value}
use Rattle.pz_classes_code.specs.declared.slot.Slot.{Slot}
use Rattle.pz_classes_code.specs.declared.slot.Slot.TheVariants.{Shared}
use Rattle.pz_rules.specs.pz_state.States.{StateView, variable}
use Rattle.pz_rules.specs.pz_copy.Parcels.{ParcelView}
use Rattle.pz_rules.specs.pz_copy.Packing.{IsParcelOf}
use Rattle.pz_rules.specs.pz_eval_rules.declared.outcome.Listed.TheVariants as listed
use Rattle.pz_rules.specs.pz_eval_rules.Evaluation.{a_variable, no_argument, an_argument}
use Rattle.pz_rules.specs.pz_eval_rules.Outcomes.{outside, all_values}
use Rattle.pz_rules.specs.pz_eval_rules.Answers.{gives}
use Rattle.pz_rules.specs.declared.limits.Edition.TheVariants.{Two}
use Rattle.pz_rules.specs.Terms.{Term, leaf}
use Rattle.pz_rules.specs.Settings.{Context}
use Rattle.pz_rules.specs.Messages.{Sends, sends}
use Rattle.pz_rules.specs.devices.Walk.{ActiveSend}
use Rattle.pz_rules.specs.devices.Walks.{Offering, offering, SendsHaveParcels}

module _ (m : ModelTree) (s : StateView) (v : ℕ) where
  abbrev at : Pos
  at = record { line = 0; column = 0 }

  abbrev name : Id
  name = record { name = []; pos = at }

  abbrev seen : Context
  seen = record { setting = record { model = m; limits = record { units = 1; depth = 1; height = 1; edition = Two } }; process = 0; class = 0; clock = 0; state = s }

  abbrev args : Part Slot ClassId
  args = written (more (read at (Shared v)) none)

  abbrev values : List Value
  values = variable s v ∷ []

  abbrev sending : Term
  sending = leaf (send at 0 name args left_out)

  abbrev sent : ActiveSend
  sent = record { pos = at; port = 0; message = []; values = values; state = s }

  offers : Offering seen 0 sending sent
  offers = offering at 0 name args left_out values s (record {
    outcome = listed.Values values;
    finds = all_values {a = gives values (outside s)} {ys = values} {m = outside s} (record {
      units = 1;
      depth = 1;
      derivation = an_argument a_variable no_argument;
      paid = omega arith;
      deep = omega arith;
    }) refl;
    means = refl;
  })

  pub some_parcel : SendsHaveParcels → (parcel : ParcelView) × IsParcelOf s (variable s v ∷ []) parcel
  some_parcel law = let x = law seen 0 sending sent offers in (x.0, x.1.packed)

  pub one_parcel : SendsHaveParcels → (p q : ParcelView) → IsParcelOf s (variable s v ∷ []) p → IsParcelOf s (variable s v ∷ []) q → p ≡ q
  one_parcel law p q is also =
      let x = law seen 0 sending sent offers in
      let means : (r : ParcelView) → IsParcelOf s values r → Sends seen 0 sending at 0 [] r = λ r packed. sends at 0 name args left_out values s r (record {
        outcome = listed.Values values;
        finds = all_values {a = gives values (outside s)} {ys = values} {m = outside s} (record { units = 1; depth = 1; derivation = an_argument a_variable no_argument; paid = omega arith; deep = omega arith }) refl;
        means = refl;
      }) packed in
      let left = x.1.only p (means p is) in
      let right = x.1.only q (means q also) in
      cc
