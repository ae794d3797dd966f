-- What a delay and a send that have not begun say of themselves.
use Rattle.std.proofs.Common.{◌≡◌, ◌+◌, ℕ, zero, suc, eqb, if◌then◌else◌, true, false, List, Option, Some, None, Result, Ok, Err, refl, ap, sym, ◌∙◌, subst, arith, rules}
use Rattle.std.specs.Prelude.{option_map}
use Rattle.pz_classes_code.specs.pz_syntax.declared.tokens.Pos.{Pos}
use Rattle.pz_classes_code.specs.pz_syntax.declared.names.Id.{Id}
use Rattle.pz_classes_code.specs.pz_syntax.Expressions.{Part}
use Rattle.pz_classes_code.specs.pz_syntax.Statements.{delay, send}
use Rattle.pz_classes_code.specs.pz_value.declared.value.ClassId.{ClassId}
use Rattle.pz_classes_code.specs.declared.slot.Slot.{Slot}
use Rattle.pz_classes_code.specs.declared.code.Code as lying
use Rattle.pz_classes_code.specs.declared.step.Step.{Step as LyingStep}
use Rattle.pz_classes_code.specs.declared.step.StepForm.{StepForm}
use Rattle.pz_classes_code.specs.declared.step.StepForm.TheVariants as form
use Rattle.pz_classes_code.specs.declared.step.StepForm.TheFolds.{the_lemmas}
use Rattle.pz_classes_code.specs.CodeView as code
use Rattle.pz_classes_code.specs.StepView as step
use Rattle.pz_tree_nodes.specs.pz_copy.Parcels.{ParcelView}
use Rattle.pz_tree_nodes.specs.pz_eval_rules.Clocks.{names_clock, part_names_clock}
use Rattle.pz_tree_nodes.specs.pz_offer.declared.trouble.Trouble.{Trouble}
use Rattle.pz_tree_nodes.specs.pz_offer.Summaries.{nothing}
use Rattle.pz_tree_nodes.specs.pz_rules.Settings.{Context}
use Rattle.pz_tree_nodes.specs.pz_rules.Terms.{Code, leaf}
use Rattle.pz_tree_nodes.specs.pz_rules.devices.Computed.{PartsAreComputed}
use Rattle.pz_tree_nodes.specs.pz_rules.devices.Found.{lasting, found_part, left_part}
use Rattle.pz_tree_nodes.specs.pz_rules.devices.Walk.{expiry, answered, trouble_of, sending}
use Rattle.pz_part_queries.specs.Parcels.{Packs, packs, fails}
use Rattle.pz_tree_nodes.specs.pz_tree_standing.devices.Tallies.{one, own_summary}
use Rattle.pz_tree_nodes.specs.declared.kept.Kept.{Kept}
use Rattle.pz_tree_nodes.specs.pz_tree_standing.Soon.{IsSoon}
use Rattle.pz_tree_refreshing.specs.devices.Asked.{SaysItself, DelaySays, delay_summary, kept_of_send}

not_over : (n : ℕ) → eqb (suc n) 0 ≡ false
not_over n = elim (eqb (suc n) 0) as (λ b. eqb (suc n) 0 ≡ b → eqb (suc n) 0 ≡ false) [ true ↦ λ e. absurd (let f : suc n ≡ 0 = grind arith in omega (arith, f)) | false ↦ λ e. e ] refl

delay_sum : (c : ℕ) (at : Pos) (r : Result ℕ Trouble) → delay_summary c r ≡ record { internal = one (expiry at r); sends = 0; receives = 0; due = option_map (λ left. c + left) (answered r); trouble = trouble_of r }
delay_sum c at (Ok zero) = refl
delay_sum c at (Ok (suc n)) = λ i. record nothing { internal = ap (λ b. if b then 1 else 0) (not_over n) i; due = Some (c + suc n) }
delay_sum c at (Err t) = refl

pub delay_itself : (a : Context) (f c : ℕ) (at : Pos) (e : Code) (r : Result ℕ Trouble) (own now : Kept) → r ≡ lasting a f at e → DelaySays c r own → now ≡ record own { clocked = names_clock e }
    → SaysItself a f c (delay at e) now
delay_itself a f c at e r own now is says now_is = subst (SaysItself a f c (delay at e)) (sym now_is) (record {
  summary = says.summary ∙ ap (delay_summary c) is ∙ delay_sum c at (lasting a f at e);
  starts = says.starts;
  clocked = refl;
  soon = says.soon;
})

-- ---------------------------------------------------------- what the code's statements are

shows_step : (pos : Pos) (x : StepForm) → step.view (record { pos = pos; form = x }) ≡ step.form_view x pos
shows_step pos x = search (rules, the_lemmas)

shows_Delay : (pos : Pos) (e : lying.Code) → step.form_view (form.Delay e) pos ≡ delay pos (code.view e)
shows_Delay pos e = search (rules, the_lemmas)

shows_Send : (pos : Pos) (port : ℕ) (name : Id) (args after : Option (List lying.Code)) → step.form_view (form.Send port name args after) pos ≡ send pos port name (code.part_view args) (code.part_view after)
shows_Send pos port name args after = search (rules, the_lemmas)

pub is_delay : (s : LyingStep) (e : lying.Code) → s.form ≡ form.Delay e → step.view s ≡ delay s.pos (code.view e)
is_delay s e is = shows_step s.pos s.form ∙ ap (λ (x : StepForm). step.form_view x s.pos) is ∙ shows_Delay s.pos e

pub is_send : (s : LyingStep) (port : ℕ) (name : Id) (args after : Option (List lying.Code)) → s.form ≡ form.Send port name args after → step.view s ≡ send s.pos port name (code.part_view args) (code.part_view after)
is_send s port name args after is = shows_step s.pos s.form ∙ ap (λ (x : StepForm). step.form_view x s.pos) is ∙ shows_Send s.pos port name args after

-- ---------------------------------------------------------- what they say

send_sum : (a : Context) (f c : ℕ) (at : Pos) (port : ℕ) (name : Id) (args after : Part Slot ClassId) → PartsAreComputed → (r : Result ParcelView Trouble) → Packs a f at args r
    → (kept_of_send r).summary ≡ own_summary a c f (leaf (send at port name args after))
send_sum a f c at port name args after law (Ok q) (packs values s p gives is) =
    let e : Ok values ≡ found_part a f at args = (law a f at args (Ok values) s gives).0 in
    λ i. record nothing { sends = one (sending at port name.name (left_part a f args) (e i)); trouble = trouble_of (e i) }
send_sum a f c at port name args after law (Err q) (fails trouble s gives) =
    let e : Err trouble ≡ found_part a f at args = (law a f at args (Err trouble) s gives).0 in
    λ i. record nothing { sends = one (sending at port name.name (left_part a f args) (e i)); trouble = trouble_of (e i) }

send_starts : (r : Result ParcelView Trouble) → (kept_of_send r).starts ≡ false
send_starts (Ok parcel) = refl
send_starts (Err t) = refl

send_due : (r : Result ParcelView Trouble) → (kept_of_send r).summary.due ≡ None
send_due (Ok parcel) = refl
send_due (Err t) = refl

pub send_itself : (a : Context) (f c : ℕ) (at : Pos) (port : ℕ) (name : Id) (args after : Part Slot ClassId) → PartsAreComputed → (r : Result ParcelView Trouble) → Packs a f at args r
    → (own now : Kept) → own ≡ kept_of_send r → now ≡ record own { clocked = part_names_clock args } → SaysItself a f c (send at port name args after) now
send_itself a f c at port name args after law r p own now own_is now_is = subst (SaysItself a f c (send at port name args after)) (sym now_is) (record {
  summary = ap (λ (z : Kept). z.summary) own_is ∙ send_sum a f c at port name args after law r p;
  starts = ap (λ (z : Kept). z.starts) own_is ∙ send_starts r;
  clocked = refl;
  soon = subst (λ z. IsSoon c z) (sym (ap (λ (z : Kept). z.summary.due) own_is ∙ send_due r)) tt;
})
