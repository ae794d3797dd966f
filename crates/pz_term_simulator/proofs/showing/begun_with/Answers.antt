use Rattle.std.proofs.Common.{◌≡◌, [], ◌∷◌, List, sym, ap, subst, ◌∙◌}
use Rattle.std.proofs.lemmas.Result.{IfOk-weaker}
use Rattle.pz_rules.specs.pz_value.declared.value.Value.{Value}
use Rattle.pz_rules.specs.pz_state.Marks.{Seen}
use Rattle.pz_rules.specs.pz_state.Objects.{ObjectView}
use Rattle.pz_rules.specs.pz_state.States.{StateView, initial, value_at}
use Rattle.pz_rules.specs.pz_copy.Packing.{IsParcelOf}
use Rattle.pz_term_simulator.proofs.Opened.{moved}
use Rattle.pz_term_simulator.proofs.showing.begun_with.Goals as goal

pub returns : goal.returns
returns c =
    let s = c.new-state.result.held in
    let t = initial c.args.values.now in
    let held : s ≡ initial [] = ap (λ (z : Seen). z.held) c.new-state.ensures ∙ ap (λ (vs : List Value). initial vs) c.new.ensures.items in
    let objects : t.objects ≡ s.objects = sym (ap (λ (x : StateView). x.objects) held) in
    IfOk-weaker c.pack.result (IsParcelOf s (c.in_ok-value.value ∷ [])) (IsParcelOf t (value_at c.args.values.now c.args.variable ∷ []))
    (λ parcel is. subst (λ (v : Value). IsParcelOf t (v ∷ []) parcel) c.in_ok-value.ensures (moved s t (c.in_ok-value.value ∷ []) parcel objects is))
    c.pack.ensures.parcel
