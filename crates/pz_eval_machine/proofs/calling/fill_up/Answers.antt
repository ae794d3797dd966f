use Rattle.std.proofs.Common.{◌≡◌, ℕ, ◌+◌, ◌-◌, ◌<◌, suc, List, [], ◌∷◌, ◌++◌, length, length-append, append_assoc, ap, ◌∙◌, arith}
use Rattle.pz_classes_code.specs.pz_value.declared.value.Value.{Value}
use Rattle.pz_classes_code.specs.pz_value.declared.value.Value.TheVariants.{Nil}
use Rattle.pz_state.specs.States.{nils}
use Rattle.pz_eval_machine.proofs.calling.fill_up.Goals as goal

pad_more : (vs ws : List Value) (n : ℕ) → ws ≡ vs ++ Nil ∷ [] → length vs < n → ws ++ nils (n - length ws) ≡ vs ++ nils (n - length vs)
pad_more vs ws n e below =
    let l : length ws ≡ length vs + 1 = omega (arith, ap (λ (xs : List Value). length xs) e, length-append vs (Nil ∷ [])) in
    let k : n - length vs ≡ suc (n - length ws) = omega arith in
    rw k (ap (λ (xs : List Value). xs ++ nils (n - length ws)) e ∙ append_assoc vs (Nil ∷ []) (nils (n - length ws)))

pub loop-values-preserved : goal.loop-values-preserved
loop-values-preserved c =
    pad_more c.loop-values.values.items c.push.new.self.items c.args.count c.in_ok-push.ensures.items (omega (arith, c.loop-values-test.true, c.len.ensures, c.loop-values.values.ok.0)) ∙ c.loop-values.invariant
