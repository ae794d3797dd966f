use Rattle.std.proofs.Common.{◌≡◌, ◌∙◌, ℕ, List, drop, length, refl, ap, rules, arith}
use Rattle.pz_bind_rules.specs.pz_classes_code.declared.step.Step.{Step}
use Rattle.pz_rules.proofs.Rests.{behind_next, behind_last}
use Rattle.pz_rules.proofs.rest.Rest.behind_first.Goals.{then-first-len, else-first-len}
use Rattle.pz_rules.proofs.rest.Rest.behind_first.Goals as goal

pub returns-in-From : goal.returns-in-From
returns-in-From c =
    let seen : drop c.in-From.first c.in-From.all ≡ c.args.self = search rules in
    let behind = ap (λ (steps : List Step). drop 1 steps) seen in
    elim c.if-first-len.branch [
      | then-first-len w ↦ c.from.ensures ∙ ap (λ (n : ℕ). drop n c.in-From.all) w.first-is ∙ behind_next c.in-From.first c.in-From.all c.in-From.all refl ∙ behind
      | else-first-len w ↦ c.from.ensures ∙ ap (λ (n : ℕ). drop n c.in-From.all) w.first-is ∙ behind_last c.in-From.first c.in-From.all (omega (arith, w.if-first-len.false, c.len.ensures, ap (λ (steps : List Step). length steps) c.get.ensures)) ∙ behind
    ]
