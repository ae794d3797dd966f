use Rattle.std.proofs.Common.{◌≡◌, ◌∷◌, [], ◌∙◌, ap, w64, arith}
use Rattle.std.proofs.lemmas.Int.{to_z-of_z}
use Rattle.std.proofs.lemmas.Grind.{common_steps}
use Rattle.pz_prims.specs.Rows.{answered}
use Rattle.pz_prims.specs.Integers.{integers}
use Rattle.pz_prims.proofs.integers.answer.Goals as goal

pub returns-in-len1 : goal.returns-in-len1
returns-in-len1 c =
    let told : c.with_one.result ≡ answered (integers c.args.a) c.args.selector.now (c.argument-item.result ∷ []) = c.with_one.ensures ∙ ap (λ a. answered (integers a) c.args.selector.now (c.argument-item.result ∷ [])) (to_z-of_z w64 c.args.a c.ranges.a) in
    grind (arith, common_steps)
