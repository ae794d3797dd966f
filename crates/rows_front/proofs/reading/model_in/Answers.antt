use Rattle.std.proofs.Common.{◌≡◌, ◌≤◌, ap, List, length, arith}
use Rattle.std.proofs.lemmas.Result.{IfOk-weaker}
use Rattle.pz_classes_code.specs.pz_syntax.declared.tokens.Token.{Token}
use Rattle.pz_classes_code.specs.pz_syntax.ClassView.{model_view}
use Rattle.pz_classes_code.specs.pz_syntax.ModelText.{HasFewMarks}
use Rattle.rows_front.proofs.reading.model_in.Goals as goal

pub returns-in-Ok : goal.returns-in-Ok
returns-in-Ok c =
    let count : length c.as_slice.result.now ≡ length c.in-Ok.tokens = ap (λ (ts : List Token). length ts) c.as_slice.ensures in
    let limit : length c.in-Ok.tokens ≤ 4000000 = c.in-Ok.ensures in
    IfOk-weaker c.tree_of.result _ (λ m. HasFewMarks (model_view m)) (λ m is. omega (arith, is, count, limit)) c.tree_of.ensures
