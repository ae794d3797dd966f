use Rattle.std.proofs.Common.{◌≡◌, ◌≤◌, ap, ◌∙◌, List, Option, Some, None, length, arith}
use Rattle.std.specs.Prelude.{IfSome}
use Rattle.pz_classes_code.specs.pz_syntax.declared.clusters.Model.{Model}
use Rattle.pz_classes_code.specs.pz_syntax.declared.tokens.Token.{Token}
use Rattle.pz_classes_code.specs.pz_syntax.ClassView.{model_view}
use Rattle.pz_classes_code.specs.pz_syntax.ModelText.{HasFewMarks, text as text_of}
use Rattle.rows_eval.proofs.reading.model_in.Goals as goal

few : (o : Option Model) (n : _) → n ≤ 1000000 → IfSome o (λ m. length (text_of (model_view m)) ≡ n) → IfSome o (λ m. HasFewMarks (model_view m))
few None n limit is = is
few (Some m) n limit is = omega (arith, is, limit)

pub returns-in-Some : goal.returns-in-Some
returns-in-Some c =
    let count : length c.as_slice.result.now ≡ length c.in-Some.tokens = ap (λ (ts : List Token). length ts) c.as_slice.ensures in
    let limit : length c.in-Some.tokens ≤ 1000000 = c.in-Some.ensures in
    few c.tree_of.result _ (omega (arith, count, limit)) c.tree_of.ensures
