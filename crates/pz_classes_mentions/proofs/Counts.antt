-- How many expressions a list of the code stands for.
use Rattle.std.proofs.Common.{◌≡◌, refl, ap, suc, List, [], ◌∷◌, length}
use Rattle.pz_syntax.specs.declared.exprs.Expr.{Expr}
use Rattle.pz_syntax.specs.ExpressionView.{list_view}
use Rattle.pz_classes_mentions.specs.Expressions.{count}

pub count_length : (es : List Expr) → count (list_view es) ≡ length es
count_length [] = refl
count_length (e ∷ es) = ap suc (count_length es)
