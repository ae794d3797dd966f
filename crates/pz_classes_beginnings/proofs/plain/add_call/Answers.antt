use Rattle.std.proofs.Common.{◌≡◌, sym, ◌≤◌, List, [], ◌∷◌, ◌++◌, length, arith}
use Rattle.std.proofs.lemmas.List.{append-nil}
use Rattle.pz_syntax.specs.declared.names.Id.{Id}
use Rattle.pz_syntax.specs.declared.exprs.Expr.{Expr}
use Rattle.pz_syntax.specs.ExpressionView.{list_view}
use Rattle.pz_classes_beginnings.specs.Beginning.{if_plain}
use Rattle.pz_classes_beginnings.proofs.plain.add_call.Goals as goal

-- with arguments it is not plain
not_plain : (out : List Id) (method : Id) (args : List Expr) (results : List Id) → 1 ≤ length args → out ≡ out ++ if_plain method (list_view args) results
not_plain out method [] results some = absurd (omega arith)
not_plain out method (e ∷ es) results some = sym (append-nil out)

pub returns-in_default-2 : goal.returns-in_default-2
returns-in_default-2 c = not_plain c.args.out.now c.args.method.now c.args.args.now c.args.results.now c.in_default.len_at_least
