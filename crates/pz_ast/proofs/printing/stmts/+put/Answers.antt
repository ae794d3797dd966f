use Rattle.std.proofs.Common.{arith, ◌≤◌}
use denote.Param.Weighed.{most, at_most}
use Rattle.pz_syntax.proofs.stmts.Stmt.TheLaws.{the_size}
use Rattle.pz_ast.proofs.printing.stmts.+put.Goals as goal

pub put_branches-put_stmts-requires : goal.put_branches-put_stmts-requires
put_branches-put_stmts-requires t c =
    let each = at_most (λ x. most the_size x) c.args.branches.now c.loop-i.i c.index-branches-i.result c.loop-i-test.true in
    let below : most the_size c.as_slice.result.now ≤ most (λ x. most the_size x) c.args.branches.now = rw (c.as_slice.ensures, c.index-branches-i.is) each in
    (omega arith, tt)
