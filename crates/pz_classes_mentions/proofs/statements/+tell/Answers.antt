use Rattle.std.proofs.Common.{arith, rules, ◌≤◌}
use denote.Param.Weighed.{most, at_most}
use Rattle.pz_syntax.proofs.stmts.Stmt.TheLaws.{the_size}
use Rattle.pz_classes_mentions.proofs.statements.+tell.Goals as goal

pub tell_branches-tell_statements-heard-requires : goal.tell_branches-tell_statements-heard-requires
tell_branches-tell_statements-heard-requires g t c =
    let each = at_most (λ x. most the_size x) c.args.branches.now c.loop-branch.branch-index c.branch-item.result c.loop-branch-test.true in
    let below : most the_size c.as_slice.result.now ≤ most (λ x. most the_size x) c.args.branches.now = rw (c.as_slice.ensures, c.branch-item.is) each in
    λ κs within. (omega arith, (within.0, (within.1, search rules)))
