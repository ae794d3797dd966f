use Rattle.std.proofs.Common.{length, arith, ap, sym, ◌∙◌}
use Rattle.pz_lexer.proofs.CommentReads.{sought_first, sought_on, closed_gives, open_gives, block_reads}
use Rattle.pz_lexer.proofs.comments.block_comment.Goals as goal

pub body-init : goal.body-init
body-init c = (omega (arith, ap length c.requires.1), sought_first c.args.text.now)

pub body-preserved : goal.body-preserved
body-preserved c = (omega arith, sought_on c.args.text.now c.body.at c.body.invariant.1 (omega arith) (sym c.ends_at.ensures ∙ c.if-ends_at.false))

pub returns-then-ends_at : goal.returns-then-ends_at
returns-then-ends_at c = block_reads c.args.text.now c.requires.0 _ c.requires.1 (closed_gives c.args.text.now c.body.at c.body.invariant.1 (omega arith) (sym c.ends_at.ensures ∙ c.if-ends_at.true))

pub returns : goal.returns
returns c = block_reads c.args.text.now c.requires.0 _ c.requires.1 (open_gives c.args.text.now c.body.at c.body.invariant.1 c.body-test.false)
