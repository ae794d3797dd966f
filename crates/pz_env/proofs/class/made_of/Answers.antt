use Rattle.std.proofs.Common.{ap, map, arith}
use Rattle.pz_syntax.specs.StatementView as statement
use Rattle.pz_env.proofs.Making.{at_first, line_made, all_made}
use Rattle.pz_env.proofs.class.made_of.Goals as goal

pub loop-index-init : goal.loop-index-init
loop-index-init c = at_first c.args.entries.now _ _ _ _ _ c.new.ensures c.new-2.ensures c.new-3.ensures c.new-4.ensures (ap (map statement.view) c.new-5.ensures)

pub loop-index-preserved : goal.loop-index-preserved
loop-index-preserved c =
    line_made c.args.entries.now c.index-entries-index.result c.loop-index.index _ c.place_of.result _ _ _ _ _ _ _ _ _ _ c.loop-index-test.true c.index-entries-index.is (omega arith) c.place_of.ensures
    c.in_ok-add.ensures.ends c.in_ok-add.ensures.ports c.in_ok-add.ensures.said c.in_ok-add.ensures.messages c.in_ok-add.ensures.body c.loop-index.invariant

pub returns-clause-ports : goal.returns-clause-ports
returns-clause-ports c = (all_made c.args.entries.now c.loop-index.index _ _ _ _ _ (omega arith) c.loop-index.invariant).0

pub returns-clause-messages : goal.returns-clause-messages
returns-clause-messages c = (all_made c.args.entries.now c.loop-index.index _ _ _ _ _ (omega arith) c.loop-index.invariant).1

pub returns-clause-body : goal.returns-clause-body
returns-clause-body c = (all_made c.args.entries.now c.loop-index.index _ _ _ _ _ (omega arith) c.loop-index.invariant).2
