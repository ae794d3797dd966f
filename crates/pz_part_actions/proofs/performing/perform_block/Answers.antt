use Rattle.pz_classes_code.specs.pz_syntax.Statements.{block}
use Rattle.pz_classes_code.specs.CodeView.{list_view}
use Rattle.pz_rules.specs.Terms.{leaf}
use Rattle.pz_part_queries.specs.Standpoints.{seen_from}
use Rattle.pz_part_actions.specs.Becoming.{process_left}
use Rattle.pz_part_actions.proofs.Openings.{answered}
use Rattle.pz_part_actions.proofs.Performed.{block_performed}
use Rattle.pz_part_actions.proofs.performing.perform_block.Goals as goal

pub returns-clause-performs : goal.returns-clause-performs
returns-clause-performs c = λ m class known.
    answered (seen_from m c.args.here.now class c.args.state.now.held) c.args.frame.0 (leaf (block c.args.pos (list_view c.args.codes.now))) c.args.pos (process_left c.run.new.state.held c.done.result)
    (block_performed (seen_from m c.args.here.now class c.args.state.now.held) c.args.frame.0 c.args.pos (list_view c.args.codes.now) c.run.new.state.held c.in_ok-end.end c.done.result
    (c.in_ok-end.ensures.runs m class known) (c.done.ensures.left c.run.new.state.held))
