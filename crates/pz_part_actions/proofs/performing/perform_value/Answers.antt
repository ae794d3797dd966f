use Rattle.pz_classes_code.specs.pz_syntax.Statements.{value}
use Rattle.pz_classes_code.specs.CodeView.{view}
use Rattle.pz_rules.specs.Terms.{leaf}
use Rattle.pz_part_queries.specs.Standpoints.{seen_from}
use Rattle.pz_part_actions.specs.Becoming.{process_left}
use Rattle.pz_part_actions.proofs.Openings.{answered}
use Rattle.pz_part_actions.proofs.Performed.{value_performed}
use Rattle.pz_part_actions.proofs.performing.perform_value.Goals as goal

pub returns-clause-performs : goal.returns-clause-performs
returns-clause-performs c = λ m class known.
    answered (seen_from m c.args.here.now class c.args.state.now.held) c.args.frame.0 (leaf (value c.args.pos (view c.args.code.now))) c.args.pos (process_left c.evaluate.new.state.held c.done.result)
    (value_performed (seen_from m c.args.here.now class c.args.state.now.held) c.args.frame.0 c.args.pos (view c.args.code.now) c.in_ok-found.found c.evaluate.new.state.held c.without_value.result c.done.result
    (c.in_ok-found.ensures.gives m class known) c.without_value.ensures (c.done.ensures.left c.evaluate.new.state.held))
