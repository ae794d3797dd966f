use Rattle.std.proofs.Common.{sym, ◌∙◌}
use Rattle.std.specs.Option.{option_map}
use Rattle.pz_classes_code.specs.CodeView.{view, part_view}
use Rattle.pz_rules.specs.View.{term_view}
use Rattle.pz_part_queries.specs.Standpoints.{seen_from}
use Rattle.pz_part_actions.proofs.Forms.{is_receive}
use Rattle.pz_part_actions.proofs.Messages.{receive_taken}
use Rattle.pz_part_actions.proofs.taking.take.Goals as goal

pub returns-clause-takes : goal.returns-clause-takes
returns-clause-takes c = λ m class pos port message count known receives.
    receive_taken c.receive.result (seen_from m c.args.here.now class c.args.state.now.held) c.args.frame.0 c.args.parcel.now (term_view c.args.part.now)
    c.in-Leaf.step.pos c.in-Receive.port c.in-Receive.name c.in-Receive.into (option_map view c.in-Receive.condition) (part_view c.in-Receive.block) pos port message count c.receive.new.state.held
    (is_receive c.args.part.now c.in-Leaf.step c.in-Receive.port c.in-Receive.name c.in-Receive.into c.in-Receive.condition c.in-Receive.block c.in-Leaf.is (sym c.get.ensures ∙ c.in-Receive.is)) receives
    (c.receive.ensures.takes m class c.in-Receive.port c.in-Receive.name (option_map view c.in-Receive.condition) known)
