use Rattle.std.proofs.Common.{sym, ◌∙◌}
use Rattle.pz_classes_code.specs.CodeView.{part_view}
use Rattle.pz_rules.specs.View.{term_view}
use Rattle.pz_part_queries.specs.Standpoints.{seen_from}
use Rattle.pz_part_actions.proofs.Forms.{is_send}
use Rattle.pz_part_actions.proofs.Messages.{send_handed}
use Rattle.pz_part_actions.proofs.handing.hand.Goals as goal

pub returns-clause-hands : goal.returns-clause-hands
returns-clause-hands c = λ m class pos port message parcel known sends.
    send_handed c.evaluations_are_computed.ensures.parts (seen_from m c.args.here.now class c.args.state.now.held) c.args.frame.0 parcel c.hand_over.result (term_view c.args.part.now)
    c.in-Leaf.step.pos c.in-Send.port c.in-Send.name (part_view c.in-Send.args) (part_view c.in-Send.block) pos port message c.hand_over.new.state.held
    (is_send c.args.part.now c.in-Leaf.step c.in-Send.port c.in-Send.name c.in-Send.args c.in-Send.block c.in-Leaf.is (sym c.get.ensures ∙ c.in-Send.is)) sends (c.hand_over.ensures.runs m class known)
