use Rattle.std.proofs.Common.{Ok}
use Rattle.pz_rules.specs.declared.term.Term.TheVariants.{Done}
use Rattle.pz_rules.specs.View.{term_view}
use Rattle.pz_part_actions.specs.devices.Standing.{seen_there}
use Rattle.pz_part_actions.specs.Becoming.{process_left}
use Rattle.pz_part_actions.proofs.Openings.{answered}
use Rattle.pz_part_actions.proofs.Forms.{is_wait}
use Rattle.pz_part_actions.proofs.Performed.{wait_performed}
use Rattle.pz_part_actions.proofs.performing.perform_part.Goals as goal

pub returns-in-Wait-clause-performs : goal.returns-in-Wait-clause-performs
returns-in-Wait-clause-performs c = λ kind pos known can.
    answered (seen_there c.args.here.now c.args.home.now c.args.state.now.held) c.args.frame.0 (term_view c.args.part.now) pos (process_left c.args.state.now.held (Ok Done))
    (wait_performed (seen_there c.args.here.now c.args.home.now c.args.state.now.held) c.args.frame.0 (term_view c.args.part.now) c.in-Wait.left kind pos c.in-Wait.pos (is_wait c.args.part.now c.in-Wait.left c.in-Wait.pos c.in-Wait.is) can)
