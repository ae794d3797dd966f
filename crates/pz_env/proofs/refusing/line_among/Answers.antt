use Rattle.std.proofs.Common.{◌∙◌}
use Rattle.pz_syntax.specs.ClassView.{model_view}
use Rattle.pz_env.specs.devices.Ends.{ends_in}
use Rattle.pz_env.proofs.Refusals.{first_is, room_left}
use Rattle.pz_env.proofs.refusing.line_among.Goals as goal

pub returns : goal.returns
returns c =
    c.first_refused.ensures
    ∙ first_is (model_view c.args.model.now) (ends_in c.in_ok-ports.ports) (ends_in c.in_ok-taken.taken) c.in_ok-ports.ensures c.in_ok-taken.ensures 1 c.args.entries.now
    ∙ room_left (model_view c.args.model.now) c.args.entries.now c.in_ok-is_full.field-0 c.if-branch.false c.in_ok-is_full.ensures
