use Rattle.pz_syntax.specs.ClassView.{model_view}
use Rattle.pz_env.proofs.Refusals.{told}
use Rattle.pz_env.proofs.refusing.refused_line.Goals as goal

pub returns : goal.returns
returns c = told (model_view c.args.model.now) c.entries_of.result.now c.args.script.now c.line_among.result c.entries_of.ensures.list c.refusals_are_computed.ensures c.line_among.ensures
