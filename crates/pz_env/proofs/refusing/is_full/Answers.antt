use Rattle.pz_syntax.specs.ClassView.{model_view}
use Rattle.pz_env.proofs.Refusals.{on_large}
use Rattle.pz_env.proofs.refusing.is_full.Goals as goal

pub returns-else-is_taken : goal.returns-else-is_taken
returns-else-is_taken c = on_large (model_view c.args.model.now) c.is_taken.result c.has_large_system.result c.if-is_taken.false c.is_taken.ensures c.has_large_system.ensures
