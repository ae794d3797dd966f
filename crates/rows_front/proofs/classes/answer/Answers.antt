use Rattle.pz_classes_code.specs.pz_syntax.ClassView.{model_view}
use Rattle.rows_front.proofs.classes.answer.Goals as goal

pub method-requires : goal.method-requires
method-requires c = c.in_ok-class.ensures.belongs (model_view c.args.model.now) c.requires

pub process_method-requires : goal.process_method-requires
process_method-requires c = c.in_ok-class.ensures.belongs (model_view c.args.model.now) c.requires

pub returns-in-None : goal.returns-in-None
returns-in-None c = c.method.ensures.belongs (model_view c.args.model.now) c.requires

pub returns-in_ok-outputs-in-Some : goal.returns-in_ok-outputs-in-Some
returns-in_ok-outputs-in-Some c = c.process_method.ensures.belongs (model_view c.args.model.now) c.requires
