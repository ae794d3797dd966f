use Rattle.pz_classes_code.specs.pz_syntax.ClassView.{model_view}
use Rattle.rows_eval.proofs.questions.show_answer.Goals as goal

pub show_statements-requires : goal.show_statements-requires
show_statements-requires c = ∣ (model_view c.args.model.now, c.requires) ∣₁
