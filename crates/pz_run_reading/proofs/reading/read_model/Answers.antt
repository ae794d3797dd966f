use Rattle.std.proofs.Common.{◌≡◌}
use Rattle.pz_bind.specs.pz_classes.CheckedView.{checked_model}
use Rattle.pz_bind.specs.pz_classes.declared.checked.Checked.{Checked}
use Rattle.pz_run_reading.proofs.Causes.{wanting_on}
use Rattle.pz_bind_rules.specs.pz_syntax.ClassView.{model_view}
use Rattle.pz_run_reading.proofs.Trees.{tree_of}
use Rattle.pz_run_reading.proofs.Found.{found_model, refused_model, only_model}
use Rattle.pz_run_reading.proofs.FewMarks.{few_marks, small_model}
use Rattle.pz_run_reading.proofs.reading.read_model.Goals as goal

pub check_model-requires : goal.check_model-requires
check_model-requires c = few_marks c.args.text.now (model_view c.in_ok-model.model) c.requires c.in_ok-model.ensures.small

pub returns-clause-small : goal.returns-clause-small
returns-clause-small c = small_model c.args.text.now (model_view c.in_ok-model.model) c.in_ok-model.ensures.small c.check_model.result c.check_model.ensures.model

pub returns-clause-found : goal.returns-clause-found
returns-clause-found c =
    found_model c.args.text.now (model_view c.in_ok-model.model) c.in_ok-model.ensures.found c.check_model.result c.check_model.ensures.model c.check_model.ensures.sound

pub returns-clause-only : goal.returns-clause-only
returns-clause-only c = λ m is.
    only_model c.args.text.now (model_view c.in_ok-model.model) c.in_ok-model.ensures.found m (c.in_ok-model.ensures.only m (tree_of c.args.text.now m is)) is c.check_model.result c.check_model.ensures.model c.check_model.ensures.refused

pub returns-clause-refused : goal.returns-clause-refused
returns-clause-refused c =
    refused_model c.args.text.now (model_view c.in_ok-model.model) c.in_ok-model.ensures.found c.check_model.result c.check_model.ensures.refused

pub returns-in_err-model-clause-only : goal.returns-in_err-model-clause-only
returns-in_err-model-clause-only c = λ m is.
    wanting_on (λ (x : Checked). checked_model x ≡ m) c.from_residual.result c.in_err-model.field-0.0 c.from_residual.ensures.1 (c.in_err-model.ensures.only m (tree_of c.args.text.now m is))
