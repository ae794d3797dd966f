-- The plain data that a body stands for.
use Rattle.pz_classes_code.specs.declared.body.Body.{Body}
use Rattle.pz_classes_code.specs.declared.body.Body.TheVariants.{Data, Process}
use Rattle.pz_classes_code.specs.CodeView.{list_view}
use Rattle.pz_classes_code.specs.StepView.{sequence_view}
use Rattle.pz_classes_rules.specs.Bodies.{BodyTree, data_body, process_body}

abbrev pub body_view : Body → BodyTree
body_view (Data locals code) = data_body locals (list_view code)
body_view (Process locals stmts) = process_body locals (sequence_view stmts)
