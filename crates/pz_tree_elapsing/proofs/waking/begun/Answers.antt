use Rattle.std.proofs.Common.{◌∙◌, ap, sym}
use Rattle.pz_classes_code.specs.StepView.{view}
use Rattle.pz_tree_refreshing.specs.pz_tree_nodes.View.{head_view}
use Rattle.pz_tree_elapsing.proofs.Delaying.{statement_stays, delay_due, delay_begins}
use Rattle.pz_tree_elapsing.proofs.waking.begun.Goals as goal

pub returns-in_default : goal.returns-in_default
returns-in_default g = record {
  goes = λ a d f c time unnamed.
      statement_stays a d f c (view g.args.step) g.args.kept.now g.stays.result.kept (head_view g.stays.result.head) (sym g.begins_at.ensures ∙ g.in_default.is) unnamed
      (ap head_view g.stays.ensures.head) g.stays.ensures.kept;
}

pub returns : goal.returns
returns g = record {
  goes = λ a d f c time unnamed.
      delay_begins a d f c g.args.clock g.in-Some-due.due (view g.args.step) g.in-Some.pos g.args.kept.now g.waits.result.kept (head_view g.waits.result.head) time
      (sym g.begins_at.ensures ∙ g.in-Some.is) g.in-Some-due.is
      (ap head_view g.waits.ensures.head) g.waits.ensures.kept;
}

pub returns-in_default-due : goal.returns-in_default-due
returns-in_default-due g = record {
  goes = λ a d f c time unnamed.
      delay_due a d f c (view g.args.step) g.in-Some.pos g.args.kept.now (head_view g.stays-in_default-due.result.head) g.stays-in_default-due.result.kept
      (sym g.begins_at.ensures ∙ g.in-Some.is) g.in_default-due.is;
}
