use Rattle.pz_tree_standing.proofs.Tallies.{summary_sequence, summary_frame, summary_guarded, summary_abort, summary_idle, summary_handling, summary_parallel, summary_select, summary_shifted}
use Rattle.pz_tree_standing.proofs.laws.summaries_by_form.Goals as goal

pub returns : goal.returns
returns c = record {
  sequence = summary_sequence;
  frame = summary_frame;
  guard = summary_guarded;
  abort = summary_abort;
  idle = summary_idle;
  handling = summary_handling;
  parallel = summary_parallel;
  select = summary_select;
  shifted = summary_shifted;
}
