use Rattle.pz_run_playing.proofs.LastLines.{texts_are_trace_texts, chosen_runs_are_traces}
use Rattle.pz_run_playing.proofs.laws.run_texts_are_traces.Goals as goal

pub returns : goal.returns
returns c = record { texts = texts_are_trace_texts; traces = chosen_runs_are_traces c.one_chosen_run.ensures.is_run }
