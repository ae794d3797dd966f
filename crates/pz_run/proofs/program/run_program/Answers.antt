use Rattle.pz_run_output.proofs.CanEnds.{only_usage, no_usage}
use Rattle.pz_run_output.proofs.Keeps.{raised_rose}
use Rattle.pz_run.proofs.program.run_program.Goals as goal

pub returns-clause-output : goal.returns-clause-output
returns-clause-output g c = λ a asked told x. (c.run_words.ensures.kept a asked).output told x.written x.ample x.read

pub returns-clause-write_fault : goal.returns-clause-write_fault
returns-clause-write_fault g c = λ a asked told tells is. (c.run_words.ensures.kept a asked).front told tells

pub returns-clause-no_memory : goal.returns-clause-no_memory
returns-clause-no_memory g c = λ a asked told tells is. (c.run_words.ensures.kept a asked).front told tells

pub returns-clause-usage : goal.returns-clause-usage
returns-clause-usage g c = λ a asked. no_usage a c.run_words.result.status (c.run_words.ensures.kept a asked).statuses

pub returns-clause-no_job : goal.returns-clause-no_job
returns-clause-no_job g c = λ a asked. only_usage a c.run_words.result.status (c.run_words.ensures.kept a asked).statuses

pub returns-clause-no_model : goal.returns-clause-no_model
returns-clause-no_model g c = λ a asked none told x. (c.run_words.ensures.kept a asked).no_model none told x.written x.ample x.read

pub returns-clause-run_end : goal.returns-clause-run_end
returns-clause-run_end g c = λ a asked ending ends told x. (c.run_words.ensures.kept a asked).run_end ending ends told x.written x.ample x.read

pub returns-clause-no_trace : goal.returns-clause-no_trace
returns-clause-no_trace g c = λ a asked none told x. (c.run_words.ensures.kept a asked).no_trace none told x.written x.ample x.read

pub returns-clause-last_read : goal.returns-clause-last_read
returns-clause-last_read g c = c.run_words.ensures.reading

pub returns-clause-last_write : goal.returns-clause-last_write
returns-clause-last_write g c = c.run_words.ensures.writing

pub returns-clause-write_cause : goal.returns-clause-write_cause
returns-clause-write_cause g c = λ is. raised_rose _ _ (c.run_words.ensures.writing.last is).0

pub returns-clause-complete : goal.returns-clause-complete
returns-clause-complete g c = λ a asked told no_files no_out ample.
    (c.run_words.ensures.kept a asked).output told (λ is. no_out (raised_rose _ _ (c.run_words.ensures.writing.last is).0)) ample (λ both. no_files both.1)

pub returns-clause-read_fault : goal.returns-clause-read_fault
returns-clause-read_fault g c = λ a asked. (c.run_words.ensures.kept a asked).read_fault

pub returns-clause-opens : goal.returns-clause-opens
returns-clause-opens g c = λ a asked. (c.run_words.ensures.kept a asked).opens

pub returns-clause-statuses : goal.returns-clause-statuses
returns-clause-statuses g c = λ a asked. (c.run_words.ensures.kept a asked).statuses

pub returns-clause-model_refused : goal.returns-clause-model_refused
returns-clause-model_refused g c = λ a asked. (c.run_words.ensures.kept a asked).model_refused

pub returns-clause-deadlock : goal.returns-clause-deadlock
returns-clause-deadlock g c = λ a asked. (c.run_words.ensures.kept a asked).deadlock

pub returns-clause-model_fault : goal.returns-clause-model_fault
returns-clause-model_fault g c = λ a asked. (c.run_words.ensures.kept a asked).model_fault

pub returns-clause-choice_refused : goal.returns-clause-choice_refused
returns-clause-choice_refused g c = λ a asked. (c.run_words.ensures.kept a asked).choice_refused

pub returns-clause-trace_refused : goal.returns-clause-trace_refused
returns-clause-trace_refused g c = λ a asked. (c.run_words.ensures.kept a asked).trace_refused

pub returns-clause-trace_opened : goal.returns-clause-trace_opened
returns-clause-trace_opened g c = λ a asked. (c.run_words.ensures.kept a asked).trace_opened

pub returns-clause-too_long : goal.returns-clause-too_long
returns-clause-too_long g c = λ a asked. (c.run_words.ensures.kept a asked).too_long

pub returns-clause-longer : goal.returns-clause-longer
returns-clause-longer g c = λ a asked. (c.run_words.ensures.kept a asked).longer

pub returns-clause-read_cause : goal.returns-clause-read_cause
returns-clause-read_cause g c = λ a asked. (c.run_words.ensures.kept a asked).read_cause

pub returns-clause-watch_broken : goal.returns-clause-watch_broken
returns-clause-watch_broken g c = λ a asked. (c.run_words.ensures.kept a asked).watch_broken

pub returns-clause-broken_watch : goal.returns-clause-broken_watch
returns-clause-broken_watch g c = λ a asked breaks told x. (c.run_words.ensures.kept a asked).broken_watch breaks told x.written x.ample x.read

pub returns-clause-watch_refused : goal.returns-clause-watch_refused
returns-clause-watch_refused g c = λ a asked. (c.run_words.ensures.kept a asked).watch_refused

pub returns-clause-no_watches : goal.returns-clause-no_watches
returns-clause-no_watches g c = λ a asked none told x. (c.run_words.ensures.kept a asked).no_watches none told x.written x.ample x.read

pub returns-clause-script_refused : goal.returns-clause-script_refused
returns-clause-script_refused g c = λ a asked. (c.run_words.ensures.kept a asked).script_refused

pub returns-clause-no_script : goal.returns-clause-no_script
returns-clause-no_script g c = λ a asked none told x. (c.run_words.ensures.kept a asked).no_script none told x.written x.ample x.read

pub returns-clause-simulator : goal.returns-clause-simulator
returns-clause-simulator g c = c.run_words.ensures.simulator

pub returns-clause-unbegun : goal.returns-clause-unbegun
returns-clause-unbegun g c = c.run_words.ensures.unbegun
