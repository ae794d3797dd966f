-- What files and a sink are that hand out and take little at a time: those that they are made of, and how
-- many bytes they hand out or take at a time.
use Rattle.std.specs.Prelude.{ℕ, List, Bool}
use Rattle.pz_io.specs.Outside.{FilesState, SinkState}
use Rattle.pz_io.specs.Failing.{failing_state, failing_made, failing_calls, next_call_fails}
use Rattle.pz_io.specs.Roomy.{roomy_state, roomy_room, roomy_made, roomy_calls, next_write_fails}
use Rattle.pz_io.specs.declared.narrow.NarrowFiles.{NarrowFiles}
use Rattle.pz_io.specs.declared.narrow.NarrowSink.{NarrowSink}

abbrev pub narrow_files_state : NarrowFiles → FilesState
narrow_files_state files = failing_state files.inner

-- how many bytes a read hands out at most
abbrev pub narrow_files_most : NarrowFiles → ℕ
narrow_files_most files = files.most

-- how many calls of `open` and `read` there were
abbrev pub narrow_files_made : NarrowFiles → ℕ
narrow_files_made files = failing_made files.inner

-- the numbers of the calls that fail
abbrev pub narrow_files_calls : NarrowFiles → List ℕ
narrow_files_calls files = failing_calls files.inner

-- whether the number of the next call is listed
abbrev pub next_narrow_call_fails : NarrowFiles → Bool
next_narrow_call_fails files = next_call_fails files.inner

abbrev pub narrow_sink_state : NarrowSink → SinkState
narrow_sink_state sink = roomy_state sink.inner

-- how many bytes a write takes at most
abbrev pub narrow_sink_most : NarrowSink → ℕ
narrow_sink_most sink = sink.most

-- how many more bytes the sink takes
abbrev pub narrow_sink_room : NarrowSink → ℕ
narrow_sink_room sink = roomy_room sink.inner

-- how many writes there were
abbrev pub narrow_sink_made : NarrowSink → ℕ
narrow_sink_made sink = roomy_made sink.inner

-- the numbers of the writes that fail
abbrev pub narrow_sink_calls : NarrowSink → List ℕ
narrow_sink_calls sink = roomy_calls sink.inner

-- whether no room is left, or the number of the next write is listed
abbrev pub next_narrow_write_fails : NarrowSink → Bool
next_narrow_write_fails sink = next_write_fails sink.inner
