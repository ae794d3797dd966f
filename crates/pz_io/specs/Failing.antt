-- What files that fail at listed calls are, and which calls fail.
use Rattle.std.specs.Prelude.{ℕ, List, Bool, ◌==◌}
use Rattle.std.specs.List.{list_any}
use Rattle.pz_io.specs.Outside.{FilesState, raised}
use Rattle.pz_io.specs.Mem.{mem_state}
use Rattle.pz_io.specs.declared.failing.FailingFiles.{FailingFiles}

abbrev pub failing_state : FailingFiles → FilesState
failing_state files = record (mem_state files.inner) { faults = files.faults }

-- how many calls of `open` and `read` there were
abbrev pub failing_made : FailingFiles → ℕ
failing_made files = files.made

-- the numbers of the calls that fail
abbrev pub failing_calls : FailingFiles → List ℕ
failing_calls files = files.calls.items

-- whether the number of the next call is listed
abbrev pub next_call_fails : FailingFiles → Bool
next_call_fails files = list_any (λ call. call == raised (failing_made files)) (failing_calls files)
