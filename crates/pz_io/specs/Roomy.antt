-- What a sink in memory is, and which writes fail.
use Rattle.std.specs.Prelude.{ℕ, List, Bool, true, ◌==◌, ◌||◌}
use Rattle.std.specs.List.{list_any}
use Rattle.pz_io.specs.Outside.{SinkState, raised}
use Rattle.pz_io.specs.declared.roomy.RoomySink.{RoomySink}

abbrev pub roomy_state : RoomySink → SinkState
roomy_state sink = record { told = true; taken = sink.bytes.items; faults = sink.faults; failed = sink.failed }

-- how many more bytes the sink takes
abbrev pub roomy_room : RoomySink → ℕ
roomy_room sink = sink.room

-- how many writes there were
abbrev pub roomy_made : RoomySink → ℕ
roomy_made sink = sink.made

-- the numbers of the writes that fail
abbrev pub roomy_calls : RoomySink → List ℕ
roomy_calls sink = sink.calls.items

-- whether no room is left, or the number of the next write is listed
abbrev pub next_write_fails : RoomySink → Bool
next_write_fails sink =
    (roomy_room sink == 0) || list_any (λ call. call == raised (roomy_made sink)) (roomy_calls sink)
