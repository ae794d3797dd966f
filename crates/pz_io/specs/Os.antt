-- What the files and the output of the system are: they tell nothing of what they hold.
use Rattle.std.specs.Prelude.{[], false}
use Rattle.pz_io.specs.Outside.{FilesState, SinkState}
use Rattle.pz_io.specs.declared.os.OsFiles.{OsFiles}
use Rattle.pz_io.specs.declared.os.OsSink.{OsSink}

abbrev pub os_files_state : OsFiles → FilesState
os_files_state files = record {
  told = false;
  held = [];
  rest = [];
  faults = files.faults;
  opens = files.opens;
  opened = files.names.list;
  handed = files.handed;
  ended = files.ended;
  failed = files.failed;
}

abbrev pub os_sink_state : OsSink → SinkState
os_sink_state sink = record { told = false; taken = []; faults = sink.faults; failed = sink.failed }
