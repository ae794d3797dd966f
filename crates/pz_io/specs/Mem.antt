-- What files in memory are. Their count of faults is always 0.
use Rattle.std.specs.Prelude.{true}
use Rattle.pz_io.specs.Outside.{FilesState}
use Rattle.pz_io.specs.Entries.{entries_of, rest_of}
use Rattle.pz_io.specs.declared.mem.MemFiles.{MemFiles}

abbrev pub mem_state : MemFiles → FilesState
mem_state files = record {
  told = true;
  held = entries_of files.entries.items;
  rest = rest_of files.entries.items files.current files.handed;
  faults = 0;
  opens = files.opens;
  opened = files.names.list;
  handed = files.handed;
  ended = files.ended;
  failed = files.failed;
}
