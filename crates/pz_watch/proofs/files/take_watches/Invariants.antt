-- So many watches are added, and the lines that are left are those behind them.
use Rattle.std.specs.List.{join_with_byte}
use Rattle.pz_watch.proofs.FileLines.{HasRead}
use Rattle.pz_watch.proofs.files.take_watches.Given as goal

abbrev pub invariant-loop-before : goal.invariant-loop-before
invariant-loop-before l = HasRead (join_with_byte 10 l.fn.lines) l.before l.lines l.watches
