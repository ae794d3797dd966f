-- So many entries are added, and the lines that are left are those behind them.
use Rattle.std.specs.List.{join_with_byte}
use Rattle.pz_env_script.proofs.ScriptLines.{HasRead}
use Rattle.pz_env_script.proofs.script.take_entries.Given as goal

abbrev pub invariant-loop-before : goal.invariant-loop-before
invariant-loop-before l = HasRead (join_with_byte 10 l.fn.lines) l.before l.lines l.entries
