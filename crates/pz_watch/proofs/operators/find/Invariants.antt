use Rattle.std.proofs.Common.{◌≡◌, map, drop}
use Rattle.pz_lexer.specs.Spellings.{spelled, entry_of}
use Rattle.pz_watch.proofs.operators.find.Given as goal

abbrev pub invariant-loop-spelling : goal.invariant-loop-spelling
invariant-loop-spelling g l = spelled (map entry_of (drop l.spelling-index l.table)) l.text ≡ spelled (map entry_of l.table) l.text
