use Rattle.std.proofs.Common.{◌≡◌, drop}
use Rattle.pz_lines.proofs.Among.{is_one_of}
use Rattle.pz_lines.proofs.identifiers.is_among.Given as goal

abbrev pub invariant-loop-other : goal.invariant-loop-other
invariant-loop-other l = is_one_of l.word (drop l.other-index l.words) ≡ is_one_of l.word l.words
