use Rattle.pz_lexer.proofs.RunCounts.{IsUtf8-word}
use Rattle.pz_lexer.proofs.words.name.Goals as goal

pub unreachable-requires : goal.unreachable-requires
unreachable-requires c = c.in-Err.ensures.cases.0 (IsUtf8-word c.args.word.now c.requires)
