use Rattle.std.proofs.Common.{◌∙◌}
use Rattle.pz_lexer.specs.Words.{keywords}
use Rattle.pz_lines.proofs.Among.{among_spelled}
use Rattle.pz_lines.proofs.identifiers.is_reserved.Goals as goal

pub returns : goal.returns
returns c = c.is_among.ensures ∙ among_spelled c.args.word.now keywords
