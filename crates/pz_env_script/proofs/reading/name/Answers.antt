-- Letters and digits are text.
use Rattle.std.specs.Prelude.{not}
use Rattle.std.proofs.Common.{◌&&◌}
use Rattle.std.specs.List.{list_all}
use Rattle.pz_lexer.specs.Bytes.{is_letter, is_word, begins}
use Rattle.pz_lexer.proofs.RunCounts.{IsUtf8-word}
use Rattle.pz_lines.specs.Identifiers.{is_reserved}
use Rattle.pz_env_script.proofs.Answering.{split}
use Rattle.pz_env_script.proofs.reading.name.Goals as goal

pub unreachable-requires : goal.unreachable-requires
unreachable-requires c =
    let word = c.args.word.now in
    let parts = split (begins is_letter word) (list_all is_word word && not (is_reserved word)) c.requires in
    c.in-Err.ensures.cases.0 (IsUtf8-word word (split (list_all is_word word) (not (is_reserved word)) parts.1).0)
