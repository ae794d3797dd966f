use Rattle.std.proofs.Common.{sym, ◌∙◌, arith}
use Rattle.pz_lexer.proofs.FirstReads.{blank_reads, other_reads}
use Rattle.pz_lexer.proofs.read.first_piece.Goals as goal

pub returns-then-is_blank : goal.returns-then-is_blank
returns-then-is_blank c = blank_reads c.args.text.now c.requires (sym c.is_blank.ensures ∙ c.if-is_blank.true)

pub returns-in_default : goal.returns-in_default
returns-in_default c =
    other_reads c.args.text.now c.symbol.result c.requires (sym c.is_blank.ensures ∙ c.if-is_blank.false) (sym c.is_letter.ensures ∙ c.if-is_letter.false) (sym c.is_digit.ensures ∙ c.if-is_digit.false)
    (omega arith) (omega arith) (omega arith) c.symbol.ensures
