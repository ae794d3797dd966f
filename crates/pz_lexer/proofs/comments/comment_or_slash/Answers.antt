use Rattle.std.proofs.Common.{sym, ◌∙◌}
use Rattle.pz_lexer.proofs.CommentReads.{line_reads, slash_reads, block_text}
use Rattle.pz_lexer.proofs.comments.comment_or_slash.Goals as goal

pub returns-then-begins_byte : goal.returns-then-begins_byte
returns-then-begins_byte c =
    line_reads c.args.text.now c.split_at.result.1.now c.line_len.result c.requires c.split_at.ensures.back (sym c.begins_byte.ensures ∙ c.if-begins_byte.true) c.line_len.ensures

pub block_comment-requires : goal.block_comment-requires
block_comment-requires c = block_text c.args.text.now c.split_at.result.1.now c.requires c.split_at.ensures.back (sym c.begins_byte-2.ensures ∙ c.if-begins_byte-2.true)

pub returns : goal.returns
returns c =
    slash_reads c.args.text.now c.split_at.result.1.now c.symbol.result c.requires c.split_at.ensures.back
    (sym c.begins_byte.ensures ∙ c.if-begins_byte.false) (sym c.begins_byte-2.ensures ∙ c.if-begins_byte-2.false) c.symbol.ensures
