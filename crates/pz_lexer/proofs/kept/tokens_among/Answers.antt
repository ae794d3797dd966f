use Rattle.std.proofs.Common.{◌∙◌, sym, ap, ◌++◌, ◌∷◌, []}
use Rattle.pz_lexer.specs.Kept.{tokens_among}
use Rattle.pz_lexer.proofs.Trimming.{tokens_among-append}
use Rattle.pz_lexer.proofs.kept.tokens_among.Goals as goal

pub loop-piece-preserved : goal.loop-piece-preserved
loop-piece-preserved c =
    c.in_ok-keep_token.ensures ∙ ap (λ l. l ++ tokens_among (c.in-Some.piece ∷ [])) c.loop-piece.invariant ∙ sym (tokens_among-append c.loop-piece.yielded (c.in-Some.piece ∷ []))
