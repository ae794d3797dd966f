use Rattle.std.proofs.Common.{◌∙◌, ap, sym, subst}
use Rattle.std.proofs.lemmas.Result.{err_from_is_err_and}
use Rattle.pz_lexer.specs.Tokens.{AreTokens}
use Rattle.pz_lexer.specs.Kept.{tokens_among}
use Rattle.pz_lexer.proofs.Cuts.{answers_tokens, answers_refusal}
use Rattle.pz_lexer.proofs.TokenCounts.{no_more_tokens}
use Rattle.pz_lexer.proofs.lexer.lex.Goals as goal
use Rattle.pz_lexer.proofs.lexer.lex.Goals.{After-from_vec}

are_tokens : (c : After-from_vec) → AreTokens c.args.text.now c.from_vec.result
are_tokens c =
    subst (AreTokens c.args.text.now) (sym (c.from_vec.ensures ∙ c.in_ok-tokens_among.ensures ∙ ap tokens_among c.into_vec.ensures)) c.in_ok-pieces.ensures.tokens

pub returns-clause-tokens : goal.returns-clause-tokens
returns-clause-tokens c = are_tokens c

pub returns-clause-counted : goal.returns-clause-counted
returns-clause-counted c = no_more_tokens c.args.text.now c.from_vec.result (are_tokens c)

pub returns-clause-computed : goal.returns-clause-computed
returns-clause-computed c = answers_tokens c.args.text.now c.from_vec.result (are_tokens c)

pub returns-in_err-pieces-clause-computed : goal.returns-in_err-pieces-clause-computed
returns-in_err-pieces-clause-computed c =
    let p = err_from_is_err_and c.from_residual.result c.from_residual.ensures.1 in
    rw (p.1, p.2) (answers_refusal c.args.text.now c.in_err-pieces.field-0.0 c.in_err-pieces.ensures.refusal)
