use Rattle.pz_lexer.proofs.Cuts.{one_list, one_refusal, not_both, either, tokens_lexed, refusal_lexed, tokens_from_lexed, refusal_from_lexed, one_cut, kept_pieced, kept_from_pieced}
use Rattle.pz_lexer.proofs.CutReads.{tokens_kept}
use Rattle.pz_lexer.proofs.lexer.one_answer.Goals as goal

pub returns-clause-one_list : goal.returns-clause-one_list
returns-clause-one_list c = one_list

pub returns-clause-one_refusal : goal.returns-clause-one_refusal
returns-clause-one_refusal c = one_refusal

pub returns-clause-not_both : goal.returns-clause-not_both
returns-clause-not_both c = not_both

pub returns-clause-either : goal.returns-clause-either
returns-clause-either c = either

pub returns-clause-tokens_computed : goal.returns-clause-tokens_computed
returns-clause-tokens_computed c = λ text tokens. (tokens_lexed text tokens, tokens_from_lexed text tokens)

pub returns-clause-refusal_computed : goal.returns-clause-refusal_computed
returns-clause-refusal_computed c = λ text error. (refusal_lexed text error, refusal_from_lexed text error)

pub returns-clause-one_cut : goal.returns-clause-one_cut
returns-clause-one_cut c = one_cut

pub returns-clause-tokens_kept : goal.returns-clause-tokens_kept
returns-clause-tokens_kept c = tokens_kept

pub returns-clause-kept_computed : goal.returns-clause-kept_computed
returns-clause-kept_computed c = λ text kept. (kept_pieced text kept, kept_from_pieced text kept)
