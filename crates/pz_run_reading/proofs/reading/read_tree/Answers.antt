use Rattle.std.proofs.Common.{◌≡◌, sym, subst, ap}
use Rattle.pz_bind_rules.specs.pz_syntax.declared.tokens.Pos.{Pos}
use Rattle.pz_bind_rules.specs.pz_syntax.declared.clusters.Model.{Model}
use Rattle.pz_bind_rules.specs.pz_syntax.ClassView.{model_view}
use Rattle.pz_lexer.specs.Tokens.{AreTokens}
use Rattle.pz_parser.specs.Cuts.{Refuses}
use Rattle.pz_run_reading.specs.Refusals.{IsRefused}
use Rattle.pz_run_reading.specs.Answers.{OnRefused}
use Rattle.pz_run_reading.specs.devices.Errors.{of_lexer, of_parser}
use Rattle.pz_run_reading.proofs.FewMarks.{is_small}
use Rattle.pz_run_reading.proofs.Causes.{error_on, wanting_on, lexer_cause, parser_cause}
use Rattle.pz_run_reading.proofs.Trees.{tokens_there, tree_there, read_is}
use Rattle.pz_run_reading.proofs.reading.read_tree.Goals as goal

pub returns-in_err-tokens-clause-refused : goal.returns-in_err-tokens-clause-refused
returns-in_err-tokens-clause-refused c =
    let e = c.in_err-tokens.field-0.0 in
    error_on (OnRefused (IsRefused c.args.text.now)) c.from_residual.result (of_lexer e) c.from_residual.ensures.1 (lexer_cause c.args.text.now e c.in_err-tokens.ensures.refusal)

pub returns-in_err-tokens-clause-only : goal.returns-in_err-tokens-clause-only
returns-in_err-tokens-clause-only c = λ m has.
    let e = c.in_err-tokens.field-0.0 in
    let law = c.one_answer.ensures in
    wanting_on (λ (x : Model). model_view x ≡ m) c.from_residual.result (of_lexer e) c.from_residual.ensures.1
    (ap of_lexer (tokens_there law.one_list law.not_both c.args.text.now m e has c.in_err-tokens.ensures.refusal))

pub returns-in_err-model-clause-refused : goal.returns-in_err-model-clause-refused
returns-in_err-model-clause-refused c =
    let ts = c.as_slice.result.now in
    let e = c.in_err-model.field-0.0 in
    let are : AreTokens c.args.text.now ts = subst (AreTokens c.args.text.now) (sym c.as_slice.ensures) c.in_ok-tokens.ensures.tokens in
    error_on (OnRefused (IsRefused c.args.text.now)) c.from_residual-in_err-model.result (of_parser e) c.from_residual-in_err-model.ensures.1
    (parser_cause c.args.text.now ts are e c.in_err-model.ensures.only (subst (λ (p : Pos). Refuses 100 ts p e) c.end_of.ensures.is c.in_err-model.ensures.exact))

pub returns-in_err-model-clause-only : goal.returns-in_err-model-clause-only
returns-in_err-model-clause-only c = λ m has.
    let ts = c.as_slice.result.now in
    let e = c.in_err-model.field-0.0 in
    let are : AreTokens c.args.text.now ts = subst (AreTokens c.args.text.now) (sym c.as_slice.ensures) c.in_ok-tokens.ensures.tokens in
    wanting_on (λ (x : Model). model_view x ≡ m) c.from_residual-in_err-model.result (of_parser e) c.from_residual-in_err-model.ensures.1
    (ap of_parser (tree_there c.one_answer.ensures.one_list c.args.text.now ts m e are has c.in_err-model.ensures.only))

pub returns-clause-found : goal.returns-clause-found
returns-clause-found c =
    let ts = c.as_slice.result.now in
    record {
      tokens = ts;
      are_tokens = subst (AreTokens c.args.text.now) (sym c.as_slice.ensures) c.in_ok-tokens.ensures.tokens;
      is_tree = record { is_text = c.in_ok-model.ensures.found; in_place = c.in_ok-model.ensures.places };
    }

pub returns-clause-small : goal.returns-clause-small
returns-clause-small c =
    is_small c.args.text.now c.in_ok-tokens.tokens c.as_slice.result.now (model_view c.in_ok-model.model) c.in_ok-tokens.ensures.counted c.as_slice.ensures c.in_ok-model.ensures.found.2

pub returns-clause-only : goal.returns-clause-only
returns-clause-only c = λ m has.
    let ts = c.as_slice.result.now in
    let are : AreTokens c.args.text.now ts = subst (AreTokens c.args.text.now) (sym c.as_slice.ensures) c.in_ok-tokens.ensures.tokens in
    read_is c.one_answer.ensures.one_list c.args.text.now ts (model_view c.in_ok-model.model) m are has c.in_ok-model.ensures.only
