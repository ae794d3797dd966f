use Rattle.std.proofs.Common.{◌≡◌, length, drop, ◌∙◌, ap, arith}
use Rattle.std.proofs.lemmas.List.{take_at}
use Rattle.std.proofs.lemmas.Result.{err_from_is_err_and}
use Rattle.pz_lexer.specs.Kept.{AreKept}
use Rattle.pz_lexer.specs.devices.Marking.{with_heads}
use Rattle.pz_lexer.proofs.Cuts.{answers_kept, refuses_kept}
use Rattle.pz_lexer.proofs.CutReads.{kept_marked, tokens_kept}
use Rattle.pz_lexer.proofs.lexer.pieces.Goals as goal
use Rattle.pz_lexer.proofs.lexer.pieces.Goals.{After-from_vec}

are_kept : (c : After-from_vec) → AreKept c.args.text.now c.from_vec.result
are_kept c =
    let old = c.in_ok-pieces.pieces in
    let new = c.mark_heads.new.pieces in
    let same_len : length new ≡ old.len = omega (arith, c.mark_heads.auto.pieces, c.as_mut_slice.ensures.len) in
    kept_marked c.args.text.now old.items c.from_vec.result c.in_ok-pieces.ensures.pieces
    (c.from_vec.ensures ∙ take_at new (drop (length new) old.items) old.len same_len ∙ c.in_ok-mark_heads.ensures ∙ ap with_heads c.as_mut_slice.ensures.value)

pub returns-clause-kept : goal.returns-clause-kept
returns-clause-kept c = are_kept c

pub returns-clause-tokens : goal.returns-clause-tokens
returns-clause-tokens c = tokens_kept c.args.text.now c.from_vec.result (are_kept c)

pub returns-clause-computed : goal.returns-clause-computed
returns-clause-computed c = answers_kept c.args.text.now c.from_vec.result (are_kept c)

pub returns-in_err-pieces-clause-computed : goal.returns-in_err-pieces-clause-computed
returns-in_err-pieces-clause-computed c =
    let p = err_from_is_err_and c.from_residual.result c.from_residual.ensures.1 in
    rw (p.1, p.2) (refuses_kept c.args.text.now c.in_err-pieces.field-0.0 c.in_err-pieces.ensures.refusal)
