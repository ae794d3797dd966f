use Rattle.std.proofs.Common.{◌∙◌, sym, ap, arith, ◌++◌, ◌∷◌, refl, length-append}
use Rattle.pz_syntax.specs.declared.tokens.TokenKind.{TokenKind}
use Rattle.pz_lexer.specs.Bytes.{is_digit, is_letter, begins}
use Rattle.pz_lexer.specs.devices.Step.{front, back}
use Rattle.pz_lexer.proofs.RunCounts.{run_cut}
use Rattle.pz_lexer.proofs.NumberReads.{bad_gives, number_gives}
use Rattle.pz_lexer.proofs.numbers.float.Goals as goal

pub returns-then-begins_letter : goal.returns-then-begins_letter
returns-then-begins_letter c =
    let cut = run_cut is_digit c.args.decimals.now c.digits_len.result c.digits_len.ensures in
    bad_gives _ (c.args.digits.now ++ 46 ∷ front is_digit c.args.decimals.now) (back is_digit c.args.decimals.now) TokenKind.Float
    (ap (begins is_letter) (sym (c.split_at.ensures.back ∙ cut.2)) ∙ sym c.begins_letter.ensures ∙ c.if-begins_letter.true)

pub returns : goal.returns
returns c =
    let cut = run_cut is_digit c.args.decimals.now c.digits_len.result c.digits_len.ensures in
    number_gives _ (c.args.digits.now ++ 46 ∷ front is_digit c.args.decimals.now) (back is_digit c.args.decimals.now) TokenKind.Float _
    (ap (begins is_letter) (sym (c.split_at.ensures.back ∙ cut.2)) ∙ sym c.begins_letter.ensures ∙ c.if-begins_letter.false)
    (omega (arith, c.split_at.ensures.front_len, cut.3, length-append c.args.digits.now (46 ∷ front is_digit c.args.decimals.now)))
    refl
