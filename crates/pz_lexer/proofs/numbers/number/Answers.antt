use Rattle.std.proofs.Common.{◌∙◌, ap}
use Rattle.std.specs.List.{list_all}
use Rattle.pz_lexer.specs.Bytes.{is_digit}
use Rattle.pz_lexer.proofs.Runs.{front_all}
use Rattle.pz_lexer.proofs.RunCounts.{run_cut}
use Rattle.pz_lexer.proofs.NumberReads.{float_reads, integer_reads}
use Rattle.pz_lexer.proofs.numbers.number.Goals as goal

pub integer-requires : goal.integer-requires
integer-requires c =
    let cut = run_cut is_digit c.args.text.now c.digits_len.result c.digits_len.ensures in
    ap (list_all is_digit) (c.split_at.ensures.front ∙ cut.1) ∙ front_all is_digit c.args.text.now

pub returns-in-Some : goal.returns-in-Some
returns-in-Some c =
    let cut = run_cut is_digit c.args.text.now c.digits_len.result c.digits_len.ensures in
    float_reads c.args.text.now c.split_at.result.0.now c.split_at.result.1.now c.in-Some.decimals.now c.float.result c.requires
    (c.split_at.ensures.front ∙ cut.1) (c.split_at.ensures.back ∙ cut.2) c.in-Some.ensures.some.0 c.in-Some.ensures.some.1 c.float.ensures

pub returns-in-None : goal.returns-in-None
returns-in-None c =
    let cut = run_cut is_digit c.args.text.now c.digits_len.result c.digits_len.ensures in
    integer_reads c.args.text.now c.split_at.result.0.now c.split_at.result.1.now c.integer.result c.requires
    (c.split_at.ensures.front ∙ cut.1) (c.split_at.ensures.back ∙ cut.2) c.in-None.ensures.none c.integer.ensures
