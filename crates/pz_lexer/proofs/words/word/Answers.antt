use Rattle.std.proofs.Common.{◌∙◌, ap}
use Rattle.std.specs.List.{list_all}
use Rattle.pz_lexer.specs.declared.sorts.Sort.{Sort}
use Rattle.pz_lexer.specs.Bytes.{is_word}
use Rattle.pz_lexer.specs.Words.{word_kind}
use Rattle.pz_lexer.proofs.Runs.{front_all}
use Rattle.pz_lexer.proofs.RunCounts.{run_cut}
use Rattle.pz_lexer.proofs.WordSteps.{word_right}
use Rattle.pz_lexer.proofs.ReadSteps.{found_from}
use Rattle.pz_lexer.proofs.words.word.Goals as goal

pub word_kind-requires : goal.word_kind-requires
word_kind-requires c =
    let cut = run_cut is_word c.args.text.now c.word_len-len.result c.word_len-len.ensures in
    ap (list_all is_word) (c.split_at.ensures.front ∙ cut.1) ∙ front_all is_word c.args.text.now

pub returns : goal.returns
returns c =
    let cut = run_cut is_word c.args.text.now c.word_len-len.result c.word_len-len.ensures in
    let kind = c.in_ok-word_kind.ensures ∙ ap word_kind (c.split_at.ensures.front ∙ cut.1) in
    found_from c.args.text.now _ _ _ _ (word_right c.args.text.now c.requires) cut.3 (ap Sort.Token kind)
