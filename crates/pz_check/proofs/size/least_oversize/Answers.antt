use Rattle.std.proofs.Common.{sym}
use Rattle.pz_classes.specs.pz_syntax.ClassView.{model_view}
use Rattle.pz_check.proofs.Joining.{by_holding_found, by_system_found, by_word_found}
use Rattle.pz_check.proofs.size.least_oversize.Goals as goal

-- src/size.rt:33:9
pub returns-then-is_some : goal.returns-then-is_some
returns-then-is_some c = by_holding_found (model_view c.args.model.now) c.args.holding (sym c.if-is_some.ensures) c.requires.holding

-- src/size.rt:36:9
pub returns-then-is_some-2 : goal.returns-then-is_some-2
returns-then-is_some-2 c = by_system_found (model_view c.args.model.now) c.args.system (sym c.if-is_some-2.ensures) c.requires.system

-- src/size.rt:39:9
pub returns-then-branch : goal.returns-then-branch
returns-then-branch c =
    let found = c.in_ok-has_unsized_words.ensures.found c.if-branch.true in
    by_word_found (model_view c.args.model.now) found.0 found.1
