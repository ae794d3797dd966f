use Rattle.std.proofs.Common.{◌∙◌, sym, ap}
use Rattle.pz_lexer.specs.Kept.{trimmed}
use Rattle.pz_lexer.proofs.Trimming.{trimmed-blank, trimmed-end}
use Rattle.pz_lexer.proofs.kept.trimmed.Goals as goal

pub returns-else-is_blank : goal.returns-else-is_blank
returns-else-is_blank c =
    let split = c.in-Some.ensures.cases.0 in
    split ∙ sym (trimmed-end c.in-Some.front.now c.in-Some.last.now (sym c.is_blank.ensures ∙ c.if-is_blank.false)) ∙ ap trimmed (sym split) ∙ c.ends.invariant

pub ends-preserved : goal.ends-preserved
ends-preserved c =
    let split = c.in-Some.ensures.cases.0 in
    sym (trimmed-blank c.in-Some.front.now c.in-Some.last.now (sym c.is_blank.ensures ∙ c.if-is_blank.true)) ∙ ap trimmed (sym split) ∙ c.ends.invariant
