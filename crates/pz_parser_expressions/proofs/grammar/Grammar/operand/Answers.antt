use Rattle.std.proofs.Common.{◌∙◌, subst}
use Rattle.pz_syntax.specs.ExpressionView.{view}
use Rattle.pz_parser_cursor.specs.devices.Device.{Reads}
use Rattle.pz_parser_expressions.specs.devices.Values.{operand}
use Rattle.pz_parser_expressions.proofs.Loops.{operand_default}
use Rattle.pz_parser_expressions.proofs.grammar.Grammar.operand.Goals as goal

pub returns-in-Minus : goal.returns-in-Minus
unfolding operand
returns-in-Minus g c = record { reads = rw (← c.in-Minus.ensures.is) c.signed.ensures.reads }

pub returns-in-Bang : goal.returns-in-Bang
unfolding operand
returns-in-Bang g c = record { reads = rw (← c.in-Bang.ensures.is) c.signed-in-Bang.ensures.reads }

pub returns-in_default : goal.returns-in_default
unfolding operand
returns-in_default g c = record { reads = subst (λ p. Reads view (p c.args.cursor.now) c.sent_to.result c.sent_to.new.cursor) (operand_default _ _ _ (λ e. c.in_default.not-Minus (c.peek.ensures.is ∙ e)) (λ e. c.in_default.not-Bang (c.peek.ensures.is ∙ e))) c.sent_to.ensures.reads }
