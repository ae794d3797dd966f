use Rattle.std.proofs.Common.{refl, sym, subst}
use Rattle.pz_syntax.specs.ExpressionView.{view}
use Rattle.pz_parser_cursor.specs.devices.Device.{Reads}
use Rattle.pz_parser_expressions.specs.declared.rule.Rule.TheVariants as rule
use Rattle.pz_parser_expressions.specs.devices.Values.{below, by_rule}
use Rattle.pz_parser_expressions.proofs.Loops.{chain_whole, expression_whole}
use Rattle.pz_parser_expressions.proofs.grammar.Grammar.whole.Goals as goal

pub returns-in-Expression : goal.returns-in-Expression
returns-in-Expression g c = record { reads = expression_whole c.args.self.now.depth c.args.self.now.rule _ _ _ c.in-Expression.is c.expression.ensures.reads }

pub returns-in-Value : goal.returns-in-Value
returns-in-Value g c = record { reads = chain_whole c.args.self.now.depth c.args.self.now.rule rule.Value rule.Conjunction _ _ _ refl c.in-Value.is c.chain.ensures.reads }

pub returns-in-Conjunction : goal.returns-in-Conjunction
returns-in-Conjunction g c = record { reads = chain_whole c.args.self.now.depth c.args.self.now.rule rule.Conjunction rule.Comparison _ _ _ refl c.in-Conjunction.is c.chain-in-Conjunction.ensures.reads }

pub returns-in-Comparison : goal.returns-in-Comparison
returns-in-Comparison g c = record { reads = chain_whole c.args.self.now.depth c.args.self.now.rule rule.Comparison rule.Sum _ _ _ refl c.in-Comparison.is c.chain-in-Comparison.ensures.reads }

pub returns-in-Sum : goal.returns-in-Sum
returns-in-Sum g c = record { reads = chain_whole c.args.self.now.depth c.args.self.now.rule rule.Sum rule.Product _ _ _ refl c.in-Sum.is c.chain-in-Sum.ensures.reads }

pub returns-in-Product : goal.returns-in-Product
returns-in-Product g c = record { reads = chain_whole c.args.self.now.depth c.args.self.now.rule rule.Product rule.Operand _ _ _ refl c.in-Product.is c.chain-in-Product.ensures.reads }

pub returns-in-Operand : goal.returns-in-Operand
returns-in-Operand g c = record { reads = subst (λ x. Reads view (by_rule c.args.self.now.depth (below c.args.self.now.depth) x c.args.cursor.now) c.operand.result c.operand.new.cursor) (sym c.in-Operand.is) c.operand.ensures.reads }
