-- What a part does by itself, as its node says.
use Rattle.std.specs.Prelude.{Option, Some, None}
use Rattle.pz_classes_code.specs.pz_syntax.declared.tokens.Pos.{Pos}
use Rattle.pz_classes_code.specs.pz_syntax.Statements.{skip, delay, block, conditional, repeated, call, value}
use Rattle.pz_rules.specs.declared.action.Kind.{Kind}
use Rattle.pz_rules.specs.declared.action.Kind.TheVariants.{Skip, Eval, Test, Expire, Call}
use Rattle.pz_rules.specs.Terms.{Step}
use Rattle.pz_tree_standing.specs.Heads.{Head, leaf, wait}
use Rattle.pz_tree_nodes.specs.declared.heads.Doing.{Doing}

abbrev pub doing : Kind → Pos → Option Doing
doing kind at = Some (record { kind = kind; pos = at })

-- if it does anything: a delay, once nothing is left of it
abbrev pub statement_may_do : Step → Option Doing
statement_may_do (skip at) = doing Skip at
statement_may_do (value at e) = doing Eval at
statement_may_do (block at es) = doing Eval at
statement_may_do (conditional at e ts other) = doing Test at
statement_may_do (repeated at e ts) = doing Test at
statement_may_do (delay at e) = doing Expire at
statement_may_do (call at method args results) = doing Call at
statement_may_do s = None

abbrev pub may_do : Head → Option Doing
may_do (leaf s) = statement_may_do s
may_do (wait due at) = doing Expire at
may_do h = None
