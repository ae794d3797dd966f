-- Where in the text the statement of a part stands.
use Rattle.std.specs.Prelude.{◌≡◌}
use Rattle.pz_classes_code.specs.pz_syntax.declared.tokens.Pos.{Pos}
use Rattle.pz_classes_code.specs.pz_syntax.Statements.{skip, delay, bracketed, block, guarded, parallel, select, conditional, repeated, abort, interrupt, send, receive, call, assignment, value}
use Rattle.pz_rules.specs.Terms.{Step, Term, leaf, wait}

-- of a statement: its first token
abbrev pub statement_place : Step → Pos
statement_place (skip at) = at
statement_place (delay at e) = at
statement_place (bracketed at ts) = at
statement_place (block at es) = at
statement_place (guarded at e t) = at
statement_place (parallel at bs) = at
statement_place (select at bs) = at
statement_place (conditional at e ts other) = at
statement_place (repeated at e ts) = at
statement_place (abort at ts t) = at
statement_place (interrupt at ts t) = at
statement_place (send at port name args after) = at
statement_place (receive at port name into condition after) = at
statement_place (call at method args results) = at
statement_place (assignment at x e) = at
statement_place (value at e) = at

-- of a part that is one statement, begun or not
abbrev pub IsFrom : Pos → Term → Type 0
IsFrom pos (leaf s) = pos ≡ statement_place s
IsFrom pos (wait left at) = pos ≡ at
IsFrom pos t = ⊥
