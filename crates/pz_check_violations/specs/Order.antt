-- The order of violations, and which one is the least.
use Rattle.std.specs.Prelude.{◌≡◌, ℕ, Bool, false, ◌&&◌, ◌||◌, nat_eq, nat_lt}
use Rattle.pz_syntax.specs.declared.tokens.Pos.{Pos}
use Rattle.pz_check_violations.specs.declared.violation.Violation.{Violation}

abbrev pub violation : ℕ → Pos → Violation
violation rule pos = record { rule = rule; pos = pos }

-- by line and column
abbrev pub pos_before : Pos → Pos → Bool
pos_before p q = nat_lt p.line q.line || (nat_eq p.line q.line && nat_lt p.column q.column)

abbrev pub pos_same : Pos → Pos → Bool
pos_same p q = nat_eq p.line q.line && nat_eq p.column q.column

-- by position, then by rule
abbrev pub is_before : Violation → Violation → Bool
is_before v w = pos_before v.pos w.pos || (pos_same v.pos w.pos && nat_lt v.rule w.rule)

-- a violation that no other is before
pub record IsLeast (Violated : Violation → Type 0) (v : Violation) : Type 0 where
  pub violated : Violated v
  pub least : (w : Violation) → Violated w → is_before w v ≡ false
