-- The parts that act: by themselves, by a send, or by a receive.
use Rattle.pz_bind_rules.specs.pz_syntax.Statements.{skip, delay, block, conditional, repeated, call, value, send, receive}
use Rattle.pz_rules.specs.Terms.{Step, Term, leaf, wait}

abbrev pub ActsAlone : Step → Type 0
ActsAlone (skip at) = Unit {0}
ActsAlone (delay at e) = Unit {0}
ActsAlone (value at e) = Unit {0}
ActsAlone (block at es) = Unit {0}
ActsAlone (conditional at e ts other) = Unit {0}
ActsAlone (repeated at e ts) = Unit {0}
ActsAlone (call at method args results) = Unit {0}
ActsAlone _ = ⊥

-- a statement that acts by itself, or a delay that has begun
abbrev pub IsActing : Term → Type 0
IsActing (leaf s) = ActsAlone s
IsActing (wait left at) = Unit {0}
IsActing _ = ⊥

abbrev pub IsSend : Term → Type 0
IsSend (leaf (send at port name args after)) = Unit {0}
IsSend _ = ⊥

abbrev pub IsReceive : Term → Type 0
IsReceive (leaf (receive at port name into condition after)) = Unit {0}
IsReceive _ = ⊥
