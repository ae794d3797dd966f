-- What a node holds: what it is, but for its children, and the summary that it keeps.
use Rattle.std.specs.Prelude.{ℕ, zero, suc, ◌-◌, List}
use Rattle.pz_rules.specs.pz_syntax.declared.tokens.Pos.{Pos}
use Rattle.pz_rules.specs.pz_classes_code.declared.slot.Slot.{Slot}
use Rattle.pz_rules.specs.pz_offer.declared.summary.Summary.{Summary}
use Rattle.pz_clock.specs.Shifts.{ShiftView, local}
use Rattle.pz_nodes_shapes.specs.Rose.{Rose, Roses}
use Rattle.pz_rules.specs.Terms.{Code, Step, Steps, Term, Terms, term_at}
use Rattle.pz_rules.specs.Terms as term

pub data Head : Type 0 where
  leaf : Step → Head
  -- a delay that has begun, and the moment of its own clock at which it is over
  wait : ℕ → Pos → Head
  sequence : Steps → Head
  parallel : Head
  select : Head
  -- the clock of the body runs where the test was true, and stands still otherwise
  guarded : Code → Pos → ShiftView → Head
  frame : ℕ → ℕ → List Slot → Head
  abort : Head
  -- the clock of the first part runs
  idle : Step → ShiftView → Head
  -- it stands still
  handling : Step → ShiftView → Head
  -- what a guard leaves that has acted and whose clock is behind; it is no part of the term
  shifted : ShiftView → Head

pub record What : Type 0 where
  pub head : Head
  pub kept : Summary

abbrev pub Shape : Type 0
Shape = Rose What

abbrev pub Shapes : Type 0
Shapes = Roses What

-- a clock of the first child alone
abbrev pub first_only : ShiftView → ℕ → ℕ → ℕ
first_only s zero c = local s c
first_only s (suc i) c = c

-- what the clock of child i shows, where that of the node shows c
abbrev pub inner_clock : Head → ℕ → ℕ → ℕ
inner_clock (guarded e at s) i c = local s c
inner_clock (shifted s) i c = local s c
inner_clock (idle again s) i c = first_only s i c
inner_clock (handling again s) i c = first_only s i c
inner_clock h i c = c

-- the frame in which the children stand, where the node stands in frame f
abbrev pub inner_frame : Head → ℕ → ℕ
inner_frame (frame number inputs results) f = number
inner_frame h f = f

-- the term that the node stands for, where its children stand for these
abbrev pub formed : Head → ℕ → Terms → Term
formed (leaf s) c ts = term.leaf s
formed (wait due at) c ts = term.wait (due - c) at
formed (sequence rest) c ts = term.sequence (term_at ts 0) rest
formed parallel c ts = term.parallel ts
formed select c ts = term.select ts
formed (guarded e at s) c ts = term.guarded e at (term_at ts 0)
formed (frame number inputs results) c ts = term.frame number inputs results (term_at ts 0)
formed abort c ts = term.abort (term_at ts 0) (term_at ts 1)
formed (idle again s) c ts = term.idle (term_at ts 0) (term_at ts 1) again
formed (handling again s) c ts = term.handling (term_at ts 0) (term_at ts 1) again
formed (shifted s) c ts = term_at ts 0
