-- What is left of a process.
use Rattle.std.specs.Prelude.{ℕ, zero, suc, max, List, [], ◌∷◌, ◌++◌}
use Rattle.pz_bind_rules.specs.pz_syntax.declared.tokens.Pos.{Pos}
use Rattle.pz_bind_rules.specs.pz_syntax.Expressions.{Expression, Expressions}
use Rattle.pz_bind_rules.specs.pz_syntax.Statements.{Statement, Statements}
use Rattle.pz_bind_rules.specs.pz_value.declared.value.ClassId.{ClassId}
use Rattle.pz_bind_rules.specs.pz_classes_code.declared.slot.Slot.{Slot}

-- expressions and statements of bodies, with slots and numbers in place of names
abbrev pub Code : Type 0
Code = Expression Slot ClassId

abbrev pub Codes : Type 0
Codes = Expressions Slot ClassId

abbrev pub Step : Type 0
Step = Statement Slot ClassId ℕ

abbrev pub Steps : Type 0
Steps = Statements Slot ClassId ℕ

mutual
  pub data Term : Type 0 where
    done : Term
    -- a statement that has not begun
    leaf : Step → Term
    -- a delay that has begun, with what is left of it
    wait : ℕ → Pos → Term
    -- what is open, and the statements behind it
    sequence : Term → Steps → Term
    parallel : Terms → Term
    -- alternatives, of which the first that acts is taken
    select : Terms → Term
    -- what acts where the test is true, until it has acted; at the place of the `[`
    guarded : Code → Pos → Term → Term
    -- A method that was called: the number of its frame, the number of its inputs, which is that of
    -- its first output, and the variables of the caller that its outputs go to.
    frame : ℕ → ℕ → List Slot → Term → Term
    -- the first part, until the second acts
    abort : Term → Term → Term
    -- the first part, until the second acts; the second, and the statement that it begins with again
    idle : Term → Term → Step → Term
    -- the second part acts, and the first stands still
    handling : Term → Term → Step → Term

  pub data Terms : Type 0 where
    no_terms : Terms
    and : Term → Terms → Terms

-- a part that a term does not have counts as done
abbrev pub term_at : Terms → ℕ → Term
term_at no_terms i = done
term_at (and t ts) zero = t
term_at (and t ts) (suc i) = term_at ts i

-- of two parts
abbrev pub first_or : Term → Term → ℕ → Term
first_or t u zero = t
first_or t u (suc zero) = u
first_or t u (suc (suc i)) = done

-- the child of this number
abbrev pub child : Term → ℕ → Term
child (sequence t rest) i = first_or t done i
child (parallel ts) i = term_at ts i
child (select ts) i = term_at ts i
child (guarded test at t) i = first_or t done i
child (frame number inputs results t) i = first_or t done i
child (abort t u) i = first_or t u i
child (idle t u again) i = first_or t u i
child (handling t u again) i = first_or t u i
child _ i = done

abbrev pub count : Terms → ℕ
count no_terms = 0
count (and t ts) = suc (count ts)

abbrev mutual
  -- 1 for what has no parts, else 1 more than the greatest of the parts
  pub height : Term → ℕ
  height done = 1
  height (leaf s) = 1
  height (wait left at) = 1
  height (sequence t rest) = suc (height t)
  height (parallel ts) = suc (greatest_height ts)
  height (select ts) = suc (greatest_height ts)
  height (guarded test at t) = suc (height t)
  height (frame number inputs results t) = suc (height t)
  height (abort t u) = suc (max (height t) (height u))
  height (idle t u again) = suc (max (height t) (height u))
  height (handling t u again) = suc (max (height t) (height u))

  pub greatest_height : Terms → ℕ
  greatest_height no_terms = 0
  greatest_height (and t ts) = max (height t) (greatest_height ts)

abbrev mutual
  -- the numbers of the frames that stand in a term
  pub frames_in : Term → List ℕ
  frames_in (sequence t rest) = frames_in t
  frames_in (parallel ts) = frames_in_all ts
  frames_in (select ts) = frames_in_all ts
  frames_in (guarded test at t) = frames_in t
  frames_in (frame number inputs results t) = number ∷ frames_in t
  frames_in (abort t u) = frames_in t ++ frames_in u
  frames_in (idle t u again) = frames_in t ++ frames_in u
  frames_in (handling t u again) = frames_in t ++ frames_in u
  frames_in _ = []

  pub frames_in_all : Terms → List ℕ
  frames_in_all no_terms = []
  frames_in_all (and t ts) = frames_in t ++ frames_in_all ts

-- the frame in which the children of a term stand, where the term stands in frame f
abbrev pub frame_in : Term → ℕ → ℕ
frame_in (frame number inputs results t) f = number
frame_in t f = f
