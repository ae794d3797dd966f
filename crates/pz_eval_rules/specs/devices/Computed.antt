-- What is reached within an allowance, computed: the units are counted down, and the recursion is on
-- the depth.
use Rattle.std.specs.Prelude.{ℕ, zero, suc, Bool, true, false, List, [], ◌∷◌, ◌++◌, Option, Some, None}
use Rattle.pz_classes_rules.specs.pz_syntax.declared.tokens.Pos.{Pos}
use Rattle.pz_classes_rules.specs.pz_syntax.Expressions.{literal, variable, me, clock, creation, group, chain, sends, unary, assign, returned, choice, loop, none, more, Links, no_links, link, Sendings, no_sendings, sending}
use Rattle.pz_classes_rules.specs.pz_syntax.Classes.{ModelTree}
use Rattle.pz_state.specs.pz_value.declared.value.ClassId.{ClassId}
use Rattle.pz_state.specs.pz_value.declared.value.Value.{Value}
use Rattle.pz_state.specs.pz_value.declared.value.Value.TheVariants.{Nil}
use Rattle.pz_classes_rules.specs.pz_classes_code.declared.slot.Slot.{Slot}
use Rattle.pz_classes_rules.specs.pz_classes_code.CodeView.{Tree}
use Rattle.pz_state.specs.declared.fault.FaultKind.TheVariants.{NotBoolean}
use Rattle.pz_classes_rules.specs.pz_classes_code.Literals.{constant}
use Rattle.pz_eval_rules.specs.Memories.{Memory, Location, in_object, read, write, self_at, started}
use Rattle.pz_eval_rules.specs.Answers.{ends, fault, Answer, gives, stops, ended}
use Rattle.pz_eval_rules.specs.Steps.{Codes, time, created, truth, chosen, applied, applied_alone, Reply, answers, runs, reply}
use Rattle.pz_eval_rules.specs.Evaluation.{arguments_of}

-- an answer, with the units that are left; or the allowance is spent
pub data Reached (A : Type 0) : Type 0 where
  done : Answer A → ℕ → Reached A
  spent : Reached A

abbrev pub Computation : Type 0 → Type 0
Computation A = Memory → ℕ → Reached A

-- goes on from a value
abbrev pub follow : {A B : Type 0} → Answer A → ℕ → (A → Computation B) → Reached B
follow (gives y m) r f = f y m r
follow (stops e) r f = done (stops e) r

abbrev pub and_then : {A B : Type 0} → Reached A → (A → Computation B) → Reached B
and_then (done a r) f = follow a r f
and_then spent f = spent

-- the answer seen in another way
abbrev pub seen_by : {A B : Type 0} → (Answer A → Answer B) → Reached A → Reached B
seen_by g (done a r) = done (g a) r
seen_by g spent = spent

-- one unit, and then the rest
abbrev pub tick : {A : Type 0} → Computation A → Computation A
tick f m zero = spent
tick f m (suc r) = f m r

-- what is done after a test
abbrev pub tested : {A : Type 0} → Pos → Option Bool → (Bool → Computation A) → Computation A
tested at None f m r = done (stops (fault NotBoolean at)) r
tested at (Some b) f m r = f b m r

module _ (model : ModelTree) (now : ℕ) (below : Location → Tree → Computation Value) where
  unfoldable pub sequence : Location → Value → Codes → Computation Value
  sequence p y none m r = done (gives y m) r
  sequence p y (more t ts) m r = and_then (below p t m r) (λ z. sequence p z ts)

  unfoldable pub arguments : Location → List Value → Codes → Computation (List Value)
  arguments p ys none m r = done (gives ys m) r
  arguments p ys (more t ts) m r = and_then (below p t m r) (λ y. arguments p (ys ++ y ∷ []) ts)

  unfoldable pub operators : Location → Value → Links Slot ClassId → Computation Value
  operators p y no_links m r = done (gives y m) r
  operators p y (link op at t ls) m r =
      and_then (below p t m r) (λ w. tick (λ m1 r1. follow (applied op at y w m1) r1 (λ z. operators p z ls)))

  -- what a reply comes to
  unfoldable pub replied : Reply → List Value → Computation Value
  replied (answers a) ws m r = done a r
  replied (runs o count body) ws m r = seen_by (ended m.locals) (sequence (in_object o) Nil body (started count ws m) r)

  unfoldable pub selectors : Location → Value → Sendings Slot ClassId → Computation Value
  selectors p y no_sendings m r = done (gives y m) r
  selectors p y (sending selector args ss) m r =
      and_then (arguments p [] (arguments_of args) m r) (λ ws. tick (λ m1 r1. and_then (replied (reply model y selector ws m1) ws m1 r1) (λ z. selectors p z ss)))

  -- after a test, the body and what follows it, or nothing
  unfoldable pub going : Location → Codes → Computation Value → Bool → Computation Value
  going p ts next true m r = and_then (sequence p Nil ts m r) (λ _. next)
  going p ts next false m r = done (gives Nil m) r

  -- at most so many turns
  unfoldable pub turns : ℕ → Location → Pos → Tree → Codes → Computation Value
  turns zero p at t ts m r = spent
  turns (suc n) p at t ts m r =
      tick (λ m1 r1. and_then (below p t m1 r1) (λ y. tested at (truth y) (going p ts (turns n p at t ts)))) m r

  unfoldable pub step : Location → Tree → Computation Value
  step p (literal at x) m r = tick (λ m1 r1. done (gives (constant x) m1) r1) m r
  step p (variable at x) m r = tick (λ m1 r1. done (gives (read p x m1) m1) r1) m r
  step p (me at) m r = tick (λ m1 r1. done (gives (self_at p) m1) r1) m r
  step p (clock at) m r = tick (λ m1 r1. done (time now at m1) r1) m r
  step p (creation at class) m r = tick (λ m1 r1. done (created model class at m1) r1) m r
  step p (group at ts) m r = tick (sequence p Nil ts) m r
  step p (chain at t ls) m r = and_then (below p t m r) (λ y. operators p y ls)
  step p (sends at t ss) m r = and_then (below p t m r) (λ y. selectors p y ss)
  step p (unary at op t) m r = tick (λ m1 r1. and_then (below p t m1 r1) (λ y m2 r2. done (applied_alone op at y m2) r2)) m r
  step p (assign at x t) m r = tick (λ m1 r1. and_then (below p t m1 r1) (λ y m2 r2. done (gives y (write p x y m2)) r2)) m r
  step p (returned at t) m r = tick (λ m1 r1. and_then (below p t m1 r1) (λ y m2 r2. done (stops (ends y m2)) r2)) m r
  step p (choice at t ts other) m r =
      tick (λ m1 r1. and_then (below p t m1 r1) (λ y. tested at (truth y) (λ b. sequence p Nil (chosen b ts other)))) m r
  step p (loop at t ts) m r = turns r p at t ts m r

-- within this depth
unfoldable pub evaluated : ModelTree → ℕ → ℕ → Location → Tree → Computation Value
evaluated model now zero p t m r = spent
evaluated model now (suc d) p t m r = step model now (evaluated model now d) p t m r
