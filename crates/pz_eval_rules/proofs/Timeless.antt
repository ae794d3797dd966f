-- What does not name the clock comes to the same at each clock.
use Rattle.std.proofs.Common.{◌≡◌, ℕ, zero, suc, Bool, true, false, ◌||◌, List, [], ◌∷◌, ◌++◌, Option, Some, None, refl, ap, sym, ◌∙◌, subst}
use Rattle.pz_classes_rules.specs.pz_syntax.declared.tokens.Pos.{Pos}
use Rattle.pz_classes_rules.specs.pz_syntax.declared.names.Id.{Id}
use Rattle.pz_classes_rules.specs.pz_syntax.Expressions.{Expression, Expressions, Part, Links, Sendings, literal, variable, me, clock, creation, group, chain, sends, unary, assign, returned, choice, loop, none, more, left_out, written, no_links, link, no_sendings, sending}
use Rattle.pz_classes_rules.specs.pz_syntax.Classes.{ModelTree}
use Rattle.pz_state.specs.pz_value.declared.value.ClassId.{ClassId}
use Rattle.pz_state.specs.pz_value.declared.value.Value.{Value}
use Rattle.pz_state.specs.pz_value.declared.value.Value.TheVariants.{Nil}
use Rattle.pz_classes_rules.specs.pz_classes_code.declared.slot.Slot.{Slot}
use Rattle.pz_classes_rules.specs.pz_classes_code.CodeView.{Tree}
use Rattle.pz_eval_rules.specs.Memories.{Memory, Location, in_object, started, write}
use Rattle.pz_eval_rules.specs.Answers.{Answer, gives, stops, ended, ends}
use Rattle.pz_eval_rules.specs.Steps.{Codes, Reply, answers, runs, reply, truth, chosen, applied, applied_alone}
use Rattle.pz_eval_rules.specs.Evaluation.{arguments_of}
use Rattle.pz_eval_rules.specs.Clocks.{names_clock, list_names_clock, part_names_clock, links_name_clock, sendings_name_clock}
use Rattle.pz_eval_rules.specs.devices.Computed.{Reached, done, spent, Computation, follow, and_then, seen_by, tick, tested, sequence, arguments, operators, replied, selectors, going, turns, step, evaluated}

pub neither : (a b : Bool) → a || b ≡ false → (a ≡ false) × (b ≡ false)
neither false b e = (refl, e)
neither true b e = absurd cc

-- What is done next is the same, and so is all of it.

follow_same : {A B : Type 0} (x : Answer A) (r : ℕ) (f g : A → Computation B)
    → ((y : A) (m : Memory) (r : ℕ) → f y m r ≡ g y m r) → follow x r f ≡ follow x r g
follow_same (gives y m) r f g h = h y m r
follow_same (stops e) r f g h = refl

after_same : {A B : Type 0} (y : Reached A) (f g : A → Computation B)
    → ((z : A) (m : Memory) (r : ℕ) → f z m r ≡ g z m r) → and_then y f ≡ and_then y g
after_same (done a r) f g h = follow_same a r f g h
after_same spent f g h = refl

then_same : {A B : Type 0} (x y : Reached A) (f g : A → Computation B)
    → x ≡ y → ((z : A) (m : Memory) (r : ℕ) → f z m r ≡ g z m r) → and_then x f ≡ and_then y g
then_same x y f g e h = ap (λ z. and_then z f) e ∙ after_same y f g h

tick_same : {A : Type 0} (f g : Computation A)
    → ((m : Memory) (r : ℕ) → f m r ≡ g m r) → (m : Memory) (r : ℕ) → tick f m r ≡ tick g m r
tick_same f g h m zero = refl
tick_same f g h m (suc r) = h m r

tested_same : {A : Type 0} (at : Pos) (b : Option Bool) (f g : Bool → Computation A)
    → ((b : Bool) (m : Memory) (r : ℕ) → f b m r ≡ g b m r) → (m : Memory) (r : ℕ) → tested at b f m r ≡ tested at b g m r
tested_same at None f g h m r = refl
tested_same at (Some b) f g h m r = h b m r

-- the bodies that run do not name the clock
abbrev pub RepliesAreTimeless : ModelTree → Type 0
RepliesAreTimeless model = (y : Value) (selector : Id) (ws : List Value) (m : Memory) (o count : ℕ) (body : Codes)
    → reply model y selector ws m ≡ runs o count body → list_names_clock body ≡ false

-- Two clocks, where the parts that do not name the clock come to the same.
module _ (model : ModelTree) (now later : ℕ) (below beside : Location → Tree → Computation Value) (replies : RepliesAreTimeless model)
    (same : (p : Location) (t : Tree) (m : Memory) (r : ℕ) → names_clock t ≡ false → below p t m r ≡ beside p t m r) where
  sequence_same : (p : Location) (y : Value) (ts : Codes) (m : Memory) (r : ℕ) → list_names_clock ts ≡ false
      → sequence model now below p y ts m r ≡ sequence model later beside p y ts m r
  unfolding sequence
  sequence_same p y none m r e = refl
  sequence_same p y (more t ts) m r e = let q = neither (names_clock t) (list_names_clock ts) e in
      then_same (below p t m r) (beside p t m r) (λ z. sequence model now below p z ts) (λ z. sequence model later beside p z ts)
      (same p t m r q.0) (λ z m1 r1. sequence_same p z ts m1 r1 q.1)

  pub arguments_same : (p : Location) (ys : List Value) (ts : Codes) (m : Memory) (r : ℕ) → list_names_clock ts ≡ false
      → arguments model now below p ys ts m r ≡ arguments model later beside p ys ts m r
  unfolding arguments
  arguments_same p ys none m r e = refl
  arguments_same p ys (more t ts) m r e = let q = neither (names_clock t) (list_names_clock ts) e in
      then_same (below p t m r) (beside p t m r)
      (λ y. arguments model now below p (ys ++ y ∷ []) ts) (λ y. arguments model later beside p (ys ++ y ∷ []) ts)
      (same p t m r q.0) (λ y m1 r1. arguments_same p (ys ++ y ∷ []) ts m1 r1 q.1)

  operators_same : (p : Location) (y : Value) (ls : Links Slot ClassId) (m : Memory) (r : ℕ) → links_name_clock ls ≡ false
      → operators model now below p y ls m r ≡ operators model later beside p y ls m r
  unfolding operators
  operators_same p y no_links m r e = refl
  operators_same p y (link op at t ls) m r e = let q = neither (names_clock t) (links_name_clock ls) e in
      then_same (below p t m r) (beside p t m r) _ _ (same p t m r q.0)
      (λ w m1 r1. tick_same _ _ (λ m2 r2. follow_same (applied op at y w m2) r2
      (λ z. operators model now below p z ls) (λ z. operators model later beside p z ls)
      (λ z m3 r3. operators_same p z ls m3 r3 q.1)) m1 r1)

  replied_same : (x : Reply) (ws : List Value) (m : Memory) (r : ℕ)
      → ((o count : ℕ) (body : Codes) → x ≡ runs o count body → list_names_clock body ≡ false)
      → replied model now below x ws m r ≡ replied model later beside x ws m r
  unfolding replied
  replied_same (answers a) ws m r h = refl
  replied_same (runs o count body) ws m r h =
      ap (seen_by (ended m.locals)) (sequence_same (in_object o) Nil body (started count ws m) r (h o count body refl))

  arguments_timeless : (args : Part Slot ClassId) → part_names_clock args ≡ false → list_names_clock (arguments_of args) ≡ false
  arguments_timeless left_out e = refl
  arguments_timeless (written ts) e = e

  selectors_same : (p : Location) (y : Value) (ss : Sendings Slot ClassId) (m : Memory) (r : ℕ) → sendings_name_clock ss ≡ false
      → selectors model now below p y ss m r ≡ selectors model later beside p y ss m r
  unfolding selectors
  selectors_same p y no_sendings m r e = refl
  selectors_same p y (sending selector args ss) m r e = let q = neither (part_names_clock args) (sendings_name_clock ss) e in
      then_same _ _ _ _ (arguments_same p [] (arguments_of args) m r (arguments_timeless args q.0))
      (λ ws m1 r1. tick_same _ _ (λ m2 r2. then_same _ _ (λ z. selectors model now below p z ss) (λ z. selectors model later beside p z ss)
      (replied_same (reply model y selector ws m2) ws m2 r2 (λ o count body f. replies y selector ws m2 o count body f))
      (λ z m3 r3. selectors_same p z ss m3 r3 q.1)) m1 r1)

  going_same : (p : Location) (ts : Codes) (next other : Computation Value) → ((m : Memory) (r : ℕ) → next m r ≡ other m r)
      → list_names_clock ts ≡ false → (b : Bool) (m : Memory) (r : ℕ) → going model now below p ts next b m r ≡ going model later beside p ts other b m r
  unfolding going
  going_same p ts next other h f true m r = then_same _ _ (λ _. next) (λ _. other) (sequence_same p Nil ts m r f) (λ z m1 r1. h m1 r1)
  going_same p ts next other h f false m r = refl

  turns_same : (n : ℕ) (p : Location) (at : Pos) (t : Tree) (ts : Codes) (m : Memory) (r : ℕ) → names_clock t ≡ false → list_names_clock ts ≡ false
      → turns model now below n p at t ts m r ≡ turns model later beside n p at t ts m r
  unfolding turns
  turns_same zero p at t ts m r e f = refl
  turns_same (suc n) p at t ts m r e f =
      tick_same _ _ (λ m1 r1. then_same (below p t m1 r1) (beside p t m1 r1) _ _ (same p t m1 r1 e)
      (λ y m2 r2. tested_same at (truth y) _ _
      (going_same p ts (turns model now below n p at t ts) (turns model later beside n p at t ts) (λ m3 r3. turns_same n p at t ts m3 r3 e f) f) m2 r2)) m r

  chosen_timeless : (b : Bool) (ts : Codes) (other : Part Slot ClassId) → list_names_clock ts ≡ false → part_names_clock other ≡ false
      → list_names_clock (chosen b ts other) ≡ false
  chosen_timeless true ts other e f = e
  chosen_timeless false ts left_out e f = refl
  chosen_timeless false ts (written us) e f = f

  -- what is done with the value of a part
  alone_same : (p : Location) (t : Tree) (f : Value → Computation Value) (m : Memory) (r : ℕ) → names_clock t ≡ false
      → tick (λ m1 r1. and_then (below p t m1 r1) f) m r ≡ tick (λ m1 r1. and_then (beside p t m1 r1) f) m r
  alone_same p t f m r e = tick_same _ _ (λ m1 r1. then_same (below p t m1 r1) (beside p t m1 r1) f f (same p t m1 r1 e) (λ y m2 r2. refl)) m r

  pub step_same : (p : Location) (t : Tree) (m : Memory) (r : ℕ) → names_clock t ≡ false → step model now below p t m r ≡ step model later beside p t m r
  unfolding step
  step_same p (literal at x) m r e = refl
  step_same p (variable at x) m r e = refl
  step_same p (me at) m r e = refl
  step_same p (clock at) m r e = absurd cc
  step_same p (creation at class) m r e = refl
  step_same p (group at ts) m r e = tick_same _ _ (λ m1 r1. sequence_same p Nil ts m1 r1 e) m r
  step_same p (chain at t ls) m r e = let q = neither (names_clock t) (links_name_clock ls) e in
      then_same (below p t m r) (beside p t m r) (λ y. operators model now below p y ls) (λ y. operators model later beside p y ls)
      (same p t m r q.0) (λ y m1 r1. operators_same p y ls m1 r1 q.1)
  step_same p (sends at t ss) m r e = let q = neither (names_clock t) (sendings_name_clock ss) e in
      then_same (below p t m r) (beside p t m r) (λ y. selectors model now below p y ss) (λ y. selectors model later beside p y ss)
      (same p t m r q.0) (λ y m1 r1. selectors_same p y ss m1 r1 q.1)
  step_same p (unary at op t) m r e = alone_same p t (λ y m2 r2. done (applied_alone op at y m2) r2) m r e
  step_same p (assign at x t) m r e = alone_same p t (λ y m2 r2. done (gives y (write p x y m2)) r2) m r e
  step_same p (returned at t) m r e = alone_same p t (λ y m2 r2. done (stops (ends y m2)) r2) m r e
  step_same p (choice at t ts other) m r e =
      let q = neither (names_clock t) (list_names_clock ts || part_names_clock other) e in
      let q' = neither (list_names_clock ts) (part_names_clock other) q.1 in
      tick_same _ _ (λ m1 r1. then_same (below p t m1 r1) (beside p t m1 r1) _ _ (same p t m1 r1 q.0)
      (λ y m2 r2. tested_same at (truth y) _ _ (λ b m3 r3. sequence_same p Nil (chosen b ts other) m3 r3 (chosen_timeless b ts other q'.0 q'.1)) m2 r2)) m r
  step_same p (loop at t ts) m r e = let q = neither (names_clock t) (list_names_clock ts) e in turns_same r p at t ts m r q.0 q.1

-- within any depth
pub evaluated_same : (model : ModelTree) (now later d : ℕ) → RepliesAreTimeless model
    → (p : Location) (t : Tree) (m : Memory) (r : ℕ) → names_clock t ≡ false → evaluated model now d p t m r ≡ evaluated model later d p t m r
unfolding evaluated
evaluated_same model now later zero replies p t m r e = refl
evaluated_same model now later (suc d) replies p t m r e =
    step_same model now later (evaluated model now d) (evaluated model later d) replies (λ q u n s f. evaluated_same model now later d replies q u n s f) p t m r e
