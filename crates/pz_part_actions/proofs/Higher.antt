-- What is left of a process is no lower than what its part has become, so a part that is higher than the
-- whole may be leaves the whole too high.
use Rattle.std.proofs.Common.{◌≡◌, ◌<◌, ◌≤◌, max, ℕ, zero, suc, Bool, true, false, ◌&&◌, List, [], ◌∷◌, Result, Ok, Err, refl, sym, subst, ap, arith}
use Rattle.std.specs.Prelude.{if◌then◌else◌}
use Rattle.std.proofs.Math.Nat.{le_refl, le-suc}
use Rattle.std.proofs.lemmas.Bool.{lt-leb, true≢false}
use Rattle.pz_classes_code.specs.pz_syntax.declared.tokens.Pos.{Pos}
use Rattle.pz_classes_code.specs.declared.slot.Slot.{Slot}
use Rattle.pz_rules.specs.pz_state.States.{StateView}
use Rattle.pz_rules.specs.pz_offer.PlaceOrder.{Place}
use Rattle.pz_rules.specs.pz_offer.declared.trouble.Trouble.{Trouble}
use Rattle.pz_rules.specs.pz_offer.declared.trouble.Trouble.TheVariants.{High}
use Rattle.pz_rules.specs.Terms.{Term, Terms, done, leaf, wait, sequence, parallel, select, guarded, frame, abort, idle, handling, no_terms, and, child, count, frame_in, height, greatest_height, Step, Steps}
use Rattle.pz_rules.specs.Framing.{framed}
use Rattle.pz_rules.specs.Opening.{opened, opened_all}
use Rattle.pz_rules.specs.Settings.{Context, Process, Home, home_of}
use Rattle.pz_rules.specs.Meanings.{and_then}
use Rattle.pz_rules.specs.Leaving.{replaced, is_done, all_done, joined, handled, aborted, interrupted, around, residual, swept, settled}
use Rattle.pz_rules.specs.Places.{MayAct, MayActIn}
use Rattle.pz_part_actions.specs.Becoming.{Becomes}
use Rattle.pz_part_actions.specs.Becoming as becoming

some_height : (t : Term) → 1 ≤ height t
some_height done = omega arith
some_height (leaf s) = omega arith
some_height (wait left at) = omega arith
some_height (sequence t rest) = omega arith
some_height (parallel ts) = omega arith
some_height (select ts) = omega arith
some_height (guarded test at t) = omega arith
some_height (frame number inputs results t) = omega arith
some_height (abort t u) = omega arith
some_height (idle t u again) = omega arith
some_height (handling t u again) = omega arith

frame_is_higher : (number inputs : ℕ) (results : List Slot) (t : Term) → height t ≤ height (framed number inputs results t)
frame_is_higher number inputs [] (frame inner inner_inputs [] t) = le_refl (suc (height t))
frame_is_higher number inputs results t = le-suc (height t)

-- one of several parts

is_as_high : (ts : Terms) (i : ℕ) (x : Term) → i < count ts → height x ≤ greatest_height (replaced ts i x)
is_as_high no_terms i x within = absurd (omega (arith, within))
is_as_high (and t ts) zero x within = omega arith
is_as_high (and t ts) (suc i) x within = let others = is_as_high ts i x (omega (arith, within)) in omega (arith, others)

first_is : (b c : Bool) → (b && c) ≡ true → b ≡ true
first_is true c both = refl
first_is false c both = absurd (true≢false (sym both))

second_is : (b c : Bool) → (b && c) ≡ true → c ≡ true
second_is true c both = both
second_is false c both = absurd (true≢false (sym both))

is_done_too : (ts : Terms) (i : ℕ) (x : Term) → i < count ts → all_done (replaced ts i x) ≡ true → is_done x ≡ true
is_done_too no_terms i x within all = absurd (omega (arith, within))
is_done_too (and t ts) zero x within all = first_is (is_done x) (all_done ts) all
is_done_too (and t ts) (suc i) x within all = is_done_too ts i x (omega (arith, within)) (second_is (is_done t) (all_done (replaced ts i x)) all)

done_is_low : (x : Term) → is_done x ≡ true → height x ≡ 1
done_is_low done is = refl
done_is_low x is = absurd (true≢false (sym is))

-- what is higher than n stays so
module _ (n : ℕ) where
  more : (m : ℕ) → n < m → n < suc m
  more m above = omega (arith, above)

  first_of : (m k : ℕ) → n < m → n < suc (max m k)
  first_of m k above = omega (arith, above)

  second_of : (m k : ℕ) → n < k → n < suc (max m k)
  second_of m k above = omega (arith, above)

  low_at_least : (t : Term) → n < 1 → n < height t
  low_at_least t low = let some = some_height t in omega (arith, low, some)

  joined_high : (ts : Terms) (i : ℕ) (x : Term) → i < count ts → n < height x → n < height (joined (replaced ts i x))
  joined_high ts i x within above = by (all_done (replaced ts i x)) refl
    where
      by : (b : Bool) → all_done (replaced ts i x) ≡ b → n < height (if b then done else parallel (replaced ts i x))
      by true all = subst (λ (m : ℕ). n < m) (done_is_low x (is_done_too ts i x within all)) above
      by false some = let high = is_as_high ts i x within in omega (arith, above, high)

  sequence_high : (h : Home) (f : ℕ) (s : StateView) (t : Term) (rest : Steps) (i : ℕ) (x : Term) → n < height x → n < height (around h f s (sequence t rest) i x).term
  sequence_high h f s t rest i done above = low_at_least (opened_all h rest s).term above
  sequence_high h f s t rest i x above = more (height x) above

  frame_high : (h : Home) (f : ℕ) (s : StateView) (number inputs : ℕ) (results : List Slot) (t : Term) (i : ℕ) (x : Term) → n < height x → n < height (around h f s (frame number inputs results t) i x).term
  frame_high h f s number inputs results t i done above = above
  frame_high h f s number inputs results t i x above = let high = frame_is_higher number inputs results x in omega (arith, above, high)

  aborted_high : (u x : Term) → n < height x → n < height (aborted u x)
  aborted_high u done above = above
  aborted_high u x above = first_of (height x) (height u) above

  interrupted_high : (u : Term) (again : Step) (x : Term) → n < height x → n < height (interrupted u again x)
  interrupted_high u again done above = above
  interrupted_high u again x above = first_of (height x) (height u) above

  handled_high : (h : Home) (s : StateView) (t : Term) (again : Step) (x : Term) → n < height x → n < height (handled h s t again x).term
  handled_high h s t again done above = more (max (height t) (height (opened h again s).term)) (second_is_more (height t) (height (opened h again s).term) (low_at_least (opened h again s).term above))
    where
      second_is_more : (m k : ℕ) → n < k → n < max m k
      second_is_more m k high = omega (arith, high)
  handled_high h s t again x above = second_of (height t) (height x) above

  around_high : (h : Home) (f : ℕ) (s : StateView) (t : Term) (i : ℕ) (x : Term) → MayActIn t i → n < height x → n < height (around h f s t i x).term
  around_high h f s done i x may above = absurd may
  around_high h f s (leaf r) i x may above = absurd may
  around_high h f s (wait left at) i x may above = absurd may
  around_high h f s (sequence t rest) i x may above = sequence_high h f s t rest i x above
  around_high h f s (parallel ts) i x may above = joined_high ts i x may above
  around_high h f s (select ts) i x may above = above
  around_high h f s (guarded test at t) i x may above = above
  around_high h f s (frame number inputs results t) i x may above = frame_high h f s number inputs results t i x above
  around_high h f s (abort t u) zero x may above = aborted_high u x above
  around_high h f s (abort t u) (suc i) x may above = above
  around_high h f s (idle t u again) zero x may above = interrupted_high u again x above
  around_high h f s (idle t u again) (suc i) x may above = handled_high h s t again x above
  around_high h f s (handling t u again) i x may above = handled_high h s t again x above

  residual_high : (h : Home) (f : ℕ) (t : Term) (place : Place) (x : Process) → MayAct t place → n < height x.term → n < height (residual h f t place x).term
  residual_high h f t [] x may above = above
  residual_high h f t (i ∷ place) x may above =
      let inner = residual h (frame_in t f) (child t i) place x in
      around_high h f inner.state t i inner.term may.0 (residual_high h (frame_in t f) (child t i) place x may.1 above)

module _ (a : Context) (at : Pos) (t : Term) (place : Place) (may : MayAct t place) where
  settled_high : (x : Process) → a.setting.limits.height < height x.term → settled a at t place x ≡ Err (High a.process at)
  settled_high x above =
      let whole = swept (residual (home_of a) 0 t place x) in
      ap (λ (b : Bool). let r : Result Process Trouble = if b then Ok whole else Err (High a.process at) in r)
      (lt-leb (height whole.term) a.setting.limits.height (residual_high a.setting.limits.height (home_of a) 0 t place x may above))

  -- so the answer for the part and what has become of it leave the same of the whole
  pub answer_settled : (left answer : Result Process Trouble) → Becomes a at left answer → and_then answer (settled a at t place) ≡ and_then left (settled a at t place)
  answer_settled _ _ (becoming.is r) = refl
  answer_settled _ _ (becoming.high x above) = sym (settled_high x above)
