-- What an action does to the number of frames, level by level; and that none open by themselves in edition One.
use Rattle.std.proofs.Common.{◌≡◌, if◌then◌else◌, ◌<◌, ℕ, zero, suc, ◌+◌, Bool, true, false, ◌&&◌, List, [], ◌∷◌, ◌++◌, refl, sym, ap, arith}
use Rattle.pz_rules.specs.pz_syntax.Expressions as expression
use Rattle.pz_rules.specs.pz_syntax.Statements as statement
use Rattle.pz_rules.specs.pz_syntax.Statements.{Branches, no_branches, branch, no_statements, then}
use Rattle.pz_rules.specs.pz_value.declared.value.ClassId.{ClassId}
use Rattle.pz_rules.specs.pz_classes_code.declared.slot.Slot.{Slot}
use Rattle.pz_rules.specs.pz_state.States.{StateView}
use Rattle.pz_rules.specs.pz_offer.PlaceOrder.{Place}
use Rattle.pz_rules.specs.Terms.{Step, Steps, Term, done, leaf, wait, sequence, parallel, select, guarded, frame, abort, idle, handling, Terms, no_terms, and, frames_in, frames_in_all, child, term_at, count, frame_in}
use Rattle.pz_rules.specs.declared.limits.Edition.{Edition}
use Rattle.pz_rules.specs.declared.limits.Edition.TheVariants.{One}
use Rattle.pz_rules.specs.Opening.{branches_opened, enter_in, enter, opened, opened_all}
use Rattle.pz_rules.specs.Settings.{Process, Home}
use Rattle.pz_rules.specs.Framing.{framed}
use Rattle.pz_rules.specs.Leaving.{residual, replaced, is_done, all_done, joined, around, aborted, interrupted, handled}
use Rattle.pz_rules.specs.Laws.{part_of}
use Rattle.pz_rules.specs.Places.{MayActIn, MayAct}
use Rattle.pz_tree_standing.specs.FrameCounts.{count_in, times, if_done, gives_way, lost, lost_all, gained, gained_all}

pub count_append : (n : ℕ) (ms ks : List ℕ) → count_in n (ms ++ ks) ≡ count_in n ms + count_in n ks
count_append n [] ks = (let e : count_in n ks ≡ 0 + count_in n ks = omega arith in e)
count_append n (m ∷ ms) ks = omega (arith, count_append n ms ks)

-- of parts side by side, one becomes another
replaced_times : (n : ℕ) (ts : Terms) (i : ℕ) (x : Term) → i < count ts → count_in n (frames_in_all (replaced ts i x)) + times n (term_at ts i) ≡ count_in n (frames_in_all ts) + times n x
replaced_times n no_terms i x h = absurd (omega (arith, h))
replaced_times n (and t ts) zero x h = omega (arith, count_append n (frames_in x) (frames_in_all ts), count_append n (frames_in t) (frames_in_all ts))
replaced_times n (and t ts) (suc i) x h = omega (arith, count_append n (frames_in t) (frames_in_all (replaced ts i x)), count_append n (frames_in t) (frames_in_all ts), replaced_times n ts i x (omega (arith, h)))

done_times : (n : ℕ) (x : Term) → is_done x ≡ true → times n x ≡ 0
done_times n done e = refl
done_times n (leaf s) e = absurd cc
done_times n (wait left at) e = absurd cc
done_times n (sequence t rest) e = absurd cc
done_times n (parallel ts) e = absurd cc
done_times n (select ts) e = absurd cc
done_times n (guarded test at t) e = absurd cc
done_times n (frame number inputs results t) e = absurd cc
done_times n (abort t u) e = absurd cc
done_times n (idle t u again) e = absurd cc
done_times n (handling t u again) e = absurd cc

both : (a b : Bool) → a && b ≡ true → (a ≡ true) × (b ≡ true)
both true b e = (refl, e)
both false b e = absurd cc

all_done_times : (n : ℕ) (ts : Terms) → all_done ts ≡ true → count_in n (frames_in_all ts) ≡ 0
all_done_times n no_terms e = refl
all_done_times n (and t ts) e = let p = both (is_done t) (all_done ts) e in omega (arith, count_append n (frames_in t) (frames_in_all ts), done_times n t p.0, all_done_times n ts p.1)

joined_times : (n : ℕ) (ts : Terms) → times n (joined ts) ≡ count_in n (frames_in_all ts)
joined_times n ts = by (all_done ts) refl
  where
    by : (b : Bool) → all_done ts ≡ b → times n (if b then done else parallel ts) ≡ count_in n (frames_in_all ts)
    by true e = sym (all_done_times n ts e)
    by false e = refl

-- ends the first part, or keeps it
aborted_times : (n : ℕ) (u x : Term) → times n (aborted u x) + count_in n (if_done x (frames_in u)) ≡ times n x + times n u
aborted_times n u done = omega arith
aborted_times n u (leaf s) = omega arith
aborted_times n u (wait left at) = omega arith
aborted_times n u (sequence t rest) = omega (arith, count_append n (frames_in t) (frames_in u))
aborted_times n u (parallel ts) = omega (arith, count_append n (frames_in_all ts) (frames_in u))
aborted_times n u (select ts) = omega (arith, count_append n (frames_in_all ts) (frames_in u))
aborted_times n u (guarded test at t) = omega (arith, count_append n (frames_in t) (frames_in u))
aborted_times n u (frame number inputs results t) = omega (arith, count_append n (frames_in t) (frames_in u))
aborted_times n u (abort s t) = omega (arith, count_append n (frames_in s ++ frames_in t) (frames_in u))
aborted_times n u (idle s t again) = omega (arith, count_append n (frames_in s ++ frames_in t) (frames_in u))
aborted_times n u (handling s t again) = omega (arith, count_append n (frames_in s ++ frames_in t) (frames_in u))

interrupted_times : (n : ℕ) (u x : Term) (again : Step) → times n (interrupted u again x) + count_in n (if_done x (frames_in u)) ≡ times n x + times n u
interrupted_times n u done again = omega arith
interrupted_times n u (leaf s) again = omega arith
interrupted_times n u (wait left at) again = omega arith
interrupted_times n u (sequence t rest) again = omega (arith, count_append n (frames_in t) (frames_in u))
interrupted_times n u (parallel ts) again = omega (arith, count_append n (frames_in_all ts) (frames_in u))
interrupted_times n u (select ts) again = omega (arith, count_append n (frames_in_all ts) (frames_in u))
interrupted_times n u (guarded test at t) again = omega (arith, count_append n (frames_in t) (frames_in u))
interrupted_times n u (frame number inputs results t) again = omega (arith, count_append n (frames_in t) (frames_in u))
interrupted_times n u (abort s t) again = omega (arith, count_append n (frames_in s ++ frames_in t) (frames_in u))
interrupted_times n u (idle s t i) again = omega (arith, count_append n (frames_in s ++ frames_in t) (frames_in u))
interrupted_times n u (handling s t i) again = omega (arith, count_append n (frames_in s ++ frames_in t) (frames_in u))

-- a second part that is done stands open afresh
handled_times : (h : Home) (n : ℕ) (s : StateView) (t : Term) (again : Step) (x : Term)
    → times n (handled h s t again x).term ≡ times n t + times n x + count_in n (if_done x (frames_in (opened h again s).term))
handled_times h n s t again done = omega (arith, count_append n (frames_in t) (frames_in (opened h again s).term))
handled_times h n s t again (leaf l) = omega (arith, count_append n (frames_in t) [])
handled_times h n s t again (wait left at) = omega (arith, count_append n (frames_in t) [])
handled_times h n s t again (sequence u rest) = omega (arith, count_append n (frames_in t) (frames_in u))
handled_times h n s t again (parallel ts) = omega (arith, count_append n (frames_in t) (frames_in_all ts))
handled_times h n s t again (select ts) = omega (arith, count_append n (frames_in t) (frames_in_all ts))
handled_times h n s t again (guarded test at u) = omega (arith, count_append n (frames_in t) (frames_in u))
handled_times h n s t again (frame number inputs results u) = omega (arith, count_append n (frames_in t) (number ∷ frames_in u))
handled_times h n s t again (abort u v) = omega (arith, count_append n (frames_in t) (frames_in u ++ frames_in v))
handled_times h n s t again (idle u v i) = omega (arith, count_append n (frames_in t) (frames_in u ++ frames_in v))
handled_times h n s t again (handling u v i) = omega (arith, count_append n (frames_in t) (frames_in u ++ frames_in v))

-- a frame round what is not done: it stays, or gives way to the one inside
framed_times : (n number inputs : ℕ) (results : List Slot) (x : Term) → times n (framed number inputs results x) + count_in n (if gives_way results x then number ∷ [] else []) ≡ count_in n (number ∷ []) + times n x
framed_times n number inputs (r ∷ rs) x = omega arith
framed_times n number inputs [] (frame inner k [] t) = omega arith
framed_times n number inputs [] (frame inner k (r ∷ rs) t) = omega arith
framed_times n number inputs [] done = omega arith
framed_times n number inputs [] (leaf s) = omega arith
framed_times n number inputs [] (wait left at) = omega arith
framed_times n number inputs [] (sequence t rest) = omega arith
framed_times n number inputs [] (parallel ts) = omega arith
framed_times n number inputs [] (select ts) = omega arith
framed_times n number inputs [] (guarded test at t) = omega arith
framed_times n number inputs [] (abort s t) = omega arith
framed_times n number inputs [] (idle s t i) = omega arith
framed_times n number inputs [] (handling s t i) = omega arith

sequence_times : (h : Home) (n f : ℕ) (s : StateView) (t : Term) (rest : Steps) (x : Term)
    → times n (around h f s (sequence t rest) 0 x).term ≡ times n x + count_in n (if_done x (frames_in (opened_all h rest s).term))
sequence_times h n f s t rest done = omega arith
sequence_times h n f s t rest (leaf l) = omega arith
sequence_times h n f s t rest (wait left at) = omega arith
sequence_times h n f s t rest (sequence u more) = omega arith
sequence_times h n f s t rest (parallel us) = omega arith
sequence_times h n f s t rest (select us) = omega arith
sequence_times h n f s t rest (guarded test at u) = omega arith
sequence_times h n f s t rest (frame number inputs results u) = omega arith
sequence_times h n f s t rest (abort u v) = omega arith
sequence_times h n f s t rest (idle u v again) = omega arith
sequence_times h n f s t rest (handling u v again) = omega arith

frame_times : (h : Home) (n f : ℕ) (s : StateView) (number inputs : ℕ) (results : List Slot) (t x : Term)
    → times n (around h f s (frame number inputs results t) 0 x).term + count_in n (lost (frame number inputs results t) 0 x) ≡ count_in n (number ∷ []) + times n x
frame_times h n f s k i rs t done = omega arith
frame_times h n f s k i rs t (leaf l) = framed_times n k i rs (leaf l)
frame_times h n f s k i rs t (wait left at) = framed_times n k i rs (wait left at)
frame_times h n f s k i rs t (sequence u more) = framed_times n k i rs (sequence u more)
frame_times h n f s k i rs t (parallel us) = framed_times n k i rs (parallel us)
frame_times h n f s k i rs t (select us) = framed_times n k i rs (select us)
frame_times h n f s k i rs t (guarded test at u) = framed_times n k i rs (guarded test at u)
frame_times h n f s k i rs t (frame number inputs results u) = framed_times n k i rs (frame number inputs results u)
frame_times h n f s k i rs t (abort u v) = framed_times n k i rs (abort u v)
frame_times h n f s k i rs t (idle u v again) = framed_times n k i rs (idle u v again)
frame_times h n f s k i rs t (handling u v again) = framed_times n k i rs (handling u v again)

-- One level: what stands afterwards and what is lost is what stood, but for the child, what that has become, and
-- what opens.
pub around_times : (home : Home) (n f : ℕ) (s : StateView) (t : Term) (i : ℕ) (x : Term) → MayActIn t i
    → times n (around home f s t i x).term + (count_in n (lost t i x) + times n (child t i)) ≡ times n t + times n x + count_in n (gained home s t i x)
around_times home n f s done i x h = absurd h
around_times home n f s (leaf l) i x h = absurd h
around_times home n f s (wait left at) i x h = absurd h
around_times home n f s (sequence t rest) zero x h = omega (arith, sequence_times home n f s t rest x)
around_times home n f s (sequence t rest) (suc i) x h = absurd (omega (arith, h))
around_times home n f s (parallel ts) i x h = omega (arith, joined_times n (replaced ts i x), replaced_times n ts i x h)
around_times home n f s (select ts) i x h = omega (arith, replaced_times n ts i done h)
around_times home n f s (guarded test at t) zero x h = omega arith
around_times home n f s (guarded test at t) (suc i) x h = absurd (omega (arith, h))
around_times home n f s (frame number inputs results t) zero x h = omega (arith, frame_times home n f s number inputs results t x)
around_times home n f s (frame number inputs results t) (suc i) x h = absurd (omega (arith, h))
around_times home n f s (abort t u) zero x h = omega (arith, aborted_times n u x, count_append n (frames_in t) (frames_in u))
around_times home n f s (abort t u) (suc zero) x h = omega (arith, count_append n (frames_in t) (frames_in u))
around_times home n f s (abort t u) (suc (suc i)) x h = absurd (omega (arith, h))
around_times home n f s (idle t u again) zero x h = omega (arith, interrupted_times n u x again, count_append n (frames_in t) (frames_in u))
around_times home n f s (idle t u again) (suc zero) x h = omega (arith, handled_times home n s t again x, count_append n (frames_in t) (frames_in u))
around_times home n f s (idle t u again) (suc (suc i)) x h = absurd (omega (arith, h))
around_times home n f s (handling t u again) zero x h = absurd (omega (arith, h))
around_times home n f s (handling t u again) (suc zero) x h = omega (arith, handled_times home n s t again x, count_append n (frames_in t) (frames_in u))
around_times home n f s (handling t u again) (suc (suc i)) x h = absurd (omega (arith, h))

-- the whole: what stands afterwards and what is lost is what stood, but for the acting part, what that has become,
-- and what opens
pub residual_times : (home : Home) (n f : ℕ) (t : Term) (place : Place) (x : Process) → MayAct t place
    → times n (residual home f t place x).term + (count_in n (lost_all home f t place x) + times n (part_of t place)) ≡ times n t + times n x.term + count_in n (gained_all home f t place x)
residual_times home n f t [] x h = omega arith
residual_times home n f t (i ∷ place) x h =
    let inner = residual home (frame_in t f) (child t i) place x in
    omega (
      arith,
      around_times home n f inner.state t i inner.term h.0,
      residual_times home n (frame_in t f) (child t i) place x h.1,
      count_append n (lost_all home (frame_in t f) (child t i) place x) (lost t i inner.term),
      count_append n (gained_all home (frame_in t f) (child t i) place x) (gained home inner.state t i inner.term),
    )

-- in edition One nothing opens with frames
module _ (h : Home) (first : h.edition ≡ One) where
  enters_none : (n : ℕ) (t : Step) (s : StateView) → times n (enter h t s).term ≡ times n (leaf t)
  enters_none n t s = ap (λ (e : Edition). times n (enter_in e h t s).term) first

  mutual
    pub opened_none : (n : ℕ) (t : Step) (s : StateView) → times n (opened h t s).term ≡ 0
    opened_none n (statement.bracketed pos ts) s = opened_all_none n ts s
    opened_none n (statement.guarded pos test t) s = opened_none n t s
    opened_none n (statement.parallel pos bs) s = branches_none n bs s
    opened_none n (statement.select pos bs) s = branches_none n bs s
    opened_none n (statement.abort pos ts t) s =
        let x = opened_all h ts s in
        omega (arith, count_append n (frames_in x.term) (frames_in (opened h t x.state).term), opened_all_none n ts s, opened_none n t x.state)
    opened_none n (statement.interrupt pos ts t) s =
        let x = opened_all h ts s in
        omega (arith, count_append n (frames_in x.term) (frames_in (opened h t x.state).term), opened_all_none n ts s, opened_none n t x.state)
    opened_none n (statement.skip at) s = refl
    opened_none n (statement.delay at e) s = refl
    opened_none n (statement.block at es) s = refl
    opened_none n (statement.conditional at e ts other) s = refl
    opened_none n (statement.repeated at e ts) s = refl
    opened_none n (statement.send at port name args after) s = refl
    opened_none n (statement.receive at port name into condition after) s = refl
    opened_none n (statement.call at method expression.none []) s = enters_none n (statement.call at method expression.none []) s
    opened_none n (statement.call at method expression.none (x ∷ xs)) s = refl
    opened_none n (statement.call at method (expression.more e es) results) s = refl
    opened_none n (statement.assignment at x e) s = refl
    opened_none n (statement.value at e) s = refl

    pub opened_all_none : (n : ℕ) (ts : Steps) (s : StateView) → times n (opened_all h ts s).term ≡ 0
    opened_all_none n no_statements s = refl
    opened_all_none n ((then) t no_statements) s = opened_none n t s
    opened_all_none n ((then) t ((then) r rest)) s = opened_none n t s

    branches_none : (n : ℕ) (bs : Branches Slot ClassId ℕ) (s : StateView) → count_in n (frames_in_all (branches_opened (enter h) bs s).terms) ≡ 0
    branches_none n no_branches s = refl
    branches_none n (branch ts bs) s =
        let x = opened_all h ts s in
        omega (arith, count_append n (frames_in x.term) (frames_in_all (branches_opened (enter h) bs x.state).terms), opened_all_none n ts s, branches_none n bs x.state)

  afresh_none : (n : ℕ) (s : StateView) (again : Step) (x : Term) → count_in n (if_done x (frames_in (opened h again s).term)) ≡ 0
  afresh_none n s again x = by (is_done x)
    where
      by : (b : Bool) → count_in n (if b then frames_in (opened h again s).term else []) ≡ 0
      by true = opened_none n again s
      by false = refl

  behind_none : (n : ℕ) (s : StateView) (rest : Steps) (x : Term) → count_in n (if_done x (frames_in (opened_all h rest s).term)) ≡ 0
  behind_none n s rest x = by (is_done x)
    where
      by : (b : Bool) → count_in n (if b then frames_in (opened_all h rest s).term else []) ≡ 0
      by true = opened_all_none n rest s
      by false = refl

  level_none : (n : ℕ) (s : StateView) (t : Term) (i : ℕ) (x : Term) → count_in n (gained h s t i x) ≡ 0
  level_none n s done i x = refl
  level_none n s (leaf l) i x = refl
  level_none n s (wait left at) i x = refl
  level_none n s (sequence t rest) i x = behind_none n s rest x
  level_none n s (parallel ts) i x = refl
  level_none n s (select ts) i x = refl
  level_none n s (guarded test at t) i x = refl
  level_none n s (frame number inputs results t) i x = refl
  level_none n s (abort t u) i x = refl
  level_none n s (idle t u again) zero x = refl
  level_none n s (idle t u again) (suc i) x = afresh_none n s again x
  level_none n s (handling t u again) i x = afresh_none n s again x

  pub gains_none : (n f : ℕ) (t : Term) (place : Place) (x : Process) → count_in n (gained_all h f t place x) ≡ 0
  gains_none n f t [] x = refl
  gains_none n f t (i ∷ place) x =
      let inner = residual h (frame_in t f) (child t i) place x in
      omega (arith, count_append n (gained_all h (frame_in t f) (child t i) place x) (gained h inner.state t i inner.term), gains_none n (frame_in t f) (child t i) place x, level_none n inner.state t i inner.term)
